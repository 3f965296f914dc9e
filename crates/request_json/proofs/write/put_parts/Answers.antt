use Rattle.request_json.proofs.write.put_parts.Goals as goal

pub returns : goal.returns
returns c =
    rw (
      c.in_ok-text_json-2.ensures,
      c.in_ok-put_at-3.ensures,
      c.in_ok-principal_json.ensures,
      c.in_ok-put_at-2.ensures,
      c.in_ok-context_json.ensures,
      c.in_ok-put_at.ensures,
      c.in_ok-text_json.ensures,
    ) at c.put_at-4.ensures
