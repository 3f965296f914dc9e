use Rattle.std.proofs.Common.{◌≡◌, List, ℕ, is_some, ap, ◌∙◌}
use Rattle.serde_json.specs.View.{view, members_view}
use Rattle.text_table.specs.Table.{item_at, with_item}
use Rattle.wildcard_lang.specs.Text.{folded_text}
use Rattle.json_shapes.specs.Json.{pairs_of}
use Rattle.json_shapes.proofs.Laws.{pairs_from}
use Rattle.request_schema.specs.BuiltIn.{folded_name}
use Rattle.request_json.proofs.Apart.{FileKey, goes-on, some-copied}
use Rattle.request_json.proofs.shape.are_apart.Goals as goal

pub loop-name-preserved : goal.loop-name-preserved
loop-name-preserved c =
    let key : FileKey = (c.as_str.result.now, view c.in-Some.field-0-1.now) in
    let all = pairs_of (members_view c.args.keys.now.entries) in
    let next = pairs_of (members_view c.next.new.self) in
    let here = pairs_from c.loop-name.name-iterator c.next.new.self c.in-Some.name.now c.in-Some.field-0-1.now c.as_str.result.now c.in-Some.ensures.steps c.as_str.ensures.value in
    let named : c.in_ok-key.key ≡ folded_name key.0 = c.in_ok-key.ensures.value ∙ ap folded_text c.in_ok-of.ensures in
    let known : c.is_some.result ≡ is_some (item_at (folded_name key.0) c.loop-name.seen) =
    c.is_some.ensures ∙ some-copied c.get.result (item_at c.in_ok-key.key c.loop-name.seen) c.get.ensures ∙ ap (λ (k : List ℕ). is_some (item_at k c.loop-name.seen)) named in
    record {
      can_next = tt;
      is_finite = tt;
      apart = goes-on c.is_some.result all _ next key c.loop-name.seen c.loop-name.invariant.apart here known c.if-is_some.false c.insert.new.self (c.in_ok-insert.ensures.ok ∙ ap (λ (k : List ℕ). with_item c.loop-name.seen k tt) named);
    }
