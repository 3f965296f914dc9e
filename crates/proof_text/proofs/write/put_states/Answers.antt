use Rattle.std.proofs.Common.{◌∙◌, ◌<◌, [], length, string_bytes, subst, arith}
use Rattle.std.proofs.lemmas.List.{get_or_default}
use Rattle.std.proofs.lemmas.List.Elements.{All-more}
use Rattle.proof_text.specs.Laws.{AreListsSmall}
use Rattle.proof_text.specs.Lines.{line_text, places_line}
use Rattle.proof_text.proofs.Joined.{grown-more}
use Rattle.proof_text.proofs.write.put_states.Goals as goal

pub loop-i-preserved : goal.loop-i-preserved
loop-i-preserved c =
    let closed = c.args.closed.now in
    let i = c.loop-i.i in
    let state = c.get-state.result in
    let within : i < length closed = omega (arith, c.len-i-end.ensures, c.loop-i-test.true) in
    record {
      text = grown-more (λ s. line_text (places_line s)) closed i state (string_bytes c.args.text.now) (string_bytes c.loop-i.text) (string_bytes c.put_state.new.text) within (c.get-state.ensures ∙ get_or_default closed i [] state within) c.loop-i.invariant.text c.in_ok-put_state.ensures.text;
      small = All-more AreListsSmall closed i [] within c.loop-i.invariant.small (subst AreListsSmall c.get-state.ensures c.in_ok-put_state.ensures.small);
    }
