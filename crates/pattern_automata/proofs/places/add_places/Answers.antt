use Rattle.std.proofs.Common.{◌∙◌, ◌+◌, ap, sym, ℕ, Vec}
use Rattle.std.specs.declared.alloc.Global.{Global}
use Rattle.pattern_automata.specs.Packed.{word_mark}
use Rattle.pattern_automata.proofs.Listing.{push-place, skip-place}
use Rattle.pattern_automata.proofs.places.add_places.Goals as goal
use Rattle.pattern_automata.proofs.places.add_places.Goals.{then-has_mark+in_ok-push, else-has_mark}

pub loop-i-preserved : goal.loop-i-preserved
loop-i-preserved c =
    elim c.if-has_mark.branch [
      | then-has_mark+in_ok-push w ↦ push-place (λ j. word_mark c.args.words.now (c.args.at + j)) c.loop-i.i _ c.loop-i.places.items c.loop-i.invariant _ (sym c.has_mark.ensures ∙ w.if-has_mark.true) (ap (λ (v : Vec ℕ Global). v.items) w.places-is ∙ w.in_ok-push.ensures.items)
      | else-has_mark w ↦ ap (λ (v : Vec ℕ Global). v.items) w.places-is ∙ skip-place (λ j. word_mark c.args.words.now (c.args.at + j)) c.loop-i.i _ c.loop-i.places.items c.loop-i.invariant (sym c.has_mark.ensures ∙ w.if-has_mark.false)
    ]
