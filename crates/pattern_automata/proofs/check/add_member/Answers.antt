use Rattle.std.proofs.Common.{◌≡◌, ◌∙◌, sym, refl, true, false}
use Rattle.pattern_automata.specs.Checked.{places_fit}
use Rattle.pattern_automata.proofs.check.add_member.Goals as goal

pub returns-then-places_fit : goal.returns-then-places_fit
returns-then-places_fit c =
    let fit : places_fit c.args.patterns.now c.args.state.now ≡ true = sym c.places_fit.ensures ∙ c.if-places_fit.true in
    rw (fit, ← (c.as_slice.ensures.value ∙ c.in_ok-words.ensures)) (c.in_ok-keep.ensures, refl)

pub returns : goal.returns
returns c =
    let fit : places_fit c.args.patterns.now c.args.state.now ≡ false = sym c.places_fit.ensures ∙ c.if-places_fit.false in
    rw (fit, ← (c.as_slice-2.ensures.value ∙ c.in_ok-words.ensures)) (c.in_ok-keep-2.ensures, refl)
