use Rattle.std.proofs.Common.{◌≡◌, ◌∙◌, [], Bool, false, if◌then◌else◌, sym, subst}
use Rattle.slot_theory.specs.Slots.{is_on}
use Rattle.strata.specs.Predicates.{Gathers, gathers_none, test_predicates}
use Rattle.strata.proofs.names.add_read.Goals as goal

pub returns-else-is_on : goal.returns-else-is_on
returns-else-is_on c =
    let off : is_on c.args.slot.now c.args.test.now ≡ false = sym c.is_on.ensures ∙ c.if-is_on.false in
    subst (λ (b : Bool). Gathers c.args.names.now.keys (if b then test_predicates c.args.test.now else []) c.args.names.now.keys) (sym off) gathers_none
