use Rattle.std.proofs.Common.{◌≡◌, refl, rules}
use Rattle.formula_tree.specs.Values.{value}
use Rattle.formula_tree.specs.declared.value.Three.TheVariants.{Yes}
use Rattle.policy_compile.specs.Queries.{asked_tree}
use Rattle.refute_check.proofs.RunLaws.{makes-yes}
use Rattle.clause_search.proofs.meeting.meet.Goals as goal

pub build-requires-clause-values : goal.build-requires-clause-values
build-requires-clause-values c = record { each = c.requires.values.each; needed = c.requires.values.needed; there = c.if-not-have_all_slots.ensures refl; once = c.requires.values.once }

pub returns : goal.returns
returns c =
    let query = c.args.asked.now.query.now in
    let path = c.args.path.now in
    let is_yes : value path (asked_tree query) ≡ Yes = search rules in
    record { valid = c.in_ok-build.ensures.valid; meets = makes-yes query.tests (asked_tree query) path c.in_ok-build.field-0 c.requires.range c.in_ok-build.ensures.answers is_yes }
