-- Queries that are past a limit.
use Rattle.std.specs.Prelude.{[]}
use Rattle.policy_compile.specs.Numbering.{HasTooMany}
use Rattle.policy_compile.specs.Plans.{Plan, tests_in}
use Rattle.policy_compile.specs.Queries.{HasTooManyPieces}
use Rattle.policy_compile.specs.Sets.{set_plan}
use Rattle.policy_model.specs.declared.schema.Schema.{Schema}
use Rattle.policy_model.specs.declared.set.PolicySet.{PolicySet}
use Rattle.run_inputs.specs.declared.refusal.Refusal.{Refusal}
use Rattle.run_inputs.specs.declared.refusal.Refusal.TheVariants.{TooManyTests, TooManyPieces}

-- a limit that the query of a plan is past: it has more than 1,000 tests, or their patterns have more than 65,536 pieces together
abbrev pub IsPlanPastLimit : Plan → Refusal → Type 0
IsPlanPastLimit plan TooManyTests = HasTooMany [] (tests_in plan)
IsPlanPastLimit plan TooManyPieces = HasTooManyPieces plan
IsPlanPastLimit plan _ = ⊥

-- the same of the query whether a set allows a request
abbrev pub IsSetPastLimit : Schema → PolicySet → Refusal → Type 0
IsSetPastLimit schema set = IsPlanPastLimit (set_plan schema set)
