-- What is answered on the statements of a set: of each whether it is used or idle, one at a time.
use Rattle.std.specs.Prelude.{⊤, ℕ, List, [], Result, Ok, Err, if◌then◌else◌}
use Rattle.std.specs.List.{AllZip}
use Rattle.policy_model.specs.declared.schema.Schema.{Schema}
use Rattle.policy_model.specs.declared.set.PolicySet.{PolicySet}
use Rattle.policy_model.specs.declared.set.StatementName.{StatementName}
use Rattle.policy_model.specs.StatementNames.{Named, named_set}
use Rattle.policy_compile.specs.declared.outcome.Query.{Query}
use Rattle.policy_compile.specs.declared.outcome.QueryFault.{QueryFault}
use Rattle.policy_compile.specs.declared.outcome.QueryFault.TheVariants as query_fault
use Rattle.policy_compile.specs.Limits.{IsWithinLimits}
use Rattle.policy_compile.specs.Numbering.{HasTooMany}
use Rattle.policy_compile.specs.Plans.{Plan, tests_in}
use Rattle.policy_compile.specs.Queries.{HasTooManyPieces, IsQuery}
use Rattle.policy_compile.specs.Sets.{query_plan, set_plan}
use Rattle.refute_check.specs.Proofs.{Proof, proof_of}
use Rattle.findings.specs.Answers.{StatesFail}
use Rattle.set_questions.specs.declared.outcome.Use.{Use}
use Rattle.set_questions.specs.declared.outcome.Use.TheVariants.{Used, Idle, OutOfSplits, OutOfStates}
use Rattle.set_questions.specs.declared.outcome.UseFault.{UseFault}
use Rattle.set_questions.specs.declared.outcome.UseFault.TheVariants.{TooManyTests, TooManyPieces, NoMemory}
use Rattle.set_questions.specs.declared.settling.Settled.{Settled}
use Rattle.set_questions.specs.declared.settling.Settled.TheVariants as settled
use Rattle.set_questions.specs.Idle.{IsIdle, IsUsedBy, EachNamed}
use Rattle.set_questions.specs.Removal.{without_statement}
use Rattle.set_questions.specs.Settling.{BothRunsFail, RefutesQuery}

-- ---- change queries

-- the plan of the change query of a statement. By an Allow the set can only allow more, so it is asked whether the set allows a
-- request that it doesn't allow without the statement; by a Deny it can only allow less, so the sets change places
abbrev pub change_plan : Schema → PolicySet → Named → Plan
change_plan schema set (name, s) =
    (if s.allow then query_plan schema set (without_statement set name) else query_plan schema (without_statement set name) set)

-- of the change query this holds
pub record OfChange (schema : Schema) (set : PolicySet) (named : Named) (P : Query → Type 0) : Type 0 where
  pub query : Query
  pub is : IsQuery (change_plan schema set named) query
  pub holds : P query

-- the refutation closes the change query
abbrev pub RefutesChange : Schema → PolicySet → Named → Proof → Type 0
RefutesChange schema set named proof = OfChange schema set named (λ q. RefutesQuery schema q proof)

-- ---- uses

-- a valid request that the set answers otherwise without the statement; that there is none, with a refutation that closes the change
-- query; or that a number is too small for the change query
abbrev pub IsUseOf : Schema → ℕ → ℕ → PolicySet → Named → Use → Type 0
IsUseOf schema splits states set named (Used r) = IsUsedBy schema set named.0 r
IsUseOf schema splits states set named (Idle r) = IsIdle schema set named.0 × RefutesChange schema set named (proof_of r.value)
IsUseOf schema splits states set named OutOfSplits = OfChange schema set named (λ q. BothRunsFail schema q splits)
IsUseOf schema splits states set named (OutOfStates w) = OfChange schema set named (λ q. StatesFail schema q states w)

-- as above, by the statement's name
abbrev pub IsUseAt : Schema → ℕ → ℕ → PolicySet → StatementName → Use → Type 0
IsUseAt schema splits states set name use_there = EachNamed set name (λ s. IsUseOf schema splits states set (name, s) use_there)

-- what was settled of the change query, as the use of its statement
abbrev pub use_told : Settled → Use
use_told (settled.Met r) = Used r
use_told (settled.Nobody r) = Idle r
use_told settled.OutOfSplits = OutOfSplits
use_told (settled.OutOfStates w) = OutOfStates w

-- one for each statement of the set, in reading order
abbrev pub AreUses : Schema → ℕ → ℕ → PolicySet → List Use → Type 0
AreUses schema splits states set found = AllZip (IsUseOf schema splits states set) (named_set set) found

-- ---- limits

-- the query is within its limits, or why it isn't
abbrev pub AreLimitsMet : Plan → Result ⊤ UseFault → Type 0
AreLimitsMet plan (Ok done) = IsWithinLimits plan
AreLimitsMet plan (Err TooManyTests) = HasTooMany [] (tests_in plan)
AreLimitsMet plan (Err TooManyPieces) = HasTooManyPieces plan
AreLimitsMet plan (Err NoMemory) = ⊤

-- what a query, or why there is none, says of them
abbrev pub limits_told : Result Query QueryFault → Result ⊤ UseFault
limits_told (Ok query) = Ok tt
limits_told (Err query_fault.TooManyTests) = Err TooManyTests
limits_told (Err query_fault.TooManyPieces) = Err TooManyPieces
limits_told (Err query_fault.NoMemory) = Err NoMemory

-- the uses of the set's statements, where the set's query is within its limits, or why there are none
abbrev pub AreUsesWithin : Schema → ℕ → ℕ → PolicySet → Result (List Use) UseFault → Type 0
AreUsesWithin schema splits states set (Ok found) = IsWithinLimits (set_plan schema set) × AreUses schema splits states set found
AreUsesWithin schema splits states set (Err TooManyTests) = HasTooMany [] (tests_in (set_plan schema set))
AreUsesWithin schema splits states set (Err TooManyPieces) = HasTooManyPieces (set_plan schema set)
AreUsesWithin schema splits states set (Err NoMemory) = ⊤
