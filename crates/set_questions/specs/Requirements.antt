-- What a set asks of a request, one thing after another: that some Allow statement of the grants applies, that some of
-- each guard does, and that no Deny statement does.
use Rattle.std.specs.Prelude.{◌≡◌, ◌+◌, ℕ, List, [], ◌∷◌, ◌++◌, length, map, Bool, true, false, Option, Some, None, if◌then◌else◌}
use Rattle.std.specs.Prelude.{not as opposite}
use Rattle.std.specs.List.{AllZip, flat_map}
use Rattle.formula_tree.specs.Trees.{Tree}
use Rattle.formula_nodes.specs.Claims.{IsClaimFor}
use Rattle.formula_nodes.specs.declared.claim.Claim.{Claim}
use Rattle.policy_model.specs.declared.schema.Schema.{Schema}
use Rattle.policy_model.specs.declared.set.Document.{Document}
use Rattle.policy_model.specs.declared.set.PolicySet.{PolicySet}
use Rattle.policy_model.specs.declared.set.StatementName.{StatementName}
use Rattle.policy_model.specs.declared.test.Test.{Test}
use Rattle.policy_model.specs.StatementNames.{Named, named_documents, named_grants, named_set}
use Rattle.policy_compile.specs.Numbering.{IsNumbered}
use Rattle.policy_compile.specs.Plans.{Plan}
use Rattle.policy_compile.specs.Sets.{set_plans, some_or_none, statement_plan}

-- ---- statements of one effect

-- the effect is the one that is asked for, if one is
abbrev pub has_effect : Option Bool → Bool → Bool
has_effect None allow = true
has_effect (Some true) allow = allow
has_effect (Some false) allow = opposite allow

-- of these statements those with the effect, and their names
abbrev pub of_effect : Option Bool → List Named → List Named
of_effect effect ns = flat_map (λ n. if has_effect effect n.1.allow then n ∷ [] else []) ns

abbrev pub names_with : Option Bool → List Named → List StatementName
names_with effect ns = flat_map (λ n. if has_effect effect n.1.allow then n.0 ∷ [] else []) ns

-- ---- what is asked

-- that one of these statements applies or, where they are Deny statements, that none does
pub record Requirement : Type 0 where
  pub allow : Bool
  pub named : List Named

-- of guards, of which the first document has the number d
abbrev pub guard_requirements : ℕ → List (List Document) → List Requirement
guard_requirements d [] = []
guard_requirements d (g ∷ gs) =
    record { allow = true; named = of_effect (Some true) (named_documents d g) } ∷ guard_requirements (d + length g) gs

abbrev pub set_requirements : PolicySet → List Requirement
set_requirements set =
    record { allow = true; named = of_effect (Some true) (named_grants set) } ∷ guard_requirements (1 + length set.grants) set.guards
    ++ record { allow = false; named = of_effect (Some false) (named_set set) } ∷ []

-- the names of its statements
abbrev pub guard_names : ℕ → List (List Document) → List (List StatementName)
guard_names d [] = []
guard_names d (g ∷ gs) = names_with (Some true) (named_documents d g) ∷ guard_names (d + length g) gs

abbrev pub required_names : PolicySet → List (List StatementName)
required_names set =
    names_with (Some true) (named_grants set) ∷ guard_names (1 + length set.grants) set.guards ++ names_with (Some false) (named_set set) ∷ []

-- the plans of these statements, and that of what is asked
abbrev pub plans_of : Schema → List Named → List Plan
plans_of schema ns = map (λ n. statement_plan schema n.1) ns

abbrev pub requirement_plan : Schema → Requirement → Plan
requirement_plan schema q = some_or_none (opposite q.allow) (plans_of schema q.named)

-- ---- claims

-- the claim has the plan's value
abbrev pub IsPlanClaim : List Test → List Tree → Plan → Claim → Type 0
IsPlanClaim tests trees plan claim = (t : Tree) × IsNumbered tests plan t × IsClaimFor t trees claim

abbrev pub ArePlanClaims : List Test → List Tree → List Plan → List Claim → Type 0
ArePlanClaims tests trees plans claims = AllZip (IsPlanClaim tests trees) plans claims
