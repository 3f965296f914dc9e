-- The plans of sets: a set allows where some Allow statement of the grants and of each guard applies, and no Deny statement does.
use Rattle.std.specs.Prelude.{List, [], ◌∷◌, ◌++◌, Bool, true, false, Option, Some, None}
use Rattle.std.specs.List.{flat_map}
use Rattle.wildcard_lang.specs.declared.piece.Piece.{Piece}
use Rattle.policy_model.specs.declared.matcher.Matcher.{Matcher}
use Rattle.policy_model.specs.declared.principal.Entry.{Entry}
use Rattle.policy_model.specs.declared.schema.Schema.{Schema}
use Rattle.policy_model.specs.declared.set.Statement.{Statement}
use Rattle.policy_model.specs.declared.set.Document.{Document}
use Rattle.policy_model.specs.declared.set.PolicySet.{PolicySet}
use Rattle.policy_model.specs.declared.test.Test.{Test}
use Rattle.policy_model.specs.declared.test.Test.TheVariants.{Principal, Action, Resource}
use Rattle.policy_compile.specs.declared.elements.RequestWord.{RequestWord}
use Rattle.policy_compile.specs.declared.elements.RequestWord.TheVariants as word
use Rattle.policy_compile.specs.Conditions.{conditions_plan}
use Rattle.policy_compile.specs.Plans.{Plan, yes, ask, not, all, one_of, of_plans}

-- the tests of the items of an element
abbrev pub entry_plans : List Entry → List Plan
entry_plans items = flat_map (λ e. ask (Principal e) ∷ []) items

-- the test of a pattern of this word
abbrev pub pattern_test : RequestWord → List Piece → Test
pattern_test word.Action p = Action p
pattern_test word.Resource p = Resource p

abbrev pub pattern_plans : RequestWord → List (List Piece) → List Plan
pattern_plans part items = flat_map (λ p. ask (pattern_test part p) ∷ []) items

-- some plan holds, or with `not` none does
abbrev pub some_or_none : Bool → List Plan → Plan
some_or_none true ps = not (one_of (of_plans ps))
some_or_none false ps = one_of (of_plans ps)

abbrev pub entries_plan : Matcher Entry → Plan
entries_plan m = some_or_none m.not (entry_plans m.items)

abbrev pub patterns_plan : RequestWord → Matcher (List Piece) → Plan
patterns_plan part m = some_or_none m.not (pattern_plans part m.items)

-- an absent element always holds
abbrev pub principal_plan : Option (Matcher Entry) → Plan
principal_plan None = yes
principal_plan (Some m) = entries_plan m

abbrev pub resource_plan : Option (Matcher (List Piece)) → Plan
resource_plan None = yes
resource_plan (Some m) = patterns_plan word.Resource m

-- a statement: its principal, its action, its resource, and its conditions
abbrev pub element_plans : Schema → Statement → List Plan
element_plans schema s =
    principal_plan s.principal ∷ patterns_plan word.Action s.action ∷ resource_plan s.resource ∷
    conditions_plan schema s.conditions ∷ []

abbrev pub statement_plan : Schema → Statement → Plan
statement_plan schema s = all (of_plans (element_plans schema s))

-- these plans where the two effects are one
abbrev pub where_same : Bool → Bool → List Plan → List Plan
where_same true true ps = ps
where_same true false ps = []
where_same false true ps = []
where_same false false ps = ps

-- the statements with this effect, in order
abbrev pub statement_plans : Schema → Bool → List Statement → List Plan
statement_plans schema allow statements = flat_map (λ s. where_same allow s.allow (statement_plan schema s ∷ [])) statements

abbrev pub document_plans : Schema → Bool → List Document → List Plan
document_plans schema allow documents = flat_map (λ d. statement_plans schema allow d.statements) documents

-- some Allow statement of the documents applies
abbrev pub grants_plan : Schema → List Document → Plan
grants_plan schema documents = one_of (of_plans (document_plans schema true documents))

-- a plan for each guard
abbrev pub guard_plans : Schema → List (List Document) → List Plan
guard_plans schema guards = flat_map (λ g. grants_plan schema g ∷ []) guards

-- the Deny statements of guards, and those of the grants and of the guards
abbrev pub guard_deny_plans : Schema → List (List Document) → List Plan
guard_deny_plans schema guards = flat_map (λ g. document_plans schema false g) guards

abbrev pub deny_plans : Schema → PolicySet → List Plan
deny_plans schema set = document_plans schema false set.grants ++ guard_deny_plans schema set.guards

-- no Deny statement applies
abbrev pub no_deny_plan : Schema → PolicySet → Plan
no_deny_plan schema set = not (one_of (of_plans (deny_plans schema set)))

-- the set allows: a grant does, each guard does, and no Deny statement applies
abbrev pub set_plans : Schema → PolicySet → List Plan
set_plans schema set = grants_plan schema set.grants ∷ guard_plans schema set.guards ++ no_deny_plan schema set ∷ []

abbrev pub set_plan : Schema → PolicySet → Plan
set_plan schema set = all (of_plans (set_plans schema set))

-- the first set allows and the second doesn't
abbrev pub query_plan : Schema → PolicySet → PolicySet → Plan
query_plan schema first second = all (of_plans (set_plan schema first ∷ not (set_plan schema second) ∷ []))
