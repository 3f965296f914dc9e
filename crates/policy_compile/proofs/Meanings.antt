-- What numbered trees, and the plans of sets, say of a request.
use Rattle.std.proofs.Common.{◌≡◌, ℕ, List, [], ◌∷◌, get_or, Bool, true, false, ◌&&◌, ◌||◌, Option, Some, None, refl, inl, inr}
use Rattle.std.specs.Prelude.{◌↔◌, ◌⊎◌, IsTrue, All, Any, MatchBool}
use Rattle.std.specs.Prelude.{not as opposite}
use Rattle.formula_tree.specs.Trees as tree
use Rattle.formula_tree.specs.Values.{holds, each_holds, some_holds}
use Rattle.wildcard_lang.specs.Matching.{Matches}
use Rattle.wildcard_lang.specs.declared.piece.Piece.{Piece}
use Rattle.policy_model.specs.Conditions.{ConditionHolds}
use Rattle.policy_model.specs.Principals.{EntryHolds}
use Rattle.policy_model.specs.Requests.{IsValid}
use Rattle.policy_model.specs.Sets.{MatcherHolds, OptionalHolds, Applies, Decides, SomeDecides, Allows}
use Rattle.policy_model.specs.Soundness.{ConditionFits, DocumentFits, SchemaFits}
use Rattle.policy_model.specs.declared.matcher.Matcher.{Matcher}
use Rattle.policy_model.specs.declared.principal.Entry.{Entry}
use Rattle.policy_model.specs.declared.request.Request.{Request}
use Rattle.policy_model.specs.declared.schema.Schema.{Schema}
use Rattle.policy_model.specs.declared.set.Statement.{Statement}
use Rattle.policy_model.specs.declared.set.Document.{Document}
use Rattle.policy_model.specs.declared.set.PolicySet.{PolicySet}
use Rattle.policy_model.specs.declared.test.Test.{Test}
use Rattle.policy_model.specs.declared.test.Test.TheVariants.{Principal, Action, Resource}
use Rattle.policy_compile.specs.declared.elements.RequestWord.TheVariants as word
use Rattle.policy_compile.specs.Plans.{Plan, Plans, yes, ask, not, all, one_of, none, more, of_plans, PlanHolds, EachHolds, SomeHolds}
use Rattle.policy_compile.specs.Sets.{entry_plans, pattern_test, pattern_plans, some_or_none, entries_plan, patterns_plan, principal_plan, resource_plan, statement_plan, where_same, statement_plans, document_plans, guard_plans, guard_deny_plans, grants_plan, deny_plans, no_deny_plan, set_plan, query_plan}
use Rattle.policy_compile.specs.Numbering.{IsNumbered, AreNumbered, numbered_yes, numbered_ask, numbered_not, numbered_all, numbered_one_of, numbered_none, numbered_more}
use Rattle.policy_compile.specs.Conditions.{conditions_plan}
use Rattle.policy_compile.specs.Meaning.{AnswersAs}
use Rattle.policy_compile.proofs.Items.{each-append, each-items-where, some-append, some-items, some-items-where, some-single}
use Rattle.policy_compile.proofs.Operating.{conditions-hold}
use Rattle.policy_compile.proofs.Single.{valid-single}

-- ---- tests that decide facts

not-iff : (b : Bool) (P : Type 0) → (IsTrue b ↔ P) → (IsTrue (opposite b) ↔ (¬ P))
not-iff true P h = (λ e. absurd (cc), λ n. absurd (n (h.0 refl)))
not-iff false P h = (λ e p. absurd (cc (h.1 p)), λ n. refl)

and-iff : (b c : Bool) (P Q : Type 0) → (IsTrue b ↔ P) → (IsTrue c ↔ Q) → (IsTrue (b && c) ↔ (P × Q))
and-iff true c P Q h k = (λ e. (h.0 refl, k.0 e), λ p. k.1 p.1)
and-iff false c P Q h k = (λ e. absurd (cc), λ p. absurd (cc (h.1 p.0)))

or-iff : (b c : Bool) (P Q : Type 0) → (IsTrue b ↔ P) → (IsTrue c ↔ Q) → (IsTrue (b || c) ↔ (P ⊎ Q))
or-iff true c P Q h k = (λ e. inl (h.0 refl), λ p. refl)
or-iff false c P Q h k = (λ e. inr (k.0 e), λ p. elim p [ inl x ↦ absurd (cc (h.1 x)) | inr y ↦ k.1 y ])

-- ---- a numbered tree says what its plan says

mutual
  pub holds-numbered : (answers : ℕ → Bool) (r : Request) (tests : List Test) → AnswersAs answers r tests → (p : Plan) (t : tree.Tree) → IsNumbered tests p t → (IsTrue (holds answers t) ↔ PlanHolds r p)
  holds-numbered f r tests say yes t numbered_yes = (λ e. tt, λ h. refl)
  holds-numbered f r tests say (ask u) (tree.test n) (numbered_ask at) = say n u at
  holds-numbered f r tests say (not p) (tree.not t) (numbered_not h) = not-iff (holds f t) (PlanHolds r p) (holds-numbered f r tests say p t h)
  holds-numbered f r tests say (all ps) (tree.all ts) (numbered_all h) = each-numbered f r tests say ps ts h
  holds-numbered f r tests say (one_of ps) (tree.one_of ts) (numbered_one_of h) = some-numbered f r tests say ps ts h
  holds-numbered f r tests say (ask u) tree.yes x = elim x [ ]
  holds-numbered f r tests say (ask u) tree.no x = elim x [ ]
  holds-numbered f r tests say (ask u) (tree.not t) x = elim x [ ]
  holds-numbered f r tests say (ask u) (tree.all ts) x = elim x [ ]
  holds-numbered f r tests say (ask u) (tree.one_of ts) x = elim x [ ]
  holds-numbered f r tests say (not p) tree.yes x = elim x [ ]
  holds-numbered f r tests say (not p) tree.no x = elim x [ ]
  holds-numbered f r tests say (not p) (tree.test n) x = elim x [ ]
  holds-numbered f r tests say (not p) (tree.all ts) x = elim x [ ]
  holds-numbered f r tests say (not p) (tree.one_of ts) x = elim x [ ]
  holds-numbered f r tests say (all ps) tree.yes x = elim x [ ]
  holds-numbered f r tests say (all ps) tree.no x = elim x [ ]
  holds-numbered f r tests say (all ps) (tree.test n) x = elim x [ ]
  holds-numbered f r tests say (all ps) (tree.not t) x = elim x [ ]
  holds-numbered f r tests say (all ps) (tree.one_of ts) x = elim x [ ]
  holds-numbered f r tests say (one_of ps) tree.yes x = elim x [ ]
  holds-numbered f r tests say (one_of ps) tree.no x = elim x [ ]
  holds-numbered f r tests say (one_of ps) (tree.test n) x = elim x [ ]
  holds-numbered f r tests say (one_of ps) (tree.not t) x = elim x [ ]
  holds-numbered f r tests say (one_of ps) (tree.all ts) x = elim x [ ]

  each-numbered : (answers : ℕ → Bool) (r : Request) (tests : List Test) → AnswersAs answers r tests → (ps : Plans) (ts : tree.Trees) → AreNumbered tests ps ts → (IsTrue (each_holds answers ts) ↔ EachHolds r ps)
  each-numbered f r tests say none ts numbered_none = (λ e. tt, λ h. refl)
  each-numbered f r tests say (more p ps) tree.none x = elim x [ ]
  each-numbered f r tests say (more p ps) (tree.more t ts) (numbered_more first rest) =
      and-iff (holds f t) (each_holds f ts) (PlanHolds r p) (EachHolds r ps) (holds-numbered f r tests say p t first) (each-numbered f r tests say ps ts rest)

  some-numbered : (answers : ℕ → Bool) (r : Request) (tests : List Test) → AnswersAs answers r tests → (ps : Plans) (ts : tree.Trees) → AreNumbered tests ps ts → (IsTrue (some_holds answers ts) ↔ SomeHolds r ps)
  some-numbered f r tests say none ts numbered_none = (λ e. absurd (cc), λ h. absurd h)
  some-numbered f r tests say (more p ps) tree.none x = elim x [ ]
  some-numbered f r tests say (more p ps) (tree.more t ts) (numbered_more first rest) =
      or-iff (holds f t) (some_holds f ts) (PlanHolds r p) (SomeHolds r ps) (holds-numbered f r tests say p t first) (some-numbered f r tests say ps ts rest)

-- ---- elements

some_or_none-holds : {T : Type 0} (r : Request) (m : Matcher T) (ps : List Plan) (P : T → Type 0) → (SomeHolds r (of_plans ps) ↔ Any P m.items) → (n : Bool) → m.not ≡ n → (PlanHolds r (some_or_none n ps) ↔ MatchBool n (¬ Any P m.items) (Any P m.items))
some_or_none-holds r m ps P says true e = (λ h a. h (says.1 a), λ h s. h (says.0 s))
some_or_none-holds r m ps P says false e = says

entries-hold : (r : Request) (m : Matcher Entry) → (PlanHolds r (entries_plan m) ↔ MatcherHolds (EntryHolds r) m)
entries-hold r m = some_or_none-holds r m (entry_plans m.items) (EntryHolds r) (some-items r (λ e. ask (Principal e) ∷ []) (EntryHolds r) (λ e. some-single r (ask (Principal e))) m.items) m.not refl

actions-hold : (r : Request) (m : Matcher (List Piece)) → (PlanHolds r (patterns_plan word.Action m) ↔ MatcherHolds (λ p. Matches p r.action) m)
actions-hold r m =
    some_or_none-holds r m (pattern_plans word.Action m.items) (λ p. Matches p r.action) (some-items r (λ p. ask (pattern_test word.Action p) ∷ []) (λ p. Matches p r.action) (λ p. some-single r (ask (Action p))) m.items) m.not refl

resources-hold : (r : Request) (m : Matcher (List Piece)) → (PlanHolds r (patterns_plan word.Resource m) ↔ MatcherHolds (λ p. Matches p r.resource) m)
resources-hold r m =
    some_or_none-holds r m (pattern_plans word.Resource m.items) (λ p. Matches p r.resource) (some-items r (λ p. ask (pattern_test word.Resource p) ∷ []) (λ p. Matches p r.resource) (λ p. some-single r (ask (Resource p))) m.items) m.not refl

principal-holds : (r : Request) (m : Option (Matcher Entry)) → (PlanHolds r (principal_plan m) ↔ OptionalHolds (EntryHolds r) m)
principal-holds r None = (λ h. tt, λ h. tt)
principal-holds r (Some m) = entries-hold r m

resource-holds : (r : Request) (m : Option (Matcher (List Piece))) → (PlanHolds r (resource_plan m) ↔ OptionalHolds (λ p. Matches p r.resource) m)
resource-holds r None = (λ h. tt, λ h. tt)
resource-holds r (Some m) = resources-hold r m

-- ---- statements and sets

-- the conditions of a statement, of each of the documents and of each guard fit
abbrev pub StatementFits : Schema → Statement → Type 0
StatementFits schema s = All (ConditionFits schema) s.conditions

abbrev pub AllFit : Schema → List Document → Type 0
AllFit schema documents = All (DocumentFits schema) documents

module _ (schema : Schema) (r : Request) (valid : IsValid schema r) where
  statement-conditions : (s : Statement) → StatementFits schema s → (PlanHolds r (conditions_plan schema s.conditions) ↔ All (ConditionHolds schema r) s.conditions)
  statement-conditions s fits = conditions-hold schema r s.conditions (λ i c within. valid-single schema r (get_or s.conditions i c) valid (fits i c within))

  statement-holds : (s : Statement) → StatementFits schema s → (PlanHolds r (statement_plan schema s) ↔ Applies schema s r)
  statement-holds s fits = (
    λ h. record {
      principal = (principal-holds r s.principal).0 h.0;
      action = (actions-hold r s.action).0 h.1.0;
      resource = (resource-holds r s.resource).0 h.1.1.0;
      conditions = (statement-conditions s fits).0 h.1.1.1.0;
    },
    λ a. ((principal-holds r s.principal).1 a.principal, ((actions-hold r s.action).1 a.action, ((resource-holds r s.resource).1 a.resource, ((statement-conditions s fits).1 a.conditions, tt)))),
  )

  same-holds : (s : Statement) (allow own : Bool) → StatementFits schema s → (SomeHolds r (of_plans (where_same allow own (statement_plan schema s ∷ []))) ↔ ((own ≡ allow) × Applies schema s r))
  same-holds s true true fits = (λ h. (refl, (statement-holds s fits).0 ((some-single r (statement_plan schema s)).0 h)), λ h. inl ((statement-holds s fits).1 h.1))
  same-holds s true false fits = (λ h. absurd h, λ h. absurd (cc (h.0)))
  same-holds s false true fits = (λ h. absurd h, λ h. absurd (cc (h.0)))
  same-holds s false false fits = (λ h. (refl, (statement-holds s fits).0 ((some-single r (statement_plan schema s)).0 h)), λ h. inl ((statement-holds s fits).1 h.1))

  statements-hold : (allow : Bool) (statements : List Statement) → All (StatementFits schema) statements → (SomeHolds r (of_plans (statement_plans schema allow statements)) ↔ Any (Decides schema allow r) statements)
  statements-hold allow statements fit =
      some-items-where r (λ s. where_same allow s.allow (statement_plan schema s ∷ [])) (Decides schema allow r) (StatementFits schema) (λ s fits. same-holds s allow s.allow fits) statements fit

  documents-hold : (allow : Bool) (documents : List Document) → AllFit schema documents → (SomeHolds r (of_plans (document_plans schema allow documents)) ↔ SomeDecides schema allow r documents)
  documents-hold allow documents fit =
      some-items-where r (λ d. statement_plans schema allow d.statements) (λ d. Any (Decides schema allow r) d.statements) (DocumentFits schema) (λ d fits. statements-hold allow d.statements fits) documents fit

  guards-hold : (guards : List (List Document)) → All (AllFit schema) guards → (EachHolds r (of_plans (guard_plans schema guards)) ↔ All (SomeDecides schema true r) guards)
  guards-hold guards fit =
      each-items-where r (λ g. grants_plan schema g ∷ []) (SomeDecides schema true r) (AllFit schema)
      (λ g fits. (λ h. (documents-hold true g fits).0 h.0, λ h. ((documents-hold true g fits).1 h, tt))) guards fit

  guards-deny : (guards : List (List Document)) → All (AllFit schema) guards → (SomeHolds r (of_plans (guard_deny_plans schema guards)) ↔ Any (SomeDecides schema false r) guards)
  guards-deny guards fit = some-items-where r (λ g. document_plans schema false g) (SomeDecides schema false r) (AllFit schema) (λ g fits. documents-hold false g fits) guards fit

  denies-hold : (set : PolicySet) → SchemaFits schema set → (SomeHolds r (of_plans (deny_plans schema set)) ↔ (SomeDecides schema false r set.grants ⊎ Any (SomeDecides schema false r) set.guards))
  denies-hold set fits =
      let parts = some-append r (document_plans schema false set.grants) (guard_deny_plans schema set.guards) in
      let of_grants = documents-hold false set.grants fits.granting in
      let of_guards = guards-deny set.guards fits.guarding in (
        λ h. elim (parts.0 h) [ inl a ↦ inl (of_grants.0 a) | inr b ↦ inr (of_guards.0 b) ],
        λ h. elim h [ inl a ↦ parts.1 (inl (of_grants.1 a)) | inr b ↦ parts.1 (inr (of_guards.1 b)) ],
      )

  pub set-says : (set : PolicySet) → SchemaFits schema set → (PlanHolds r (set_plan schema set) ↔ Allows schema set r)
  set-says set fits =
      let rest = each-append r (guard_plans schema set.guards) (no_deny_plan schema set ∷ []) in
      let granting = documents-hold true set.grants fits.granting in
      let guarding = guards-hold set.guards fits.guarding in
      let denying = denies-hold set fits in (
        λ h.
            let parts = rest.0 h.1 in
            record {
              granted = granting.0 h.0;
              guarded = guarding.0 parts.0;
              not_denied = λ d. parts.1.0 (denying.1 (inl d));
              not_denied_by_guard = λ d. parts.1.0 (denying.1 (inr d));
            },
        λ a. (
          granting.1 a.granted,
          rest.1 (guarding.1 a.guarded, ((λ s. elim (denying.0 s) [ inl d ↦ a.not_denied d | inr d ↦ a.not_denied_by_guard d ]), tt)),
        ),
      )

pub set-holds : (schema : Schema) (r : Request) (set : PolicySet) → SchemaFits schema set → IsValid schema r → (PlanHolds r (set_plan schema set) ↔ Allows schema set r)
set-holds schema r set fits valid = set-says schema r valid set fits

pub query-holds : (schema : Schema) (r : Request) (first second : PolicySet) → SchemaFits schema first → SchemaFits schema second → IsValid schema r →
    (PlanHolds r (query_plan schema first second) ↔ (Allows schema first r × ¬ Allows schema second r))
query-holds schema r first second first_fits second_fits valid =
    let one = set-says schema r valid first first_fits in
    let other = set-says schema r valid second second_fits in (
      λ h. (one.0 h.0, λ a. h.1.0 (other.1 a)),
      λ a. (one.1 a.0, ((λ p. a.1 (other.0 p)), tt)),
    )
