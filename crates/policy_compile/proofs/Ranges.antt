-- The numbers and the tests in queries are in their ranges.
use Rattle.std.proofs.Common.{List, [], ◌∷◌, ◌++◌, length, get_or, Option, Some, None, inl, inr}
use Rattle.std.specs.Prelude.{All, Any, Contains}
use Rattle.std.proofs.lemmas.List.Elements.{All-append, All-cons, All-contains, All-head, All-nil, All-tail, Contains-get_or}
use Rattle.std.proofs.lemmas.Option.{slice_get_within}
use Rattle.formula_tree.specs.Trees as tree
use Rattle.formula_tree.specs.Values.{AreBelow, EachBelow}
use Rattle.policy_model.specs.Soundness.{ConditionFits, ConditionIsSound, DocumentFits, DocumentIsSound, EntryIsSound, PrincipalIsSound, SchemaFits, StatementIsSound, TestSuits}
use Rattle.policy_model.specs.declared.matcher.Matcher.{Matcher}
use Rattle.policy_model.specs.declared.principal.Entry.{Entry}
use Rattle.policy_model.specs.declared.schema.Schema.{Schema}
use Rattle.policy_model.specs.declared.set.Statement.{Statement}
use Rattle.policy_model.specs.declared.set.Document.{Document}
use Rattle.policy_model.specs.declared.set.PolicySet.{PolicySet}
use Rattle.policy_model.specs.declared.test.Test.{Test}
use Rattle.policy_model.specs.declared.test.Test.TheVariants.{Principal, Action, Resource, Present, SomeMeets, SomeMeetsNone}
use Rattle.policy_compile.specs.Asked.{ConditionAsks, HasItem, IsAskedBy, SomeStatementIn, SomeStatementOf}
use Rattle.policy_compile.specs.Plans.{Plan, Plans, yes, ask, not, all, one_of, none, more, tests_in}
use Rattle.policy_compile.specs.Sets.{query_plan, set_plan, statement_plan}
use Rattle.policy_compile.specs.Numbering.{Collects, nothing, again, anew, IsNumbered, AreNumbered, numbered_yes, numbered_ask, numbered_not, numbered_all, numbered_one_of, numbered_none, numbered_more}
use Rattle.policy_compile.proofs.Origins.{statement-asks}
use Rattle.policy_compile.proofs.Members.{Any-where, Has, set-has}
use Rattle.policy_compile.proofs.Suiting.{asked-suits}

mutual
  pub below-numbered : (tests : List Test) (p : Plan) (t : tree.Tree) → IsNumbered tests p t → AreBelow (length tests) t
  below-numbered tests yes t numbered_yes = tt
  below-numbered tests (ask u) (tree.test n) (numbered_ask at) = slice_get_within tests n u at
  below-numbered tests (not p) (tree.not t) (numbered_not h) = below-numbered tests p t h
  below-numbered tests (all ps) (tree.all ts) (numbered_all h) = each-below tests ps ts h
  below-numbered tests (one_of ps) (tree.one_of ts) (numbered_one_of h) = each-below tests ps ts h
  below-numbered tests (ask u) tree.yes x = elim x [ ]
  below-numbered tests (ask u) tree.no x = elim x [ ]
  below-numbered tests (ask u) (tree.not t) x = elim x [ ]
  below-numbered tests (ask u) (tree.all ts) x = elim x [ ]
  below-numbered tests (ask u) (tree.one_of ts) x = elim x [ ]
  below-numbered tests (not p) tree.yes x = elim x [ ]
  below-numbered tests (not p) tree.no x = elim x [ ]
  below-numbered tests (not p) (tree.test n) x = elim x [ ]
  below-numbered tests (not p) (tree.all ts) x = elim x [ ]
  below-numbered tests (not p) (tree.one_of ts) x = elim x [ ]
  below-numbered tests (all ps) tree.yes x = elim x [ ]
  below-numbered tests (all ps) tree.no x = elim x [ ]
  below-numbered tests (all ps) (tree.test n) x = elim x [ ]
  below-numbered tests (all ps) (tree.not t) x = elim x [ ]
  below-numbered tests (all ps) (tree.one_of ts) x = elim x [ ]
  below-numbered tests (one_of ps) tree.yes x = elim x [ ]
  below-numbered tests (one_of ps) tree.no x = elim x [ ]
  below-numbered tests (one_of ps) (tree.test n) x = elim x [ ]
  below-numbered tests (one_of ps) (tree.not t) x = elim x [ ]
  below-numbered tests (one_of ps) (tree.all ts) x = elim x [ ]

  each-below : (tests : List Test) (ps : Plans) (ts : tree.Trees) → AreNumbered tests ps ts → EachBelow (length tests) ts
  each-below tests none ts numbered_none = tt
  each-below tests (more p ps) tree.none x = elim x [ ]
  each-below tests (more p ps) (tree.more t ts) (numbered_more first rest) = (below-numbered tests p t first, each-below tests ps ts rest)

-- what holds of the tests that are had and read holds of those that are got
pub All-collects : (P : Test → Type 0) (had read got : List Test) → Collects had read got → All P had → All P read → All P got
All-collects P had [] got nothing h k = h
All-collects P had (t ∷ read) got (again old rest) h k = All-collects P had read got rest h (All-tail P t read k)
All-collects P had (t ∷ read) got (anew new rest) h k = All-collects P (had ++ t ∷ []) read got rest (All-append P had (t ∷ []) h (All-cons P t [] (All-head P t read k) (All-nil P))) (All-tail P t read k)

-- ---- where tests come from

-- a test that a statement's plan has is asked by the statement
has-asked : (schema : Schema) (t : Test) (s : Statement) → Has schema t s → IsAskedBy schema t s
has-asked schema t s at = All-contains (λ u. IsAskedBy schema u s) (tests_in (statement_plan schema s)) t (statement-asks schema s) at

asked-in : (schema : Schema) (t : Test) (documents : List Document) → SomeStatementIn (Has schema t) documents → SomeStatementIn (IsAskedBy schema t) documents
asked-in schema t documents h =
    Any-where (λ d. Any (Has schema t) d.statements) (λ d. Any (IsAskedBy schema t) d.statements) documents
    (λ d some. Any-where (Has schema t) (IsAskedBy schema t) d.statements (has-asked schema t) some) h

asked-of : (schema : Schema) (t : Test) (set : PolicySet) → SomeStatementOf (Has schema t) set → SomeStatementOf (IsAskedBy schema t) set
asked-of schema t set (inl h) = inl (asked-in schema t set.grants h)
asked-of schema t set (inr h) = inr (Any-where (SomeStatementIn (Has schema t)) (SomeStatementIn (IsAskedBy schema t)) set.guards (asked-in schema t) h)

-- each test of a set's plan is asked by a statement of the set
pub set-asked : (schema : Schema) (set : PolicySet) → All (λ t. SomeStatementOf (IsAskedBy schema t) set) (tests_in (set_plan schema set))
set-asked schema set = λ i d within.
    let t = get_or (tests_in (set_plan schema set)) i d in
    asked-of schema t set ((set-has schema t set).0 (Contains-get_or (tests_in (set_plan schema set)) i d within))

-- ---- they suit

-- what the parts of a set are where it is sound and the schema fits it
abbrev FineStatement : Schema → Statement → Type 0
FineStatement schema s = StatementIsSound s × All (ConditionFits schema) s.conditions

abbrev FineDocuments : Schema → List Document → Type 0
FineDocuments schema documents = All DocumentIsSound documents × All (DocumentFits schema) documents

listed-sound : (element : Option (Matcher Entry)) (e : Entry) → PrincipalIsSound element → HasItem element e → EntryIsSound e
listed-sound None e sound at = absurd at
listed-sound (Some m) e sound at = All-contains EntryIsSound m.items e sound at

condition-suits : (schema : Schema) (t : Test) (s : Statement) → FineStatement schema s → Any (ConditionAsks schema t) s.conditions → TestSuits schema t
condition-suits schema t s fine h =
    let at : Contains s.conditions h.1 = (h.0, h.2, h.3) in
    asked-suits schema h.1 (All-contains (ConditionFits schema) s.conditions h.1 fine.1 at, All-contains ConditionIsSound s.conditions h.1 fine.0.conditions at) t h.4

statement-suits : (schema : Schema) (t : Test) (s : Statement) → FineStatement schema s → IsAskedBy schema t s → TestSuits schema t
statement-suits schema (Principal entry) s fine h = listed-sound s.principal entry fine.0.principal h
statement-suits schema (Action pattern) s fine h = tt
statement-suits schema (Resource pattern) s fine h = tt
statement-suits schema (Present key) s fine h = condition-suits schema (Present key) s fine h
statement-suits schema (SomeMeets key asked) s fine h = condition-suits schema (SomeMeets key asked) s fine h
statement-suits schema (SomeMeetsNone key asked) s fine h = condition-suits schema (SomeMeetsNone key asked) s fine h

documents-suit : (schema : Schema) (t : Test) (documents : List Document) → FineDocuments schema documents → SomeStatementIn (IsAskedBy schema t) documents → TestSuits schema t
documents-suit schema t documents fine h =
    let at : Contains documents h.1 = (h.0, h.2, h.3) in
    let sound = All-contains DocumentIsSound documents h.1 fine.0 at in
    let fits = All-contains (DocumentFits schema) documents h.1 fine.1 at in
    let some = h.4 in
    let inside : Contains h.1.statements some.1 = (some.0, some.2, some.3) in
    statement-suits schema t some.1 (All-contains StatementIsSound h.1.statements some.1 sound.each inside, All-contains (λ s. All (ConditionFits schema) s.conditions) h.1.statements some.1 fits inside) some.4

asked-suit : (schema : Schema) (t : Test) (set : PolicySet) → SchemaFits schema set → SomeStatementOf (IsAskedBy schema t) set → TestSuits schema t
asked-suit schema t set fits (inl h) = documents-suit schema t set.grants (fits.sound.granting, fits.granting) h
asked-suit schema t set fits (inr h) =
    let at : Contains set.guards h.1 = (h.0, h.2, h.3) in
    documents-suit schema t h.1 (All-contains (λ g. All DocumentIsSound g) set.guards h.1 fits.sound.guarding at, All-contains (λ g. All (DocumentFits schema) g) set.guards h.1 fits.guarding at) h.4

-- the tests of a set's plan suit a schema that fits the set
pub suit-set : (schema : Schema) (set : PolicySet) → SchemaFits schema set → All (TestSuits schema) (tests_in (set_plan schema set))
suit-set schema set fits = λ i d within. asked-suit schema (get_or (tests_in (set_plan schema set)) i d) set fits (set-asked schema set i d within)

pub suit-query : (schema : Schema) (first second : PolicySet) → SchemaFits schema first → SchemaFits schema second → All (TestSuits schema) (tests_in (query_plan schema first second))
suit-query schema first second fits also =
    All-append (TestSuits schema) (tests_in (set_plan schema first)) (tests_in (set_plan schema second) ++ []) (suit-set schema first fits)
    (All-append (TestSuits schema) (tests_in (set_plan schema second)) [] (suit-set schema second also) (All-nil (TestSuits schema)))
