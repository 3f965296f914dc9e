-- The plans of a set and of the set without a statement differ in one of the things that are asked.
use Rattle.std.proofs.Common.{◌≡◌, ◌+◌, ◌-◌, ◌<◌, ◌≤◌, ℕ, suc, zero, List, [], ◌∷◌, ◌++◌, length, map, slice_get, Bool, true, false, Some, inl, inr, refl, ap, sym, ◌∙◌, subst, arith}
use Rattle.std.specs.Prelude.{Contains}
use Rattle.std.specs.Prelude.{not as opposite}
use Rattle.std.specs.List.{AllZip}
use Rattle.std.proofs.lemmas.Bool.{cases_lt}
use Rattle.std.proofs.lemmas.Grind.{flat_map-append}
use Rattle.std.proofs.lemmas.List.{append_assoc, length-append, map-append}
use Rattle.std.proofs.lemmas.List.Elements.{Contains-append_left, Contains-append_right}
use Rattle.std.proofs.lemmas.Option.{same_Some, slice_get_within}
use Rattle.policy_model.specs.declared.schema.Schema.{Schema}
use Rattle.policy_model.specs.declared.set.Document.{Document}
use Rattle.policy_model.specs.declared.set.PolicySet.{PolicySet}
use Rattle.policy_model.specs.declared.set.Statement.{Statement}
use Rattle.policy_model.specs.declared.set.StatementName.{StatementName}
use Rattle.policy_model.specs.StatementNames.{Named, named_documents, named_grants, named_guards, named_set}
use Rattle.policy_compile.specs.Plans.{Plan, not, of_plans, one_of}
use Rattle.policy_compile.specs.Sets.{deny_plans, document_plans, grants_plan, guard_deny_plans, guard_plans, no_deny_plan, set_plans, some_or_none, statement_plan, statement_plans}
use Rattle.set_questions.specs.Laws.{statements_named}
use Rattle.set_questions.specs.Removal.{change_item, document_without, documents_without, guards_without, without_statement}
use Rattle.set_questions.specs.Requirements.{Requirement, guard_requirements, has_effect, of_effect, plans_of, requirement_plan, set_requirements}
use Rattle.set_questions.specs.SetDocuments.{guard_documents, set_documents}
use Rattle.set_questions.proofs.Counting.{slice_get-behind, slice_get-front}
use Rattle.set_questions.proofs.Effects.{StandsIn, plans-count, plans-flat, plans-joined, plans-of-effect, plans-past, plans-with, stands-in}
use Rattle.set_questions.proofs.Losing.{Cut, EachLoses, Loses, SetLoses, guards-none, set-loses}
use Rattle.set_questions.proofs.Placed.{in-documents}
use Rattle.set_questions.proofs.Placing.{granted-there, named-all}
use Rattle.set_questions.proofs.Taking.{document_statements, goes-of-documents, takes-one, unnamed-documents}

-- ---- lists

there-between : {T : Type 0} (before : List T) (x : T) (after : List T) → Contains (before ++ x ∷ after) x
there-between [] x after = (0, omega arith, refl)
there-between (y ∷ before) x after = let rest = there-between before x after in (suc rest.0, omega (arith, rest.1), rest.2)

change-past-end : {T : Type 0} (f : T → T) (n : ℕ) (xs : List T) → length xs < n → change_item f n xs ≡ xs
change-past-end f n [] h = refl
change-past-end f zero (x ∷ xs) h = refl
change-past-end f (suc zero) (x ∷ xs) h = absurd (omega (arith, h))
change-past-end f (suc (suc n)) (x ∷ xs) h = ap (λ ys. x ∷ ys) (change-past-end f (suc n) xs (omega (arith, h)))

-- ---- what stays

-- by a lost statement of the other effect no plan goes
module _ (schema : Schema) (allow : Bool) (s : Statement) (other : s.allow ≡ allow → ⊥) where
  statements-stay : (d e : Document) → Loses s d e → statement_plans schema allow e.statements ≡ statement_plans schema allow d.statements
  statements-stay d e (inl same) = ap (λ (x : Document). statement_plans schema allow x.statements) same
  statements-stay d e (inr cut) =
      ap (λ xs. statement_plans schema allow xs) cut.rest ∙ sym (plans-past schema allow cut.before cut.after s other) ∙ ap (λ xs. statement_plans schema allow xs) (sym cut.whole)

  documents-stay : (ds es : List Document) → EachLoses s ds es → document_plans schema allow es ≡ document_plans schema allow ds
  documents-stay [] [] both = refl
  documents-stay [] (e ∷ es) both = absurd both
  documents-stay (d ∷ ds) [] both = absurd both
  documents-stay (d ∷ ds) (e ∷ es) both =
      ap (λ ps. ps ++ document_plans schema allow es) (statements-stay d e both.0) ∙ ap (λ ps. statement_plans schema allow d.statements ++ ps) (documents-stay ds es both.1)

guards-stay : (schema : Schema) (s : Statement) → (s.allow ≡ true → ⊥) → (gs hs : List (List Document)) → AllZip (EachLoses s) gs hs → guard_plans schema hs ≡ guard_plans schema gs
guards-stay schema s other [] [] both = refl
guards-stay schema s other [] (h ∷ hs) both = absurd both
guards-stay schema s other (g ∷ gs) [] both = absurd both
guards-stay schema s other (g ∷ gs) (h ∷ hs) both =
    ap (λ ps. one_of (of_plans ps) ∷ guard_plans schema hs) (documents-stay schema true s other g h both.0) ∙ ap (λ ps. grants_plan schema g ∷ ps) (guards-stay schema s other gs hs both.1)

guard-denies-stay : (schema : Schema) (s : Statement) → (s.allow ≡ false → ⊥) → (gs hs : List (List Document)) → AllZip (EachLoses s) gs hs → guard_deny_plans schema hs ≡ guard_deny_plans schema gs
guard-denies-stay schema s other [] [] both = refl
guard-denies-stay schema s other [] (h ∷ hs) both = absurd both
guard-denies-stay schema s other (g ∷ gs) [] both = absurd both
guard-denies-stay schema s other (g ∷ gs) (h ∷ hs) both =
    ap (λ ps. ps ++ guard_deny_plans schema hs) (documents-stay schema false s other g h both.0) ∙ ap (λ ps. document_plans schema false g ++ ps) (guard-denies-stay schema s other gs hs both.1)

denies-stay : (schema : Schema) (s : Statement) (set part : PolicySet) → (s.allow ≡ false → ⊥) → SetLoses s set part → no_deny_plan schema part ≡ no_deny_plan schema set
denies-stay schema s set part other lose =
    ap (λ ps. not (one_of (of_plans (ps ++ guard_deny_plans schema part.guards)))) (documents-stay schema false s other set.grants part.grants lose.grants)
    ∙ ap (λ ps. not (one_of (of_plans (document_plans schema false set.grants ++ ps)))) (guard-denies-stay schema s other set.guards part.guards lose.guards)

-- ---- Deny statements

statements-joined : (xs ys : List Document) → document_statements (xs ++ ys) ≡ document_statements xs ++ document_statements ys
statements-joined xs ys = flat_map-append (λ (d : Document). d.statements) xs ys

guard-denies-flat : (schema : Schema) (gs : List (List Document)) → guard_deny_plans schema gs ≡ statement_plans schema false (document_statements (guard_documents gs))
guard-denies-flat schema [] = refl
guard-denies-flat schema (g ∷ gs) =
    ap (λ ps. ps ++ guard_deny_plans schema gs) (plans-flat schema false g)
    ∙ ap (λ ps. statement_plans schema false (document_statements g) ++ ps) (guard-denies-flat schema gs)
    ∙ sym (plans-joined schema false (document_statements g) (document_statements (guard_documents gs)))
    ∙ ap (λ ss. statement_plans schema false ss) (sym (statements-joined g (guard_documents gs)))

-- the plans of a set's Deny statements are those of its statements in reading order
pub denies-flat : (schema : Schema) (set : PolicySet) → deny_plans schema set ≡ statement_plans schema false (statements_named (named_set set))
denies-flat schema set =
    ap (λ ps. ps ++ guard_deny_plans schema set.guards) (plans-flat schema false set.grants)
    ∙ ap (λ ps. statement_plans schema false (document_statements set.grants) ++ ps) (guard-denies-flat schema set.guards)
    ∙ sym (plans-joined schema false (document_statements set.grants) (document_statements (guard_documents set.guards)))
    ∙ ap (λ ss. statement_plans schema false ss) (sym (statements-joined set.grants (guard_documents set.guards)))
    ∙ ap (λ ss. statement_plans schema false ss) (sym (unnamed-documents 1 (set_documents set)))
    ∙ ap (λ ns. statement_plans schema false (statements_named ns)) (sym (named-all set))

-- ---- the difference

-- the statement's plan is the one of this index in what is asked at this place, and is missing there without the statement
pub record DifferAt (schema : Schema) (set : PolicySet) (name : StatementName) (s : Statement) (place index : ℕ) (q : Requirement) : Type 0 where
  pub before : List Plan
  pub after : List Plan
  pub xs : List Plan
  pub ys : List Plan
  pub place_is : length before ≡ place
  pub index_is : length xs ≡ index
  pub own : plans_of schema q.named ≡ xs ++ statement_plan schema s ∷ ys
  pub whole : set_plans schema set ≡ before ++ some_or_none (opposite s.allow) (xs ++ statement_plan schema s ∷ ys) ∷ after
  pub part : set_plans schema (without_statement set name) ≡ before ++ some_or_none (opposite s.allow) (xs ++ ys) ∷ after

-- the same of guards, of which the first document has the number d
record GuardsDifferAt (schema : Schema) (d : ℕ) (gs : List (List Document)) (name : StatementName) (s : Statement) (place index : ℕ) (q : Requirement) : Type 0 where
  before : List Plan
  after : List Plan
  xs : List Plan
  ys : List Plan
  place_is : length before ≡ place
  index_is : length xs ≡ index
  own : plans_of schema q.named ≡ xs ++ statement_plan schema s ∷ ys
  low : d ≤ name.document
  whole : guard_plans schema gs ≡ before ++ one_of (of_plans (xs ++ statement_plan schema s ∷ ys)) ∷ after
  part : (m : ℕ) → name.document + 1 ≡ d + m → guard_plans schema (guards_without m name.statement gs) ≡ before ++ one_of (of_plans (xs ++ ys)) ∷ after
  allow_is : s.allow ≡ true
  there : Contains (named_guards d gs) (name, s)

-- the statements with the effect among documents, and those that are left
module _ (schema : Schema) (allow : Bool) (ns : List Named) (name : StatementName) (s : Statement) (index : ℕ) (at : StandsIn (Some allow) ns index (name, s)) (is : s.allow ≡ allow) where
  abbrev plans_before : List Plan
  plans_before = statement_plans schema allow (statements_named at.before)

  abbrev plans_after : List Plan
  plans_after = statement_plans schema allow (statements_named at.after)

  count-before : length plans_before ≡ index
  count-before = plans-count schema allow at.before ∙ at.count

  named-split : statements_named ns ≡ statements_named at.before ++ s ∷ statements_named at.after
  named-split = ap (λ ms. statements_named ms) at.whole ∙ map-append (λ (n : Named). n.1) at.before ((name, s) ∷ at.after)

  plans-split : statement_plans schema allow (statements_named ns) ≡ plans_before ++ statement_plan schema s ∷ plans_after
  plans-split = ap (λ ss. statement_plans schema allow ss) named-split ∙ plans-with schema allow (statements_named at.before) (statements_named at.after) s is

  own-split : plans_of schema (of_effect (Some allow) ns) ≡ plans_before ++ statement_plan schema s ∷ plans_after
  own-split = plans-of-effect schema allow ns ∙ plans-split

  is-there : Contains ns (name, s)
  is-there = subst (λ (ms : List Named). Contains ms (name, s)) (sym at.whole) (there-between at.before (name, s) at.after)

module _ (schema : Schema) (allow : Bool) (d : ℕ) (ds : List Document) (name : StatementName) (s : Statement) (index : ℕ) (at : StandsIn (Some allow) (named_documents d ds) index (name, s)) (is : s.allow ≡ allow) where
  abbrev front : List Plan
  front = plans_before schema allow (named_documents d ds) name s index at is

  abbrev back : List Plan
  back = plans_after schema allow (named_documents d ds) name s index at is

  whole-split : document_plans schema allow ds ≡ front ++ statement_plan schema s ∷ back
  whole-split = plans-flat schema allow ds ∙ ap (λ ss. statement_plans schema allow ss) (sym (unnamed-documents d ds)) ∙ plans-split schema allow (named_documents d ds) name s index at is

  place-there : (i : ℕ) × (i < length ds) × (name.document ≡ d + i)
  place-there =
      let p = in-documents d ds name s (is-there schema allow (named_documents d ds) name s index at is) in
      (p.i, slice_get_within ds p.i p.document p.document_is, p.document_number)

  part-split : (m : ℕ) → name.document + 1 ≡ d + m → document_plans schema allow (documents_without m name.statement ds) ≡ front ++ back
  part-split m number =
      let one = goes-of-documents d ds at.before name s at.after at.whole in
      let e : name.document ≡ d + one.i = one.document_number in
      let k : name.statement ≡ 1 + one.j = one.statement_number in
      let document : m ≡ suc one.i = omega (arith, e, number) in
      let statement : name.statement ≡ suc one.j = omega (arith, k) in
      plans-flat schema allow (documents_without m name.statement ds)
      ∙ ap (λ n. statement_plans schema allow (document_statements (change_item (document_without name.statement) n ds))) document
      ∙ ap (λ n. statement_plans schema allow (document_statements (change_item (document_without n) (suc one.i) ds))) statement
      ∙ ap (λ ss. statement_plans schema allow ss) one.left
      ∙ plans-joined schema allow (statements_named at.before) (statements_named at.after)

allowed : (b : Bool) → has_effect (Some true) b ≡ true → b ≡ true
allowed b h = h

denied : (b : Bool) → has_effect (Some false) b ≡ true → b ≡ false
denied true h = absurd (cc)
denied false h = refl

-- ---- the grants

grants-differ : (schema : Schema) (set : PolicySet) (name : StatementName) (s : Statement) (index : ℕ) (q : Requirement) → record { allow = true; named = of_effect (Some true) (named_grants set) } ≡ q →
    slice_get q.named index ≡ Some (name, s) → DifferAt schema set name s 0 index q
grants-differ schema set name s index q same at =
    let stands = stands-in (Some true) (named_grants set) index (name, s) (subst (λ (x : Requirement). slice_get x.named index ≡ Some (name, s)) (sym same) at) in
    let is : s.allow ≡ true = allowed s.allow stands.has in
    let granted = is-there schema true (named_grants set) name s index stands is in
    let lose = set-loses set name s (granted-there set name s granted) in
    let place = place-there schema true 1 set.grants name s index stands is in
    let within : place.0 < length set.grants = place.1 in
    let number : name.document ≡ 1 + place.0 = place.2 in
    let xs = front schema true 1 set.grants name s index stands is in
    let ys = back schema true 1 set.grants name s index stands is in
    let e : name.document - length set.grants ≡ 0 = omega (arith, number, within) in
    let guards : (without_statement set name).guards ≡ set.guards = rw e (guards-none name.statement set.guards) in
    let kept : opposite s.allow ≡ false = ap opposite is in
    record {
      before = [];
      after = guard_plans schema set.guards ++ no_deny_plan schema set ∷ [];
      xs = xs;
      ys = ys;
      place_is = refl;
      index_is = count-before schema true (named_grants set) name s index stands is;
      own = ap (λ (x : Requirement). plans_of schema x.named) (sym same) ∙ own-split schema true (named_grants set) name s index stands is;
      whole = rw kept (ap (λ ps. one_of (of_plans ps) ∷ guard_plans schema set.guards ++ no_deny_plan schema set ∷ []) (whole-split schema true 1 set.grants name s index stands is));
      part = rw kept (
          ap (λ ps. one_of (of_plans ps) ∷ guard_plans schema (without_statement set name).guards ++ no_deny_plan schema (without_statement set name) ∷ [])
          (part-split schema true 1 set.grants name s index stands is name.document (omega arith))
          ∙ ap (λ (gs : List (List Document)). one_of (of_plans (xs ++ ys)) ∷ guard_plans schema gs ++ no_deny_plan schema (without_statement set name) ∷ []) guards
          ∙ ap (λ p. one_of (of_plans (xs ++ ys)) ∷ guard_plans schema set.guards ++ p ∷ []) (denies-stay schema s set (without_statement set name) (λ no'. absurd (cc)) lose));
    }

-- ---- guards

guards-differ : (schema : Schema) (d : ℕ) (gs : List (List Document)) (name : StatementName) (s : Statement) (place index : ℕ) (q : Requirement) → slice_get (guard_requirements d gs) place ≡ Some q →
    slice_get q.named index ≡ Some (name, s) → GuardsDifferAt schema d gs name s place index q
guards-differ schema d [] name s place index q there at = absurd (cc)
guards-differ schema d (g ∷ gs) name s zero index q there at =
    let same : record { allow = true; named = of_effect (Some true) (named_documents d g) } ≡ q = same_Some _ q there in
    let stands = stands-in (Some true) (named_documents d g) index (name, s) (subst (λ (x : Requirement). slice_get x.named index ≡ Some (name, s)) (sym same) at) in
    let is : s.allow ≡ true = allowed s.allow stands.has in
    let p = place-there schema true d g name s index stands is in
    let within : p.0 < length g = p.1 in
    let number : name.document ≡ d + p.0 = p.2 in
    let xs = front schema true d g name s index stands is in
    let ys = back schema true d g name s index stands is in
    record {
      before = [];
      after = guard_plans schema gs;
      xs = xs;
      ys = ys;
      place_is = refl;
      index_is = count-before schema true (named_documents d g) name s index stands is;
      own = ap (λ (x : Requirement). plans_of schema x.named) (sym same) ∙ own-split schema true (named_documents d g) name s index stands is;
      low = omega (arith, number);
      whole = ap (λ ps. one_of (of_plans ps) ∷ guard_plans schema gs) (whole-split schema true d g name s index stands is);
      part = λ m count.
          (let e : m - length g ≡ 0 = omega (arith, count, number, within) in
          ap (λ ps. one_of (of_plans ps) ∷ guard_plans schema (guards_without (m - length g) name.statement gs)) (part-split schema true d g name s index stands is m count)
          ∙ ap (λ n. one_of (of_plans (xs ++ ys)) ∷ guard_plans schema (guards_without n name.statement gs)) e
          ∙ ap (λ (hs : List (List Document)). one_of (of_plans (xs ++ ys)) ∷ guard_plans schema hs) (guards-none name.statement gs));
      allow_is = is;
      there = Contains-append_left (named_documents d g) (named_guards (d + length g) gs) (name, s) (is-there schema true (named_documents d g) name s index stands is);
    }
guards-differ schema d (g ∷ gs) name s (suc place) index q there at =
    let rest = guards-differ schema (d + length g) gs name s place index q there at in
    let low : d + length g ≤ name.document = rest.low in
    record {
      before = grants_plan schema g ∷ rest.before;
      after = rest.after;
      xs = rest.xs;
      ys = rest.ys;
      place_is = ap (λ n. suc n) rest.place_is;
      index_is = rest.index_is;
      own = rest.own;
      low = omega (arith, low);
      whole = ap (λ ps. grants_plan schema g ∷ ps) rest.whole;
      part = λ m count.
          (let past : length g < m = omega (arith, count, low) in
          let left : name.document + 1 ≡ d + length g + (m - length g) = omega (arith, count, past) in
          ap (λ ds. grants_plan schema ds ∷ guard_plans schema (guards_without (m - length g) name.statement gs)) (change-past-end (document_without name.statement) m g past)
          ∙ ap (λ ps. grants_plan schema g ∷ ps) (rest.part (m - length g) left));
      allow_is = rest.allow_is;
      there = Contains-append_right (named_documents d g) (named_guards (d + length g) gs) (name, s) rest.there;
    }

count-guards : (schema : Schema) (d : ℕ) (gs : List (List Document)) → length (guard_plans schema gs) ≡ length (guard_requirements d gs)
count-guards schema d [] = refl
count-guards schema d (g ∷ gs) = ap (λ n. suc n) (count-guards schema (d + length g) gs)

guard-differs : (schema : Schema) (set : PolicySet) (name : StatementName) (s : Statement) (place index : ℕ) (q : Requirement) → slice_get (guard_requirements (1 + length set.grants) set.guards) place ≡ Some q →
    slice_get q.named index ≡ Some (name, s) → DifferAt schema set name s (suc place) index q
guard-differs schema set name s place index q there at =
    let r = guards-differ schema (1 + length set.grants) set.guards name s place index q there at in
    let low : 1 + length set.grants ≤ name.document = r.low in
    let is : s.allow ≡ true = r.allow_is in
    let kept : opposite s.allow ≡ false = ap opposite is in
    let lose = set-loses set name s (Contains-append_right (named_grants set) (named_guards (1 + length set.grants) set.guards) (name, s) r.there) in
    let past : length set.grants < name.document = omega (arith, low) in
    let number : name.document + 1 ≡ 1 + length set.grants + (name.document - length set.grants) = omega (arith, low) in
    let denies = no_deny_plan schema set in
    record {
      before = grants_plan schema set.grants ∷ r.before;
      after = r.after ++ denies ∷ [];
      xs = r.xs;
      ys = r.ys;
      place_is = ap (λ n. suc n) r.place_is;
      index_is = r.index_is;
      own = r.own;
      whole = rw kept (ap (λ ps. grants_plan schema set.grants ∷ ps ++ denies ∷ []) r.whole
          ∙ ap (λ ps. grants_plan schema set.grants ∷ ps) (append_assoc r.before (one_of (of_plans (r.xs ++ statement_plan schema s ∷ r.ys)) ∷ r.after) (denies ∷ [])));
      part = rw kept (
          ap (λ ds. grants_plan schema ds ∷ guard_plans schema (without_statement set name).guards ++ no_deny_plan schema (without_statement set name) ∷ [])
          (change-past-end (document_without name.statement) name.document set.grants past)
          ∙ ap (λ ps. grants_plan schema set.grants ∷ ps ++ no_deny_plan schema (without_statement set name) ∷ []) (r.part (name.document - length set.grants) number)
          ∙ ap (λ p. grants_plan schema set.grants ∷ (r.before ++ one_of (of_plans (r.xs ++ r.ys)) ∷ r.after) ++ p ∷ []) (denies-stay schema s set (without_statement set name) (λ no'. absurd (cc)) lose)
          ∙ ap (λ ps. grants_plan schema set.grants ∷ ps) (append_assoc r.before (one_of (of_plans (r.xs ++ r.ys)) ∷ r.after) (denies ∷ [])));
    }

-- ---- Deny statements of the set

denies-differ : (schema : Schema) (set : PolicySet) (name : StatementName) (s : Statement) (index : ℕ) (q : Requirement) → record { allow = false; named = of_effect (Some false) (named_set set) } ≡ q →
    slice_get q.named index ≡ Some (name, s) → DifferAt schema set name s (suc (length (guard_requirements (1 + length set.grants) set.guards))) index q
denies-differ schema set name s index q same at =
    let stands = stands-in (Some false) (named_set set) index (name, s) (subst (λ (x : Requirement). slice_get x.named index ≡ Some (name, s)) (sym same) at) in
    let is : s.allow ≡ false = denied s.allow stands.has in
    let kept : opposite s.allow ≡ true = ap opposite is in
    let part = without_statement set name in
    let lose = set-loses set name s (is-there schema false (named_set set) name s index stands is) in
    let xs = plans_before schema false (named_set set) name s index stands is in
    let ys = plans_after schema false (named_set set) name s index stands is in
    let left : deny_plans schema part ≡ xs ++ ys =
    denies-flat schema part ∙ ap (λ ss. statement_plans schema false ss) (takes-one set name s stands.before stands.after stands.whole).statements
    ∙ plans-joined schema false (statements_named stands.before) (statements_named stands.after) in
    record {
      before = grants_plan schema set.grants ∷ guard_plans schema set.guards;
      after = [];
      xs = xs;
      ys = ys;
      place_is = ap (λ n. suc n) (count-guards schema (1 + length set.grants) set.guards);
      index_is = count-before schema false (named_set set) name s index stands is;
      own = ap (λ (x : Requirement). plans_of schema x.named) (sym same) ∙ own-split schema false (named_set set) name s index stands is;
      whole = rw kept (ap (λ ps. grants_plan schema set.grants ∷ guard_plans schema set.guards ++ not (one_of (of_plans ps)) ∷ [])
          (denies-flat schema set ∙ plans-split schema false (named_set set) name s index stands is));
      part = rw kept (
          ap (λ ps. one_of (of_plans ps) ∷ guard_plans schema part.guards ++ no_deny_plan schema part ∷ []) (documents-stay schema true s (λ yes'. absurd (cc)) set.grants part.grants lose.grants)
          ∙ ap (λ ps. grants_plan schema set.grants ∷ ps ++ no_deny_plan schema part ∷ []) (guards-stay schema s (λ yes'. absurd (cc)) set.guards part.guards lose.guards)
          ∙ ap (λ ps. grants_plan schema set.grants ∷ guard_plans schema set.guards ++ not (one_of (of_plans ps)) ∷ []) left);
    }

-- ---- all of them

last-is : {T : Type 0} (x y : T) (k : ℕ) → slice_get (x ∷ []) k ≡ Some y → (k ≡ 0) × (x ≡ y)
last-is x y zero at = (refl, same_Some x y at)
last-is x y (suc k) at = absurd (cc)

pub parts-differ : (schema : Schema) (set : PolicySet) (name : StatementName) (s : Statement) (place index : ℕ) (q : Requirement) → slice_get (set_requirements set) place ≡ Some q → slice_get q.named index ≡ Some (name, s) →
    DifferAt schema set name s place index q
parts-differ schema set name s zero index q there at = grants-differ schema set name s index q (same_Some _ q there) at
parts-differ schema set name s (suc place) index q there at =
    let guards = guard_requirements (1 + length set.grants) set.guards in
    let deny : Requirement = record { allow = false; named = of_effect (Some false) (named_set set) } in
    elim (cases_lt place (length guards)) [
      | inl within ↦ guard-differs schema set name s place index q (sym (slice_get-front guards (deny ∷ []) place within) ∙ there) at
      | inr past ↦
          let last = last-is deny q (place - length guards) (sym (slice_get-behind guards (deny ∷ []) place past) ∙ there) in
          let end : place - length guards ≡ 0 = last.0 in
          let here : suc (length guards) ≡ suc place = omega (arith, end, past) in
          subst (λ n. DifferAt schema set name s n index q) here (denies-differ schema set name s index q last.1 at)
    ]
