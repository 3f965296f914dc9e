-- Which parts that close under a path close under fewer of its answers.
use Rattle.std.proofs.Common.{◌≡◌, ◌≢◌, ◌↔◌, ◌==◌, ℕ, List, [], ◌∷◌, Bool, true, false, Option, Some, None, Result, Ok, Err, IfOk, IsSome, IsTrue, All, slice_get, Global, refl, sym, ap, ◌∙◌, subst, inl, inr, arith, rules}
use Rattle.std.proofs.lemmas.Bool.Decides.{nat_tests}
use Rattle.std.proofs.lemmas.List.Elements.{All-cons, All-head, All-nil, All-tail, All-weaker}
use Rattle.std.proofs.lemmas.Option.{get_or_from_slice_get, slice_get_within}
use Rattle.std.specs.declared.rc.Rc.{Rc}
use Rattle.formula_tree.specs.Answers.{Answers, Contained, IsDistinct, answer_of}
use Rattle.formula_tree.specs.Runs.{path_with}
use Rattle.formula_tree.specs.Values.{value}
use Rattle.formula_tree.proofs.Laws.{answer_of-besides, cases_eq, contained-answered, contained-both}
use Rattle.nogoods.specs.Hits.{answers_at}
use Rattle.slot_theory.specs.declared.outcome.SlotProof.{SlotProof}
use Rattle.slot_theory.proofs.Laws.{accepts_alike}
use Rattle.refute_check.specs.declared.refutation.Refutation.{Refutation, the_lemmas}
use Rattle.refute_check.specs.declared.refutation.Refutation.TheVariants.{Split, BySlot, Label}
use Rattle.refute_check.specs.Labels.{IsAnswered}
use Rattle.refute_check.specs.Proofs.{Proof, by_slot, by_value, label, proof_of, split}
use Rattle.search_parts.specs.declared.part.Needs.{Needs}
use Rattle.search_parts.specs.declared.part.Needs.TheVariants.{Just, Open}
use Rattle.search_parts.specs.declared.part.Part.{Part}
use Rattle.search_parts.specs.Making.{part_proof}
use Rattle.search_parts.specs.Needs.{AreNeeds, NeedsJust}
use Rattle.search_parts.specs.Parts.{IsStoredIn}
use Rattle.search_parts.specs.Shortening.{ClosesFor, IsNeedless, IsStillClosed}
use Rattle.search_parts.specs.declared.shortening.Shortening.{Shortening}
use Rattle.search_parts.proofs.Closing.{core-within, open-in}

-- ---- the answers of a path

same-test : (k n : ℕ) → k ≡ n → (k == n) ≡ true
same-test k n e = grind (arith, nat_tests)

other-test : (k n : ℕ) → k ≢ n → (k == n) ≡ false
other-test k n e = grind (arith, nat_tests)

behind : (p : ℕ × Bool) (ps : Answers) → answer_of ps p.0 ≡ None → (a : ℕ × Bool) → IsAnswered ps a → IsAnswered (p ∷ ps) a
behind p ps new a own =
    elim (cases_eq p.0 a.0) [
      | inl e ↦
          let none : answer_of ps a.0 ≡ None = subst (λ (n : ℕ). answer_of ps n ≡ None) e new in
          let bad : None ≡ Some a.1 = sym none ∙ own in
          absurd (cc)
      | inr apart ↦ rw (other-test p.0 a.0 apart) own
    ]

-- each answer of a path that answers no test twice is that to its test
own-answers : (answers : Answers) → IsDistinct answers → All (IsAnswered answers) answers
own-answers [] distinct = All-nil (IsAnswered [])
own-answers (p ∷ ps) distinct =
    let own : answer_of (p ∷ ps) p.0 ≡ Some p.1 = rw (same-test p.0 p.0 refl) refl in
    All-cons (IsAnswered (p ∷ ps)) p ps own (All-weaker (IsAnswered ps) (IsAnswered (p ∷ ps)) (behind p ps distinct.0) ps (own-answers ps distinct.1))

all-contained : (answers path : Answers) → All (IsAnswered path) answers → Contained answers path
all-contained [] path all n b is = absurd (cc)
all-contained (p ∷ ps) path all n b is =
    elim (cases_eq p.0 n) [
      | inl same ↦
          let here : answer_of (p ∷ ps) n ≡ Some p.1 = rw (same-test p.0 n same) refl in
          subst (λ (k : ℕ). answer_of path k ≡ Some b) same (All-head (IsAnswered path) p ps all ∙ (sym here ∙ is))
      | inr other ↦
          let rest : answer_of ps n ≡ Some b = subst (λ (o : Option Bool). o ≡ Some b) (let e : answer_of (p ∷ ps) n ≡ answer_of ps n = rw (other-test p.0 n other) refl in e) is in
          all-contained ps path (All-tail (IsAnswered path) p ps all) n b rest
    ]

contained-all : (answers path : Answers) → IsDistinct answers → Contained answers path → All (IsAnswered path) answers
contained-all answers path distinct inside =
    All-weaker (IsAnswered answers) (IsAnswered path) (λ a own. inside a.0 a.1 own) answers (own-answers answers distinct)

-- a stored list of which the path has each answer
pub stored-in : (store : List Answers) (n : ℕ) (answers path : Answers) (ok : Bool) → slice_get store n ≡ Some answers → IsDistinct answers → IsTrue ok ↔ All (IsAnswered path) answers → IsTrue ok ↔ IsStoredIn store n path
stored-in store n answers path ok at distinct says =
    let own : answers_at store n ≡ answers = get_or_from_slice_get store n answers [] at in (
      λ yes. record { within = slice_get_within store n answers at; there = subst (λ (a : Answers). Contained a path) (sym own) (all-contained answers path (says.0 yes)) },
      λ is. says.1 (contained-all answers path distinct (subst (λ (a : Answers). Contained a path) own is.there)),
    )

-- ---- the tree of a refutation by its form

pub of-split : (n : ℕ) (y z : Rc Refutation Global) (r : Refutation) → r ≡ Split n y z → proof_of r ≡ split n (proof_of y.value) (proof_of z.value)
of-split n y z r is = ap proof_of is ∙ search (rules, the_lemmas)

of-slot : (core : List ℕ) (proof : Rc SlotProof Global) (r : Refutation) → r ≡ BySlot core proof → proof_of r ≡ by_slot core proof.value
of-slot core proof r is = ap proof_of is ∙ search (rules, the_lemmas)

pub of-label : (n : ℕ) (answers : Answers) (inner : Rc Refutation Global) (r : Refutation) → r ≡ Label n answers inner → proof_of r ≡ label n answers (proof_of inner.value)
of-label n answers inner r is = ap proof_of is ∙ search (rules, the_lemmas)

-- ---- parts

module _ (s : Shortening) (r : Refutation) (path : Answers) (ok : Bool) where
  abbrev Still : Proof → Type 0
  Still p = IsStillClosed s p path ok

  pub still-slot : (core : List ℕ) (proof : Rc SlotProof Global) → r ≡ BySlot core proof → IsTrue ok ↔ All (λ n. IsSome (answer_of path n)) core → Still (proof_of r)
  still-slot core proof is says =
      subst Still (sym (of-slot core proof r is)) (λ schema many inside closes. (
        λ yes. accepts_alike schema s.query.now.tests many path core proof.value (λ k d small. sym (core-within core path many inside (says.0 yes) k d small)) closes,
        λ accepts. says.1 accepts.conflict.core_is.answered,
      ))

  pub still-label : (n : ℕ) (answers : Answers) (inner : Rc Refutation Global) → r ≡ Label n answers inner → IsTrue ok ↔ IsStoredIn s.learned.now.lists n path → Still (proof_of r)
  still-label n answers inner is says =
      subst Still (sym (of-label n answers inner r is)) (λ schema many inside closes.
      let own = closes.0 in
      let store = s.learned.now.lists in
      let listed : answers_at store n ≡ answers = get_or_from_slice_get store n answers [] own.stored in (
        λ yes. (record { stored = own.stored; rise = own.rise; there = subst (λ (a : Answers). Contained a path) listed (says.0 yes).there }, closes.1),
        λ here. says.1 (record { within = slice_get_within store n answers own.stored; there = subst (λ (a : Answers). Contained a path) (sym listed) here.0.there }),
      ))

module _ (s : Shortening) (n : ℕ) (y z : Proof) (path : Answers) where
  module _ (new : answer_of path n ≡ None) where
    pub sides-both : (ok : Bool) → IsStillClosed s y (path_with path n true) true → IsStillClosed s z (path_with path n false) ok → IsStillClosed s (split n y z) path ok
    sides-both ok first second schema many inside closes =
        let one = first schema (path_with many n true) (contained-both path many n true inside new closes.0.1) closes.1 in
        let other = second schema (path_with many n false) (contained-both path many n false inside new closes.0.1) closes.2 in
        (λ yes. ((closes.0.0, new), one.0 refl, other.0 yes), λ here. other.1 here.2)

    pub sides-all : {E : Type 0} (result : Result Bool E) → IsStillClosed s y (path_with path n true) true → IfOk result (IsStillClosed s z (path_with path n false)) → IfOk result (IsStillClosed s (split n y z) path)
    sides-all (Ok ok) first second = sides-both ok first second
    sides-all (Err e) first second = tt

pub not-some : (o : Option Bool) (ok : Bool) → ok ≡ false → IsTrue ok ↔ IsSome o → o ≡ None
not-some None ok e says = refl
not-some (Some b) ok e says = let yes : ok ≡ true = says.1 refl in absurd (cc)

-- ---- splits that a part doesn't need

module _ (s : Shortening) (part : Part) (path : Answers) (test : ℕ) (free : answer_of path test ≡ None) (r : Bool) where
  -- needs that leave the split's test open are of the split's path
  there-open : (needs : Answers) → Contained needs (path_with path test true) → answer_of needs test ≡ None → Contained needs path
  there-open needs inside new n b is =
      elim (cases_eq n test) [
        | inl e ↦ (let none : answer_of needs n ≡ None = rw e new in let bad : None ≡ Some b = sym none ∙ is in absurd (cc))
        | inr ne ↦ sym (answer_of-besides path test true n ne) ∙ inside n b is
      ]

  pub needless-just : (needs : Answers) → part.needs ≡ Just needs → IsTrue r ↔ (answer_of needs test ≡ None) → IsNeedless s part path test r
  needless-just needs is says schema are closes may =
      let just : NeedsJust (ClosesFor s schema (part_proof part)) (path_with path test true) needs = subst (λ (m : Needs). AreNeeds s.learned.now.lists (ClosesFor s schema (part_proof part)) (part_proof part) (path_with path test true) m) is are in
      let inside = contained-answered path test true in (
        λ yes. just.enough path inside (there-open needs just.there (says.0 yes)),
        λ here. says.1 (open-in needs path test (just.needed path inside here) free),
      )

  pub needless-open : part.needs ≡ Open → r ≡ false → IsNeedless s part path test r
  needless-open is off schema are closes may =
      let value_is : part_proof part ≡ by_value = subst (λ (m : Needs). AreNeeds s.learned.now.lists (ClosesFor s schema (part_proof part)) (part_proof part) (path_with path test true) m) is are in (
        λ on. (let bad : false ≡ true = sym off ∙ on in absurd (cc)),
        λ here. absurd (may (subst (λ (p : Proof). ClosesFor s schema p path) value_is here)),
      )

  pub needless-still : IsStillClosed s (part_proof part) path r → IsNeedless s part path test r
  needless-still still schema are closes may = still schema (path_with path test true) (contained-answered path test true) closes

pub needless-where : {E : Type 0} (s : Shortening) (part : Part) (path : Answers) (test : ℕ) (free : answer_of path test ≡ None) (result : Result Bool E) → IfOk result (IsStillClosed s (part_proof part) path) → IfOk result (IsNeedless s part path test)
needless-where s part path test free (Ok r) still = needless-still s part path test free r still
needless-where s part path test free (Err e) still = tt
