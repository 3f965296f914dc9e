-- Values of a slot that the schema permits are parts of valid requests.
use Rattle.std.proofs.Common.{◌≡◌, ◌≢◌, ◌<◌, ◌==◌, ◌∙◌, ◌++◌, if◌then◌else◌, not, ℕ, List, [], ◌∷◌, Bool, true, false, Option, Some, None, All, refl, sym, ap, subst, inl, inr, arith}
use Rattle.std.specs.Prelude.{IfSome}
use Rattle.std.proofs.lemmas.Bool.{and_from, and_parts, cases_eq}
use Rattle.std.proofs.lemmas.Bool.Decides.{nat_tests}
use Rattle.formula_tree.specs.Answers.{Answers, answer_of}
use Rattle.std.proofs.lemmas.List.Elements.{All-nil, All-cons}
use Rattle.wildcard_lang.specs.Text.{IsText}
use Rattle.text_table.specs.Table.{IsInOrder}
use Rattle.policy_model.specs.declared.schema.Schema.{Schema}
use Rattle.policy_model.specs.declared.test.Slot.{Slot}
use Rattle.policy_model.specs.declared.test.Test.{Test}
use Rattle.policy_model.specs.Principals.{IsOfAccount}
use Rattle.policy_model.specs.Soundness.{SchemaIsSound}
use Rattle.slot_theory.specs.declared.outcome.SlotValue.{SlotValue}
use Rattle.slot_theory.specs.Cores.{HasTest}
use Rattle.slot_theory.specs.Possible.{IsPossible, PathInRange}
use Rattle.slot_theory.specs.Slots.{AnswersSlot, AnswersTest, Permits, ValueMeets, slot_of}
use Rattle.summary_search.proofs.Answering.{found-possible, one-at, two-at}

apart-false : (a b : ℕ) → a ≢ b → (a == b) ≡ false
apart-false a b h = grind (arith, nat_tests)

-- an answer that isn't the first is one of the others
past-first : (path : Answers) (k n : ℕ) (answer b : Bool) → k ≢ n → answer_of ((k, answer) ∷ path) n ≡ Some b → answer_of path n ≡ Some b
past-first path k n answer b differ e = subst (λ (c : Bool). (if c then Some answer else answer_of path n) ≡ Some b) (apart-false k n differ) e

-- the numbers that are answered where one is, and where two are
one-asked : (answer b : Bool) (n : ℕ) → answer_of ((0, answer) ∷ []) n ≡ Some b → n < 1
one-asked answer b n e = elim (cases_eq 0 n) [
  | inl same ↦ omega arith
  | inr differ ↦ (let none = past-first [] 0 n answer b differ e in absurd (cc))
]

two-asked : (answer other b : Bool) (n : ℕ) → answer_of ((0, answer) ∷ (1, other) ∷ []) n ≡ Some b → n < 2
two-asked answer other b n e = elim (cases_eq 0 n) [
  | inl same ↦ omega arith
  | inr differ ↦ elim (cases_eq 1 n) [
    | inl same ↦ omega arith
    | inr apart ↦ (let none = past-first [] 1 n other b apart (past-first ((1, other) ∷ []) 0 n answer b differ e) in absurd (cc))
  ]
]

-- what holds of whichever value an option has
pub if-some : {X : Type 0} (P : X → Type 0) (o : Option X) (x : X) → IfSome o P → o ≡ Some x → P x
if-some P None x h e = absurd (cc)
if-some P (Some y) x h e = (let same : y ≡ x = cc in subst P same h)

answers-same : (v : SlotValue) (t u : Test) (a b : Bool) → a ≡ b → t ≡ u → AnswersTest v t a → AnswersTest v u b
answers-same v t u a b same one h = subst (λ (x : Test). AnswersTest v x b) one (subst (λ (x : Bool). AnswersTest v t x) same h)

module _ (schema : Schema) (s : Slot) (sound : SchemaIsSound schema) (order : IsInOrder schema.keys) (v : SlotValue) (permitted : Permits schema s v) where
  -- of one test
  pub one-found : (t : Test) (answer : Bool) → slot_of t ≡ s → AnswersTest v t answer → IsPossible schema (t ∷ []) ((0, answer) ∷ [])
  one-found t answer on answers = found-possible schema (t ∷ []) ((0, answer) ∷ []) s sound order range each asked v (permitted, told)
    where
      range : PathInRange (t ∷ []) ((0, answer) ∷ [])
      range n b e = one-asked answer b n e

      each : All (λ (u : Test). slot_of u ≡ s) (t ∷ [])
      each = All-cons (λ (u : Test). slot_of u ≡ s) t [] on (All-nil (λ (u : Test). slot_of u ≡ s))

      asked : HasTest (t ∷ []) ((0, answer) ∷ []) s
      asked = record { number = 0; is = record { answered = refl; on_slot = on } }

      told : AnswersSlot (t ∷ []) ((0, answer) ∷ []) s v
      told n b u e at own = let is = one-at t u answer b n e at in answers-same v t u answer b is.0 is.1 answers

  -- of two
  pub two-found : (t u : Test) → slot_of t ≡ s → slot_of u ≡ s → ValueMeets v t → ¬ ValueMeets v u → IsPossible schema (t ∷ u ∷ []) ((0, true) ∷ (1, false) ∷ [])
  two-found t u on other meets misses = found-possible schema (t ∷ u ∷ []) ((0, true) ∷ (1, false) ∷ []) s sound order range each asked v (permitted, told)
    where
      range : PathInRange (t ∷ u ∷ []) ((0, true) ∷ (1, false) ∷ [])
      range n b e = two-asked true false b n e

      each : All (λ (x : Test). slot_of x ≡ s) (t ∷ u ∷ [])
      each = All-cons (λ (x : Test). slot_of x ≡ s) t (u ∷ []) on (All-cons (λ (x : Test). slot_of x ≡ s) u [] other (All-nil (λ (x : Test). slot_of x ≡ s)))

      asked : HasTest (t ∷ u ∷ []) ((0, true) ∷ (1, false) ∷ []) s
      asked = record { number = 0; is = record { answered = refl; on_slot = on } }

      told : AnswersSlot (t ∷ u ∷ []) ((0, true) ∷ (1, false) ∷ []) s v
      told n b x e at own = elim (two-at t u x b n e at) [
        | inl is ↦ answers-same v t x true b is.0 is.1 meets
        | inr is ↦ answers-same v u x false b is.0 is.1 misses
      ]

-- ---- the shortest ARN of an account

abbrev before_account : List ℕ
before_account = 97 ∷ 114 ∷ 110 ∷ 58 ∷ 58 ∷ 58 ∷ 58 ∷ []

account-made : (account same first more got : List ℕ) → same ≡ account → first ≡ before_account → more ≡ first ++ same → got ≡ more ++ 58 ∷ [] → got ≡ (before_account ++ account) ++ 58 ∷ []
account-made account same first more got is begins longer ends =
    ends ∙ ap (λ (t : List ℕ). t ++ 58 ∷ []) (longer ∙ ap (λ (t : List ℕ). t ++ same) begins ∙ ap (λ (t : List ℕ). before_account ++ t) is)

-- it is one of the account
pub account-chars : (account same first more got text : List ℕ) → same ≡ account → first ≡ before_account → more ≡ first ++ same → got ≡ more ++ 58 ∷ [] → text ≡ got → IsOfAccount account text
account-chars account same first more got text is begins longer ends made = record {
  partition = [];
  service = [];
  region = [];
  rest = [];
  plain_partition = refl;
  plain_service = refl;
  plain_region = refl;
  is = made ∙ account-made account same first more got is begins longer ends;
}

-- and a text
pub account-text : (account same first more got : List ℕ) → IsText account → same ≡ account → first ≡ before_account → more ≡ first ++ same → got ≡ more ++ 58 ∷ [] → IsText got
account-text account same first more got text is begins longer ends = subst IsText (sym (account-made account same first more got is begins longer ends)) (text-colon account text)
  where
    text-colon : (a : List ℕ) → IsText a → IsText (a ++ 58 ∷ [])
    text-colon [] h = refl
    text-colon (c ∷ a) h = let parts = and_parts _ _ h in and_from _ _ parts.0 (text-colon a parts.1)

-- no answer is yes and no
pub never-both : (b : Bool) → not b ≡ true → b ≡ true → ⊥
never-both true off on = absurd (cc)
never-both false off on = absurd (cc)
