-- Clauses over numbered items, and the values that meet them, whatever the items and the literals are.
use Rattle.std.proofs.Common.{◌≡◌, ◌↔◌, inl, inr, ℕ, suc, ◌+◌, ◌<◌, List, [], ◌∷◌, ◌++◌, length, drop, flat_map, Bool, true, false, not, MatchBool, All, Any, refl, ◌∙◌, append_assoc, arith}
use Rattle.std.proofs.lemmas.List.Elements.{All-nil, All-cons, All-head, All-tail, All-append}
use Rattle.policy_model.specs.declared.cond.Cond.{Cond}
use Rattle.policy_model.specs.declared.value.Value.{Value}
use Rattle.policy_model.specs.Conds.{CondMeets, MeetsSome}
use Rattle.set_operators.specs.declared.ask.KeyAsk.{KeyAsk}
use Rattle.set_operators.specs.declared.ask.KeyAsk.TheVariants.{Present, SomeMeets, SomeMeetsNone}
use Rattle.set_operators.specs.Asks.{Asks}
use Rattle.set_operators.specs.Clauses.{ask_clauses, ask_items, asks_clauses, numbered_literals, numbered_apart, item_clauses}
use Rattle.set_operators.specs.Members.{AnswersEach, MeetsAsk}
use Rattle.set_operators.specs.Shown.{AbsentIsWanted}
use Rattle.set_operators.proofs.Lists.{any-here, any-there, any-nil, any-cases, any-one, any-spread, all-left, all-right, drop-tail, drop-within, drop-past}

-- it holds, or it doesn't
abbrev pub HoldsSo : Bool → Type 0 → Type 0
HoldsSo holds P = MatchBool holds P (P → ⊥)

module _ {L X : Type 0} (literal : Bool → ℕ → L) (items : List X) where
  -- ---- literals name items

  module _ (Q : L → Type 0) (within : (holds : Bool) (i : ℕ) → i < length items → Q (literal holds i)) where
    range-numbered : (holds : Bool) (xs : List X) (i : ℕ) (rest : List X) → drop i items ≡ xs ++ rest → All Q (numbered_literals (literal holds) i (length xs))
    range-numbered holds [] i rest e = All-nil Q
    range-numbered holds (x ∷ xs) i rest e =
        All-cons Q (literal holds i) (numbered_literals (literal holds) (i + 1) (length xs)) (within holds i (drop-within items i x (xs ++ rest) e))
        (range-numbered holds xs (i + 1) rest (drop-tail items i x (xs ++ rest) e))

    range-apart : (holds : Bool) (xs : List X) (i : ℕ) (rest : List X) → drop i items ≡ xs ++ rest → All (All Q) (numbered_apart (literal holds) i (length xs))
    range-apart holds [] i rest e = All-nil (All Q)
    range-apart holds (x ∷ xs) i rest e =
        All-cons (All Q) (literal holds i ∷ []) (numbered_apart (literal holds) (i + 1) (length xs)) (All-cons Q (literal holds i) [] (within holds i (drop-within items i x (xs ++ rest) e)) (All-nil Q))
        (range-apart holds xs (i + 1) rest (drop-tail items i x (xs ++ rest) e))

    pub range-some : (holds : Bool) (xs : List X) (i : ℕ) (rest : List X) → drop i items ≡ xs ++ rest → All (All Q) (item_clauses literal holds i (length xs))
    range-some true xs i rest e = All-cons (All Q) (numbered_literals (literal true) i (length xs)) [] (range-numbered true xs i rest e) (All-nil (All Q))
    range-some false xs i rest e = range-apart false xs i rest e

    module _ (parts : Cond → List X) where
      abbrev counts : KeyAsk → ℕ
      counts ask = length (ask_items parts ask)

      range-ask : (ask : KeyAsk) (answer : Bool) (i : ℕ) (rest : List X) → drop i items ≡ ask_items parts ask ++ rest → All (All Q) (ask_clauses literal ask answer i (counts ask))
      range-ask Present answer i rest e = All-nil (All Q)
      range-ask (SomeMeets c) answer i rest e = range-some answer (parts c) i rest e
      range-ask (SomeMeetsNone cs) answer i rest e = range-some (not answer) (flat_map parts cs) i rest e

      pub range-asks : (asks : Asks) (i : ℕ) (rest : List X) → drop i items ≡ flat_map (λ a. ask_items parts a.0) asks ++ rest → All (All Q) (asks_clauses literal parts asks i)
      range-asks [] i rest e = All-nil (All Q)
      range-asks (a ∷ asks) i rest e =
          let more : List X = flat_map (λ b. ask_items parts b.0) asks in
          let here : drop i items ≡ ask_items parts a.0 ++ (more ++ rest) = e ∙ append_assoc (ask_items parts a.0) more rest in
          All-append (All Q) (ask_clauses literal a.0 a.1 i (counts a.0)) (asks_clauses literal parts asks (i + counts a.0)) (range-ask a.0 a.1 i (more ++ rest) here)
          (range-asks asks (i + counts a.0) rest (drop-past items (ask_items parts a.0) (more ++ rest) i here))

  -- ---- clauses are met where items are

  module _ (Met : L → Type 0) (P : X → Type 0)
      (at : (holds : Bool) (i : ℕ) (x : X) (rest : List X) → drop i items ≡ x ∷ rest → Met (literal holds i) ↔ HoldsSo holds (P x)) where
    abbrev MeetsAll : List (List L) → Type 0
    MeetsAll clauses = All (Any Met) clauses

    some-met : (xs : List X) (i : ℕ) (rest : List X) → drop i items ≡ xs ++ rest → Any Met (numbered_literals (literal true) i (length xs)) → Any P xs
    some-met [] i rest e m = absurd (any-nil Met m)
    some-met (x ∷ xs) i rest e m =
        elim (any-cases Met (literal true i) (numbered_literals (literal true) (i + 1) (length xs)) m) [
          | inl h ↦ any-here P x xs ((at true i x (xs ++ rest) e).0 h)
          | inr h ↦ any-there P x xs (some-met xs (i + 1) rest (drop-tail items i x (xs ++ rest) e) h)
        ]

    met-some : (xs : List X) (i : ℕ) (rest : List X) → drop i items ≡ xs ++ rest → Any P xs → Any Met (numbered_literals (literal true) i (length xs))
    met-some [] i rest e m = absurd (any-nil P m)
    met-some (x ∷ xs) i rest e m =
        elim (any-cases P x xs m) [
          | inl h ↦ any-here Met (literal true i) (numbered_literals (literal true) (i + 1) (length xs)) ((at true i x (xs ++ rest) e).1 h)
          | inr h ↦ any-there Met (literal true i) (numbered_literals (literal true) (i + 1) (length xs)) (met-some xs (i + 1) rest (drop-tail items i x (xs ++ rest) e) h)
        ]

    none-met : (xs : List X) (i : ℕ) (rest : List X) → drop i items ≡ xs ++ rest → MeetsAll (numbered_apart (literal false) i (length xs)) → Any P xs → ⊥
    none-met [] i rest e m w = any-nil P w
    none-met (x ∷ xs) i rest e m w =
        let first : Met (literal false i) = any-one Met (literal false i) (All-head (Any Met) (literal false i ∷ []) (numbered_apart (literal false) (i + 1) (length xs)) m) in
        elim (any-cases P x xs w) [
          | inl p ↦ (at false i x (xs ++ rest) e).0 first p
          | inr v ↦ none-met xs (i + 1) rest (drop-tail items i x (xs ++ rest) e) (All-tail (Any Met) (literal false i ∷ []) (numbered_apart (literal false) (i + 1) (length xs)) m) v
        ]

    met-none : (xs : List X) (i : ℕ) (rest : List X) → drop i items ≡ xs ++ rest → (Any P xs → ⊥) → MeetsAll (numbered_apart (literal false) i (length xs))
    met-none [] i rest e n = All-nil (Any Met)
    met-none (x ∷ xs) i rest e n =
        All-cons (Any Met) (literal false i ∷ []) (numbered_apart (literal false) (i + 1) (length xs))
        (any-here Met (literal false i) [] ((at false i x (xs ++ rest) e).1 (λ p. n (any-here P x xs p))))
        (met-none xs (i + 1) rest (drop-tail items i x (xs ++ rest) e) (λ v. n (any-there P x xs v)))

    -- some of the items are met, or none is
    pub so-met : (holds : Bool) (xs : List X) (i : ℕ) (rest : List X) → drop i items ≡ xs ++ rest → MeetsAll (item_clauses literal holds i (length xs)) → HoldsSo holds (Any P xs)
    so-met true xs i rest e m = some-met xs i rest e (All-head (Any Met) (numbered_literals (literal true) i (length xs)) [] m)
    so-met false xs i rest e m = none-met xs i rest e m

    pub met-so : (holds : Bool) (xs : List X) (i : ℕ) (rest : List X) → drop i items ≡ xs ++ rest → HoldsSo holds (Any P xs) → MeetsAll (item_clauses literal holds i (length xs))
    met-so true xs i rest e m = All-cons (Any Met) (numbered_literals (literal true) i (length xs)) [] (met-some xs i rest e m) (All-nil (Any Met))
    met-so false xs i rest e n = met-none xs i rest e n

    -- ---- and so the asks

    module _ (v : Value) (parts : Cond → List X)
        (one : (c : Cond) → CondMeets v c ↔ Any P (parts c))
        (stable : (xs : List X) → ((Any P xs → ⊥) → ⊥) → Any P xs) where
      some : (cs : List Cond) → MeetsSome cs v ↔ Any P (flat_map parts cs)
      some cs = any-spread P (CondMeets v) parts one cs

      abbrev count : KeyAsk → ℕ
      count ask = length (ask_items parts ask)

      abbrev Answers : KeyAsk → Bool → Type 0
      Answers ask answer = HoldsSo answer (MeetsAsk v ask)

      one-answered : (c : Cond) (answer : Bool) → HoldsSo answer (Any P (parts c)) → Answers (SomeMeets c) answer
      one-answered c true h = (one c).1 h
      one-answered c false h = λ m. h ((one c).0 m)

      answered-one : (c : Cond) (answer : Bool) → Answers (SomeMeets c) answer → HoldsSo answer (Any P (parts c))
      answered-one c true h = (one c).0 h
      answered-one c false h = λ m. h ((one c).1 m)

      none-answered : (cs : List Cond) (answer : Bool) → HoldsSo (not answer) (Any P (flat_map parts cs)) → Answers (SomeMeetsNone cs) answer
      none-answered cs true h = λ m. h ((some cs).0 m)
      none-answered cs false h = λ n. n ((some cs).1 h)

      answered-none : (cs : List Cond) (answer : Bool) → Answers (SomeMeetsNone cs) answer → HoldsSo (not answer) (Any P (flat_map parts cs))
      answered-none cs true h = λ m. h ((some cs).1 m)
      answered-none cs false h = stable (flat_map parts cs) (λ n. h (λ m. n ((some cs).0 m)))

      abbrev IsAbsence : KeyAsk → Bool → Type 0
      IsAbsence ask answer = let absence : KeyAsk × Bool = (Present, false) in let here : KeyAsk × Bool = (ask, answer) in here ≡ absence

      ask-met : (ask : KeyAsk) (answer : Bool) (i : ℕ) (rest : List X) → drop i items ≡ ask_items parts ask ++ rest → MeetsAll (ask_clauses literal ask answer i (count ask)) → (IsAbsence ask answer → ⊥) → Answers ask answer
      ask-met Present true i rest e m there = tt
      ask-met Present false i rest e m there = absurd (there refl)
      ask-met (SomeMeets c) answer i rest e m there = one-answered c answer (so-met answer (parts c) i rest e m)
      ask-met (SomeMeetsNone cs) answer i rest e m there = none-answered cs answer (so-met (not answer) (flat_map parts cs) i rest e m)

      met-ask : (ask : KeyAsk) (answer : Bool) (i : ℕ) (rest : List X) → drop i items ≡ ask_items parts ask ++ rest → Answers ask answer → MeetsAll (ask_clauses literal ask answer i (count ask))
      met-ask Present answer i rest e h = All-nil (Any Met)
      met-ask (SomeMeets c) answer i rest e h = met-so answer (parts c) i rest e (answered-one c answer h)
      met-ask (SomeMeetsNone cs) answer i rest e h = met-so (not answer) (flat_map parts cs) i rest e (answered-none cs answer h)

      abbrev So : KeyAsk × Bool → Type 0
      So a = Answers a.0 a.1

      -- a value that meets the clauses answers each ask, where none wants the key to be absent
      pub asks-met : (asks : Asks) (i : ℕ) (rest : List X) → drop i items ≡ flat_map (λ a. ask_items parts a.0) asks ++ rest → MeetsAll (asks_clauses literal parts asks i) → (AbsentIsWanted asks → ⊥) → AnswersEach v asks
      asks-met [] i rest e m there = All-nil So
      asks-met (a ∷ asks) i rest e m there =
          let more : List X = flat_map (λ b. ask_items parts b.0) asks in
          let here : drop i items ≡ ask_items parts a.0 ++ (more ++ rest) = e ∙ append_assoc (ask_items parts a.0) more rest in
          let first : List (List L) = ask_clauses literal a.0 a.1 i (count a.0) in
          let later : List (List L) = asks_clauses literal parts asks (i + count a.0) in
          All-cons So a asks (ask-met a.0 a.1 i (more ++ rest) here (all-left (Any Met) first later m) (λ same. there (0, omega arith, same)))
          (asks-met asks (i + count a.0) rest (drop-past items (ask_items parts a.0) (more ++ rest) i here) (all-right (Any Met) first later m) (λ w. there (suc w.0, omega (arith, w.1), w.2)))

      -- and the other way
      pub met-asks : (asks : Asks) (i : ℕ) (rest : List X) → drop i items ≡ flat_map (λ a. ask_items parts a.0) asks ++ rest → AnswersEach v asks → MeetsAll (asks_clauses literal parts asks i)
      met-asks [] i rest e h = All-nil (Any Met)
      met-asks (a ∷ asks) i rest e h =
          let more : List X = flat_map (λ b. ask_items parts b.0) asks in
          let here : drop i items ≡ ask_items parts a.0 ++ (more ++ rest) = e ∙ append_assoc (ask_items parts a.0) more rest in
          let first : List (List L) = ask_clauses literal a.0 a.1 i (count a.0) in
          let later : List (List L) = asks_clauses literal parts asks (i + count a.0) in
          All-append (Any Met) first later (met-ask a.0 a.1 i (more ++ rest) here (All-head So a asks h))
          (met-asks asks (i + count a.0) rest (drop-past items (ask_items parts a.0) (more ++ rest) i here) (All-tail So a asks h))
