-- Clauses over numbered items. The items are patterns where the value is a text, and conditions where it isn't; a literal says of
-- the item of a number whether the value is to meet it.
use Rattle.std.specs.Prelude.{ℕ, zero, suc, ◌+◌, List, [], ◌∷◌, ◌++◌, length, flat_map, Bool, true, false, not}
use Rattle.policy_model.specs.declared.cond.Cond.{Cond}
use Rattle.set_operators.specs.declared.ask.KeyAsk.{KeyAsk}
use Rattle.set_operators.specs.declared.ask.KeyAsk.TheVariants.{Present, SomeMeets, SomeMeetsNone}
use Rattle.set_operators.specs.Asks.{Asks}

-- the items of an ask, where each condition has these
abbrev pub ask_items : {X : Type 0} → (Cond → List X) → KeyAsk → List X
ask_items items Present = []
ask_items items (SomeMeets c) = items c
ask_items items (SomeMeetsNone cs) = flat_map items cs

-- the items of asks in their order
abbrev pub asks_items : {X : Type 0} → (Cond → List X) → Asks → List X
asks_items items asks = flat_map (λ a. ask_items items a.0) asks

-- one literal for each of n items, which are numbered from i on
abbrev pub numbered_literals : {L : Type 0} → (ℕ → L) → ℕ → ℕ → List L
numbered_literals literal i zero = []
numbered_literals literal i (suc n) = literal i ∷ numbered_literals literal (i + 1) n

-- the same, each as a clause of its own
abbrev pub numbered_apart : {L : Type 0} → (ℕ → L) → ℕ → ℕ → List (List L)
numbered_apart literal i zero = []
numbered_apart literal i (suc n) = (literal i ∷ []) ∷ numbered_apart literal (i + 1) n

-- that the value meets some of the items is one clause for all, which of no items is the empty one, that nothing meets; that it
-- meets none is a clause for each
abbrev pub item_clauses : {L : Type 0} → (Bool → ℕ → L) → Bool → ℕ → ℕ → List (List L)
item_clauses literal true i n = numbered_literals (literal true) i n ∷ []
item_clauses literal false i n = numbered_apart (literal false) i n

-- the clauses of an ask with its answer, whose n items are numbered from i on. That there is a value is no clause
abbrev pub ask_clauses : {L : Type 0} → (Bool → ℕ → L) → KeyAsk → Bool → ℕ → ℕ → List (List L)
ask_clauses literal Present answer i n = []
ask_clauses literal (SomeMeets c) answer i n = item_clauses literal answer i n
ask_clauses literal (SomeMeetsNone cs) answer i n = item_clauses literal (not answer) i n

-- the clauses of asks in their order, whose items are numbered from i on
abbrev pub asks_clauses : {L X : Type 0} → (Bool → ℕ → L) → (Cond → List X) → Asks → ℕ → List (List L)
asks_clauses literal items [] i = []
asks_clauses literal items (a ∷ asks) i =
    ask_clauses literal a.0 a.1 i (length (ask_items items a.0)) ++ asks_clauses literal items asks (i + length (ask_items items a.0))
