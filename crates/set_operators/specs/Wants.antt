-- What asks and the rule of a text key put on one value: patterns in a fixed order, and clauses over their numbers. Certificates
-- list places in this order: the patterns of the asks in their order, those of one list in its order, each as often as it stands,
-- and then the key's shape or its listed texts.
use Rattle.std.specs.Prelude.{ℕ, ◌+◌, List, [], ◌∷◌, ◌++◌, length, flat_map, Bool, true, false, Option, Some, None, unwrap_or}
use Rattle.std.specs.Option.{option_to_list}
use Rattle.wildcard_lang.specs.declared.piece.Piece.{Piece}
use Rattle.wildcard_lang.specs.Reading.{literals}
use Rattle.pattern_automata.specs.declared.wants.Literal.{Literal}
use Rattle.pattern_automata.specs.Closed.{IsClosed}
use Rattle.policy_model.specs.declared.cond.Cond.{Cond}
use Rattle.policy_model.specs.declared.cond.Cond.TheVariants.{Matches, Compares, Inside, Flag, Equals}
use Rattle.policy_model.specs.declared.schema.KeyRule.{KeyRule}
use Rattle.policy_model.specs.declared.value.Value.{Value}
use Rattle.policy_model.specs.declared.value.Value.TheVariants as value
use Rattle.set_operators.specs.declared.ask.KeyAsk.{KeyAsk}
use Rattle.set_operators.specs.Asks.{Asks}
use Rattle.set_operators.specs.Clauses.{ask_items, asks_clauses, asks_items, item_clauses}

-- the pattern of a condition on texts
abbrev pub cond_patterns : Cond → List (List Piece)
cond_patterns (Matches p) = p ∷ []
cond_patterns (Compares compare bound) = []
cond_patterns (Inside block) = []
cond_patterns (Flag at_true at_false) = []
cond_patterns (Equals bytes) = []

-- the patterns of an ask
abbrev pub ask_patterns : KeyAsk → List (List Piece)
ask_patterns ask = ask_items cond_patterns ask

-- a listed text, as the pattern that matches it alone
abbrev pub listed_pattern : Value → List (List Piece)
listed_pattern (value.Word t) = literals false t ∷ []
listed_pattern (value.Truth b) = []
listed_pattern (value.Number n) = []
listed_pattern (value.Address a) = []
listed_pattern (value.Bytes bs) = []

-- the patterns of listed texts
abbrev pub listed_patterns : List Value → List (List Piece)
listed_patterns listed = flat_map listed_pattern listed

-- what the rule of a key asks of its values: its shape, or its listed texts in their order
abbrev pub rule_patterns : KeyRule → List (List Piece)
rule_patterns rule = option_to_list rule.shape ++ listed_patterns (unwrap_or rule.among [])

-- that the pattern of this number matches or not
abbrev pub literal_at : Bool → ℕ → Literal
literal_at holds i = record { pattern = i; holds = holds }

-- the clause that the shape matches, where one is given
abbrev pub shape_clause : Option (List Piece) → ℕ → List (List Literal)
shape_clause None i = []
shape_clause (Some shape) i = item_clauses literal_at true i 1

-- the clause that one of the listed texts matches, where some are listed
abbrev pub list_clause : Option (List Value) → ℕ → List (List Literal)
list_clause None i = []
list_clause (Some listed) i = item_clauses literal_at true i (length (listed_patterns listed))

-- the clause of the rule, whose patterns are numbered from i on
abbrev pub rule_clauses : KeyRule → ℕ → List (List Literal)
rule_clauses rule i = shape_clause rule.shape i ++ list_clause rule.among (i + length (option_to_list rule.shape))

-- the patterns of asks in their order
abbrev pub asks_patterns : Asks → List (List Piece)
asks_patterns asks = asks_items cond_patterns asks

-- the patterns and the clauses that the asks, and then the rule, put on one value
abbrev pub value_patterns : KeyRule → Asks → List (List Piece)
value_patterns rule asks = asks_patterns asks ++ rule_patterns rule

abbrev pub value_clauses : KeyRule → Asks → List (List Literal)
value_clauses rule asks = asks_clauses literal_at cond_patterns asks 0 ++ rule_clauses rule (length (asks_patterns asks))

-- the set is closed under the patterns and the clauses of one value
abbrev pub IsClosedForValue : KeyRule → Asks → List (List (List ℕ)) → Type 0
IsClosedForValue rule asks set = IsClosed (value_patterns rule asks) (value_clauses rule asks) set
