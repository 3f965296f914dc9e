-- The steps of a search for values: which asks a member has to meet, and what a search for one comes to.
use Rattle.std.specs.Prelude.{◌≡◌, ◌≢◌, ◌+◌, ◌<◌, ◌==◌, ◌||◌, ⊤, ℕ, List, [], ◌∷◌, ◌++◌, length, slice_get, slice_index_or, Bool, true, not, cond, Some, All, Any, MatchBool}
use Rattle.wildcard_lang.specs.Places.{ShowWider}
use Rattle.pattern_automata.specs.declared.outcome.Product.{Product}
use Rattle.pattern_automata.specs.declared.wants.Wants.{Wants}
use Rattle.pattern_automata.specs.Answer.{IsProduct}
use Rattle.policy_model.specs.declared.cond.Cond.{Cond}
use Rattle.policy_model.specs.declared.schema.KeyRule.{KeyRule}
use Rattle.policy_model.specs.declared.value.Kind.TheVariants.{Text}
use Rattle.policy_model.specs.declared.value.Value.{Value}
use Rattle.policy_model.specs.Requests.{IsValueOf}
use Rattle.policy_model.specs.Soundness.{RuleIsSound}
use Rattle.set_operators.specs.declared.ask.KeyAsk.{KeyAsk}
use Rattle.set_operators.specs.declared.steps.Choice.{Choice}
use Rattle.set_operators.specs.declared.steps.Choice.TheVariants.{Each, Denied, DeniedAnd}
use Rattle.set_operators.specs.declared.steps.One.{One}
use Rattle.set_operators.specs.declared.steps.One.TheVariants as one
use Rattle.set_operators.specs.Asks.{AskIsOf, Asks}
use Rattle.set_operators.specs.Clauses.{asks_clauses, asks_items}
use Rattle.set_operators.specs.Members.{AnswersEach, HasMember, IsMemberFor, MeetsAsk, denied_asks, member_asks}
use Rattle.set_operators.specs.Shown.{AbsentIsWanted}
use Rattle.set_operators.specs.Wants.{IsClosedForValue, value_clauses, value_patterns}

-- the asks that are chosen: each, those that are answered no, or those and ask k
abbrev pub chosen_asks : Asks → Choice → Asks
chosen_asks asks Each = asks
chosen_asks asks Denied = denied_asks asks
chosen_asks asks (DeniedAnd k) = member_asks asks k

-- whether the ask at the index is chosen, by its answer
abbrev pub is_chosen : Choice → ℕ → Bool → Bool
is_chosen Each i answer = true
is_chosen Denied i answer = not answer
is_chosen (DeniedAnd k) i answer = (i == k) || not answer

-- of asks that are numbered from i on, those that are chosen
abbrev pub picked_asks : Choice → ℕ → Asks → Asks
picked_asks choice i [] = []
picked_asks choice i (a ∷ asks) = cond (is_chosen choice i a.1) (a ∷ picked_asks choice (i + 1) asks) (picked_asks choice (i + 1) asks)

-- what is asked so far, of which the rest is still to be added: the items, and the clauses over their numbers
pub record IsAskedSoFar {L X : Type 0} (literal : Bool → ℕ → L) (items_of : Cond → List X) (all rest : Asks) (so_far : List X) (named : List (List L))
    : Type 0 where
  pub items : asks_items items_of all ≡ so_far ++ asks_items items_of rest
  pub clauses : asks_clauses literal items_of all 0 ≡ named ++ asks_clauses literal items_of rest (length so_far)

-- the value answers the ask of this number, if it is chosen
abbrev pub AnswersAt : Value → Choice → ℕ → KeyAsk × Bool → Type 0
AnswersAt v choice i a = is_chosen choice i a.1 ≡ true → MatchBool a.1 (MeetsAsk v a.0) (¬ MeetsAsk v a.0)

-- the value answers each of the asks that are chosen
abbrev pub AnswersPicked : Value → Choice → Asks → Type 0
AnswersPicked v choice asks = (k : ℕ) (d : KeyAsk × Bool) → k < length asks → AnswersAt v choice k (slice_index_or asks k d)

-- the ask that is named is there
abbrev pub IsChoiceIn : Asks → Choice → Type 0
IsChoiceIn asks Each = ⊤
IsChoiceIn asks Denied = ⊤
IsChoiceIn asks (DeniedAnd k) = k < length asks

-- what a search for a member stands on: a sound rule, conditions on values of its kind, and no ask that the key be absent
pub record IsPosed (rule : KeyRule) (asks : Asks) : Type 0 where
  pub sound : RuleIsSound rule
  pub kinds : All (λ a. AskIsOf rule.kind a.0) asks
  pub there : ¬ AbsentIsWanted asks

-- the wants are what asks and rule want of one value
pub record IsWantsFor (rule : KeyRule) (asks : Asks) (wants : Wants) : Type 0 where
  pub patterns : wants.patterns ≡ value_patterns rule asks
  pub clauses : wants.clauses ≡ value_clauses rule asks

-- what a product may answer of a text that they want
abbrev pub IsProductOf : KeyRule → Asks → ℕ → Product → Type 0
IsProductOf rule asks states product = IsProduct (value_patterns rule asks) (value_clauses rule asks) states product

-- the members so far: each is permitted and meets nothing that is answered no, and of the first i asks each that is answered yes
-- is met by one
pub record AreMembersUpTo (rule : KeyRule) (asks : Asks) (i : ℕ) (values : List Value) : Type 0 where
  pub permitted : All (IsValueOf rule) values
  pub clear : All (λ v. AnswersEach v (denied_asks asks)) values
  pub met : (k : ℕ) (ask : KeyAsk) → k < i → slice_get asks k ≡ Some (ask, true) → Any (λ v. MeetsAsk v ask) values

-- what a search for one value may come to
abbrev pub IsOne : KeyRule → Asks → ℕ → One → Type 0
IsOne rule asks states (one.Found v) = IsMemberFor rule asks v
IsOne rule asks states (one.Closed set) = (rule.kind ≡ Text) × IsClosedForValue rule asks set
IsOne rule asks states one.Nothing = (rule.kind ≢ Text) × ¬ HasMember rule asks
IsOne rule asks states (one.TooMany texts) = (rule.kind ≡ Text) × ShowWider (value_patterns rule asks) states texts
