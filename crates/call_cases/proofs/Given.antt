-- Sound schemas, and tests that suit them.
use Rattle.std.proofs.Common.{◌≡◌, ◌≢◌, ℕ, List, [], ◌∷◌, length, All, Ordering, Less, Equal, Greater, Option, Some, None, Bool, ◌<◌, ◌+◌, ◌++◌, ◌∙◌, refl, sym, ap, subst, inl, inr, arith}
use Rattle.formula_tree.specs.Answers.{Answers, answer_of}
use Rattle.formula_tree.proofs.Laws.{answer_of-besides, cases_eq}
use Rattle.std.specs.Prelude.{MatchOption}
use Rattle.std.specs.Ordering.{match_ordering, nat_cmp}
use Rattle.std.specs.Cmp.Lexicographic.{slice_cmp}
use Rattle.std.proofs.lemmas.List.Elements.{All-nil, All-cons, All-head, All-tail}
use Rattle.text_table.specs.Table.{Entries, with_item}
use Rattle.policy_model.specs.declared.schema.KeyRule.{KeyRule}
use Rattle.policy_model.specs.declared.schema.Schema.{Schema}
use Rattle.policy_model.specs.declared.value.Kind.{Kind}
use Rattle.policy_model.specs.declared.value.Kind.TheVariants as kind
use Rattle.policy_model.specs.declared.value.Value.{Value}
use Rattle.policy_model.specs.declared.value.Value.TheVariants.{Word}
use Rattle.policy_model.specs.Requests.{IsOfKind}
use Rattle.policy_model.specs.Soundness.{IsShortValue, RuleIsSound, SchemaIsSound}
use Rattle.call_cases.specs.Cases.{AreShortTexts, IsShortText}

abbrev IsSoundEntry : List ℕ × KeyRule → Type 0
IsSoundEntry e = RuleIsSound e.1

abbrev Sound : Entries KeyRule → Type 0
Sound keys = All IsSoundEntry keys

-- ---- rules of keys

rule-with : (order : Ordering) (k key : List ℕ) (rule here : KeyRule) (es more : Entries KeyRule) → RuleIsSound rule → RuleIsSound here → Sound es → Sound more → Sound (match_ordering order ((key, rule) ∷ (k, here) ∷ es) ((k, rule) ∷ es) ((k, here) ∷ more))
rule-with Less k key rule here es more is was all made = All-cons IsSoundEntry (key, rule) ((k, here) ∷ es) is (All-cons IsSoundEntry (k, here) es was all)
rule-with Equal k key rule here es more is was all made = All-cons IsSoundEntry (k, rule) es is all
rule-with Greater k key rule here es more is was all made = All-cons IsSoundEntry (k, here) more was made

-- rules stay sound with one more
rules-with : (keys : Entries KeyRule) (key : List ℕ) (rule : KeyRule) → Sound keys → RuleIsSound rule → Sound (with_item keys key rule)
rules-with [] key rule all is = All-cons IsSoundEntry (key, rule) [] is (All-nil IsSoundEntry)
rules-with (e ∷ es) key rule all is =
    let rest = All-tail IsSoundEntry e es all in
    rule-with (slice_cmp nat_cmp key e.0) e.0 key rule e.1 es (with_item es key rule) is (All-head IsSoundEntry e es all) rest (rules-with es key rule rest is)

pub schema-with : (old new : Schema) (key : List ℕ) (rule : KeyRule) → SchemaIsSound old → RuleIsSound rule → new ≡ record old { keys = with_item old.keys key rule } → SchemaIsSound new
schema-with old new key rule sound is made =
    subst SchemaIsSound (sym made) (record { rules = rules-with old.keys key rule sound.rules is; shapes = sound.shapes })

-- two texts that are listed
pub two-texts : (values : List Value) (a b : List ℕ) → values ≡ Word a ∷ Word b ∷ [] → IsShortText a → IsShortText b → AreShortTexts values
two-texts values a b are first second = rw are (record {
  some = λ none. absurd (cc);
  texts = All-cons (IsOfKind kind.Text) (Word a) (Word b ∷ []) first.text (All-cons (IsOfKind kind.Text) (Word b) [] second.text (All-nil (IsOfKind kind.Text)));
  short = All-cons IsShortValue (Word a) (Word b ∷ []) first.short (All-cons IsShortValue (Word b) [] second.short (All-nil IsShortValue));
})

-- ---- tests on keys

-- what follows of a rule of the kind
pub of-kind : (o : Option KeyRule) (k : Kind) (P : KeyRule → Type 0) → MatchOption o ⊥ (λ rule. rule.kind ≡ k) → ((rule : KeyRule) → rule.kind ≡ k → P rule) → MatchOption o ⊥ P
of-kind None k P h f = absurd h
of-kind (Some rule) k P h f = f rule h

-- ---- paths

none-by : (o : Option Bool) → ((b : Bool) → o ≡ Some b → ⊥) → o ≡ None
none-by None h = refl
none-by (Some b) h = absurd (h b refl)

-- a path that answers tests below a number alone doesn't answer that one
pub unanswered-at : (path : Answers) (i : ℕ) → ((n : ℕ) (b : Bool) → answer_of path n ≡ Some b → n < i) → answer_of path i ≡ None
unanswered-at path i below = none-by (answer_of path i) (λ b e. let less : i < i = below i b e in absurd (omega (arith, less)))

-- with that one answered it answers tests up to it
pub answered-more : (path more : Answers) (i : ℕ) (a : Bool) → more ≡ path ++ (i, a) ∷ [] → ((n : ℕ) (b : Bool) → answer_of path n ≡ Some b → n < i) → (n : ℕ) (b : Bool) → answer_of more n ≡ Some b → n < i + 1
answered-more path more i a made below n b e =
    elim (cases_eq n i) [
      | inl same ↦ omega (arith, same)
      | inr other ↦
          let before : answer_of path n ≡ Some b = sym (answer_of-besides path i a n other) ∙ (ap (λ (p : Answers). answer_of p n) (sym made) ∙ e) in
          omega (arith, below n b before)
    ]
