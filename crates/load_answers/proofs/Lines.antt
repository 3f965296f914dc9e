-- The first line of a text, and sets under the schema of their run.
use Rattle.std.proofs.Common.{◌≡◌, ◌≢◌, ◌<◌, ◌++◌, ℕ, suc, List, [], ◌∷◌, length, get_or, ap, refl, arith, ne_eqb, subst, sym}
use Rattle.policy_model.specs.declared.schema.Schema.{Schema}
use Rattle.policy_model.specs.declared.set.PolicySet.{PolicySet}
use Rattle.run_inputs.specs.declared.one_set.OneSet.{OneSet}
use Rattle.run_inputs.specs.declared.pair.Pair.{Pair}
use Rattle.run_inputs.specs.OneSets.{IsSetRunOf, SomeSetRun}
use Rattle.run_inputs.specs.Pairs.{IsPairRunOf, SomePairRun}
use Rattle.load_answers.specs.Loaded.{line_of}

-- the text in front of the first line feed
pub before_feed : (front rest : List ℕ) → ((i : ℕ) → i < length front → get_or front i 0 ≢ 10) → line_of (front ++ (10 ∷ rest)) ≡ front
before_feed [] rest none = refl
before_feed (b ∷ bs) rest none =
    rw (ne_eqb b 10 (none 0 (omega arith))) (ap (λ l. b ∷ l) (before_feed bs rest (λ i lt. none (suc i) (omega arith))))

-- a text without one
pub without_feed : (text : List ℕ) → ((i : ℕ) → i < length text → get_or text i 0 ≢ 10) → line_of text ≡ text
without_feed [] none = refl
without_feed (b ∷ bs) none =
    rw (ne_eqb b 10 (none 0 (omega arith))) (ap (λ l. b ∷ l) (without_feed bs (λ i lt. none (suc i) (omega arith))))

-- ---- sets under the schema of their run

-- what holds of a pair holds of the two sets
pub run_same : (named : Schema) (one two : PolicySet) (pair : Pair) (P : Pair → Type 0) → IsPairRunOf named one two pair → P pair → SomePairRun named one two P
run_same named one two pair P of here = record { answered = of.answered; holds = subst P (sym of.holds) here }

pub one_same : (named : Schema) (set : PolicySet) (one : OneSet) (P : OneSet → Type 0) → IsSetRunOf named set one → P one → SomeSetRun named set P
one_same named set one P of here = record { answered = of.answered; holds = subst P (sym of.holds) here }
