-- Answers and labels in their lines.
use Rattle.std.proofs.Common.{◌≡◌, ℕ, Bool, true, false, List, ◌∷◌, Option, Some, None, Ok, refl, ap, ◌∙◌, subst, eqb, if◌then◌else◌}
use Rattle.std.proofs.lemmas.Bool.{and_from, and_left, and_right}
use Rattle.formula_tree.specs.Answers.{Answers}
use Rattle.proof_text.specs.LineForms.{answer_said, answers_of, number_said, signed_answer}
use Rattle.proof_text.specs.Steps.{IsSmallRead, are_answers_small, is_answer_small, is_label_small, is_small, label_parts, both_given, sign_said}

signed : (plus minus holds : Bool) (number : Option ℕ) → (if plus then Some true else (if minus then Some false else None)) ≡ Some holds →
    (if plus then signed_answer true number else (if minus then signed_answer false number else None)) ≡ signed_answer holds number
signed true minus holds number e = let same : true ≡ holds = cc in ap (λ b. signed_answer b number) same
signed false true holds number e = let same : false ≡ holds = cc in ap (λ b. signed_answer b number) same
signed false false holds number e = cc

answer-is : (part digits : List ℕ) (c : ℕ) (holds : Bool) → part ≡ c ∷ digits → sign_said c ≡ Some holds → answer_said part ≡ signed_answer holds (number_said digits)
answer-is part digits c holds is sign = ap answer_said is ∙ signed (eqb c 43) (eqb c 45) holds (number_said digits) sign

pub answer-large : (part digits : List ℕ) (c : ℕ) (holds : Bool) (o : Option ℕ) → part ≡ c ∷ digits → sign_said c ≡ Some holds → IsSmallRead is_small (number_said digits) (Ok o) → o ≡ None → IsSmallRead is_answer_small (answer_said part) (Ok None)
answer-large part digits c holds o is sign read none =
    let large : IsSmallRead is_small (number_said digits) (Ok None) = subst (λ (p : Option ℕ). IsSmallRead is_small (number_said digits) (Ok p)) none read in
    ((large.0, holds), answer-is part digits c holds is sign ∙ ap (signed_answer holds) large.1, large.2)

-- ---- labels

pub pair-first : {X Y : Type 0} (x : Option X) (y : Option Y) → x ≡ None → both_given x y ≡ None
pair-first None y e = refl
pair-first (Some x) y e = cc

pub pair-second : {X Y : Type 0} (x : Option X) (y : Option Y) → y ≡ None → both_given x y ≡ None
pair-second None y e = refl
pair-second (Some x) None e = refl
pair-second (Some x) (Some y) e = cc

pub label-read : (all parts : List (List ℕ)) (part : List ℕ) (o : Option ℕ) (p : Option Answers) → all ≡ part ∷ parts → IsSmallRead is_small (number_said part) (Ok o) → IsSmallRead are_answers_small (answers_of parts) (Ok p) → IsSmallRead is_label_small (label_parts all) (Ok (both_given o p))
label-read all parts part (Some n) (Some answers) is number given = (ap label_parts is ∙ ap (λ (x : Option ℕ). both_given x (answers_of parts)) number.0 ∙ ap (λ (y : Option Answers). both_given (Some n) y) given.0, and_from (is_small n) (are_answers_small answers) number.1 given.1)
label-read all parts part (Some n) None is number given = ((n, given.0), ap label_parts is ∙ ap (λ (x : Option ℕ). both_given x (answers_of parts)) number.0 ∙ ap (λ (y : Option Answers). both_given (Some n) y) given.1, and_right (is_small n) (are_answers_small given.0) given.2)
label-read all parts part None (Some answers) is number given = ((number.0, answers), ap label_parts is ∙ ap (λ (x : Option ℕ). both_given x (answers_of parts)) number.1 ∙ ap (λ (y : Option Answers). both_given (Some number.0) y) given.0, and_left (is_small number.0) (are_answers_small answers) number.2)
label-read all parts part None None is number given = ((number.0, given.0), ap label_parts is ∙ ap (λ (x : Option ℕ). both_given x (answers_of parts)) number.1 ∙ ap (λ (y : Option Answers). both_given (Some number.0) y) given.1, and_left (is_small number.0) (are_answers_small given.0) number.2)

pub label-large : (all parts : List (List ℕ)) (part : List ℕ) (o : Option ℕ) (p : Option Answers) → all ≡ part ∷ parts → IsSmallRead is_small (number_said part) (Ok o) → IsSmallRead are_answers_small (answers_of parts) (Ok p) → both_given o p ≡ None →
    IsSmallRead is_label_small (label_parts all) (Ok None)
label-large all parts part o p is number given none = subst (λ (x : Option (ℕ × Answers)). IsSmallRead is_label_small (label_parts all) (Ok x)) none (label-read all parts part o p is number given)
