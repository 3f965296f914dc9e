-- The checks of a line, form by form.
use Rattle.std.proofs.Common.{◌≡◌, ℕ, Bool, true, false, ◌&&◌, List, [], ◌∷◌, Option, Some, None, Ok, option_map, nat_lt, refl, ap, ◌∙◌, subst}
use Rattle.std.specs.List.{list_all}
use Rattle.formula_tree.specs.Answers.{Answers}
use Rattle.proof_text.specs.Faults.{answered_tests, fault_of_line, is_of_version, is_ordered, is_shallow, numbers_in, tests_named}
use Rattle.proof_text.specs.LineForms.{Expected, answers_of, label_said, label_line_of, number_said}
use Rattle.proof_text.specs.Lines.{Line, label_line}
use Rattle.proof_text.specs.Steps.{IsSmallRead, are_answers_small, are_small, is_label_small, is_small, label_parts, both_given}
use Rattle.proof_text.specs.declared.fault.ProofCode.{ProofCode}
use Rattle.proof_text.specs.declared.fault.ProofCode.TheVariants.{C1Syntax, C3TestNumber, C4Limit}
use Rattle.proof_text.specs.declared.limits.Limits.{Limits}

-- ---- the checks one by one

pub fault-size : (limits : Limits) (begun : ℕ) (e : Expected) (l : Line) → are_small (numbers_in l) ≡ false → fault_of_line limits begun e (Some l) ≡ Some C4Limit
fault-size limits begun e l size = rw size

pub fault-order : (limits : Limits) (begun : ℕ) (e : Expected) (l : Line) → are_small (numbers_in l) ≡ true → is_ordered begun e l ≡ false → fault_of_line limits begun e (Some l) ≡ Some C1Syntax
fault-order limits begun e l size order = rw (size, order)

pub fault-test : (limits : Limits) (begun : ℕ) (e : Expected) (l : Line) → are_small (numbers_in l) ≡ true → is_ordered begun e l ≡ true → is_of_version limits.version l ≡ true → list_all (λ n. nat_lt n limits.tests) (tests_named l) ≡ false →
    fault_of_line limits begun e (Some l) ≡ Some C3TestNumber
fault-test limits begun e l size order version tests = rw (size, order, version, tests)

pub fault-depth : (limits : Limits) (begun : ℕ) (e : Expected) (l : Line) → are_small (numbers_in l) ≡ true → is_ordered begun e l ≡ true → is_of_version limits.version l ≡ true → list_all (λ n. nat_lt n limits.tests) (tests_named l) ≡ true → is_shallow e l ≡ false →
    fault_of_line limits begun e (Some l) ≡ Some C4Limit
fault-depth limits begun e l size order version tests depth = rw (size, order, version, tests, depth)

pub fault-none : (limits : Limits) (begun : ℕ) (e : Expected) (l : Line) → are_small (numbers_in l) ≡ true → is_ordered begun e l ≡ true → is_of_version limits.version l ≡ true → list_all (λ n. nat_lt n limits.tests) (tests_named l) ≡ true → is_shallow e l ≡ true →
    fault_of_line limits begun e (Some l) ≡ None
fault-none limits begun e l size order version tests depth = rw (size, order, version, tests, depth)

-- ---- what a part of a line says, and the line

pub line-large : {X : Type 0} (small : X → Bool) (l : X → Line) (limits : Limits) (begun : ℕ) (e : Expected) (said o : Option X) → ((x : X) → are_small (numbers_in (l x)) ≡ small x) → IsSmallRead small said (Ok o) → o ≡ None →
    fault_of_line limits begun e (option_map l said) ≡ Some C4Limit
line-large {X} small l limits begun e said o tells read none =
    let large : IsSmallRead small said (Ok None) = subst (λ (p : Option X). IsSmallRead small said (Ok p)) none read in
    ap (λ (p : Option X). fault_of_line limits begun e (option_map l p)) large.1 ∙ fault-size limits begun e (l large.0) (tells large.0 ∙ large.2)

pub line-small : {X : Type 0} (small : X → Bool) (l : X → Line) (said o : Option X) (x : X) → ((x : X) → are_small (numbers_in (l x)) ≡ small x) → IsSmallRead small said (Ok o) → o ≡ Some x →
    (option_map l said ≡ Some (l x)) × (are_small (numbers_in (l x)) ≡ true)
line-small {X} small l said o x tells read some =
    let given : IsSmallRead small said (Ok (Some x)) = subst (λ (p : Option X). IsSmallRead small said (Ok p)) some read in
    (ap (λ (p : Option X). option_map l p) given.0, tells x ∙ given.1)

pub line-fails : (limits : Limits) (begun : ℕ) (e : Expected) (said : Option Line) (l : Line) (code : ProofCode) → said ≡ Some l → fault_of_line limits begun e (Some l) ≡ Some code → fault_of_line limits begun e said ≡ Some code
line-fails limits begun e said l code is fault = ap (λ (o : Option Line). fault_of_line limits begun e o) is ∙ fault

-- ---- labels

label-forms : (o : Option ℕ) (p : Option Answers) → label_line_of o p ≡ option_map (λ (x : ℕ × Answers). label_line x.0 x.1) (both_given o p)
label-forms None p = refl
label-forms (Some n) None = refl
label-forms (Some n) (Some given) = refl

pub label-form : (parts : List (List ℕ)) → label_said parts ≡ option_map (λ (x : ℕ × Answers). label_line x.0 x.1) (label_parts parts)
label-form [] = refl
label-form (part ∷ parts) = label-forms (number_said part) (answers_of parts)

tests-small : (given : Answers) → are_small (answered_tests given) ≡ are_answers_small given
tests-small [] = refl
tests-small (p ∷ given) = ap (λ b. is_small p.0 && b) (tests-small given)

pub label-tells : (x : ℕ × Answers) → are_small (numbers_in (label_line x.0 x.1)) ≡ is_label_small x
label-tells x = ap (λ b. is_small x.0 && b) (tests-small x.1)

pub label-known : (parts : List (List ℕ)) (o : Option (ℕ × Answers)) (x : ℕ × Answers) → IsSmallRead is_label_small (label_parts parts) (Ok o) → o ≡ Some x → (label_said parts ≡ Some (label_line x.0 x.1)) × (are_small (numbers_in (label_line x.0 x.1)) ≡ true)
label-known parts o x read some =
    let known = line-small is_label_small (λ (y : ℕ × Answers). label_line y.0 y.1) (label_parts parts) o x label-tells read some in
    (label-form parts ∙ known.0, known.1)

pub label-too_large : (limits : Limits) (begun : ℕ) (e : Expected) (parts : List (List ℕ)) (o : Option (ℕ × Answers)) → IsSmallRead is_label_small (label_parts parts) (Ok o) → o ≡ None → fault_of_line limits begun e (label_said parts) ≡ Some C4Limit
label-too_large limits begun e parts o read none =
    ap (λ (s : Option Line). fault_of_line limits begun e s) (label-form parts) ∙ line-large is_label_small (λ (y : ℕ × Answers). label_line y.0 y.1) limits begun e (label_parts parts) o label-tells read none
