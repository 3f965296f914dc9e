-- A name is read as an operator, at once or by its parts, exactly where it is how that operator is written.
use Rattle.std.proofs.Common.{◌≡◌, ◌-◌, ℕ, List, [], ◌∷◌, ◌++◌, length, take, drop, Bool, true, false, ◌&&◌, not, cond, find, Option, Some, None, bytes_eq, codes, refl, ap, sym, subst, ◌∙◌, append-nil, option_and_then, if◌then◌else◌}
use Rattle.std.proofs.lemmas.List.{take-append-drop}
use Rattle.std.proofs.lemmas.Slice.Eq.{bytes_eq-Decides}
use Rattle.policy_model.specs.declared.operator.Base.{Base}
use Rattle.policy_model.specs.declared.operator.Base.TheVariants as base
use Rattle.policy_model.specs.declared.operator.Quantifier.{Quantifier}
use Rattle.policy_model.specs.declared.operator.Quantifier.TheVariants.{Plain, ForAll, ForAny}
use Rattle.policy_model.specs.declared.operator.Operator.{Operator}
use Rattle.policy_model.specs.Operators.{is_null}
use Rattle.policy_model.specs.Soundness.{OperatorIsSound}
use Rattle.policy_json.specs.declared.operator_names.TheConstants.{COMPARING}
use Rattle.policy_json.specs.OperatorNames.{base_text, operator_of, operator_text, operator_with, operators, quantifier_text, suffix_text}
use Rattle.policy_json.specs.OperatorParts.{base_named, starts_with, ends_with, operator_by_parts, without_prefix, without_suffix}

-- ---- what is cut off

begins_is : (front text : List ℕ) → starts_with front text ≡ true → text ≡ front ++ drop (length front) text
begins_is front text e =
    sym (take-append-drop (length front) text) ∙ ap (λ (t : List ℕ). t ++ drop (length front) text) ((bytes_eq-Decides (take (length front) text) front).0 e)

ends_is : (end text : List ℕ) → ends_with end text ≡ true → text ≡ take (length text - length end) text ++ end
ends_is end text e =
    sym (take-append-drop (length text - length end) text) ∙ ap (λ (t : List ℕ). take (length text - length end) text ++ t) ((bytes_eq-Decides (drop (length text - length end) text) end).0 e)

abbrev cut_prefix : Bool → Bool → List ℕ → Quantifier × List ℕ
cut_prefix a b name = (if a then (ForAll, drop 13 name) else (if b then (ForAny, drop 12 name) else (Plain, name)))

prefix_cases : (a b : Bool) (name : List ℕ) → (a ≡ true → name ≡ codes "ForAllValues:" ++ drop 13 name) → (b ≡ true → name ≡ codes "ForAnyValue:" ++ drop 12 name) →
    name ≡ quantifier_text (cut_prefix a b name).0 ++ (cut_prefix a b name).1
prefix_cases true b name for_all for_any = for_all refl
prefix_cases false true name for_all for_any = for_any refl
prefix_cases false false name for_all for_any = refl

prefix_is : (name : List ℕ) → name ≡ quantifier_text (without_prefix name).0 ++ (without_prefix name).1
prefix_is name = prefix_cases (starts_with (codes "ForAllValues:") name) (starts_with (codes "ForAnyValue:") name) name (begins_is (codes "ForAllValues:") name) (begins_is (codes "ForAnyValue:") name)

abbrev cut_suffix : Bool → List ℕ → Bool × List ℕ
cut_suffix a name = (if a then (true, take (length name - 8) name) else (false, name))

suffix_cases : (a : Bool) (name : List ℕ) → (a ≡ true → name ≡ take (length name - 8) name ++ codes "IfExists") → name ≡ (cut_suffix a name).1 ++ suffix_text (cut_suffix a name).0
suffix_cases true name suffix = suffix refl
suffix_cases false name suffix = sym (append-nil name)

suffix_is : (name : List ℕ) → name ≡ (without_suffix name).1 ++ suffix_text (without_suffix name).0
suffix_is name = suffix_cases (ends_with (codes "IfExists") name) name (ends_is (codes "IfExists") name)

-- ---- what is found

find_step : {X : Type 0} (P : X → Type 0) (b : Bool) (y x : X) (rest : Option X) → (b ≡ true → P y) → (rest ≡ Some x → P x) → cond b (Some y) rest ≡ Some x → P x
find_step P true y x rest here there e = let same : y ≡ x = cc in subst P same (here refl)
find_step P false y x rest here there e = there e

find_tests : {X : Type 0} (test : X → Bool) (xs : List X) (x : X) → find test xs ≡ Some x → test x ≡ true
find_tests test [] x e = absurd cc
find_tests test (y ∷ ys) x e = find_step (λ z. test z ≡ true) (test y) y x (find test ys) (λ t. t) (find_tests test ys x) e

both : (a b : Bool) → (a && b) ≡ true → (a ≡ true) × (b ≡ true)
both true b e = (refl, e)
both false b e = cc

-- whether all pass
abbrev all_pass : {X : Type 0} → (X → Bool) → List X → Bool
all_pass good [] = true
all_pass good (x ∷ xs) = good x && all_pass good xs

find_good : {X : Type 0} (test good : X → Bool) (xs : List X) (x : X) → all_pass good xs ≡ true → find test xs ≡ Some x → good x ≡ true
find_good test good [] x all e = absurd cc
find_good test good (y ∷ ys) x all e =
    let parts = both (good y) (all_pass good ys) all in
    find_step (λ z. good z ≡ true) (test y) y x (find test ys) (λ t. parts.0) (find_good test good ys x parts.1) e

-- ---- soundness

abbrev is_plain : Quantifier → Bool
is_plain Plain = true
is_plain ForAll = false
is_plain ForAny = false

abbrev is_sound : Operator → Bool
is_sound o = (if is_null o.base then is_plain o.quantifier && not o.if_exists else true)

plain_is : (q : Quantifier) (i : Bool) → (is_plain q && not i) ≡ true → (q ≡ Plain) × (i ≡ false)
plain_is Plain false e = (refl, refl)
plain_is Plain true e = cc
plain_is ForAll i e = cc
plain_is ForAny i e = cc

sound_is : (o : Operator) → is_sound o ≡ true → OperatorIsSound o
sound_is o e = λ null. plain_is o.quantifier o.if_exists (subst (λ (b : Base). (if is_null b then is_plain o.quantifier && not o.if_exists else true) ≡ true) null e)

operators_sound : all_pass is_sound operators ≡ true
unfolding operators
operators_sound = refl

-- ---- names that are read

-- a name that is read as an operator is written so
pub operator_of-is : (name : List ℕ) (o : Operator) → operator_of name ≡ Some o → (name ≡ operator_text o) × OperatorIsSound o
unfolding operator_of
operator_of-is name o e = (
  (bytes_eq-Decides name (operator_text o)).0 (find_tests (λ p. bytes_eq name (operator_text p)) operators o e),
  sound_is o (find_good (λ p. bytes_eq name (operator_text p)) is_sound operators o operators_sound e),
)

-- what a step found
and_then_is : (q : Quantifier) (i : Bool) (found : Option Base) (P : Operator → Type 0) (o : Operator) → ((b : Base) → found ≡ Some b → P (operator_with b q i)) →
    option_and_then (λ b. Some (operator_with b q i)) found ≡ Some o → P o
and_then_is q i None P o step e = absurd cc
and_then_is q i (Some b) P o step e = let same : operator_with b q i ≡ o = cc in subst P same (step b refl)

not_null : (b : Base) → is_null b ≡ false → (q : Quantifier) (i : Bool) → OperatorIsSound (operator_with b q i)
not_null b other q i = λ null. let no : is_null base.Null ≡ false = subst (λ (c : Base). is_null c ≡ false) null other in absurd cc

not_true : (b : Bool) → not b ≡ true → b ≡ false
not_true true e = cc
not_true false e = refl

by_base : (name : List ℕ) (b : Base) → base_named (without_suffix (without_prefix name).1).1 ≡ Some b →
    let o : Operator = operator_with b (without_prefix name).0 (without_suffix (without_prefix name).1).0 in (name ≡ operator_text o) × OperatorIsSound o
by_base name b e =
    let rest = (without_prefix name).1 in
    let own = (without_suffix rest).1 in
    let written : base_text b ≡ own = (bytes_eq-Decides (base_text b) own).0 (find_tests (λ c. bytes_eq (base_text c) own) COMPARING b e) in
    let other : not (is_null b) ≡ true = find_good (λ c. bytes_eq (base_text c) own) (λ c. not (is_null c)) COMPARING b refl e in
    let plain = not_true (is_null b) other in
    (prefix_is name ∙ ap (λ (t : List ℕ). quantifier_text (without_prefix name).0 ++ t) (suffix_is rest ∙ ap (λ (t : List ℕ). t ++ suffix_text (without_suffix rest).0) (sym written)), not_null b plain _ _)

null_or : (null : Bool) (name : List ℕ) (o : Operator) (rest : Option Operator) → (null ≡ true → name ≡ codes "Null") → (rest ≡ Some o → (name ≡ operator_text o) × OperatorIsSound o) →
    (if null then Some (operator_with base.Null Plain false) else rest) ≡ Some o → (name ≡ operator_text o) × OperatorIsSound o
null_or true name o rest is there e =
    let same : operator_with base.Null Plain false ≡ o = cc in
    subst (λ (p : Operator). (name ≡ operator_text p) × OperatorIsSound p) same (is refl, λ n. (refl, refl))
null_or false name o rest is there e = there e

-- a name that is read by its parts is written so
pub by_parts-is : (name : List ℕ) (o : Operator) → operator_by_parts name ≡ Some o → (name ≡ operator_text o) × OperatorIsSound o
unfolding operator_by_parts
by_parts-is name o e =
    let rest = (without_prefix name).1 in
    null_or (bytes_eq name (codes "Null")) name o _ (bytes_eq-Decides name (codes "Null")).0
    (and_then_is (without_prefix name).0 (without_suffix rest).0 (base_named (without_suffix rest).1) (λ p. (name ≡ operator_text p) × OperatorIsSound p) o (by_base name)) e
