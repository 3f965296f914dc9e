-- Lists of tests that are read one after the other.
use Rattle.std.proofs.Common.{◌≡◌, ℕ, suc, zero, List, [], ◌∷◌, ◌++◌, Some, refl, ap, sym, ◌∙◌}
use Rattle.std.specs.Prelude.{slice_get}
use Rattle.std.proofs.lemmas.List.{append_assoc, append-nil}
use Rattle.policy_model.specs.declared.test.Test.{Test}
use Rattle.policy_compile.specs.Plans.{Plan, of_plans, tests_in, tests_in_each}
use Rattle.policy_compile.specs.Building.{IsBeginningOf}
use Rattle.policy_compile.specs.Numbering.{Collects, nothing, again, anew, HasTooMany}

-- tests that are read in two parts
pub Collects-append : (a xs b ys c : List Test) → Collects a xs b → Collects b ys c → Collects a (xs ++ ys) c
Collects-append a [] b ys c nothing second = second
Collects-append a (t ∷ xs) b ys c (again had first) second = again had (Collects-append a xs b ys c first second)
Collects-append a (t ∷ xs) b ys c (anew not_had first) second = anew not_had (Collects-append (a ++ t ∷ []) xs b ys c first second)

-- the tests that are had stay at the front
pub Collects-begins : (a xs b : List Test) → Collects a xs b → IsBeginningOf a b
Collects-begins a [] b nothing = record { rest = []; is = sym (append-nil a) }
Collects-begins a (t ∷ xs) b (again had first) = Collects-begins a xs b first
Collects-begins a (t ∷ xs) b (anew not_had first) =
    let longer : IsBeginningOf (a ++ t ∷ []) b = Collects-begins (a ++ t ∷ []) xs b first in
    record { rest = t ∷ longer.rest; is = longer.is ∙ append_assoc a (t ∷ []) longer.rest }

-- an item keeps its index where a list grows at its end
pub slice_get-longer : {T : Type 0} (xs ys : List T) (n : ℕ) (x : T) → slice_get xs n ≡ Some x → slice_get (xs ++ ys) n ≡ Some x
slice_get-longer [] ys n x e = absurd (cc)
slice_get-longer (y ∷ xs) ys zero x e = e
slice_get-longer (y ∷ xs) ys (suc n) x e = slice_get-longer xs ys n x e

-- the tests of branches after branches
pub tests_in_each-append : (ps qs : List Plan) → tests_in_each (of_plans (ps ++ qs)) ≡ tests_in_each (of_plans ps) ++ tests_in_each (of_plans qs)
tests_in_each-append [] qs = refl
tests_in_each-append (p ∷ ps) qs =
    ap (λ xs. tests_in p ++ xs) (tests_in_each-append ps qs) ∙ sym (append_assoc (tests_in p) (tests_in_each (of_plans ps)) (tests_in_each (of_plans qs)))

-- too many tests stay too many, whatever is read after them, and before them
pub HasTooMany-more : (a xs ys : List Test) → HasTooMany a xs → HasTooMany a (xs ++ ys)
HasTooMany-more a xs ys h = record {
  front = h.front;
  rest = h.rest ++ ys;
  got = h.got;
  is = ap (λ zs. zs ++ ys) h.is ∙ append_assoc h.front h.rest ys;
  collects = h.collects;
  many = h.many;
}

pub HasTooMany-behind : (a xs b ys : List Test) → Collects a xs b → HasTooMany b ys → HasTooMany a (xs ++ ys)
HasTooMany-behind a xs b ys first h = record {
  front = xs ++ h.front;
  rest = h.rest;
  got = h.got;
  is = ap (λ zs. xs ++ zs) h.is ∙ sym (append_assoc xs h.front h.rest);
  collects = Collects-append a xs b h.front h.got first h.collects;
  many = h.many;
}
