-- Parts that are read one by one.
use Rattle.std.proofs.Common.{◌≡◌, ℕ, Bool, true, false, if◌then◌else◌, ◌&&◌, List, [], ◌∷◌, ◌++◌, map, Option, Some, None, Ok, Bor, eqb, option_map, append_assoc, subst, length, ◌+◌, refl, sym, ap, ◌∙◌}
use Rattle.std.proofs.lemmas.List.Folds.{list_all-append}
use Rattle.std.specs.List.{list_all, slice_split}
use Rattle.std.specs.Option.{option_copied}
use Rattle.proof_text.specs.LineForms.{all_given, places_in}
use Rattle.proof_text.specs.Steps.{IsListPut, IsSmallRead, are_small, parts_left}

-- the items before, and then what is given
abbrev pub given_behind : {X : Type 0} → List X → Option (List X) → Option (List X)
given_behind items given = option_map (λ more. items ++ more) given

-- the items so far, which were got, or of which one is too large
abbrev pub AreItems : {X : Type 0} → (X → Bool) → Bool → List X → List X → Type 0
AreItems small true items got = list_all small items ≡ false
AreItems small false items got = (items ≡ got) × (list_all small items ≡ true)

-- what all parts give is what is read so far, and what the parts left give
pub record IsReadSoFar {X : Type 0} (f : List ℕ → Option X) (small : X → Bool) (all left : List (List ℕ)) (large : Bool) (got : List X) : Type 0 where
  pub items : List X
  pub given : all_given (map f all) ≡ given_behind items (all_given (map f left))
  pub are : AreItems small large items got

given-one : {X : Type 0} (items : List X) (x : X) (o : Option (List X)) → given_behind items (option_map (λ xs. x ∷ xs) o) ≡ given_behind (items ++ x ∷ []) o
given-one items x None = refl
given-one items x (Some xs) = ap Some (sym (append_assoc items (x ∷ []) xs))

given-front : {X : Type 0} (o : Option X) (x : X) (os : List (Option X)) → o ≡ Some x → all_given (o ∷ os) ≡ option_map (λ xs. x ∷ xs) (all_given os)
given-front None x os e = cc
given-front (Some y) x os e = let same : y ≡ x = cc in ap (λ z. option_map (λ xs. z ∷ xs) (all_given os)) same

given-more : {X : Type 0} (f : List ℕ → Option X) (all left next : List (List ℕ)) (part : List ℕ) (items : List X) (x : X) → all_given (map f all) ≡ given_behind items (all_given (map f left)) → left ≡ part ∷ next → f part ≡ Some x →
    all_given (map f all) ≡ given_behind (items ++ x ∷ []) (all_given (map f next))
given-more f all left next part items x so_far is said =
    so_far ∙ ap (λ ps. given_behind items (all_given (map f ps))) is ∙ ap (given_behind items) (given-front (f part) x (map f next) said) ∙ given-one items x (all_given (map f next))

all-false : {X : Type 0} (small : X → Bool) (items more : List X) → list_all small items ≡ false → list_all small (items ++ more) ≡ false
all-false small items more e = list_all-append small items more ∙ ap (λ b. b && list_all small more) e

last-false : (a b : Bool) → b ≡ false → (a && (b && true)) ≡ false
last-false true b e = rw e
last-false false b e = refl

both-true : (a b : Bool) → a ≡ true → b ≡ true → (a && (b && true)) ≡ true
both-true a b e h = rw (e, h)

pushed : {X : Type 0} (small : X → Bool) (large : Bool) (items got : List X) (x : X) → AreItems small large items got → small x ≡ true → AreItems small large (items ++ x ∷ []) (got ++ x ∷ [])
pushed small true items got x are is = all-false small items (x ∷ []) are
pushed small false items got x are is = (ap (λ l. l ++ x ∷ []) are.0, list_all-append small items (x ∷ []) ∙ both-true (list_all small items) (small x) are.1 is)

-- a part more is read
pub read-small : {X : Type 0} (f : List ℕ → Option X) (small : X → Bool) (all left next : List (List ℕ)) (large : Bool) (got : List X) (part : List ℕ) (x : X) →
    IsReadSoFar f small all left large got → left ≡ part ∷ next → f part ≡ Some x → small x ≡ true → IsReadSoFar f small all next large (got ++ x ∷ [])
read-small f small all left next large got part x so_far is said holds = record {
  items = so_far.items ++ x ∷ [];
  given = given-more f all left next part so_far.items x so_far.given is said;
  are = pushed small large so_far.items got x so_far.are holds;
}

-- or one that is too large
pub read-large : {X : Type 0} (f : List ℕ → Option X) (small : X → Bool) (all left next : List (List ℕ)) (large : Bool) (got after : List X) (part : List ℕ) (x : X) →
    IsReadSoFar f small all left large got → left ≡ part ∷ next → f part ≡ Some x → small x ≡ false → IsReadSoFar f small all next true after
read-large f small all left next large got after part x so_far is said fails = record {
  items = so_far.items ++ x ∷ [];
  given = given-more f all left next part so_far.items x so_far.given is said;
  are = list_all-append small so_far.items (x ∷ []) ∙ last-false (list_all small so_far.items) (small x) fails;
}

-- ---- what is left of a line

abbrev pub rest_size : Option (List ℕ) → ℕ
rest_size None = 0
rest_size (Some text) = length text + 1

-- ---- a loop over the parts of a text

pub left-is : (between : ℕ) (rest more : Option (Bor (List ℕ))) (text part : Bor (List ℕ)) → rest ≡ Some text → slice_split (λ b. eqb b between) text.now ≡ part.now ∷ parts_left between (option_copied more) →
    parts_left between (option_copied rest) ≡ part.now ∷ parts_left between (option_copied more)
left-is between rest more text part is cut = ap (λ (o : Option (Bor (List ℕ))). parts_left between (option_copied o)) is ∙ cut

one-small : {X : Type 0} (small : X → Bool) (said : Option X) (o : Option X) (x : X) → IsSmallRead small said (Ok o) → o ≡ Some x → (said ≡ Some x) × (small x ≡ true)
one-small {X} small said o x read is = subst (λ (p : Option X). IsSmallRead small said (Ok p)) is read

one-large : {X : Type 0} (small : X → Bool) (said : Option X) (o : Option X) → IsSmallRead small said (Ok o) → o ≡ None → (x : X) × (said ≡ Some x) × (small x ≡ false)
one-large {X} small said o read is = subst (λ (p : Option X). IsSmallRead small said (Ok p)) is read

-- its next part is read
pub loop-small : {X : Type 0} (f : List ℕ → Option X) (small : X → Bool) (between : ℕ) (all : List (List ℕ)) (large : Bool) (got grown : List X) (rest more : Option (Bor (List ℕ))) (text part : Bor (List ℕ)) (o : Option X) (x : X) →
    IsReadSoFar f small all (parts_left between (option_copied rest)) large got → rest ≡ Some text → slice_split (λ b. eqb b between) text.now ≡ part.now ∷ parts_left between (option_copied more) →
    IsSmallRead small (f part.now) (Ok o) → o ≡ Some x → grown ≡ got ++ x ∷ [] → IsReadSoFar f small all (parts_left between (option_copied more)) large grown
loop-small {X} f small between all large got grown rest more text part o x so_far is cut read given grows =
    let known = one-small small (f part.now) o x read given in
    let next = read-small f small all (parts_left between (option_copied rest)) (parts_left between (option_copied more)) large got part.now x so_far (left-is between rest more text part is cut) known.0 known.1 in
    subst (λ (g : List X). IsReadSoFar f small all (parts_left between (option_copied more)) large g) (sym grows) next

-- or is too large
pub loop-large : {X : Type 0} (f : List ℕ → Option X) (small : X → Bool) (between : ℕ) (all : List (List ℕ)) (large : Bool) (got : List X) (rest more : Option (Bor (List ℕ))) (text part : Bor (List ℕ)) (o : Option X) →
    IsReadSoFar f small all (parts_left between (option_copied rest)) large got → rest ≡ Some text → slice_split (λ b. eqb b between) text.now ≡ part.now ∷ parts_left between (option_copied more) →
    IsSmallRead small (f part.now) (Ok o) → o ≡ None → IsReadSoFar f small all (parts_left between (option_copied more)) true got
loop-large {X} f small between all large got rest more text part o so_far is cut read given =
    let known = one-large small (f part.now) o read given in
    read-large f small all (parts_left between (option_copied rest)) (parts_left between (option_copied more)) large got got part.now known.0 so_far (left-is between rest more text part is cut) known.1 known.2

-- ---- a loop that puts lists of places

module _ (all : List (List ℕ)) (large : Bool) (got grown : List (List ℕ)) (rest more : Option (Bor (List ℕ))) (text part : Bor (List ℕ))
    (so_far : IsReadSoFar places_in are_small all (parts_left 32 (option_copied rest)) large got) (is : rest ≡ Some text)
    (cut : slice_split (λ b. eqb b 32) text.now ≡ part.now ∷ parts_left 32 (option_copied more)) where
  pub put-next : (small after : Bool) → IsListPut (places_in part.now) got grown (Ok small) → after ≡ (if small then large else true) → IsReadSoFar places_in are_small all (parts_left 32 (option_copied more)) after grown
  put-next true after (ns, said, holds, grows) same =
      subst (λ (b : Bool). IsReadSoFar places_in are_small all (parts_left 32 (option_copied more)) b grown) (sym same)
      (loop-small places_in are_small 32 all large got grown rest more text part (Some ns) ns so_far is cut (said, holds) refl grows)
  put-next false after (ns, said, fails) same =
      subst (λ (b : Bool). IsReadSoFar places_in are_small all (parts_left 32 (option_copied more)) b grown) (sym same)
      (read-large places_in are_small all (parts_left 32 (option_copied rest)) (parts_left 32 (option_copied more)) large got grown part.now ns so_far (left-is 32 rest more text part is cut) said fails)
