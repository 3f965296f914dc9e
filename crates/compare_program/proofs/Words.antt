-- The words that are collected, and the numbers of ends.
use Rattle.std.proofs.Common.{◌≡◌, ◌∙◌, ◌∷◌, ℕ, List, [], length, Option, Some, None, Result, Ok, Err, inl, inr, sym, ap, refl, arith}
use Rattle.std.specs.Prelude.{String, Vec, drop}
use Rattle.std.specs.Iterator.{DrainsIf}
use Rattle.std.specs.Vec.Iter.{into_iter_items, into_iter_len, into_iter_steps}
use Rattle.std.specs.declared.alloc.Global.{Global}
use Rattle.std.specs.declared.io.Error.{Error}
use Rattle.std.specs.declared.vec.IntoIter.{IntoIter}
use Rattle.std.proofs.lemmas.Iterator.{items_from_drains}
use Rattle.std.proofs.lemmas.Iterator.Adapters.{YieldsList-from_vec}
use Rattle.std.proofs.lemmas.List.{map-id}
use Rattle.run_inputs.specs.declared.status.Status.TheVariants.{NoMemory}
use Rattle.run_inputs.specs.Readings.{Reading}
use Rattle.compare_cli.specs.Promises.{Writing}
use Rattle.compare_program.specs.Numbers.{End, IsEndNumber}
use Rattle.compare_program.specs.Runs.{IsProgramEnd}

-- as many words are left as there are
counted : {X Z : Type 0} (s : IntoIter X Z) → into_iter_len s ≡ length (into_iter_items s)
counted s = s.rest.ok.0

none-left : {X Z : Type 0} (s : IntoIter X Z) → into_iter_len s ≡ 0 → into_iter_items s ≡ []
none-left s none = empty-list (into_iter_items s) (sym (counted s) ∙ none)
  where
    empty-list : {X : Type 0} (xs : List X) → length xs ≡ 0 → xs ≡ []
    empty-list [] e = refl
    empty-list (x ∷ xs) e = absurd (omega (arith, e))

-- all that are left are collected
pub all-left : {X Z : Type 0} (s : IntoIter X Z) (xs : List X) → DrainsIf (into_iter_steps {X = X} {Z = Z}) (Unit {0}) s xs → xs ≡ into_iter_items s
all-left s xs drains =
    sym (map-id xs) ∙ items_from_drains xs drains (YieldsList-from_vec (into_iter_items s) refl (counted s))

-- behind the first word are the others
pub behind-first : {X Z : Type 0} (s t : IntoIter X Z) (first : Option X) → into_iter_steps s first t → into_iter_items t ≡ drop 1 (into_iter_items s)
behind-first s t None none = none-left t none.1 ∙ sym (ap (drop 1) (none-left s none.0))
behind-first s t (Some x) steps = sym (ap (drop 1) steps.0)

-- each end has a number of an end
pub end-number : (arguments : Result (Vec (String Global) Global) Error) (r : Reading) (w : Writing) (end : End) → IsProgramEnd arguments r w end → IsEndNumber end.number
end-number (Ok arguments) r w end v = inl (v.status, v.number)
end-number (Err error) r w end (inl memory, none, still) = inl (NoMemory, memory.1)
end-number (Err error) r w end (inr refused, none, still) = inr refused.1
