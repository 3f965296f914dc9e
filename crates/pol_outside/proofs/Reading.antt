-- The bytes that are taken of a file, under its name.
use Rattle.std.proofs.Common.{◌≡◌, ◌∙◌, ℕ, ◌+◌, List, [], length, Option, Some, None, Ok, Err, refl, subst, sym, ap, arith}
use Rattle.std.specs.Prelude.{Result}
use Rattle.std.proofs.lemmas.List.{length-append, take_at, take_all}
use Rattle.std.specs.Io.KnownBytes.{Consumes}
use Rattle.pol_outside.specs.declared.folder.TakeFault.{TakeFault}
use Rattle.pol_outside.specs.declared.folder.TakeFault.TheVariants.{Failed, TooLong, NoMemory}
use Rattle.pol_outside.specs.Disks.{OpensFile}
use Rattle.pol_outside.specs.Folder.{Begins, Files, Gives, Takes, one_file}

-- its front, where that is longer than the limit
pub Gives-longer : (old new : Option (List ℕ)) (given : List ℕ) (limit : ℕ) → Consumes old new given → length given ≡ limit + 1 → Gives (one_file old) [] limit (Err TooLong) given
Gives-longer None new given limit took full = (full, (given, tt, omega arith, sym (take_all (limit + 1) given (omega arith))))
Gives-longer (Some xs) None given limit took full = absurd took
Gives-longer (Some xs) (Some ys) given limit took full = (full, (xs, refl, omega (arith, ap length took, length-append given ys), rw took (sym (take_at given ys (limit + 1) full))))

module _ (name : List ℕ) (limit : ℕ) (given : List ℕ) where
  -- of a disk that doesn't tell what it holds
  gives-untold : (left : Option (List ℕ)) (result : Result Unit TakeFault) → Gives (one_file left) [] limit result given → Gives None name limit result given
  gives-untold left (Ok u) v = (tt, v.1)
  gives-untold left (Err TooLong) v = (v.0, (v.1.0, tt, v.1.2, v.1.3))
  gives-untold left (Err Failed) v = tt
  gives-untold left (Err NoMemory) v = tt

  -- of one that does
  gives-told : (files : Files) (bytes : List ℕ) → files name ≡ Some bytes → (result : Result Unit TakeFault) → Gives (one_file (Some bytes)) [] limit result given → Gives (Some files) name limit result given
  gives-told files bytes is (Ok u) v = (is ∙ v.0, v.1)
  gives-told files bytes is (Err TooLong) v = (v.0, (v.1.0, is ∙ v.1.1, v.1.2, v.1.3))
  gives-told files bytes is (Err Failed) v = subst (λ (o : Option (List ℕ)). Begins o given) (sym is) v
  gives-told files bytes is (Err NoMemory) v = subst (λ (o : Option (List ℕ)). Begins o given) (sym is) v

  gives-named : (held : Option Files) (left : Option (List ℕ)) (result : Result Unit TakeFault) → OpensFile held name left → Gives (one_file left) [] limit result given → Gives held name limit result given
  gives-named None left result opened v = gives-untold left result v
  gives-named (Some files) left result (bytes, is, all) v =
      gives-told files bytes is result (subst (λ (o : Option (List ℕ)). Gives (one_file o) [] limit result given) all v)

-- what is taken of a file that was opened by its name
pub takes-named : (held : Option Files) (name : List ℕ) (left : Option (List ℕ)) (limit : ℕ) (result : Result Unit TakeFault) (old new : List ℕ) → OpensFile held name left → Takes (one_file left) [] limit result old new → Takes held name limit result old new
takes-named held name left limit result old new opened taken = record {
  given = taken.given;
  grown = taken.grown;
  gives = gives-named name limit taken.given held left result opened taken.gives;
}
