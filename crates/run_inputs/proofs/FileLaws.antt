-- Early ends, and the files of a run.
use Rattle.std.proofs.Common.{◌≡◌, ◌∙◌, ◌∷◌, ◌++◌, ◌≤◌, ◌<◌, ℕ, List, [], length, Option, None, Some, Err, Ok, ap, append-nil, append_assoc, arith, inl, inr, refl, subst, sym}
use Rattle.std.specs.Prelude.{IfOk, Result, map}
use Rattle.std.proofs.lemmas.List.{map-append}
use Rattle.std.specs.declared.alloc.AllocError.{AllocError}
use Rattle.pol_outside.specs.Faults.{Rose}
use Rattle.pol_outside.specs.Folder.{AsksFor, AsksOnce, Files, NamesFault, Takes}
use Rattle.pol_outside.specs.declared.folder.TakeFault.{TakeFault}
use Rattle.pol_outside.specs.declared.folder.TakeFault.TheVariants as fault
use Rattle.run_inputs.specs.declared.printed.EarlyEnd.{EarlyEnd}
use Rattle.run_inputs.specs.declared.printed.EarlyEnd.TheVariants.{Answered, NoMemory}
use Rattle.run_inputs.specs.declared.printed.Printed.{Printed}
use Rattle.run_inputs.specs.declared.role.Role.{Role}
use Rattle.run_inputs.specs.declared.status.Status.TheVariants.{ReadFault}
use Rattle.run_inputs.specs.FileLines.{IsTooLong, read_fault_line}
use Rattle.run_inputs.specs.Files.{IsLong, IsShort, limit_of}
use Rattle.run_inputs.specs.Printing.{IfAnswered, IfPrinted, IsPrintedOf, OrAnswered, PrintsText}
use Rattle.run_inputs.specs.Readings.{AreFilesRead, AreRead, AsksFiles, FileFails, FileName, FilesFail, IsCalm, IsStopped, Reading}
use Rattle.run_inputs.specs.Readings.{content_if_given, file, if_named, one_content, reading_of}

-- what is said of an early end, weaker
pub if_answered_weaker : (e : EarlyEnd) (Q R : Printed → Type 0) → ((p : Printed) → Q p → R p) → IfAnswered e Q → IfAnswered e R
if_answered_weaker (Answered p) Q R weaker v = weaker p v
if_answered_weaker NoMemory Q R weaker v = tt

-- what is said of a value or an early end, weaker
pub or_answered_weaker : {X : Type 0} (result : Result X EarlyEnd) (P S : X → Type 0) (Q R : Printed → Type 0)
    → ((x : X) → P x → S x) → ((p : Printed) → Q p → R p) → OrAnswered result P Q → OrAnswered result S R
or_answered_weaker (Ok x) P S Q R value early v = value x v
or_answered_weaker (Err e) P S Q R value early v = if_answered_weaker e Q R early v

-- what is printed of an end is so of what is printed
pub printed_so : (ended : Result Printed EarlyEnd) (result : Result Printed AllocError) (P : Printed → Type 0)
    → IsPrintedOf ended result → IfPrinted ended P → IfOk result P
printed_so (Ok p) result P is v = subst (λ (r : Result Printed AllocError). IfOk r P) (sym is) v
printed_so (Err (Answered p)) result P is v = subst (λ (r : Result Printed AllocError). IfOk r P) (sym is) v
printed_so (Err NoMemory) result P is v = subst (λ (r : Result Printed AllocError). IfOk r P) (sym is) tt

-- ---- files behind others

asks_none : (o : Option (List (List ℕ))) → AsksFor o [] o
asks_none None = tt
asks_none (Some names) = ap Some (sym (append-nil names))

asks_more : (o m n : Option (List (List ℕ))) (xs ys : List (List ℕ)) → AsksFor o xs m → AsksFor m ys n → AsksFor o (xs ++ ys) n
asks_more None m n xs ys one other = tt
asks_more (Some b) m n xs ys one other =
    let there : n ≡ Some ((b ++ xs) ++ ys) = subst (λ (o : Option (List (List ℕ))). AsksFor o ys n) one other in
    there ∙ ap Some (append_assoc b xs ys)

asks_files : (o m n : Option (List (List ℕ))) (front files : List FileName) → AsksFor o (map (λ f. f.name) front) m → AsksFor m (map (λ f. f.name) files) n
    → AsksFor o (map (λ f. f.name) (front ++ files)) n
asks_files o m n front files one other =
    subst (λ (names : List (List ℕ)). AsksFor o names n) (sym (map-append (λ f. f.name) front files)) (asks_more o m n _ _ one other)

read_both : (h : Option Files) (front files : List FileName) (xs ys : List (List ℕ)) → AreRead h front xs → AreRead h files ys → AreRead h (front ++ files) (xs ++ ys)
read_both h [] files [] ys one other = other
read_both h [] files (x ∷ xs) ys one other = absurd one
read_both h (f ∷ fs) files [] ys one other = absurd one
read_both h (f ∷ fs) files (x ∷ xs) ys one other = (one.0, read_both h fs files xs ys one.1 other)

-- the first files failed, or want of memory ended their reading: so it is of them with others behind
pub failed_first : {X Y : Type 0} (e : EarlyEnd) (files behind : List FileName) (r : Reading) (xs : X → List (List ℕ)) (ys : Y → List (List ℕ))
    → AreFilesRead files xs r (Err e) → AreFilesRead (files ++ behind) ys r (Err e)
failed_first (Answered p) files behind r xs ys v = record {
  front = v.front;
  failing = v.failing;
  behind = v.behind ++ behind;
  are = ap (λ (fs : List FileName). fs ++ behind) v.are ∙ append_assoc v.front (v.failing ∷ v.behind) behind;
  contents = v.contents;
  read = v.read;
  asked = v.asked;
  fails = v.fails;
}
failed_first NoMemory files behind r xs ys v = record {
  front = v.front;
  behind = v.behind ++ behind;
  are = ap (λ (fs : List FileName). fs ++ behind) v.are ∙ append_assoc v.front v.behind behind;
  calm = v.calm;
}

module _ {X : Type 0} (held : X → Option Files) (faults : X → ℕ) (last : X → Option (List ℕ)) (asked : X → Option (List (List ℕ))) where
  -- a folder that wasn't asked
  pub calm_still : (a : X) → IsCalm [] (reading_of held faults last asked a a)
  calm_still a = (refl, asks_none (asked a))

  pub stopped_still : (a : X) (files : List FileName) → IsStopped files (reading_of held faults last asked a a)
  stopped_still a files = record { front = []; behind = files; are = refl; calm = calm_still a }

  -- the first of files were read, and then the others
  pub calm_more : (a b c : X) (front files : List FileName) → IsCalm front (reading_of held faults last asked a b)
      → IsCalm files (reading_of held faults last asked b c) → IsCalm (front ++ files) (reading_of held faults last asked a c)
  calm_more a b c front files one other = (other.0 ∙ one.0, asks_files (asked a) (asked b) (asked c) front files one.1 other.1)

  pub read_more : (a b : X) → held b ≡ held a → (front files : List FileName) (xs ys : List (List ℕ)) → AreRead (held a) front xs → AreRead (held b) files ys
      → AreRead (held a) (front ++ files) (xs ++ ys)
  read_more a b same front files xs ys one other =
      read_both (held a) front files xs ys one (subst (λ (h : Option Files). AreRead h files ys) same other)

  fails_later : (a b c : X) → held b ≡ held a → faults a ≤ faults b → last b ≡ last a → (f : FileName) (p : Printed)
      → FileFails f (reading_of held faults last asked b c) p → FileFails f (reading_of held faults last asked a c) p
  fails_later a b c same more calm f p (inl failed) = let rose = failed.0 in inl (omega arith, failed.1, failed.2)
  fails_later a b c same more calm f p (inr long) =
      inr (subst (λ (h : Option Files). IsLong h f.role f.name) same long.0, long.1 ∙ calm, long.2)

  -- the first of files were read, and then the others failed, or want of memory ended their reading
  pub failed_later : {Y Z : Type 0} (a b c : X) → held b ≡ held a → faults a ≤ faults b → (front files : List FileName) (contents : List (List ℕ))
      → AreRead (held a) front contents → IsCalm front (reading_of held faults last asked a b) → (e : EarlyEnd) (xs : Y → List (List ℕ)) (ys : Z → List (List ℕ))
      → AreFilesRead files xs (reading_of held faults last asked b c) (Err e) → AreFilesRead (front ++ files) ys (reading_of held faults last asked a c) (Err e)
  failed_later a b c same more front files contents read calm (Answered p) xs ys v = record {
    front = front ++ v.front;
    failing = v.failing;
    behind = v.behind;
    are = ap (λ (fs : List FileName). front ++ fs) v.are ∙ sym (append_assoc front v.front (v.failing ∷ v.behind));
    contents = contents ++ v.contents;
    read = read_more a b same front v.front contents v.contents read v.read;
    asked =
        subst (λ (fs : List FileName). AsksFor (asked a) (map (λ f. f.name) fs) (asked c)) (sym (append_assoc front v.front (v.failing ∷ [])))
        (asks_files (asked a) (asked b) (asked c) front (v.front ++ v.failing ∷ []) calm.1 v.asked);
    fails = fails_later a b c same more calm.0 v.failing p v.fails;
  }
  failed_later a b c same more front files contents read calm NoMemory xs ys v = record {
    front = front ++ v.front;
    behind = v.behind;
    are = ap (λ (fs : List FileName). front ++ fs) v.are ∙ sym (append_assoc front v.front v.behind);
    calm = calm_more a b c front v.front calm v.calm;
  }

-- ---- one file, by what its taking answers

pub take_failed : (f : FileName) (r : Reading) (p : Printed) (e : TakeFault) → e ≡ fault.Failed
    → NamesFault {T = Unit {0}} (Err e) f.name r.faults_before r.faults r.last_before r.last → AsksOnce {T = Unit {0}} (Err e) f.name r.asked_before r.asked
    → PrintsText (read_fault_line f.role) ReadFault p → FilesFail (f ∷ []) r p
take_failed f r p fault.Failed is cause asks prints = record {
  front = [];
  failing = f;
  behind = [];
  are = refl;
  contents = [];
  read = tt;
  asked = asks;
  fails = inl (cause.0, cause.1, prints);
}
take_failed f r p fault.TooLong is cause asks prints = absurd (cc)
take_failed f r p fault.NoMemory is cause asks prints = absurd (cc)

too_long_told : {X : Type 0} (f : FileName) (r : Reading) (end : EarlyEnd) (xs : X → List (List ℕ)) → AsksFiles (f ∷ []) r → r.last ≡ r.last_before
    → IsLong r.held f.role f.name → IsTooLong f.role end → AreFilesRead (f ∷ []) xs r (Err end)
too_long_told f r (Answered p) xs asks calm long told =
    record { front = []; failing = f; behind = []; are = refl; contents = []; read = tt; asked = asks; fails = inr (long, calm, told) }
too_long_told f r NoMemory xs asks calm long told = record { front = f ∷ []; behind = []; are = refl; calm = (calm, asks) }

pub take_too_long : {X : Type 0} (f : FileName) (r : Reading) (limit : ℕ) (old new : List ℕ) (e : TakeFault) → e ≡ fault.TooLong → limit ≡ limit_of f.role
    → Takes r.held f.name limit (Err e) old new → NamesFault {T = Unit {0}} (Err e) f.name r.faults_before r.faults r.last_before r.last
    → AsksOnce {T = Unit {0}} (Err e) f.name r.asked_before r.asked → (end : EarlyEnd) (xs : X → List (List ℕ)) → IsTooLong f.role end
    → AreFilesRead (f ∷ []) xs r (Err end)
take_too_long f r limit old new fault.TooLong is at taken cause asks end xs told =
    let longer = taken.gives.1 in
    let long : IsLong r.held f.role f.name = (longer.0, longer.1, subst (λ (n : ℕ). n < length longer.0) at longer.2) in
    too_long_told f r end xs asks cause long told
take_too_long f r limit old new fault.Failed is at taken cause asks end xs told = absurd (cc)
take_too_long f r limit old new fault.NoMemory is at taken cause asks end xs told = absurd (cc)

pub take_unread : (f : FileName) (r : Reading) (e : TakeFault) → e ≡ fault.NoMemory
    → NamesFault {T = Unit {0}} (Err e) f.name r.faults_before r.faults r.last_before r.last → AsksOnce {T = Unit {0}} (Err e) f.name r.asked_before r.asked
    → IsStopped (f ∷ []) r
take_unread f r fault.NoMemory is cause (inl none) = record { front = []; behind = f ∷ []; are = refl; calm = (cause, none) }
take_unread f r fault.NoMemory is cause (inr one) = record { front = f ∷ []; behind = []; are = refl; calm = (cause, one) }
take_unread f r fault.Failed is cause asks = absurd (cc)
take_unread f r fault.TooLong is cause asks = absurd (cc)

-- a file that may be named, and is
pub named_failed : (role : Role) (named : Option (List ℕ)) (name : List ℕ) → named ≡ Some name → (e : EarlyEnd) (r : Reading)
    → AreFilesRead (file role name ∷ []) one_content r (Err e) → AreFilesRead (if_named role named) content_if_given r (Err e)
named_failed role named name is e r v =
    subst (λ (o : Option (List ℕ)). AreFilesRead (if_named role o) content_if_given r (Err e)) (sym is)
    (failed_first e (file role name ∷ []) [] r one_content content_if_given v)

-- ---- one folder holds one file under a name

same_bytes : (files : Files) (r : Role) (name a b : List ℕ) → IsShort (Some files) r name a → IsShort (Some files) r name b → a ≡ b
same_bytes files r name a b one other = let x = one.0 in let y = other.0 in cc

pub same_read : (files : Files) (fs : List FileName) (a b : List (List ℕ)) → AreRead (Some files) fs a → AreRead (Some files) fs b → a ≡ b
same_read files [] [] [] one other = refl
same_read files [] [] (y ∷ b) one other = absurd other
same_read files [] (x ∷ a) b one other = absurd one
same_read files (f ∷ fs) [] b one other = absurd one
same_read files (f ∷ fs) (x ∷ a) [] one other = absurd other
same_read files (f ∷ fs) (x ∷ a) (y ∷ b) one other =
    ap (λ (z : List ℕ). z ∷ a) (same_bytes files f.role f.name x y one.0 other.0) ∙ ap (λ (zs : List (List ℕ)). y ∷ zs) (same_read files fs a b one.1 other.1)

-- ---- files that were read don't fail

not_long : (files : Files) (r : Role) (name bytes : List ℕ) → IsShort (Some files) r name bytes → IsLong (Some files) r name → ⊥
not_long files r name bytes short (other, held, long) =
    let mine = short.0 in
    let same : other ≡ bytes = cc in
    let few = short.1 in
    let still : limit_of r < length bytes = subst (λ (b : List ℕ). limit_of r < length b) same long in
    omega arith

not_long_among : (files : Files) (front : List FileName) (f : FileName) (behind : List FileName) (contents : List (List ℕ))
    → AreRead (Some files) (front ++ f ∷ behind) contents → IsLong (Some files) f.role f.name → ⊥
not_long_among files [] f behind [] read long = absurd read
not_long_among files [] f behind (x ∷ xs) read long = not_long files f.role f.name x read.0 long
not_long_among files (g ∷ front) f behind [] read long = absurd read
not_long_among files (g ∷ front) f behind (x ∷ xs) read long = not_long_among files front f behind xs read.1 long

-- where the folder holds all files within their limits and didn't fail, none fails
pub none_fails : (r : Reading) (files : Files) (fs : List FileName) (contents : List (List ℕ)) (p : Printed)
    → r.held ≡ Some files → AreRead (Some files) fs contents → ¬ Rose r.faults_before r.faults → FilesFail fs r p → ⊥
none_fails r files fs contents p held read calm failing =
    elim failing.fails [
      | inl failed ↦ calm failed.0
      | inr long ↦
          not_long_among files failing.front failing.failing failing.behind contents
          (subst (λ (gs : List FileName). AreRead (Some files) gs contents) failing.are read)
          (subst (λ (h : Option Files). IsLong h failing.failing.role failing.failing.name) held long.0)
    ]
