-- Files that are read one behind another, and that what is printed of them is printed to their command.
use Rattle.std.proofs.Common.{◌≡◌, ℕ, List, [], ◌∷◌, Option, Some, Result, Ok, Err, append-nil, inl, inr, option_map, subst, sym}
use Rattle.std.specs.declared.alloc.AllocError.{AllocError}
use Rattle.command_words.specs.Asked.{Asked}
use Rattle.pol_outside.specs.Folder.{Files}
use Rattle.run_inputs.specs.declared.printed.EarlyEnd.{EarlyEnd}
use Rattle.run_inputs.specs.declared.printed.EarlyEnd.TheVariants.{Answered, NoMemory}
use Rattle.run_inputs.specs.declared.printed.Printed.{Printed}
use Rattle.run_inputs.specs.Printing.{IfPrinted, IsPrintedOf}
use Rattle.run_inputs.specs.Readings.{AreFilesRead, AreRead, FileName, FilesFail, IsCalm, IsStopped, Reading, if_given}
use Rattle.compare_cli.specs.declared.files.LastFiles.{LastFiles}
use Rattle.compare_cli.specs.Commands.{IsCommandEnd, MayPrint, IsPrinted, files_named, named_files}
use Rattle.compare_cli.specs.LastFiles.{last_bytes}

-- files that are read of a folder that holds the same
pub rest_read : (a b : Option Files) → b ≡ a → (files : List FileName) (contents : List (List ℕ)) → AreRead b files contents → AreRead a files contents
rest_read a b same files contents read = subst (λ (h : Option Files). AreRead h files contents) same read

-- the bytes that are handed on are those of the last files
pub last_read : (held : Option Files) (files : List FileName) (bytes : List ℕ) (schema : Option (List ℕ)) (f : LastFiles)
    → bytes ≡ f.file.items → schema ≡ option_map (λ b. b.items) f.schema → AreRead held files (last_bytes f)
    → AreRead held files (bytes ∷ if_given schema)
last_read held files bytes schema f of_file of_schema read =
    subst (λ (bs : List ℕ). AreRead held files (bs ∷ if_given schema)) (sym of_file)
    (subst (λ (o : Option (List ℕ)). AreRead held files (f.file.items ∷ if_given o)) (sym of_schema) read)

-- a file that fails, or want of memory, ends the command that names the files
pub failed_end : {X : Type 0} (asked : Asked) (r : Reading) (e : EarlyEnd) (files : List FileName) → named_files asked ≡ files → (bytes : X → List (List ℕ))
    → AreFilesRead files bytes r (Err e) → IsCommandEnd (Some asked) r (Err e)
failed_end asked r (Answered p) files are bytes v = inl (subst (λ (fs : List FileName). FilesFail fs r p) (sym are) v)
failed_end asked r NoMemory files are bytes v = subst (λ (fs : List FileName). IsStopped fs r) (sym are) v

pub may_print : (asked : Asked) (r : Reading) → IsCalm (named_files asked) r → (p : Printed) → MayPrint asked r p → IsPrinted (Some asked) r p
may_print asked r calm p v = inr (v, calm)

-- what is printed once all files were read, or want of memory behind them
pub printed_end : (asked : Asked) (r : Reading) → IsCalm (named_files asked) r → (result : Result Printed EarlyEnd) (Q : Printed → Type 0)
    → ((p : Printed) → Q p → IsPrinted (Some asked) r p) → IfPrinted result Q → IsCommandEnd (Some asked) r result
printed_end asked r calm (Ok p) Q says v = says p v
printed_end asked r calm (Err (Answered p)) Q says v = says p v
printed_end asked r calm (Err NoMemory) Q says v =
    record { front = named_files asked; behind = []; are = sym (append-nil (named_files asked)); calm = calm }

-- what ends a command is so of what is printed
pub prints_end : (asked : Option Asked) (r : Reading) (ended : Result Printed EarlyEnd) → IsCommandEnd asked r ended → IfPrinted ended (IsPrinted asked r)
prints_end asked r (Ok p) v = v
prints_end asked r (Err (Answered p)) v = v
prints_end asked r (Err NoMemory) v = tt

-- want of memory ended it without a fault of reading
pub stopped_end : (asked : Option Asked) (r : Reading) (ended : Result Printed EarlyEnd) (e : AllocError) → IsPrintedOf ended (Err e) → IsCommandEnd asked r ended
    → IsStopped (files_named asked) r
stopped_end asked r (Ok p) e is v = absurd (cc)
stopped_end asked r (Err (Answered p)) e is v = absurd (cc)
stopped_end asked r (Err NoMemory) e is v = v
