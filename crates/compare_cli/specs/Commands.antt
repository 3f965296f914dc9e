-- What may be printed, by what the arguments ask and what the folder holds.
use Rattle.std.specs.Prelude.{◌⊎◌, ℕ, List, [], ◌∷◌, ◌++◌, Bool, true, false, Option, Some, None, Result, Ok, Err, ⊤, codes}
use Rattle.command_words.specs.Asked.{Asked, Summarising, CheckCommand, CompareCommand, LoadCommand, ReachCommand, SummaryCommand, CheckSummaryCommand}
use Rattle.command_words.specs.Asked.{IdleCommand, EmitCommand, EvalCommand, NewAccessCommand, CheckNewAccessCommand, NewAccessUsage}
use Rattle.run_inputs.specs.declared.printed.EarlyEnd.{EarlyEnd}
use Rattle.run_inputs.specs.declared.printed.EarlyEnd.TheVariants.{Answered, NoMemory}
use Rattle.run_inputs.specs.declared.printed.Printed.{Printed}
use Rattle.run_inputs.specs.declared.role.Role.TheVariants.{First, Second, Proof, Zone}
use Rattle.run_inputs.specs.declared.role.Role.TheVariants.{Set as set_file, Schema as schema_file, Request as request_file}
use Rattle.run_inputs.specs.declared.status.Status.TheVariants.{Usage}
use Rattle.run_inputs.specs.Printing.{PrintsText}
use Rattle.run_inputs.specs.Readings.{FileName, FilesFail, IsCalm, IsStopped, OfReadFiles, Reading, file, if_given, if_named}
use Rattle.run_inputs.specs.Pairs.{Contents}
use Rattle.compare_answers.specs.Printed.{IsCheckPrinted, IsComparisonPrinted}
use Rattle.eval_answers.specs.Evaluated.{EvaluationContents, IsEvaluationPrinted}
use Rattle.summary_answers.specs.Printed.{IsSummaryPrinted}
use Rattle.run_inputs.specs.OneSets.{SetContents}
use Rattle.reach_answers.specs.ReachPrinted.{IsReachPrinted, ReachContents}
use Rattle.emit_answers.specs.EmitPrinted.{IsEmitPrinted}
use Rattle.idle_answers.specs.UsesPrinted.{IsIdlePrinted}
use Rattle.certified_summaries.specs.Certified.{IsCertifiedSummaryPrinted}
use Rattle.certified_summaries.specs.Judged.{IsSummaryCheckPrinted}
use Rattle.load_answers.specs.Loaded.{IsLoadPrinted}
use Rattle.access_answers.specs.NewAccessChecked.{IsNewAccessCheckPrinted}
use Rattle.access_answers.specs.NewAccessPrinted.{IsNewAccessPrinted}

-- ---- the files of a command

-- the files that a command names, in the order of its line, the schema last where one is named
abbrev pub named_files : Asked → List FileName
named_files (CompareCommand c) = file First c.names.first ∷ file Second c.names.second ∷ if_named schema_file c.names.schema
named_files (CheckCommand c) =
    file First c.names.first ∷ file Second c.names.second ∷ file Proof c.proof ∷ if_named schema_file c.names.schema
named_files (SummaryCommand s certified) = file set_file s.set ∷ if_named schema_file s.schema
named_files (EvalCommand e) = file set_file e.set ∷ file request_file e.request ∷ if_named schema_file e.schema
named_files (LoadCommand keys) = []
named_files (IdleCommand u) = file set_file u.set ∷ if_named schema_file u.schema
named_files (ReachCommand s zone) = file set_file s.set ∷ file Zone zone ∷ if_named schema_file s.schema
named_files (EmitCommand s) = file set_file s.set ∷ if_named schema_file s.schema
named_files (CheckSummaryCommand k) = file set_file k.set ∷ file Proof k.proof ∷ if_named schema_file k.schema
named_files (NewAccessCommand s second certified) = file First s.set ∷ file Second second ∷ if_named schema_file s.schema
named_files (CheckNewAccessCommand k second) =
    file First k.set ∷ file Second second ∷ file Proof k.proof ∷ if_named schema_file k.schema
named_files NewAccessUsage = []

-- the files that the arguments name
abbrev pub files_named : Option Asked → List FileName
files_named None = []
files_named (Some asked) = named_files asked

-- the bytes of a check's files: of the two sets and the schema, and of the certificate, or of the file that is checked
pub record CheckContents : Type 0 where
  pub sets : Contents
  pub proof : List ℕ

-- and of a check of a summary: of the set and the schema, and of the file that is checked
pub record SummaryCheckContents : Type 0 where
  pub set : SetContents
  pub proof : List ℕ

-- the bytes of each command's files in this order
abbrev pub compared_bytes : Contents → List (List ℕ)
compared_bytes c = c.first ∷ c.second ∷ if_given c.schema

abbrev pub checked_bytes : CheckContents → List (List ℕ)
checked_bytes c = c.sets.first ∷ c.sets.second ∷ c.proof ∷ if_given c.sets.schema

abbrev pub one_set_bytes : SetContents → List (List ℕ)
one_set_bytes c = c.set ∷ if_given c.schema

abbrev pub evaluated_bytes : EvaluationContents → List (List ℕ)
evaluated_bytes c = c.set ∷ c.request ∷ if_given c.schema

abbrev pub reached_bytes : ReachContents → List (List ℕ)
reached_bytes c = c.set ∷ c.zone ∷ if_given c.schema

abbrev pub summary_checked_bytes : SummaryCheckContents → List (List ℕ)
summary_checked_bytes c = c.set.set ∷ c.proof ∷ if_given c.set.schema

-- ---- what may be printed

-- the line that says how the program is called, and that of the two commands on new access
abbrev pub usage_line : List ℕ
usage_line =
    codes "usage: compare FIRST SECOND | summary SET DIMENSION.. | check FIRST SECOND PROOF | eval SET REQUEST | load N "
    ++ codes "| idle SET | reach SET ZONE DIMENSION.. | emit SET DIMENSION.. | check-summary SET PROOF DIMENSION..\n"

abbrev pub new_access_usage_line : List ℕ
new_access_usage_line = codes "usage: new-access FIRST SECOND DIMENSION.. | check-new-access FIRST SECOND PROOF DIMENSION..\n"

-- to a summary: with a certificate behind it, where one is asked for
abbrev pub IsSummaryPrintedFrom : Summarising → Bool → SetContents → Printed → Type 0
IsSummaryPrintedFrom s true c p = IsCertifiedSummaryPrinted s c p
IsSummaryPrintedFrom s false c p = IsSummaryPrinted s c p

-- once the files of a command were read: what the command may print of their bytes
abbrev pub MayPrint : Asked → Reading → Printed → Type 0
MayPrint (CompareCommand c) r p = OfReadFiles r.held (named_files (CompareCommand c)) compared_bytes (λ f. IsComparisonPrinted c f p)
MayPrint (CheckCommand c) r p = OfReadFiles r.held (named_files (CheckCommand c)) checked_bytes (λ f. IsCheckPrinted f.proof f.sets p)
MayPrint (SummaryCommand s certified) r p =
    OfReadFiles r.held (named_files (SummaryCommand s certified)) one_set_bytes (λ f. IsSummaryPrintedFrom s certified f p)
MayPrint (EvalCommand e) r p = OfReadFiles r.held (named_files (EvalCommand e)) evaluated_bytes (λ f. IsEvaluationPrinted f p)
MayPrint (LoadCommand keys) r p = IsLoadPrinted keys p
MayPrint (IdleCommand u) r p = OfReadFiles r.held (named_files (IdleCommand u)) one_set_bytes (λ f. IsIdlePrinted u f p)
MayPrint (ReachCommand s zone) r p = OfReadFiles r.held (named_files (ReachCommand s zone)) reached_bytes (λ f. IsReachPrinted s f p)
MayPrint (EmitCommand s) r p = OfReadFiles r.held (named_files (EmitCommand s)) one_set_bytes (λ f. IsEmitPrinted s f p)
MayPrint (CheckSummaryCommand k) r p =
    OfReadFiles r.held (named_files (CheckSummaryCommand k)) summary_checked_bytes (λ f. IsSummaryCheckPrinted k f.proof f.set p)
MayPrint (NewAccessCommand s second certified) r p =
    OfReadFiles r.held (named_files (NewAccessCommand s second certified)) compared_bytes (λ f. IsNewAccessPrinted s certified f p)
MayPrint (CheckNewAccessCommand k second) r p =
    OfReadFiles r.held (named_files (CheckNewAccessCommand k second)) checked_bytes (λ f. IsNewAccessCheckPrinted k f.proof f.sets p)
MayPrint NewAccessUsage r p = PrintsText new_access_usage_line Usage p

-- the usage line, exactly where the arguments ask for nothing; what is printed of the first file that fails; or what the command may
-- print, and the folder was asked for the command's files and wasn't failed at any
abbrev pub IsPrinted : Option Asked → Reading → Printed → Type 0
IsPrinted None r p = PrintsText usage_line Usage p × IsCalm [] r
IsPrinted (Some asked) r p = FilesFail (named_files asked) r p ⊎ (MayPrint asked r p × IsCalm (named_files asked) r)

-- what is printed, at the end of the command or before; or want of memory, without a fault of reading
abbrev pub IsCommandEnd : Option Asked → Reading → Result Printed EarlyEnd → Type 0
IsCommandEnd asked r (Ok p) = IsPrinted asked r p
IsCommandEnd asked r (Err (Answered p)) = IsPrinted asked r p
IsCommandEnd asked r (Err NoMemory) = IsStopped (files_named asked) r

-- the arguments name no file: they ask for nothing, for how two commands are called, or for a load
abbrev pub NameNoFile : Option Asked → Type 0
NameNoFile None = ⊤
NameNoFile (Some NewAccessUsage) = ⊤
NameNoFile (Some (LoadCommand keys)) = ⊤
NameNoFile (Some _) = ⊥
