-- When an answer of the command must come.
use Rattle.std.specs.Prelude.{Bool, true, false, Option, Some, None, ⊤}
use Rattle.command_words.specs.Asked.{Asked, Summarising, CheckCommand, CompareCommand, LoadCommand, ReachCommand, SummaryCommand, CheckSummaryCommand}
use Rattle.command_words.specs.Asked.{IdleCommand, EmitCommand, EvalCommand, NewAccessCommand, CheckNewAccessCommand, NewAccessUsage}
use Rattle.pol_outside.specs.Folder.{Files}
use Rattle.run_inputs.specs.declared.status.Status.{Status}
use Rattle.run_inputs.specs.declared.status.Status.TheVariants.{Holds, Fails, NoMemory, BadProof}
use Rattle.run_inputs.specs.Readings.{OfReadFiles}
use Rattle.run_inputs.specs.OneSets.{SetContents}
use Rattle.run_inputs.specs.Pairs.{SomePair}
use Rattle.compare_answers.specs.Complete.{IsDecidable, IsQueriable}
use Rattle.compare_answers.specs.Printed.{budgets_of}
use Rattle.eval_answers.specs.Evaluated.{IsEvaluable}
use Rattle.summary_answers.specs.Complete.{IsSummaryAccepted}
use Rattle.reach_answers.specs.ReachComplete.{IsReachAccepted}
use Rattle.emit_answers.specs.EmitComplete.{IsEmitAccepted}
use Rattle.idle_answers.specs.UsesComplete.{IsIdleAccepted}
use Rattle.certified_summaries.specs.Decides.{IsCertifiedSummaryAccepted, IsSummaryCheckAccepted}
use Rattle.access_answers.specs.NewAccessComplete.{IsNewAccessAccepted, IsNewAccessCheckAccepted}
use Rattle.compare_cli.specs.Commands.{checked_bytes, compared_bytes, evaluated_bytes, one_set_bytes, named_files, reached_bytes}
use Rattle.compare_cli.specs.Commands.{summary_checked_bytes}

-- the files of a summary are accepted, and where a certificate is asked for, its search is within the budgets too
abbrev pub IsSummaryFor : Summarising → Bool → SetContents → Type 0
IsSummaryFor s true c = IsCertifiedSummaryAccepted s c
IsSummaryFor s false c = IsSummaryAccepted s c

-- the names are those of files that are accepted
abbrev pub IsAcceptedBy : Option Files → Asked → Type 0
IsAcceptedBy held (CompareCommand c) =
    OfReadFiles held (named_files (CompareCommand c)) compared_bytes (λ f. SomePair f (IsDecidable (budgets_of c)))
IsAcceptedBy held (CheckCommand c) = OfReadFiles held (named_files (CheckCommand c)) checked_bytes (λ f. SomePair f.sets IsQueriable)
IsAcceptedBy held (SummaryCommand s certified) =
    OfReadFiles held (named_files (SummaryCommand s certified)) one_set_bytes (IsSummaryFor s certified)
IsAcceptedBy held (EvalCommand e) = OfReadFiles held (named_files (EvalCommand e)) evaluated_bytes IsEvaluable
IsAcceptedBy held (LoadCommand keys) = ⊤
IsAcceptedBy held (IdleCommand u) = OfReadFiles held (named_files (IdleCommand u)) one_set_bytes (IsIdleAccepted u)
IsAcceptedBy held (ReachCommand s zone) = OfReadFiles held (named_files (ReachCommand s zone)) reached_bytes (IsReachAccepted s)
IsAcceptedBy held (EmitCommand s) = OfReadFiles held (named_files (EmitCommand s)) one_set_bytes (IsEmitAccepted s)
IsAcceptedBy held (CheckSummaryCommand k) =
    OfReadFiles held (named_files (CheckSummaryCommand k)) summary_checked_bytes (λ f. IsSummaryCheckAccepted k f.proof f.set)
IsAcceptedBy held (NewAccessCommand s second certified) =
    OfReadFiles held (named_files (NewAccessCommand s second certified)) compared_bytes (IsNewAccessAccepted s certified)
IsAcceptedBy held (CheckNewAccessCommand k second) =
    OfReadFiles held (named_files (CheckNewAccessCommand k second)) checked_bytes (λ f. IsNewAccessCheckAccepted k f.proof f.sets)
IsAcceptedBy held NewAccessUsage = ⊥

-- the folder tells what it holds, and the arguments name files that are accepted
abbrev pub IsAccepted : Option Files → Option Asked → Type 0
IsAccepted None asked = ⊥
IsAccepted (Some files) None = ⊥
IsAccepted (Some files) (Some asked) = IsAcceptedBy (Some files) asked

-- the run ended with an answer of the command, or for want of memory
abbrev pub IsDecided : Option Asked → Status → Type 0
IsDecided (Some (CompareCommand c)) Holds = ⊤
IsDecided (Some (CompareCommand c)) Fails = ⊤
IsDecided (Some (CheckCommand c)) Holds = ⊤
IsDecided (Some (CheckCommand c)) BadProof = ⊤
IsDecided (Some (SummaryCommand s certified)) Holds = ⊤
IsDecided (Some (EvalCommand e)) Holds = ⊤
IsDecided (Some (EvalCommand e)) Fails = ⊤
IsDecided (Some (LoadCommand keys)) Holds = ⊤
IsDecided (Some (IdleCommand u)) Holds = ⊤
IsDecided (Some (IdleCommand u)) Fails = ⊤
IsDecided (Some (ReachCommand s zone)) Holds = ⊤
IsDecided (Some (ReachCommand s zone)) Fails = ⊤
IsDecided (Some (EmitCommand s)) Holds = ⊤
IsDecided (Some (CheckSummaryCommand k)) Holds = ⊤
IsDecided (Some (CheckSummaryCommand k)) BadProof = ⊤
IsDecided (Some (NewAccessCommand s second certified)) Holds = ⊤
IsDecided (Some (NewAccessCommand s second certified)) Fails = ⊤
IsDecided (Some (CheckNewAccessCommand k second)) Holds = ⊤
IsDecided (Some (CheckNewAccessCommand k second)) BadProof = ⊤
IsDecided asked NoMemory = ⊤
IsDecided _ _ = ⊥
