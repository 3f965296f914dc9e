use Rattle.std.proofs.Common.{◌≡◌, ◌++◌, false, take}
use Rattle.wildcard_lang.specs.Reading.{literals}
use Rattle.slot_theory.proofs.Accounts.{before}
use Rattle.slot_theory.proofs.entries.account_pattern.Given as goal

abbrev pub invariant-loop-c : goal.invariant-loop-c
invariant-loop-c l = l.pieces.items ≡ before ++ literals false (take l.c-index l.account)
