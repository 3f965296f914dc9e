use Rattle.std.proofs.Common.{◌≡◌, ◌++◌, flat_map, string_bytes, take}
use Rattle.summary_answers.specs.FindingTexts.{found_lines}
use Rattle.summary_answers.proofs.text.put_each.Given as goal

abbrev pub invariant-found : goal.invariant-found
invariant-found l = string_bytes l.text ≡ string_bytes l.fn.text ++ flat_map (found_lines l.strata.dimensions) (take l.found-index l.summary)
