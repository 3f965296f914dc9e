use Rattle.std.proofs.Common.{◌≡◌, ℕ, List, Option, inl, inr, option_map, rules, subst}
use Rattle.std.proofs.lemmas.Result.{err_from_is_err_and}
use Rattle.command_words.specs.Asked.{Summarising, summarising_in, texts_in}
use Rattle.summary_search.specs.declared.outcome.Limits.{Limits}
use Rattle.run_inputs.specs.declared.pair.Pair.{Pair}
use Rattle.run_inputs.specs.declared.printed.Printed.{Printed}
use Rattle.run_inputs.proofs.FileLaws.{if_answered_weaker, or_answered_weaker}
use Rattle.run_inputs.proofs.Laws.{of_pair}
use Rattle.run_inputs.specs.Pairs.{Contents, IsPairRefusal, contents}
use Rattle.run_inputs.specs.Refusals.{IsRefusedBy}
use Rattle.summary_answers.specs.Printed.{change_limits_in}
use Rattle.access_answers.specs.NewAccessPrinted.{IsNewAccessOfPair, IsNewAccessPrinted}
use Rattle.access_answers.proofs.Accepted.{with-acceptance}
use Rattle.access_answers.proofs.printing.print_new_access.Goals as goal

pub returns-in_err-pair : goal.returns-in_err-pair
returns-in_err-pair c =
    let s : Summarising = summarising_in c.args.arguments.now.summary in
    let certified = c.args.arguments.now.certified in
    let files : Contents = contents c.args.first.now c.args.second.now (option_map (λ f. f.now) c.args.schema) in
    let told : (p : Printed) → IsRefusedBy (IsPairRefusal files) p → IsNewAccessPrinted s certified files p =
    λ p v. with-acceptance c.certified_subjects_are_accepted.ensures s certified files p c.requires.0.5 (inl v) in
    let p = err_from_is_err_and c.from_residual.result c.from_residual.ensures.1 in
    rw (p.1, p.2) (if_answered_weaker _ (IsRefusedBy (IsPairRefusal files)) (IsNewAccessPrinted s certified files) told c.in_err-pair.ensures.read)

pub returns : goal.returns
returns c =
    let s : Summarising = summarising_in c.args.arguments.now.summary in
    let certified = c.args.arguments.now.certified in
    let files : Contents = contents c.args.first.now c.args.second.now (option_map (λ f. f.now) c.args.schema) in
    let pair = c.in_ok-pair.pair in
    let names = texts_in c.as_slice.result.now in
    let same : names ≡ s.dimensions = search rules in
    let of_files : (p : Printed) → IsNewAccessOfPair certified names c.change_limits_of.result pair p → IsNewAccessPrinted s certified files p =
    λ p v. with-acceptance c.certified_subjects_are_accepted.ensures s certified files p c.requires.0.5
    (inr (of_pair files pair (λ (o : Pair). IsNewAccessOfPair certified s.dimensions (change_limits_in s) o p) c.in_ok-pair.ensures.read
    (subst (λ (ws : List (List ℕ)). IsNewAccessOfPair certified ws (change_limits_in s) pair p) same
    (subst (λ (limits : Limits). IsNewAccessOfPair certified names limits pair p) c.change_limits_of.ensures.value v)))) in
    or_answered_weaker c.print_pair.result _ _ _ _ of_files of_files c.print_pair.ensures
