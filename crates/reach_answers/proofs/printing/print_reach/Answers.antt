use Rattle.std.proofs.Common.{◌≡◌, ℕ, List, Option, inl, inr, option_map, rules, subst}
use Rattle.std.proofs.lemmas.Result.{err_from_is_err_and}
use Rattle.command_words.specs.Asked.{Summarising, summarising_in, texts_in}
use Rattle.summary_search.specs.declared.outcome.Limits.{Limits}
use Rattle.run_inputs.specs.declared.printed.Printed.{Printed}
use Rattle.run_inputs.proofs.FileLaws.{if_answered_weaker, or_answered_weaker}
use Rattle.run_inputs.specs.declared.one_set.OneSet.{OneSet}
use Rattle.run_inputs.specs.OneSets.{IsOneSetRefusal}
use Rattle.run_inputs.specs.Refusals.{IsRefusedBy}
use Rattle.run_inputs.proofs.Laws.{of_one}
use Rattle.summary_answers.specs.Printed.{limits_in}
use Rattle.reach_answers.specs.ReachPrinted.{IsReachOfSet, IsReachPrinted, ReachContents, reach_contents}
use Rattle.reach_answers.proofs.Reaching.{free-one}
use Rattle.reach_answers.proofs.printing.print_reach.Goals as goal

pub print_set_reach-requires-clause-free : goal.print_set_reach-requires-clause-free
print_set_reach-requires-clause-free c = free-one c.read_sets_are_of_forms.ensures c.set_limits.ensures c.args.set.now (option_map (λ f. f.now) c.args.schema) c.in_ok-one.one c.in_ok-one.ensures.read

pub returns-in_err-one : goal.returns-in_err-one
returns-in_err-one c =
    let s : Summarising = summarising_in c.args.arguments.now.summary in
    let file : Option (List ℕ) = option_map (λ f. f.now) c.args.schema in
    let files : ReachContents = reach_contents c.args.set.now c.args.zone.now file in
    let p = err_from_is_err_and c.from_residual.result c.from_residual.ensures.1 in
    rw (p.1, p.2) (if_answered_weaker _ (IsRefusedBy (IsOneSetRefusal c.args.set.now file)) (IsReachPrinted s files) (λ p v. inl v) c.in_err-one.ensures.read)

pub returns : goal.returns
returns c =
    let s : Summarising = summarising_in c.args.arguments.now.summary in
    let file : Option (List ℕ) = option_map (λ f. f.now) c.args.schema in
    let files : ReachContents = reach_contents c.args.set.now c.args.zone.now file in
    let one = c.in_ok-one.one in
    let names = texts_in c.as_slice.result.now in
    let bytes = c.args.zone.now in
    let same : names ≡ s.dimensions = search rules in
    let said : (p : Printed) → IsReachOfSet names c.limits_of.result bytes one p → IsReachPrinted s files p =
    λ p v. inr (of_one c.args.set.now file one (λ (o : OneSet). IsReachOfSet s.dimensions (limits_in s) bytes o p) c.in_ok-one.ensures.read
    (subst (λ (ws : List (List ℕ)). IsReachOfSet ws (limits_in s) bytes one p) same
    (subst (λ (limits : Limits). IsReachOfSet names limits bytes one p) c.limits_of.ensures.value v))) in
    or_answered_weaker c.print_set_reach.result _ _ _ _ said said c.print_set_reach.ensures
