use Rattle.std.proofs.Common.{◌≡◌, ℕ, List, Option, inl, inr, option_map, rules, subst}
use Rattle.std.proofs.lemmas.Result.{err_from_is_err_and}
use Rattle.command_words.specs.Asked.{Summarising, summarising_in, texts_in}
use Rattle.policy_model.specs.declared.schema.Schema.{Schema}
use Rattle.summary_search.specs.declared.outcome.Limits.{Limits}
use Rattle.run_inputs.specs.declared.printed.Printed.{Printed}
use Rattle.run_inputs.proofs.FileLaws.{if_answered_weaker, or_answered_weaker}
use Rattle.run_inputs.specs.declared.one_set.OneSet.{OneSet}
use Rattle.run_inputs.specs.OneSets.{IsOneSetRefusal, SetContents, set_contents}
use Rattle.run_inputs.specs.Refusals.{IsRefusedBy}
use Rattle.summary_answers.specs.Printed.{limits_in}
use Rattle.emit_answers.specs.EmitPrinted.{IsEmitPrinted, IsSetEmitted}
use Rattle.emit_answers.proofs.Emitting.{of-file, of-named}
use Rattle.emit_answers.proofs.printing.print_emit.Goals as goal

pub returns-in_err-one : goal.returns-in_err-one
returns-in_err-one c =
    let e : Summarising = summarising_in c.args.arguments.now in
    let file : Option (List ℕ) = option_map (λ f. f.now) c.args.schema in
    let files : SetContents = set_contents c.args.set.now file in
    let p = err_from_is_err_and c.from_residual.result c.from_residual.ensures.1 in
    rw (p.1, p.2) (if_answered_weaker _ (IsRefusedBy (IsOneSetRefusal c.args.set.now file)) (IsEmitPrinted e files) (λ p v. inl v) c.in_err-one.ensures.read)

pub returns : goal.returns
returns c =
    let e : Summarising = summarising_in c.args.arguments.now in
    let file : Option (List ℕ) = option_map (λ f. f.now) c.args.schema in
    let files : SetContents = set_contents c.args.set.now file in
    let one = c.in_ok-one.one in
    let names = texts_in c.as_slice.result.now in
    let same : names ≡ e.dimensions = search rules in
    let of = c.in_ok-one.ensures.read in
    let said : (p : Printed) → IsSetEmitted names c.limits_of.result of.named one p → IsEmitPrinted e files p =
    λ p v. inr (of-named c.args.set.now file one (λ (named : Schema) (o : OneSet). IsSetEmitted e.dimensions (limits_in e) named o p) of
    (subst (λ (ws : List (List ℕ)). IsSetEmitted ws (limits_in e) of.named one p) same
    (subst (λ (limits : Limits). IsSetEmitted names limits of.named one p) c.limits_of.ensures.value v))) in
    or_answered_weaker c.print_set_policy.result _ _ _ _ said said (c.print_set_policy.ensures of.named one c.subject_of_set-subject.ensures.value (of-file c.args.set.now file one of))
