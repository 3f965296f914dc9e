use Rattle.std.proofs.Common.{◌∙◌, ap, arith, sym}
use Rattle.std.proofs.lemmas.Result.{IfOk-weaker}
use Rattle.std.proofs.lemmas.Str.Pattern.{split_parts}
use Rattle.load_answers.specs.Loaded.{line_of}
use Rattle.load_answers.proofs.Lines.{before_feed, without_feed}
use Rattle.load_answers.proofs.loading.line_of.Goals as goal

pub returns-in-Some : goal.returns-in-Some
returns-in-Some c =
    let cut = rw c.in-Some.is at (split_parts 10 c.args.text.now c.split_once.result c.split_once.ensures.cases (omega arith)) in
    let line = ap line_of cut.0 ∙ before_feed _ _ cut.1 in
    IfOk-weaker c.from_str.result _ _ (λ s h. h ∙ sym line) c.from_str.ensures.ok

pub returns-in-None : goal.returns-in-None
returns-in-None c =
    let none = rw c.in-None.is at (split_parts 10 c.args.text.now c.split_once.result c.split_once.ensures.cases (omega arith)) in
    IfOk-weaker c.from_str-in-None.result _ _ (λ s h. h ∙ sym (without_feed _ none)) c.from_str-in-None.ensures.ok
