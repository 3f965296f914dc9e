use Rattle.std.proofs.Common.{◌≡◌, ◌∙◌, rules, Some, None}
use Rattle.std.proofs.lemmas.Option.{none-some}
use Rattle.intervals.specs.MomentTexts.{moment_of}
use Rattle.intervals.proofs.MomentForms.{moment_forth, moment_back}
use Rattle.intervals.proofs.moment.read_moment.Goals as goal

pub returns-in-Some-clause-stands_for : goal.returns-in-Some-clause-stands_for
returns-in-Some-clause-stands_for c =
    let e : moment_of c.args.text.now ≡ Some c.in-Some.moment = search rules in moment_back _ _ e

pub returns-in-None-clause-refused : goal.returns-in-None-clause-refused
returns-in-None-clause-refused c =
    let e : None ≡ moment_of c.args.text.now = search rules in λ units form. none-some units (e ∙ moment_forth _ _ form)
