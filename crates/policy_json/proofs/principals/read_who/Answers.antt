use Rattle.std.proofs.Common.{◌∙◌, refl, sym, subst, codes, Option, Some, List, All as Each}
use Rattle.policy_model.specs.declared.principal.Entry.{Entry}
use Rattle.policy_model.specs.declared.matcher.Matcher.{Matcher}
use Rattle.policy_model.specs.Soundness.{EntryIsSound}
use Rattle.serde_json.specs.View.{view}
use Rattle.serde_json.specs.Find.{get}
use Rattle.policy_json.specs.Statements.{who_checks}
use Rattle.policy_json.specs.Principals.{entries_of, principal_checks}
use Rattle.policy_json.specs.Texts.{matcher_of}
use Rattle.policy_json.proofs.Choosing.{faults_of_one}
use Rattle.policy_json.proofs.Sound.{entries_sound}
use Rattle.json_shapes.proofs.Laws.{refused_whole}
use Rattle.policy_json.proofs.principals.read_who.Goals as goal

pub returns-in_err-items-in-Some-clause-read : goal.returns-in_err-items-in-Some-clause-read
returns-in_err-items-in-Some-clause-read c =
    let d = view c.args.statement.now in
    let element = c.in-Some.element in
    let value = view element.value.now in
    let same = faults_of_one (principal_checks c.args.location) (λ n. refl) c.args.location element.not (codes "Principal") (codes "NotPrincipal") d element.name.now value c.in_ok-not_both.ensures.0 c.in-Some.ensures in
    refused_whole {X = List Entry} {Y = Option (Matcher Entry)} (principal_checks c.args.location element.name.now (Some value)) (who_checks c.args.location d)
    (entries_of value) (matcher_of entries_of (get (codes "Principal") d) (get (codes "NotPrincipal") d)) _ _ c.from_residual-in_err-items-in-Some.ensures.1 (λ fault first. same ∙ first) c.in_err-items-in-Some.ensures

pub returns-in_ok-items-in-Some-clause-sound : goal.returns-in_ok-items-in-Some-clause-sound
returns-in_ok-items-in-Some-clause-sound c =
    let element = c.in-Some.element in
    let sound = entries_sound c.args.location element.name.now (view element.value.now) c.in_ok-items-in-Some.ensures.0 in
    subst (Each EntryIsSound) (sym c.in_ok-items-in-Some.ensures.1) sound
