use Rattle.std.proofs.Common.{◌∙◌, refl, false, codes, Option, Some, List, ℕ}
use Rattle.wildcard_lang.specs.declared.piece.Piece.{Piece}
use Rattle.policy_model.specs.declared.matcher.Matcher.{Matcher}
use Rattle.serde_json.specs.Data.{Data}
use Rattle.serde_json.specs.View.{view}
use Rattle.serde_json.specs.Find.{get}
use Rattle.policy_json.specs.Statements.{resource_checks}
use Rattle.policy_json.specs.Texts.{matcher_of, patterns_checks, globs_of}
use Rattle.policy_json.proofs.Choosing.{faults_of_one}
use Rattle.json_shapes.proofs.Laws.{refused_whole}
use Rattle.policy_json.proofs.texts.read_resource.Goals as goal

pub returns-in_err-items-in-Some : goal.returns-in_err-items-in-Some
returns-in_err-items-in-Some c =
    let d = view c.args.statement.now in
    let element = c.in-Some.element in
    let value = view element.value.now in
    let checks = λ (name : List ℕ) (o : Option Data). patterns_checks c.args.location name c.args.escapes o in
    let same = faults_of_one checks (λ n. refl) c.args.location element.not (codes "Resource") (codes "NotResource") d element.name.now value c.in_ok-not_both.ensures.0 c.in-Some.ensures in
    refused_whole {X = List (List Piece)} {Y = Option (Matcher (List Piece))} (patterns_checks c.args.location element.name.now c.args.escapes (Some value)) (resource_checks c.args.location c.args.escapes d)
    (globs_of false c.args.escapes value) (matcher_of (globs_of false c.args.escapes) (get (codes "Resource") d) (get (codes "NotResource") d)) _ _ c.from_residual-in_err-items-in-Some.ensures.1 (λ fault first. same ∙ first) c.in_err-items-in-Some.ensures
