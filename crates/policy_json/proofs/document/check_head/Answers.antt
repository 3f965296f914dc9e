use Rattle.std.proofs.Common.{refl}
use Rattle.serde_json.specs.View.{view}
use Rattle.policy_json.specs.Documents.{element_checks, head_checks, object_checks}
use Rattle.json_shapes.proofs.Laws.{first_fault-rest, continued, refused}
use Rattle.policy_json.proofs.document.check_head.Goals as goal

pub returns-in_err-check_object : goal.returns-in_err-check_object
returns-in_err-check_object c =
    let d = view c.args.document.now in
    let p = c.args.location in
    refused (head_checks p d) (object_checks p d) (element_checks p d) tt _ _ refl c.in_err-check_object.ensures c.from_residual.ensures.1

pub returns : goal.returns
returns c =
    let d = view c.args.document.now in
    let p = c.args.location in
    let same = first_fault-rest (object_checks p d) (element_checks p d) c.in_ok-check_object.ensures.0 in
    continued (head_checks p d) (element_checks p d) tt _ same c.check_elements.ensures
