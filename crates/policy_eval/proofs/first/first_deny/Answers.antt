use Rattle.std.proofs.Common.{◌+◌, length, false, None, ap}
use Rattle.policy_model.specs.StatementNames.{named_documents, named_grants, named_guards}
use Rattle.policy_eval.specs.Deciding.{FirstIs}
use Rattle.policy_eval.proofs.Firsts.{FirstIs-behind, first-none}
use Rattle.policy_eval.proofs.first.first_deny.Goals as goal

pub returns : goal.returns
returns c =
    let none : FirstIs c.args.schema.now false c.args.request.now (named_grants c.args.set.now) None =
    first-none c.args.schema.now false c.args.request.now _ _ c.first_of_documents-first.result (cc) (ap (named_documents 1) c.as_slice.ensures) c.first_of_documents-first.ensures in
    FirstIs-behind c.args.schema.now false c.args.request.now (named_grants c.args.set.now) (named_guards (1 + length c.args.set.now.grants) c.args.set.now.guards) c.first_of_guards.result none
    (rw (c.len.ensures, c.as_slice-2.ensures) at c.first_of_guards.ensures)
