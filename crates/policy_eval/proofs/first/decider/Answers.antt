use Rattle.std.proofs.Common.{Some, None, true, false, ap, inr, refl}
use Rattle.policy_model.specs.StatementNames.{named_documents, named_grants, named_set}
use Rattle.policy_eval.proofs.Firsts.{FirstIs-at, FirstSilentIs-at}
use Rattle.policy_eval.proofs.first.decider.Goals as goal

pub returns-in-Some-first_silent : goal.returns-in-Some-first_silent
returns-in-Some-first_silent c = record {
  not_denied = FirstIs-at c.args.schema.now false c.args.request.now (named_set c.args.set.now) (named_set c.args.set.now) c.first_deny.result None c.in_default.is refl c.first_deny.ensures;
  name = c.in-Some-first_of_documents.name;
  granted = FirstIs-at c.args.schema.now true c.args.request.now (named_documents 1 c.as_slice.result.now) (named_grants c.args.set.now) c.first_of_documents.result (Some c.in-Some-first_of_documents.name)
      c.in-Some-first_of_documents.is (ap (named_documents 1) c.as_slice.ensures) c.first_of_documents.ensures;
  silent = FirstSilentIs-at c.args.schema.now c.args.request.now c.as_slice-2.result.now c.args.set.now.guards c.first_silent.result (Some c.in-Some-first_silent.guard)
      c.in-Some-first_silent.is c.as_slice-2.ensures c.first_silent.ensures;
}

pub returns-in-None : goal.returns-in-None
returns-in-None c = inr (record {
  not_denied = FirstIs-at c.args.schema.now false c.args.request.now (named_set c.args.set.now) (named_set c.args.set.now) c.first_deny.result None c.in_default.is refl c.first_deny.ensures;
  guarded = FirstSilentIs-at c.args.schema.now c.args.request.now c.as_slice-2.result.now c.args.set.now.guards c.first_silent.result None c.in-None.is c.as_slice-2.ensures c.first_silent.ensures;
  first = FirstIs-at c.args.schema.now true c.args.request.now (named_documents 1 c.as_slice.result.now) (named_grants c.args.set.now) c.first_of_documents.result (Some c.in-Some-first_of_documents.name)
      c.in-Some-first_of_documents.is (ap (named_documents 1) c.as_slice.ensures) c.first_of_documents.ensures;
})
