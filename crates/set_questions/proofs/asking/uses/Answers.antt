use Rattle.std.proofs.Common.{◌∙◌}
use Rattle.policy_model.specs.declared.set.StatementName.{StatementName}
use Rattle.set_questions.proofs.Listing.{item-there, use-next}
use Rattle.set_questions.proofs.asking.uses.Goals as goal

pub use_of-requires-clause-named : goal.use_of-requires-clause-named
use_of-requires-clause-named g c =
    let none : StatementName = record { document = 0; statement = 0 } in
    item-there c.args.set.now c.names.name-index none c.as_slice-name-items.result.now (c.as_slice-name-items.ensures ∙ c.in_ok-names.ensures) c.names-test.true

pub names-preserved : goal.names-preserved
names-preserved g c =
    let none : StatementName = record { document = 0; statement = 0 } in
    record {
      found = use-next c.args.set.now c.names.name-index none c.as_slice-name-items.result.now (c.as_slice-name-items.ensures ∙ c.in_ok-names.ensures) c.names-test.true
          c.args.schema.now (g.S.Settle.splits c.args.by.now) (g.S.Settle.states c.args.by.now) (g.S.Settle.splits c.names.by) (g.S.Settle.states c.names.by)
          c.names.found c.push.new.self c.in_ok-use_of.field-0 c.names.invariant.splits c.names.invariant.states c.in_ok-use_of.ensures.found c.in_ok-push.ensures.ok c.names.invariant.found;
      schema = c.in_ok-use_of.ensures.schema ∙ c.names.invariant.schema;
      splits = c.in_ok-use_of.ensures.splits ∙ c.names.invariant.splits;
      states = c.in_ok-use_of.ensures.states ∙ c.names.invariant.states;
    }
