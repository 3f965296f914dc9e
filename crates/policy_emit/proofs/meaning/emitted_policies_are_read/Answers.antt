use Rattle.policy_emit.proofs.Reading.{policies-read}
use Rattle.policy_emit.proofs.meaning.emitted_policies_are_read.Goals as goal

pub returns : goal.returns
returns c = policies-read (record {
  operators = c.operators_are_named.ensures;
  form = c.block_of_is_the_form.ensures;
  spelled = c.written_block_spells.ensures;
  predicates = c.predicates_are_of_written_forms.ensures;
})
