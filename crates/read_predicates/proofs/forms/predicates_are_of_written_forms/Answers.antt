use Rattle.read_predicates.proofs.Provenance.{made-written}
use Rattle.read_predicates.proofs.forms.predicates_are_of_written_forms.Goals as goal

pub returns : goal.returns
returns c = made-written (record {
  decimals = c.decimal_of_is_the_form.ensures;
  moments = c.moment_of_is_the_forms.ensures;
  blocks = c.block_of_is_the_form.ensures;
})
