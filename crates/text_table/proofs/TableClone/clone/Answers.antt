use Rattle.std.proofs.Common.{◌∙◌}
use Rattle.wildcard_lang.specs.contracts.text.TextClone.TheImpl as copied_text
use Rattle.text_table.proofs.Copies.{same_entries}
use Rattle.text_table.proofs.TableClone.clone.Goals as goal

pub returns : goal.returns
returns g c = record {
  cases =
      same_entries copied_text.is_clone-value.it g.V.Clone.is_clone c.self.inside.entries.entries _ c.in_ok-entries.ensures.cases (λ t u same. same)
      g.met.V.EqualClone.clones_are_equal ∙ c.self.view_is;
}
