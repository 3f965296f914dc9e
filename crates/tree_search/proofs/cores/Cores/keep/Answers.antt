use Rattle.std.proofs.Common.{ap, sym, ◌∙◌, inr}
use Rattle.formula_tree.specs.Answers.{Answers}
use Rattle.search_parts.specs.declared.part.Needs.TheVariants.{Just}
use Rattle.tree_search.proofs.cores.Cores.keep.Goals as goal

pub returns : goal.returns
returns c = record {
  path = c.in_ok-learn.ensures.path;
  kept = inr (record {
    answers = c.in_ok-copy.field-0;
    own = c.in-Just.is ∙ ap (λ (a : Answers). Just a) (sym c.in_ok-copy.ensures);
    lists = c.in_ok-learn.ensures.ok;
    kept = c.in_ok-clone.field-0;
    same = c.in_ok-clone.ensures.cases;
    parts = c.in_ok-push.ensures.items;
  });
}
