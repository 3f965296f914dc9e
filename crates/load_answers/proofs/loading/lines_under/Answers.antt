use Rattle.std.proofs.Common.{refl, subst}
use Rattle.policy_load.specs.Loads.{first_load, second_load}
use Rattle.policy_model.specs.declared.schema.Schema.{Schema}
use Rattle.load_answers.specs.Loaded.{ComparesSets, IsLineFor, SummarisesFirst}
use Rattle.load_answers.proofs.loading.lines_under.Goals as goal

pub returns : goal.returns
returns c =
    let keys = c.args.keys in
    let named = c.requires.built_in in
    record {
      count = refl;
      forth = subst (λ (s : Schema). IsLineFor (ComparesSets s (first_load keys) second_load) c.in_ok-forth.forth) named c.in_ok-forth.ensures;
      back = subst (λ (s : Schema). IsLineFor (ComparesSets s second_load (first_load keys)) c.in_ok-back.back) named c.in_ok-back.ensures;
      summary = subst (λ (s : Schema). IsLineFor (SummarisesFirst s (first_load keys)) c.in_ok-summary.summary) named c.in_ok-summary.ensures;
    }
