use Rattle.std.proofs.Common.{ℕ, List, subst}
use Rattle.std.specs.Bool.{Decides}
use Rattle.std.proofs.lemmas.Bool.Decides.{same_from_decides}
use Rattle.wildcard_lang.specs.Matching.{Matches}
use Rattle.wildcard_lang.proofs.Laws.{Decides-accepts}
use Rattle.policy_model.specs.Operators.{truth_word}
use Rattle.policy_model.proofs.operand.takes_word.Goals as goal

pub returns : goal.returns
returns c =
    let pattern = c.args.pattern.now in
    let P : List ℕ → Type 0 = λ w. Decides c.matches_str.result (Matches pattern w) in
    same_from_decides _ _ (subst P c.truth_word.ensures c.matches_str.ensures) (Decides-accepts pattern (truth_word c.args.truth))
