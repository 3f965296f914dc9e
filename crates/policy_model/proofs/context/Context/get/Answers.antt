use Rattle.std.proofs.Common.{◌≢◌, [], subst}
use Rattle.std.proofs.lemmas.Map.Views.{IfSome-lookup_from_All}
use Rattle.std.specs.Prelude.{IfSome}
use Rattle.policy_model.proofs.Entries.{found}
use Rattle.policy_model.proofs.context.Context.get.Goals as goal

pub returns-clause-nonempty : goal.returns-clause-nonempty
returns-clause-nonempty c =
    found (λ v. v.now) (λ values. values ≢ []) c.get.result _ c.get.ensures
    (λ values is. subst (λ o. IfSome o (λ values. values ≢ [])) is (IfSome-lookup_from_All (λ values. values ≢ []) _ c.self.inside.entries c.self.invariant.1))
