-- It is decided whether a request lies in a finding.
use Rattle.std.proofs.Common.{◌⊎◌, ℕ, List, [], ◌∷◌, inl, inr}
use Rattle.wildcard_lang.specs.Accepts.{accepts}
use Rattle.wildcard_lang.proofs.Laws.{Decides-accepts}
use Rattle.policy_model.specs.declared.request.Request.{Request}
use Rattle.policy_model.specs.declared.test.Slot.{Slot}
use Rattle.policy_model.specs.declared.test.Slot.TheVariants as slot
use Rattle.policy_model.specs.Conds.{CondMeets}
use Rattle.policy_model.specs.Conditions.{values_at}
use Rattle.policy_model.proofs.Laws.{Any-decided, meets-decided}
use Rattle.refute_check.proofs.Deciding.{Decides-named, by-test, is_named}
use Rattle.strata.specs.declared.predicate.Predicate.{Predicate}
use Rattle.strata.specs.declared.predicate.Predicate.TheVariants.{Every, Principal, Word, Meets}
use Rattle.strata.specs.declared.stratum.Stratum.{Stratum}
use Rattle.strata.specs.Covers.{predicate_at}
use Rattle.strata.specs.Predicates.{MeetsPredicate}
use Rattle.findings.specs.Findings.{LiesInFinding}

meets-or-not : (s : Slot) (p : Predicate) (r : Request) → MeetsPredicate s p r ⊎ ¬ MeetsPredicate s p r
meets-or-not s Every r = inl tt
meets-or-not slot.Principal (Principal entry) r = by-test (is_named r.kind r.id entry) (Decides-named r.kind r.id entry)
meets-or-not slot.Action (Principal entry) r = inr (λ h. h)
meets-or-not slot.Resource (Principal entry) r = inr (λ h. h)
meets-or-not (slot.Key key) (Principal entry) r = inr (λ h. h)
meets-or-not slot.Principal (Word pattern) r = inr (λ h. h)
meets-or-not slot.Action (Word pattern) r = by-test (accepts pattern r.action) (Decides-accepts pattern r.action)
meets-or-not slot.Resource (Word pattern) r = by-test (accepts pattern r.resource) (Decides-accepts pattern r.resource)
meets-or-not (slot.Key key) (Word pattern) r = inr (λ h. h)
meets-or-not slot.Principal (Meets c) r = inr (λ h. h)
meets-or-not slot.Action (Meets c) r = inr (λ h. h)
meets-or-not slot.Resource (Meets c) r = inr (λ h. h)
meets-or-not (slot.Key key) (Meets c) r = Any-decided (λ v. CondMeets v c) (λ v. meets-decided v c) (values_at r key)

both-or-not : {P Q : Type 0} → P ⊎ ¬ P → Q ⊎ ¬ Q → (P × Q) ⊎ ¬ (P × Q)
both-or-not (inl p) (inl q) = inl (p, q)
both-or-not (inl p) (inr never) = inr (λ h. never h.1)
both-or-not (inr never) q = inr (λ h. never h.0)

pub lies-decided : (r : Request) (ds : List Stratum) (f : List ℕ) → LiesInFinding r ds f ⊎ ¬ LiesInFinding r ds f
lies-decided r [] f = inl tt
lies-decided r (d ∷ ds) [] = inl tt
lies-decided r (d ∷ ds) (n ∷ f) = both-or-not (meets-or-not d.slot (predicate_at d.predicates n) r) (lies-decided r ds f)
