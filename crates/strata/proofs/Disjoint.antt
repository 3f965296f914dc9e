-- Predicates that share no request, by what they ask.
use Rattle.std.proofs.Common.{◌≡◌, List, subst, sym}
use Rattle.wildcard_lang.specs.declared.piece.Piece.{Piece}
use Rattle.wildcard_lang.specs.Covering.{Clash}
use Rattle.wildcard_lang.proofs.Laws.{clashing-apart}
use Rattle.policy_model.specs.declared.principal.Entry.{Entry}
use Rattle.policy_model.specs.declared.test.Slot.{Slot}
use Rattle.policy_model.specs.declared.test.Slot.TheVariants as slot
use Rattle.policy_model.specs.Principals.{SharesNoPrincipal}
use Rattle.strata.specs.declared.predicate.Predicate.{Predicate}
use Rattle.strata.specs.declared.predicate.Predicate.TheVariants.{Principal, Word}
use Rattle.strata.specs.Below.{ShareNoRequest}

share-equal : (s t : Slot) (p q : Predicate) (one other : Predicate) → s ≡ t → p ≡ one → q ≡ other → ShareNoRequest t one other → ShareNoRequest s p q
share-equal s t p q one other same first second none =
    subst (λ (x : Slot). ShareNoRequest x p q) (sym same) (subst (λ (x : Predicate). ShareNoRequest t x q) (sym first) (subst (λ (x : Predicate). ShareNoRequest t one x) (sym second) none))

pub entries-share-none : (s : Slot) (p q : Predicate) (a b : Entry) → s ≡ slot.Principal → p ≡ Principal a → q ≡ Principal b → SharesNoPrincipal a b → ShareNoRequest s p q
entries-share-none s p q a b same first second none = share-equal s slot.Principal p q (Principal a) (Principal b) same first second (λ r holds also. none r.kind r.id holds also)

pub actions-share-none : (s : Slot) (p q : Predicate) (a b : List Piece) → s ≡ slot.Action → p ≡ Word a → q ≡ Word b → Clash a b → ShareNoRequest s p q
actions-share-none s p q a b same first second clash = share-equal s slot.Action p q (Word a) (Word b) same first second (λ r holds also. clashing-apart a b r.action clash holds also)

pub resources-share-none : (s : Slot) (p q : Predicate) (a b : List Piece) → s ≡ slot.Resource → p ≡ Word a → q ≡ Word b → Clash a b → ShareNoRequest s p q
resources-share-none s p q a b same first second clash = share-equal s slot.Resource p q (Word a) (Word b) same first second (λ r holds also. clashing-apart a b r.resource clash holds also)
