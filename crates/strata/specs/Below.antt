-- The order of the predicates of a slot by the valid requests that meet them, and which of those that are named are kept.
use Rattle.std.specs.Prelude.{List, [], ◌∷◌, ◌++◌, Any}
use Rattle.policy_model.specs.declared.request.Request.{Request}
use Rattle.policy_model.specs.declared.schema.Schema.{Schema}
use Rattle.policy_model.specs.declared.test.Slot.{Slot}
use Rattle.policy_model.specs.Requests.{IsValid}
use Rattle.strata.specs.declared.predicate.Predicate.{Predicate}
use Rattle.strata.specs.Predicates.{MeetsPredicate}

-- some valid request meets the predicate
pub record IsMetUnder (schema : Schema) (s : Slot) (p : Predicate) : Type 0 where
  pub request : Request
  pub valid : IsValid schema request
  pub meets : MeetsPredicate s p request

-- p is below q: every valid request that meets p meets q
abbrev pub IsBelow : Schema → Slot → Predicate → Predicate → Type 0
IsBelow schema s p q = (r : Request) → IsValid schema r → MeetsPredicate s p r → MeetsPredicate s q r

-- p is not below q: some valid request meets p and not q
pub record IsApart (schema : Schema) (s : Slot) (p q : Predicate) : Type 0 where
  pub request : Request
  pub valid : IsValid schema request
  pub meets : MeetsPredicate s p request
  pub misses : ¬ MeetsPredicate s q request

-- no request meets both
abbrev pub ShareNoRequest : Slot → Predicate → Predicate → Type 0
ShareNoRequest s p q = (r : Request) → MeetsPredicate s p r → ¬ MeetsPredicate s q r

-- the same valid requests meet both
pub record MeetTheSame (schema : Schema) (s : Slot) (p q : Predicate) : Type 0 where
  pub below : IsBelow schema s p q
  pub above : IsBelow schema s q p

-- the predicate is kept, where these are named before it: some valid request meets it, and no earlier one is met by the same
pub record IsKeptAfter (schema : Schema) (s : Slot) (earlier : List Predicate) (p : Predicate) : Type 0 where
  pub met : IsMetUnder schema s p
  pub first : ¬ Any (λ q. MeetTheSame schema s q p) earlier

-- of the predicates that are named after the earlier ones, those that are kept, in order
pub data Keeps (schema : Schema) (s : Slot) : List Predicate → List Predicate → List Predicate → Type 0 where
  keeps_none : {earlier : List Predicate} → Keeps schema s earlier [] []
  keeps_it : {earlier names kept : List Predicate} {p : Predicate} → IsKeptAfter schema s earlier p →
      Keeps schema s (earlier ++ p ∷ []) names kept → Keeps schema s earlier (p ∷ names) (p ∷ kept)
  drops_it : {earlier names kept : List Predicate} {p : Predicate} → ¬ IsKeptAfter schema s earlier p →
      Keeps schema s (earlier ++ p ∷ []) names kept → Keeps schema s earlier (p ∷ names) kept

-- those that are kept of the predicates that are named
abbrev pub AreKeptAmong : Schema → Slot → List Predicate → List Predicate → Type 0
AreKeptAmong schema s names kept = Keeps schema s [] names kept
