-- A request lies in a finding exactly where it meets what the finding asks of its principal, its action, its resource and its keys.
use Rattle.std.proofs.Common.{◌≡◌, ◌≢◌, ◌↔◌, ℕ, List, [], ◌∷◌, ◌++◌, Bool, true, false, All, Option, Some, None, refl, ap, sym, subst, ◌∙◌, if◌then◌else◌}
use Rattle.std.specs.Prelude.{⊤, MatchOption}
use Rattle.std.proofs.lemmas.List.Elements.{All-append, All-cons, All-head, All-nil, All-tail}
use Rattle.policy_model.specs.declared.operator.Condition.{Condition}
use Rattle.policy_model.specs.declared.request.Request.{Request}
use Rattle.policy_model.specs.declared.schema.Schema.{Schema}
use Rattle.policy_model.specs.declared.test.Slot.{Slot}
use Rattle.policy_model.specs.declared.test.Slot.TheVariants as slot
use Rattle.policy_model.specs.Conditions.{ConditionHolds}
use Rattle.policy_model.specs.Requests.{IsValid}
use Rattle.strata.specs.declared.predicate.Predicate.{Predicate}
use Rattle.strata.specs.declared.predicate.Predicate.TheVariants.{Every, Principal, Word, Meets}
use Rattle.strata.specs.declared.stratum.Stratum.{Stratum}
use Rattle.strata.specs.Covers.{predicate_at}
use Rattle.strata.specs.Predicates.{MeetsPredicate, SuitsSlot}
use Rattle.findings.specs.Findings.{LiesInFinding}
use Rattle.policy_emit.specs.declared.part.Part.{Part}
use Rattle.policy_emit.specs.declared.part.Part.TheVariants as part
use Rattle.policy_emit.specs.Emitted.{condition_on, conditions_in, is_slot_of, key_conditions, predicate_of}
use Rattle.policy_emit.proofs.Choosing.{else-taken}
use Rattle.policy_emit.proofs.Meeting.{condition-meets}
use Rattle.policy_emit.proofs.Placing.{AreOthers, IsOther}

-- ---- dimensions

abbrev pub slot_of_part : Part → Slot
slot_of_part part.Principal = slot.Principal
slot_of_part part.Action = slot.Action
slot_of_part part.Resource = slot.Resource

-- P holds of each predicate of each dimension
abbrev pub AllHave : (Slot → Predicate → Type 0) → List Stratum → Type 0
AllHave P [] = Unit {0}
AllHave P (d ∷ ds) = ((n : ℕ) → P d.slot (predicate_at d.predicates n)) × AllHave P ds

-- each suits its slot
abbrev pub AllSuit : Schema → List Stratum → Type 0
AllSuit schema ds = AllHave (SuitsSlot schema) ds

-- what a part of a finding is asked is such a predicate of the part's slot
abbrev pub HasPart : (Slot → Predicate → Type 0) → Part → Option Predicate → Type 0
HasPart P p asked = MatchOption asked ⊤ (P (slot_of_part p))

module _ (P : Slot → Predicate → Type 0) where
  part-has : (p : Part) (s : Slot) (b : Bool) (own : Predicate) (rest : Option Predicate) → is_slot_of p s ≡ b → P s own → HasPart P p rest → HasPart P p (if b then Some own else rest)
  part-has p s false own rest is has later = later
  part-has part.Principal slot.Principal true own rest is has later = has
  part-has part.Principal slot.Action true own rest is has later = absurd (cc)
  part-has part.Principal slot.Resource true own rest is has later = absurd (cc)
  part-has part.Principal (slot.Key key) true own rest is has later = absurd (cc)
  part-has part.Action slot.Principal true own rest is has later = absurd (cc)
  part-has part.Action slot.Action true own rest is has later = has
  part-has part.Action slot.Resource true own rest is has later = absurd (cc)
  part-has part.Action (slot.Key key) true own rest is has later = absurd (cc)
  part-has part.Resource slot.Principal true own rest is has later = absurd (cc)
  part-has part.Resource slot.Action true own rest is has later = absurd (cc)
  part-has part.Resource slot.Resource true own rest is has later = has
  part-has part.Resource (slot.Key key) true own rest is has later = absurd (cc)

  pub predicate-has : (p : Part) (ds : List Stratum) (f : List ℕ) → AllHave P ds → HasPart P p (predicate_of p ds f)
  predicate-has p [] f have = tt
  predicate-has p (d ∷ ds) [] have = tt
  predicate-has p (d ∷ ds) (n ∷ f) have = part-has p d.slot (is_slot_of p d.slot) (predicate_at d.predicates n) (predicate_of p ds f) refl (have.0 n) (predicate-has p ds f have.1)

-- none of the dimensions is of the slot
abbrev pub Lacks : Slot → List Stratum → Type 0
Lacks s [] = Unit {0}
Lacks s (d ∷ ds) = (s ≢ d.slot) × Lacks s ds

-- no two are of one slot
abbrev pub AreApart : List Stratum → Type 0
AreApart [] = Unit {0}
AreApart (d ∷ ds) = Lacks d.slot ds × AreApart ds

no-part : (p : Part) (s : Slot) → slot_of_part p ≢ s → is_slot_of p s ≡ false
no-part part.Principal slot.Principal apart = absurd (apart refl)
no-part part.Principal slot.Action apart = refl
no-part part.Principal slot.Resource apart = refl
no-part part.Principal (slot.Key key) apart = refl
no-part part.Action slot.Principal apart = refl
no-part part.Action slot.Action apart = absurd (apart refl)
no-part part.Action slot.Resource apart = refl
no-part part.Action (slot.Key key) apart = refl
no-part part.Resource slot.Principal apart = refl
no-part part.Resource slot.Action apart = refl
no-part part.Resource slot.Resource apart = absurd (apart refl)
no-part part.Resource (slot.Key key) apart = refl

absent : (p : Part) (ds : List Stratum) (f : List ℕ) → Lacks (slot_of_part p) ds → predicate_of p ds f ≡ None
absent p [] f lacks = refl
absent p (d ∷ ds) [] lacks = refl
absent p (d ∷ ds) (n ∷ f) lacks =
    else-taken (is_slot_of p d.slot) (Some (predicate_at d.predicates n)) (predicate_of p ds f) (no-part p d.slot lacks.0) ∙ absent p ds f lacks.1

-- ---- what is met

-- the request meets what is asked of the part, if something is
abbrev pub MeetsPart : Request → Part → Option Predicate → Type 0
MeetsPart r p asked = MatchOption asked ⊤ (λ q. MeetsPredicate (slot_of_part p) q r)

pub record MeetsParts (schema : Schema) (r : Request) (principal action resource : Option Predicate) (conditions : List Condition) : Type 0 where
  pub who : MeetsPart r part.Principal principal
  pub what : MeetsPart r part.Action action
  pub where_to : MeetsPart r part.Resource resource
  pub keys : All (ConditionHolds schema r) conditions

module _ (schema : Schema) (r : Request) (valid : IsValid schema r) where
  one-principal : (p : Predicate) (a s : Option Predicate) (cs : List Condition) → (MeetsPredicate slot.Principal p r × MeetsParts schema r None a s cs) ↔ MeetsParts schema r (Some p) a s cs
  one-principal p a s cs = (λ h. record { who = h.0; what = h.1.what; where_to = h.1.where_to; keys = h.1.keys }, λ h. (h.who, record { who = tt; what = h.what; where_to = h.where_to; keys = h.keys }))

  one-action : (p : Predicate) (w s : Option Predicate) (cs : List Condition) → (MeetsPredicate slot.Action p r × MeetsParts schema r w None s cs) ↔ MeetsParts schema r w (Some p) s cs
  one-action p w s cs = (λ h. record { who = h.1.who; what = h.0; where_to = h.1.where_to; keys = h.1.keys }, λ h. (h.what, record { who = h.who; what = tt; where_to = h.where_to; keys = h.keys }))

  one-resource : (p : Predicate) (w a : Option Predicate) (cs : List Condition) → (MeetsPredicate slot.Resource p r × MeetsParts schema r w a None cs) ↔ MeetsParts schema r w a (Some p) cs
  one-resource p w a cs = (λ h. record { who = h.1.who; what = h.1.what; where_to = h.0; keys = h.1.keys }, λ h. (h.where_to, record { who = h.who; what = h.what; where_to = tt; keys = h.keys }))

  one-key : (key : List ℕ) (p : Predicate) (w a s : Option Predicate) (cs : List Condition) → SuitsSlot schema (slot.Key key) p → (MeetsPredicate (slot.Key key) p r × MeetsParts schema r w a s cs) ↔ MeetsParts schema r w a s (key_conditions schema (slot.Key key) p ++ cs)
  one-key key Every w a s cs suits = (λ h. h.1, λ h. (tt, h))
  one-key key (Principal e) w a s cs suits = absurd suits
  one-key key (Word pattern) w a s cs suits = absurd suits
  one-key key (Meets c) w a s cs suits =
      let meets = condition-meets schema r valid key c suits in (
        λ h. record { who = h.1.who; what = h.1.what; where_to = h.1.where_to; keys = All-cons (ConditionHolds schema r) (condition_on schema key c) cs (meets.1 h.0) h.1.keys },
        λ h. (
          meets.0 (All-head (ConditionHolds schema r) (condition_on schema key c) cs h.keys),
          record { who = h.who; what = h.what; where_to = h.where_to; keys = All-tail (ConditionHolds schema r) (condition_on schema key c) cs h.keys },
        ),
      )

  abbrev Parts : List Stratum → List ℕ → Type 0
  Parts ds f = MeetsParts schema r (predicate_of part.Principal ds f) (predicate_of part.Action ds f) (predicate_of part.Resource ds f) (conditions_in schema ds f)

  one-dimension : (s : Slot) (p : Predicate) (ds : List Stratum) (f : List ℕ) → SuitsSlot schema s p → Lacks s ds →
      (MeetsPredicate s p r × Parts ds f)
      ↔ MeetsParts schema r (if is_slot_of part.Principal s then Some p else predicate_of part.Principal ds f) (if is_slot_of part.Action s then Some p else predicate_of part.Action ds f) (if is_slot_of part.Resource s then Some p else predicate_of part.Resource ds f) (key_conditions schema s p ++ conditions_in schema ds f)
  one-dimension slot.Principal p ds f suits lacks =
      let none = absent part.Principal ds f lacks in
      subst (λ (o : Option Predicate). (MeetsPredicate slot.Principal p r × MeetsParts schema r o (predicate_of part.Action ds f) (predicate_of part.Resource ds f) (conditions_in schema ds f)) ↔ MeetsParts schema r (Some p) (predicate_of part.Action ds f) (predicate_of part.Resource ds f) (conditions_in schema ds f)) (sym none)
      (one-principal p (predicate_of part.Action ds f) (predicate_of part.Resource ds f) (conditions_in schema ds f))
  one-dimension slot.Action p ds f suits lacks =
      let none = absent part.Action ds f lacks in
      subst (λ (o : Option Predicate). (MeetsPredicate slot.Action p r × MeetsParts schema r (predicate_of part.Principal ds f) o (predicate_of part.Resource ds f) (conditions_in schema ds f)) ↔ MeetsParts schema r (predicate_of part.Principal ds f) (Some p) (predicate_of part.Resource ds f) (conditions_in schema ds f)) (sym none)
      (one-action p (predicate_of part.Principal ds f) (predicate_of part.Resource ds f) (conditions_in schema ds f))
  one-dimension slot.Resource p ds f suits lacks =
      let none = absent part.Resource ds f lacks in
      subst (λ (o : Option Predicate). (MeetsPredicate slot.Resource p r × MeetsParts schema r (predicate_of part.Principal ds f) (predicate_of part.Action ds f) o (conditions_in schema ds f)) ↔ MeetsParts schema r (predicate_of part.Principal ds f) (predicate_of part.Action ds f) (Some p) (conditions_in schema ds f)) (sym none)
      (one-resource p (predicate_of part.Principal ds f) (predicate_of part.Action ds f) (conditions_in schema ds f))
  one-dimension (slot.Key key) p ds f suits lacks =
      one-key key p (predicate_of part.Principal ds f) (predicate_of part.Action ds f) (predicate_of part.Resource ds f) (conditions_in schema ds f) suits

  nothing-asked : ⊤ ↔ MeetsParts schema r None None None []
  nothing-asked = (λ h. record { who = tt; what = tt; where_to = tt; keys = All-nil (ConditionHolds schema r) }, λ h. tt)

  pub lies-by-parts : (ds : List Stratum) (f : List ℕ) → AllSuit schema ds → AreApart ds → LiesInFinding r ds f ↔ Parts ds f
  lies-by-parts [] f suit apart = nothing-asked
  lies-by-parts (d ∷ ds) [] suit apart = nothing-asked
  lies-by-parts (d ∷ ds) (n ∷ f) suit apart =
      let rest = lies-by-parts ds f suit.1 apart.1 in
      let own = one-dimension d.slot (predicate_at d.predicates n) ds f (suit.0 n) apart.0 in
      (λ h. own.0 (h.0, rest.0 h.1), λ h. (let both = own.1 h in (both.0, rest.1 both.1)))

-- ---- keys

same-key : (a b : List ℕ) → a ≡ b → slot.Key a ≡ slot.Key b
same-key a b e = ap slot.Key e

others-key : (schema : Schema) (c : Condition) (s : Slot) (p : Predicate) → slot.Key c.written ≢ s → All (IsOther c) (key_conditions schema s p)
others-key schema c slot.Principal p apart = All-nil (IsOther c)
others-key schema c slot.Action p apart = All-nil (IsOther c)
others-key schema c slot.Resource p apart = All-nil (IsOther c)
others-key schema c (slot.Key key) Every apart = All-nil (IsOther c)
others-key schema c (slot.Key key) (Principal e) apart = All-nil (IsOther c)
others-key schema c (slot.Key key) (Word pattern) apart = All-nil (IsOther c)
others-key schema c (slot.Key key) (Meets asked) apart = All-cons (IsOther c) (condition_on schema key asked) [] (λ e. apart (same-key c.written key e)) (All-nil (IsOther c))

others-in : (schema : Schema) (c : Condition) (ds : List Stratum) (f : List ℕ) → Lacks (slot.Key c.written) ds → All (IsOther c) (conditions_in schema ds f)
others-in schema c [] f lacks = All-nil (IsOther c)
others-in schema c (d ∷ ds) [] lacks = All-nil (IsOther c)
others-in schema c (d ∷ ds) (n ∷ f) lacks =
    All-append (IsOther c) (key_conditions schema d.slot (predicate_at d.predicates n)) (conditions_in schema ds f) (others-key schema c d.slot (predicate_at d.predicates n) lacks.0) (others-in schema c ds f lacks.1)

others-more : (schema : Schema) (s : Slot) (p : Predicate) (ds : List Stratum) (f : List ℕ) → Lacks s ds → AreOthers (conditions_in schema ds f) → AreOthers (key_conditions schema s p ++ conditions_in schema ds f)
others-more schema slot.Principal p ds f lacks others = others
others-more schema slot.Action p ds f lacks others = others
others-more schema slot.Resource p ds f lacks others = others
others-more schema (slot.Key key) Every ds f lacks others = others
others-more schema (slot.Key key) (Principal e) ds f lacks others = others
others-more schema (slot.Key key) (Word pattern) ds f lacks others = others
others-more schema (slot.Key key) (Meets c) ds f lacks others = (others-in schema (condition_on schema key c) ds f lacks, others)

-- no two conditions of a finding are on one key
pub others-all : (schema : Schema) (ds : List Stratum) (f : List ℕ) → AreApart ds → AreOthers (conditions_in schema ds f)
others-all schema [] f apart = tt
others-all schema (d ∷ ds) [] apart = tt
others-all schema (d ∷ ds) (n ∷ f) apart = others-more schema d.slot (predicate_at d.predicates n) ds f apart.0 (others-all schema ds f apart.1)
