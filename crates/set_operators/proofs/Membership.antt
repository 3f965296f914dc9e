-- The members of a list of values, and what they say of the list.
use Rattle.std.proofs.Common.{◌≡◌, ◌≢◌, ◌↔◌, ◌⊎◌, inl, inr, ℕ, zero, suc, ◌+◌, ◌<◌, ◌≤◌, List, [], ◌∷◌, ◌++◌, length, take, drop, get_or, slice_get, Bool, true, false, not, cond, Option, Some, None, IsSomeAnd, MatchBool, All, Any, Contains, refl, sym, ap, ◌∙◌, subst, eq-or-lt_of_le, arith}
use Rattle.std.proofs.lemmas.List.Elements.{All-nil, All-cons, All-head, All-tail, All-append, All-contains, All-weaker, All-take, All-drop, All-push, All-get_or, All-from_get_or}
use Rattle.std.proofs.lemmas.Option.{get_or_from_slice_get, slice_get-get_or, slice_get_within}
use Rattle.policy_model.specs.declared.schema.KeyRule.{KeyRule}
use Rattle.policy_model.specs.declared.value.Value.{Value}
use Rattle.policy_model.specs.Requests.{IsValueOf}
use Rattle.set_operators.specs.declared.ask.KeyAsk.{KeyAsk}
use Rattle.set_operators.specs.declared.ask.KeyAsk.TheVariants.{Present, SomeMeets, SomeMeetsNone}
use Rattle.set_operators.specs.declared.answer.KeyAnswer.TheVariants.{Found, Absent, Required, Points, TooMany, Together, Member, SomeMember}
use Rattle.set_operators.specs.Asks.{AnswerAll, AreValuesOf, AskHolds, Asks, HaveSome}
use Rattle.set_operators.specs.Laws.{AsksAreOfMembers, OneMemberEach, OneValueOrNone, ShownIsRight}
use Rattle.set_operators.specs.Members.{AnswersEach, HasMember, HasMembers, IsMemberFor, MeetsAsk, NeedsValue, SomeIsWanted, denied_asks, member_asks}
use Rattle.set_operators.specs.Shown.{AbsentIsWanted}
use Rattle.set_operators.specs.Steps.{AreMembersUpTo}
use Rattle.set_operators.proofs.Lists.{any-here, any-there, any-nil, any-one, any-element, element-any, any-left, any-right, all-left, all-right}
use Rattle.set_operators.proofs.Numbering.{HoldsSo}
use Rattle.set_operators.proofs.Texts.{closed-none}

-- some of the values meets the ask
abbrev pub SomeOf : List Value → KeyAsk → Type 0
SomeOf values ask = Any (λ v. MeetsAsk v ask) values

-- ---- asks are of members

present-of : (values : List Value) → (values ≢ []) ↔ SomeOf values Present
present-of [] = (λ h. absurd (h refl), λ w. absurd (any-nil (λ v. MeetsAsk v Present) w))
present-of (v ∷ values) = (λ h. any-here (λ u. MeetsAsk u Present) v values tt, λ w e. absurd (cc))

pub asks_are_of_members : AsksAreOfMembers
asks_are_of_members values Present = present-of values
asks_are_of_members values (SomeMeets c) = (λ h. h, λ h. h)
asks_are_of_members values (SomeMeetsNone cs) = (λ h. h, λ h. h)

so-like : (P Q : Type 0) → (P ↔ Q) → (b : Bool) → HoldsSo b P → HoldsSo b Q
so-like P Q is true h = is.0 h
so-like P Q is false h = λ q. h (is.1 q)

back : (P Q : Type 0) → (P ↔ Q) → (Q ↔ P)
back P Q is = (is.1, is.0)

-- each ask is answered as some of the values meets it or not
abbrev pub IsAnsweredBy : List Value → KeyAsk × Bool → Type 0
IsAnsweredBy values a = HoldsSo a.1 (SomeOf values a.0)

pub by-members : (values : List Value) (asks : Asks) → AnswerAll values asks → All (IsAnsweredBy values) asks
by-members values asks all =
    All-weaker (λ a. MatchBool a.1 (AskHolds values a.0) (AskHolds values a.0 → ⊥)) (IsAnsweredBy values)
    (λ a. so-like (AskHolds values a.0) (SomeOf values a.0) (asks_are_of_members values a.0) a.1) asks all

pub members-by : (values : List Value) (asks : Asks) → All (IsAnsweredBy values) asks → AnswerAll values asks
members-by values asks all =
    All-weaker (IsAnsweredBy values) (λ a. MatchBool a.1 (AskHolds values a.0) (AskHolds values a.0 → ⊥))
    (λ a. so-like (SomeOf values a.0) (AskHolds values a.0) (back (AskHolds values a.0) (SomeOf values a.0) (asks_are_of_members values a.0)) a.1) asks all

-- ---- at most one value

one-of : (v : Value) (ask : KeyAsk) → SomeOf (v ∷ []) ask ↔ MeetsAsk v ask
one-of v ask = (any-one (λ u. MeetsAsk u ask) v, any-here (λ u. MeetsAsk u ask) v [])

abbrev pub IsAnsweredOf : Value → KeyAsk × Bool → Type 0
IsAnsweredOf v a = HoldsSo a.1 (MeetsAsk v a.0)

one-answers : (v : Value) (asks : Asks) → AnswerAll (v ∷ []) asks → AnswersEach v asks
one-answers v asks all =
    All-weaker (IsAnsweredBy (v ∷ [])) (IsAnsweredOf v) (λ a. so-like (SomeOf (v ∷ []) a.0) (MeetsAsk v a.0) (one-of v a.0) a.1) asks (by-members (v ∷ []) asks all)

answers-one : (v : Value) (asks : Asks) → AnswersEach v asks → AnswerAll (v ∷ []) asks
answers-one v asks each =
    members-by (v ∷ []) asks
    (All-weaker (IsAnsweredOf v) (IsAnsweredBy (v ∷ [])) (λ a. so-like (MeetsAsk v a.0) (SomeOf (v ∷ []) a.0) (back (SomeOf (v ∷ []) a.0) (MeetsAsk v a.0) (one-of v a.0)) a.1) asks each)

-- an ask that is answered yes by values has a member
yes-has : (values : List Value) (ask : KeyAsk) (b : Bool) → b ≡ true → HoldsSo b (SomeOf values ask) → SomeOf values ask
yes-has values ask true e h = h
yes-has values ask false e h = absurd (cc)

no-has : (P : Type 0) (b : Bool) → b ≡ false → HoldsSo b P → P → ⊥
no-has P true e h = absurd (cc)
no-has P false e h = h

pub wanted-some : (values : List Value) (asks : Asks) → AnswerAll values asks → SomeIsWanted asks → values ≢ []
wanted-some values asks all some e =
    let a = some.1 in
    let own : IsAnsweredBy values a = All-contains (IsAnsweredBy values) asks a (by-members values asks all) (some.0, some.2, some.3) in
    let has : SomeOf values a.0 = yes-has values a.0 a.1 some.4 own in
    any-nil (λ v. MeetsAsk v a.0) (subst (λ (vs : List Value). SomeOf vs a.0) e has)

pub wanted-absent : (values : List Value) (asks : Asks) → AnswerAll values asks → AbsentIsWanted asks → values ≢ [] → ⊥
wanted-absent values asks all absent there =
    All-contains (λ a. MatchBool a.1 (AskHolds values a.0) (AskHolds values a.0 → ⊥)) asks (Present, false) all absent there

none-answer : (a : KeyAsk × Bool) (b : Bool) → b ≡ a.1 → (b ≡ true → ⊥) → HoldsSo b (SomeOf [] a.0)
none-answer a true e deny = absurd (deny refl)
none-answer a false e deny = any-nil (λ v. MeetsAsk v a.0)

none-answered : (asks : Asks) → (SomeIsWanted asks → ⊥) → All (IsAnsweredBy []) asks
none-answered [] deny = All-nil (IsAnsweredBy [])
none-answered (a ∷ asks) deny =
    All-cons (IsAnsweredBy []) a asks (none-answer a a.1 refl (λ e. deny (any-here (λ b. b.1 ≡ true) a asks e)))
    (none-answered asks (λ w. deny (any-there (λ b. b.1 ≡ true) a asks w)))

-- where no value is needed, none will do
pub none-needed : (rule : KeyRule) (asks : Asks) → (NeedsValue rule asks → ⊥) → AreValuesOf rule [] × AnswerAll [] asks
none-needed rule asks deny = (
  record { permitted = record { each = All-nil (IsValueOf rule); count = inr (omega arith) }; there = λ r. absurd (deny (inl r)) },
  members-by [] asks (none-answered asks (λ w. deny (inr w))),
)

-- one value that meets all asks will do
pub one-value : (rule : KeyRule) (asks : Asks) (v : Value) → IsMemberFor rule asks v → AreValuesOf rule (v ∷ []) × AnswerAll (v ∷ []) asks
one-value rule asks v is = (
  record { permitted = record { each = All-cons (IsValueOf rule) v [] is.permitted (All-nil (IsValueOf rule)); count = inr (omega arith) }; there = λ r e. absurd (cc) },
  answers-one v asks is.answers,
)

none-needs : (rule : KeyRule) (asks : Asks) → AreValuesOf rule [] → AnswerAll [] asks → NeedsValue rule asks → ⊥
none-needs rule asks are all needs = elim needs [ inl r ↦ are.there r refl | inr some ↦ wanted-some [] asks all some refl ]

value-or-none : (rule : KeyRule) (asks : Asks) (values : List Value) → rule.many ≡ false → AreValuesOf rule values → AnswerAll values asks → (NeedsValue rule asks → ⊥) ⊎ HasMember rule asks
value-or-none rule asks [] single are all = inl (none-needs rule asks are all)
value-or-none rule asks (v ∷ []) single are all = inr (v, record { permitted = All-head (IsValueOf rule) v [] are.permitted.each; answers = one-answers v asks all })
value-or-none rule asks (v ∷ u ∷ values) single are all = absurd (elim are.permitted.count [ inl many ↦ (let wrong : true ≡ false = sym many ∙ single in cc) | inr few ↦ omega (arith, few) ])

pub one_value_or_none : OneValueOrNone
one_value_or_none rule asks single = (
  λ has. value-or-none rule asks has.0 single has.1 has.2,
  λ w. elim w [ inl deny ↦ (let own = none-needed rule asks deny in ([], own.0, own.1)) | inr m ↦ (let own = one-value rule asks m.0 m.1 in (m.0 ∷ [], own.0, own.1)) ],
)

-- ---- several values

-- the value meets nothing that is answered no
abbrev pub IsClear : Value → KeyAsk × Bool → Type 0
IsClear v a = a.1 ≡ false → MeetsAsk v a.0 → ⊥

clear-one : (v : Value) (a : KeyAsk × Bool) (b : Bool) (rest : Asks) → b ≡ a.1 → AnswersEach v (cond (not b) (a ∷ rest) rest) → IsClear v a × AnswersEach v rest
clear-one v a true rest e each = (λ deny. absurd (let wrong : true ≡ false = e ∙ deny in cc), each)
clear-one v a false rest e each = (λ deny. no-has (MeetsAsk v a.0) a.1 deny (All-head (IsAnsweredOf v) a rest each), All-tail (IsAnsweredOf v) a rest each)

pub denied-clear : (v : Value) (asks : Asks) → AnswersEach v (denied_asks asks) → All (IsClear v) asks
denied-clear v [] each = All-nil (IsClear v)
denied-clear v (a ∷ asks) each =
    let own = clear-one v a a.1 (denied_asks asks) refl each in
    All-cons (IsClear v) a asks own.0 (denied-clear v asks own.1)

so-no : (P : Type 0) (b : Bool) → b ≡ false → (P → ⊥) → HoldsSo b P
so-no P true e deny = absurd (cc)
so-no P false e deny = deny

one-clear : (v : Value) (a : KeyAsk × Bool) (b : Bool) (rest : Asks) → b ≡ a.1 → IsClear v a → AnswersEach v rest → AnswersEach v (cond (not b) (a ∷ rest) rest)
one-clear v a true rest e clear each = each
one-clear v a false rest e clear each = All-cons (IsAnsweredOf v) a rest (so-no (MeetsAsk v a.0) a.1 (sym e) (clear (sym e))) each

pub clear-denied : (v : Value) (asks : Asks) → All (IsClear v) asks → AnswersEach v (denied_asks asks)
clear-denied v [] all = All-nil (IsAnsweredOf v)
clear-denied v (a ∷ asks) all = one-clear v a a.1 (denied_asks asks) refl (All-head (IsClear v) a asks all) (clear-denied v asks (All-tail (IsClear v) a asks all))

all-parts : {X : Type 0} (P : X → Type 0) (xs : List X) (k : ℕ) (x : X) → slice_get xs k ≡ Some x → All P (take k xs) → P x → All P (drop (k + 1) xs) → All P xs
all-parts P [] k x e before here behind = absurd (cc)
all-parts P (y ∷ xs) zero x e before here behind = All-cons P y xs (let same : x ≡ y = cc in subst P same here) behind
all-parts P (y ∷ xs) (suc k) x e before here behind =
    All-cons P y xs (All-head P y (take k xs) before)
    (all-parts P xs k x e (All-tail P y (take k xs) before) here (let a : suc k + 1 ≡ suc (k + 1) = omega arith in subst (λ (n : ℕ). All P (drop n (y ∷ xs))) a behind))

module _ (asks : Asks) (k : ℕ) (ask : KeyAsk) (e : slice_get asks k ≡ Some (ask, true)) where
  abbrev named : KeyAsk × Bool
  named = (ask, true)

  abbrev before : Asks
  before = denied_asks (take k asks)

  abbrev behind : Asks
  behind = denied_asks (drop (k + 1) asks)

  own-ask : get_or asks k (Present, true) ≡ named
  own-ask = get_or_from_slice_get asks k named (Present, true) e

  -- what the member for the ask has to meet
  pub member-parts : (v : Value) → AnswersEach v (member_asks asks k) → All (IsClear v) asks × MeetsAsk v ask
  member-parts v each =
      let first : AnswersEach v before = all-left (IsAnsweredOf v) before (get_or asks k (Present, true) ∷ behind) each in
      let later : AnswersEach v (get_or asks k (Present, true) ∷ behind) = all-right (IsAnsweredOf v) before (get_or asks k (Present, true) ∷ behind) each in
      let here : IsAnsweredOf v named = subst (IsAnsweredOf v) own-ask (All-head (IsAnsweredOf v) (get_or asks k (Present, true)) behind later) in
      let last : AnswersEach v behind = All-tail (IsAnsweredOf v) (get_or asks k (Present, true)) behind later in
      (all-parts (IsClear v) asks k named e (denied-clear v (take k asks) first) (λ deny. absurd (let wrong : true ≡ false = deny in cc)) (denied-clear v (drop (k + 1) asks) last), here)

  pub parts-member : (v : Value) → All (IsClear v) asks → MeetsAsk v ask → AnswersEach v (member_asks asks k)
  parts-member v clear meets =
      All-append (IsAnsweredOf v) before (get_or asks k (Present, true) ∷ behind) (clear-denied v (take k asks) (All-take (IsClear v) k asks clear))
      (All-cons (IsAnsweredOf v) (get_or asks k (Present, true)) behind (subst (IsAnsweredOf v) (sym own-ask) meets) (clear-denied v (drop (k + 1) asks) (All-drop (IsClear v) (k + 1) asks clear)))

-- a value among those that answer is clear
clear-at : (values : List Value) (v : Value) (a : KeyAsk × Bool) → Contains values v → IsAnsweredBy values a → IsClear v a
clear-at values v a c by deny meets = no-has (SomeOf values a.0) a.1 deny by (element-any (λ u. MeetsAsk u a.0) values v c meets)

pub values-clear : (values : List Value) (asks : Asks) (v : Value) → AnswerAll values asks → Contains values v → All (IsClear v) asks
values-clear values asks v all c = All-weaker (IsAnsweredBy values) (IsClear v) (λ a. clear-at values v a c) asks (by-members values asks all)

at-index : {X : Type 0} (P : X → Type 0) (xs : List X) (k : ℕ) (x : X) → All P xs → slice_get xs k ≡ Some x → P x
at-index P xs k x all e = subst P (get_or_from_slice_get xs k x x e) (All-get_or P xs k x (slice_get_within xs k x e) all)

pub values-each : (rule : KeyRule) (asks : Asks) (values : List Value) → AreValuesOf rule values → AnswerAll values asks → (k : ℕ) (ask : KeyAsk) → slice_get asks k ≡ Some (ask, true) → HasMember rule (member_asks asks k)
values-each rule asks values are all k ask e =
    let some : SomeOf values ask = at-index (IsAnsweredBy values) asks k (ask, true) (by-members values asks all) e in
    let w = any-element (λ v. MeetsAsk v ask) values some in
    (w.0, record { permitted = All-contains (IsValueOf rule) values w.0 are.permitted.each w.1; answers = parts-member asks k ask e w.0 (values-clear values asks w.0 all w.1) w.2 })

pub values-there : (rule : KeyRule) (asks : Asks) (values : List Value) → AreValuesOf rule values → AnswerAll values asks → rule.required ≡ true → HasMember rule (denied_asks asks)
values-there rule asks [] are all r = absurd (are.there r refl)
values-there rule asks (v ∷ values) are all r =
    (v, record { permitted = All-head (IsValueOf rule) v values are.permitted.each; answers = clear-denied v asks (values-clear (v ∷ values) asks v all (0, omega arith, refl)) })

-- ---- members one by one

same-ask : (a b : KeyAsk) → (let x : Option (KeyAsk × Bool) = Some (b, true) in let y : Option (KeyAsk × Bool) = Some (a, true) in x ≡ y) → a ≡ b
same-ask a b e =
    let first : KeyAsk × Bool = (a, true) in
    let second : KeyAsk × Bool = (b, true) in
    let same : second ≡ first = cc in
    sym (ap (λ (p : KeyAsk × Bool). p.0) same)

below-or-at : (k i : ℕ) → k < i + 1 → (k < i) ⊎ (k ≡ i)
below-or-at k i h = search (arith, eq-or-lt_of_le)

module _ (rule : KeyRule) (asks : Asks) where
  abbrev ClearOf : Value → Type 0
  ClearOf v = AnswersEach v (denied_asks asks)

  pub members-none : AreMembersUpTo rule asks 0 []
  members-none = record { permitted = All-nil (IsValueOf rule); clear = All-nil ClearOf; met = λ k ask h e. absurd (omega arith) }

  met-more : (i : ℕ) (values : List Value) → ((k : ℕ) (ask : KeyAsk) → k < i → slice_get asks k ≡ Some (ask, true) → SomeOf values ask) → ((ask : KeyAsk) → slice_get asks i ≡ Some (ask, true) → SomeOf values ask) → (k : ℕ) (ask : KeyAsk) → k < i + 1 → slice_get asks k ≡ Some (ask, true) → SomeOf values ask
  met-more i values below here k ask h e = elim (below-or-at k i h) [ inl lt ↦ below k ask lt e | inr same ↦ here ask (subst (λ (n : ℕ). slice_get asks n ≡ Some (ask, true)) same e) ]

  -- the next ask needs deny further member: it is answered deny, or met by one that is there
  pub members-kept : (i : ℕ) (values : List Value) → AreMembersUpTo rule asks i values → ((ask : KeyAsk) → slice_get asks i ≡ Some (ask, true) → SomeOf values ask) → AreMembersUpTo rule asks (i + 1) values
  members-kept i values up here = record { permitted = up.permitted; clear = up.clear; met = met-more i values up.met here }

  -- or it has one
  pub members-more : (i : ℕ) (values : List Value) (v : Value) (ask : KeyAsk) → AreMembersUpTo rule asks i values → slice_get asks i ≡ Some (ask, true) → IsMemberFor rule (member_asks asks i) v → AreMembersUpTo rule asks (i + 1) (values ++ v ∷ [])
  members-more i values v ask up e is =
      let parts = member-parts asks i ask e v is.answers in
      record {
        permitted = All-push (IsValueOf rule) values v up.permitted is.permitted;
        clear = All-push ClearOf values v up.clear (clear-denied v asks parts.0);
        met = met-more i (values ++ v ∷ []) (λ k other h f. any-left (λ u. MeetsAsk u other) values (v ∷ []) (up.met k other h f))
            (λ other f. let same : other ≡ ask = same-ask other ask (sym e ∙ f) in any-right (λ u. MeetsAsk u other) values (v ∷ []) (any-here (λ u. MeetsAsk u other) v [] (subst (MeetsAsk v) (sym same) parts.1)));
      }

  -- one that is there because the key is required
  pub member-alone : (i : ℕ) (v : Value) → AreMembersUpTo rule asks i [] → IsMemberFor rule (denied_asks asks) v → AreMembersUpTo rule asks i (v ∷ [])
  member-alone i v up is = record {
    permitted = All-cons (IsValueOf rule) v [] is.permitted (All-nil (IsValueOf rule));
    clear = All-cons ClearOf v [] is.answers (All-nil ClearOf);
    met = λ k ask h e. absurd (any-nil (λ u. MeetsAsk u ask) (up.met k ask h e));
  }

  members-answer : (values : List Value) → AreMembersUpTo rule asks (length asks) values → (k : ℕ) (a : KeyAsk × Bool) (b : Bool) → slice_get asks k ≡ Some a → b ≡ a.1 → k < length asks → HoldsSo b (SomeOf values a.0)
  members-answer values up k a true e is h = up.met k a.0 h (e ∙ ap (λ (c : Bool). let pair : KeyAsk × Bool = (a.0, c) in Some pair) (sym is))
  members-answer values up k a false e is h = λ some.
      let w = any-element (λ v. MeetsAsk v a.0) values some in
      let clear : All (IsClear w.0) asks = denied-clear w.0 asks (All-contains ClearOf values w.0 up.clear w.1) in
      at-index (IsClear w.0) asks k a clear e (sym is) w.2

  -- members for all asks answer them
  pub members-all : (values : List Value) → AreMembersUpTo rule asks (length asks) values → AnswerAll values asks
  members-all values up =
      members-by values asks (All-from_get_or (IsAnsweredBy values) asks (Present, true)
      (λ k h. members-answer values up k (get_or asks k (Present, true)) (get_or asks k (Present, true)).1 (slice_get-get_or asks k (Present, true) h) refl h))

-- ---- the laws

-- members for all asks are values that answer them, where one is there if the key is required
pub members-values : (rule : KeyRule) (asks : Asks) (values : List Value) → rule.many ≡ true → AreMembersUpTo rule asks (length asks) values → (rule.required ≡ true → values ≢ []) → AreValuesOf rule values × AnswerAll values asks
members-values rule asks values several up there =
    (record { permitted = record { each = up.permitted; count = inl several }; there = there }, members-all rule asks values up)

pair-of : (a : KeyAsk × Bool) (b : Bool) → b ≡ a.1 → (let o : Option (KeyAsk × Bool) = Some (a.0, b) in let p : Option (KeyAsk × Bool) = Some a in p ≡ o)
pair-of a b e = ap (λ (c : Bool). let o : Option (KeyAsk × Bool) = Some (a.0, c) in o) (sym e)

denied-other : (b : Bool) (ask : KeyAsk) → b ≡ false → (a : KeyAsk × Bool) → b ≡ a.1 → (let o : Option (KeyAsk × Bool) = Some (ask, true) in let p : Option (KeyAsk × Bool) = Some a in p ≡ o) → ⊥
denied-other b ask e a is f =
    let named : KeyAsk × Bool = (ask, true) in
    let same : a ≡ named = cc in
    let answer : a.1 ≡ true = ap (λ (p : KeyAsk × Bool). p.1) same in
    let wrong : true ≡ false = sym answer ∙ sym is ∙ e in
    cc

members-step : (rule : KeyRule) (asks : Asks) → HasMembers rule asks → (i : ℕ) (a : KeyAsk × Bool) (b : Bool) (values : List Value) → slice_get asks i ≡ Some a → b ≡ a.1 → AreMembersUpTo rule asks i values → (more : List Value) × AreMembersUpTo rule asks (i + 1) more
members-step rule asks has i a true values e is up =
    let there : slice_get asks i ≡ Some (a.0, true) = e ∙ pair-of a true is in
    let m = has.each i a.0 there in
    (values ++ m.0 ∷ [], members-more rule asks i values m.0 a.0 up there m.1)
members-step rule asks has i a false values e is up =
    (values, members-kept rule asks i values up (λ ask other. absurd (denied-other a.1 ask (sym is) a refl (sym e ∙ other))))

-- members for the first i asks
members-upto : (rule : KeyRule) (asks : Asks) → HasMembers rule asks → (i : ℕ) → i ≤ length asks → (values : List Value) × AreMembersUpTo rule asks i values
members-upto rule asks has zero h = ([], members-none rule asks)
members-upto rule asks has (suc i) h =
    let more : i + 1 ≡ suc i = omega arith in
    let up = members-upto rule asks has i (omega arith) in
    let step = members-step rule asks has i (get_or asks i (Present, true)) (get_or asks i (Present, true)).1 up.0 (slice_get-get_or asks i (Present, true) (omega arith)) refl up.1 in
    (step.0, subst (λ (n : ℕ). AreMembersUpTo rule asks n step.0) more step.1)

members-there : (rule : KeyRule) (asks : Asks) → rule.many ≡ true → HasMembers rule asks → (values : List Value) (required : Bool) → required ≡ rule.required → AreMembersUpTo rule asks (length asks) values → HaveSome rule asks
members-there rule asks several has [] true is up =
    let m = has.there (sym is) in
    let own = members-values rule asks (m.0 ∷ []) several (member-alone rule asks (length asks) m.0 up m.1) (λ r e. absurd (cc)) in
    (m.0 ∷ [], own.0, own.1)
members-there rule asks several has [] false is up =
    let own = members-values rule asks [] several up (λ r. absurd (let wrong : false ≡ true = is ∙ r in cc)) in
    ([], own.0, own.1)
members-there rule asks several has (v ∷ values) required is up =
    let own = members-values rule asks (v ∷ values) several up (λ r e. absurd (cc)) in
    (v ∷ values, own.0, own.1)

members-have : (rule : KeyRule) (asks : Asks) → rule.many ≡ true → HasMembers rule asks → HaveSome rule asks
members-have rule asks several has =
    let up = members-upto rule asks has (length asks) (omega arith) in
    members-there rule asks several has up.0 rule.required refl up.1

pub one_member_each : OneMemberEach
one_member_each rule asks several = (
  λ has. record { each = values-each rule asks has.0 has.1 has.2; there = values-there rule asks has.0 has.1 has.2 },
  λ has. members-have rule asks several has,
)

pub wanted-at : (asks : Asks) (k : ℕ) (o : Option (KeyAsk × Bool)) → o ≡ slice_get asks k → IsSomeAnd o (λ a. a.1 ≡ true) → (ask : KeyAsk) × (slice_get asks k ≡ Some (ask, true))
wanted-at asks k None e h = absurd h
wanted-at asks k (Some a) e h = (a.0, sym e ∙ pair-of a true (sym h))

-- what shows that there are no values is right
pub shown_is_right : ShownIsRight
shown_is_right rule asks (Found values) shows = λ vs are all. shows
shown_is_right rule asks Absent shows = λ vs are all. wanted-absent vs asks all shows.0 (wanted-some vs asks all shows.1)
shown_is_right rule asks Required shows = λ vs are all. wanted-absent vs asks all shows.1 (are.there shows.0)
shown_is_right rule asks Points shows = shows.none
shown_is_right rule asks (Together set) shows = λ vs are all.
    elim ((one_value_or_none rule asks shows.single).0 (vs, are, all)) [
      | inl deny ↦ deny shows.needs
      | inr m ↦ closed-none rule asks set shows.kind shows.closed m
    ]
shown_is_right rule asks (Member k set) shows = λ vs are all.
    let ask = wanted-at asks k (slice_get asks k) refl shows.wanted in
    closed-none rule (member_asks asks k) set shows.kind shows.closed (values-each rule asks vs are all k ask.0 ask.1)
shown_is_right rule asks (SomeMember set) shows = λ vs are all.
    closed-none rule (denied_asks asks) set shows.kind shows.closed (values-there rule asks vs are all shows.required)
shown_is_right rule asks (TooMany texts) shows = λ vs are all. shows
