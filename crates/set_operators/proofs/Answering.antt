-- What a search for values comes to.
use Rattle.std.proofs.Common.{◌≡◌, ◌≢◌, ◌↔◌, inl, inr, ℕ, zero, suc, ◌+◌, ◌<◌, ◌≤◌, List, [], ◌∷◌, ◌++◌, length, get_or, slice_get, Bool, true, false, cond, Option, Some, None, IsSomeAnd, IsTrue, Result, Ok, Err, IfOk, MatchBool, MatchOption, All, Any, Contains, refl, sym, ap, ◌∙◌, subst, below_more, arith}
use Rattle.std.proofs.lemmas.List.Elements.{All-nil, All-cons, All-head, All-tail, All-contains}
use Rattle.std.proofs.lemmas.Option.{slice_get-get_or}
use Rattle.wildcard_lang.specs.declared.piece.Piece.{Piece}
use Rattle.wildcard_lang.specs.Places.{ShowWider}
use Rattle.pattern_automata.specs.declared.outcome.Product.{Product}
use Rattle.pattern_automata.specs.declared.outcome.Product.TheVariants as product
use Rattle.policy_model.specs.declared.schema.KeyRule.{KeyRule}
use Rattle.policy_model.specs.declared.value.Kind.{Kind}
use Rattle.policy_model.specs.declared.value.Kind.TheVariants.{Text}
use Rattle.policy_model.specs.declared.value.Value.{Value}
use Rattle.policy_model.specs.declared.value.Value.TheVariants as value
use Rattle.policy_model.specs.Requests.{IsListed, IsOfKind, ValueFits}
use Rattle.policy_model.specs.Soundness.{ListIsSound, RuleIsSound, ShapeIsSound}
use Rattle.value_theory.specs.declared.clause.Literal.{Literal}
use Rattle.value_theory.specs.declared.kinds.PlainCond.{PlainCond}
use Rattle.value_theory.specs.declared.kinds.PlainKind.{PlainKind}
use Rattle.value_theory.specs.declared.kinds.PlainKind.TheVariants as plain_kind
use Rattle.set_operators.specs.declared.answer.KeyAnswer.{KeyAnswer}
use Rattle.set_operators.specs.declared.answer.KeyAnswer.TheVariants as answer
use Rattle.set_operators.specs.declared.ask.KeyAsk.{KeyAsk}
use Rattle.set_operators.specs.declared.steps.Choice.{Choice}
use Rattle.set_operators.specs.declared.steps.One.{One}
use Rattle.set_operators.specs.declared.steps.One.TheVariants as one
use Rattle.set_operators.specs.Answers.{IsKeyAnswer}
use Rattle.set_operators.specs.Asks.{AnswerAll, AreValuesOf, AskIsOf, Asks, HaveNone}
use Rattle.set_operators.specs.Clauses.{asks_clauses, asks_items}
use Rattle.set_operators.specs.Members.{AnswersEach, HasMember, IsMemberFor, MeetsAsk, NeedsValue, denied_asks, member_asks}
use Rattle.set_operators.specs.Listed.{IsListedFound, IsListedMember}
use Rattle.set_operators.specs.Plain.{IsMemberFound, IsPlainFor, IsPlainFound, as_kind, plain_conds, plain_literal_at}
use Rattle.set_operators.specs.Shown.{AbsentIsWanted, ShowsAbsent, ShowsRequired}
use Rattle.set_operators.specs.Wants.{IsClosedForValue, value_patterns}
use Rattle.set_operators.specs.Steps.{AnswersAt, AnswersPicked, AreMembersUpTo, IsChoiceIn, IsOne, IsPosed, IsProductOf, chosen_asks, is_chosen, picked_asks}
use Rattle.set_operators.proofs.Choosing.{picked-chosen, wider-all}
use Rattle.set_operators.proofs.Lists.{any-nil}
use Rattle.set_operators.proofs.Membership.{IsAnsweredOf, members-kept, members-more, members-values, member-alone, none-needed, one-value, one_value_or_none, values-each, values-there, wanted-at}
use Rattle.set_operators.proofs.Texts.{wants_are_of_members}

-- ---- plain values

pub plain-made : (k : PlainKind) (some asks : Asks) (conds : List PlainCond) (clauses : List (List Literal)) → some ≡ asks → conds ≡ asks_items plain_conds some →
    clauses ≡ asks_clauses plain_literal_at plain_conds some 0 → IsPlainFor k asks (record { kind = k; conds = conds; clauses = clauses })
plain-made k some asks conds clauses same i c = record {
  kind = refl;
  conds = i ∙ ap (λ (a : Asks). asks_items plain_conds a) same;
  clauses = c ∙ ap (λ (a : Asks). asks_clauses plain_literal_at plain_conds a 0) same;
}

module _ (v : Value) (choice : Choice) where
  abbrev From : ℕ → Asks → Type 0
  From i asks = (k : ℕ) (d : KeyAsk × Bool) → k < length asks → AnswersAt v choice (i + k) (get_or asks k d)

  tail-from : (i : ℕ) (a : KeyAsk × Bool) (asks : Asks) → From i (a ∷ asks) → From (i + 1) asks
  tail-from i a asks h k d within =
      let e : (i + 1) + k ≡ i + suc k = omega arith in
      subst (λ (n : ℕ). AnswersAt v choice n (get_or asks k d)) (sym e) (h (suc k) d (omega arith))

  head-from : (i : ℕ) (a : KeyAsk × Bool) (asks : Asks) → From i (a ∷ asks) → AnswersAt v choice i a
  head-from i a asks h = let e : i + 0 ≡ i = omega arith in subst (λ (n : ℕ). AnswersAt v choice n a) e (h 0 a (omega arith))

  pick-all : (b : Bool) (a : KeyAsk × Bool) (rest : Asks) → (b ≡ true → IsAnsweredOf v a) → AnswersEach v rest → AnswersEach v (cond b (a ∷ rest) rest)
  pick-all true a rest own each = All-cons (IsAnsweredOf v) a rest (own refl) each
  pick-all false a rest own each = each

  all-pick : (b : Bool) (a : KeyAsk × Bool) (rest : Asks) → AnswersEach v (cond b (a ∷ rest) rest) → (b ≡ true → IsAnsweredOf v a) × AnswersEach v rest
  all-pick true a rest each = (λ e. All-head (IsAnsweredOf v) a rest each, All-tail (IsAnsweredOf v) a rest each)
  all-pick false a rest each = (λ e. absurd (let wrong : false ≡ true = e in cc), each)

  from-each : (i : ℕ) (asks : Asks) → From i asks → AnswersEach v (picked_asks choice i asks)
  from-each i [] h = All-nil (IsAnsweredOf v)
  from-each i (a ∷ asks) h = pick-all (is_chosen choice i a.1) a (picked_asks choice (i + 1) asks) (head-from i a asks h) (from-each (i + 1) asks (tail-from i a asks h))

  each-from : (i : ℕ) (asks : Asks) → AnswersEach v (picked_asks choice i asks) → From i asks
  each-from i [] each k d within = absurd (omega (arith, within))
  each-from i (a ∷ asks) each zero d within =
      let own = all-pick (is_chosen choice i a.1) a (picked_asks choice (i + 1) asks) each in
      let e : i + zero ≡ i = omega arith in
      subst (λ (n : ℕ). AnswersAt v choice n a) (sym e) own.0
  each-from i (a ∷ asks) each (suc k) d within =
      let own = all-pick (is_chosen choice i a.1) a (picked_asks choice (i + 1) asks) each in
      let e : (i + 1) + k ≡ i + suc k = omega arith in
      subst (λ (n : ℕ). AnswersAt v choice n (get_or asks k d)) e (each-from (i + 1) asks own.1 k d (omega arith))

  zero-from : (asks : Asks) → AnswersPicked v choice asks → From 0 asks
  zero-from asks h k d within = let e : 0 + k ≡ k = omega arith in subst (λ (n : ℕ). AnswersAt v choice n (get_or asks k d)) (sym e) (h k d within)

  from-zero : (asks : Asks) → From 0 asks → AnswersPicked v choice asks
  from-zero asks h k d within = let e : 0 + k ≡ k = omega arith in subst (λ (n : ℕ). AnswersAt v choice n (get_or asks k d)) e (h k d within)

  picked-each : (asks : Asks) → IsChoiceIn asks choice → AnswersPicked v choice asks → AnswersEach v (chosen_asks asks choice)
  picked-each asks in_range h = subst (AnswersEach v) (picked-chosen asks choice in_range) (from-each 0 asks (zero-from asks h))

  each-picked : (asks : Asks) → IsChoiceIn asks choice → AnswersEach v (chosen_asks asks choice) → AnswersPicked v choice asks
  each-picked asks in_range each = from-zero asks (each-from 0 asks (subst (AnswersEach v) (sym (picked-chosen asks choice in_range)) each))

get-same : {X : Type 0} (xs : List X) (i : ℕ) (x d : X) → i < length xs → x ≡ get_or xs i x → get_or xs i d ≡ x
get-same [] i x d h e = absurd (omega arith)
get-same (y ∷ xs) zero x d h e = sym e
get-same (y ∷ xs) (suc i) x d h e = get-same xs i x d (omega arith) e

module _ (asks : Asks) (choice : Choice) (listed : List Value) where
  pub listed-found : (i : ℕ) (v w : Value) (b : Bool) → IsChoiceIn asks choice → i < length listed → v ≡ get_or listed i v → w ≡ v → (IsTrue b ↔ AnswersPicked v choice asks) → b ≡ true →
      IsListedFound listed (chosen_asks asks choice) (Some w)
  listed-found i v w b in_range within at same is hit =
      let there : Contains listed v = (i, within, sym at) in
      (subst (Contains listed) (sym same) there, subst (λ (u : Value). AnswersEach u (chosen_asks asks choice)) (sym same) (picked-each v choice asks in_range (is.0 hit)))

  pub listed-more : (i : ℕ) (v : Value) (b : Bool) → ((k : ℕ) (d : Value) → k < i → AnswersPicked (get_or listed k d) choice asks → ⊥) → i < length listed → v ≡ get_or listed i v →
      (IsTrue b ↔ AnswersPicked v choice asks) → b ≡ false → (k : ℕ) (d : Value) → k < i + 1 → AnswersPicked (get_or listed k d) choice asks → ⊥
  listed-more i v b before within at is off k d h =
      below_more (λ (n : ℕ). (e : Value) → AnswersPicked (get_or listed n e) choice asks → ⊥) i (λ n lt e. before n e lt)
      (λ e own. let same : get_or listed i e ≡ v = get-same listed i v e within at in
      let wrong : false ≡ true = sym off ∙ is.1 (subst (λ (u : Value). AnswersPicked u choice asks) same own) in cc) k h d

  pub listed-none : (i : ℕ) → IsChoiceIn asks choice → ((k : ℕ) (d : Value) → k < i → AnswersPicked (get_or listed k d) choice asks → ⊥) → length listed ≤ i → IsListedFound listed (chosen_asks asks choice) None
  listed-none i in_range before past k d within each = before k d (omega (arith, within, past)) (each-picked (get_or listed k d) choice asks in_range each)

-- ---- texts

pub text-found : (rule : KeyRule) (asks : Asks) (states : ℕ) (found : Product) (t : List ℕ) → rule.kind ≡ Text → (AbsentIsWanted asks → ⊥) → found ≡ product.Found t → IsProductOf rule asks states found →
    IsMemberFor rule asks (value.Word t)
text-found rule asks states found t kind there is of =
    let own : IsProductOf rule asks states (product.Found t) = subst (IsProductOf rule asks states) is of in
    (wants_are_of_members rule asks t kind there own.1).0 own.0

-- ---- members of the other kinds

word-fits : (k : PlainKind) (t : List ℕ) → IsOfKind (as_kind k) (value.Word t) → ⊥
word-fits plain_kind.Truth t of = of
word-fits plain_kind.Number t of = of
word-fits plain_kind.Address t of = of
word-fits plain_kind.Bytes t of = of

other-fits : (k : PlainKind) (shape : Option (List Piece)) (v : Value) → IsOfKind (as_kind k) v → ValueFits shape v
other-fits k shape (value.Word t) of = absurd (word-fits k t of)
other-fits k shape (value.Truth b) of = tt
other-fits k shape (value.Number n) of = tt
other-fits k shape (value.Address a) of = tt
other-fits k shape (value.Bytes bs) of = tt

own-kind : (k : PlainKind) (rule : KeyRule) (v : Value) → as_kind k ≡ rule.kind → IsOfKind (as_kind k) v → IsOfKind rule.kind v
own-kind k rule v is of = subst (λ (j : Kind). IsOfKind j v) is of

kind-own : (k : PlainKind) (rule : KeyRule) (v : Value) → as_kind k ≡ rule.kind → IsOfKind rule.kind v → IsOfKind (as_kind k) v
kind-own k rule v is of = subst (λ (j : Kind). IsOfKind j v) (sym is) of

no-list : (among : Option (List Value)) (v : Value) → among ≡ None → IsListed among v
no-list None v e = tt
no-list (Some listed) v e = absurd (cc)

-- without a list a value of the kind will do
pub point-member : (rule : KeyRule) (k : PlainKind) (asks : Asks) (found : Option Value) → as_kind k ≡ rule.kind → rule.among ≡ None → IsPlainFound k asks found → IsMemberFound rule asks found
point-member rule k asks None is none found = λ m. found m.0 (kind-own k rule m.0 is m.1.permitted.kind) m.1.answers
point-member rule k asks (Some v) is none found = record {
  permitted = record { kind = own-kind k rule v is found.0; fits = other-fits k rule.shape v found.0; listed = no-list rule.among v none };
  answers = found.1;
}

list-kinds : (rule : KeyRule) (among : Option (List Value)) (listed : List Value) → ListIsSound among rule → among ≡ Some listed → All (IsOfKind rule.kind) listed
list-kinds rule None listed sound e = absurd (cc)
list-kinds rule (Some more) listed sound e = let own : more ≡ listed = cc in subst (All (IsOfKind rule.kind)) own sound.1

in-list : (among : Option (List Value)) (listed : List Value) (v : Value) → among ≡ Some listed → Contains listed v → IsListed among v
in-list None listed v e c = absurd (cc)
in-list (Some more) listed v e c = let own : more ≡ listed = cc in subst (λ (vs : List Value). Contains vs v) (sym own) c

list-in : (among : Option (List Value)) (listed : List Value) (v : Value) → among ≡ Some listed → IsListed among v → Contains listed v
list-in None listed v e c = absurd (cc)
list-in (Some more) listed v e c = let own : more ≡ listed = cc in subst (λ (vs : List Value). Contains vs v) own c

fits-any : (v : Value) → ValueFits None v
fits-any (value.Word t) = tt
fits-any (value.Truth b) = tt
fits-any (value.Number n) = tt
fits-any (value.Address a) = tt
fits-any (value.Bytes bs) = tt

-- a rule with a list has no shape
listed-fits : (rule : KeyRule) (shape : Option (List Piece)) (listed : List Value) (v : Value) → ShapeIsSound shape rule → rule.among ≡ Some listed → ValueFits shape v
listed-fits rule None listed v sound some = fits-any v
listed-fits rule (Some shape) listed v sound some = absurd (let none : rule.among ≡ None = sound.2 in cc)

-- with one it is one of the list
pub listed-member : (rule : KeyRule) (asks : Asks) (listed : List Value) (found : Option Value) → RuleIsSound rule → rule.among ≡ Some listed →
    IsListedFound listed asks found → IsListedMember rule asks found
listed-member rule asks listed None sound some found = λ there m. All-contains (λ v. AnswersEach v asks → ⊥) listed m.0 found (list-in rule.among listed m.0 some m.1.permitted.listed) m.1.answers
listed-member rule asks listed (Some v) sound some found = record {
  permitted = record {
    kind = All-contains (IsOfKind rule.kind) listed v (list-kinds rule rule.among listed sound.listed some) found.0;
    fits = listed-fits rule rule.shape listed v sound.shape some;
    listed = in-list rule.among listed v some found.0;
  };
  answers = found.1;
}

pub member-listed : (rule : KeyRule) (asks : Asks) (listed : List Value) (found : Option Value) → rule.among ≡ Some listed → IsListedMember rule asks found → IsMemberFound rule asks found
member-listed rule asks listed None some found = found (λ none. cc)
member-listed rule asks listed (Some v) some found = found

not-text : (k : PlainKind) → as_kind k ≡ Text → ⊥
not-text plain_kind.Truth e = cc
not-text plain_kind.Number e = cc
not-text plain_kind.Address e = cc
not-text plain_kind.Bytes e = cc

pub other-kind : (k : PlainKind) (rule : KeyRule) → as_kind k ≡ rule.kind → rule.kind ≢ Text
other-kind k rule is e = not-text k (is ∙ e)

-- ---- answers

some-same : (a b : KeyAsk × Bool) → Some a ≡ Some b → a ≡ b
some-same a b e = cc

wanted-is : (asks : Asks) (k : ℕ) (a : KeyAsk × Bool) → Some a ≡ slice_get asks k → a.1 ≡ true → IsSomeAnd (slice_get asks k) (λ b. b.1 ≡ true)
wanted-is asks k a e hit = subst (λ (o : Option (KeyAsk × Bool)). IsSomeAnd o (λ b. b.1 ≡ true)) e hit

pub single-found : (rule : KeyRule) (asks : Asks) (states : ℕ) (v : Value) (values : List Value) → values ≡ v ∷ [] → IsMemberFor rule asks v → IsKeyAnswer rule asks states (answer.Found values)
single-found rule asks states v values e is =
    let own = one-value rule asks v is in
    (subst (AreValuesOf rule) (sym e) own.0, subst (λ (vs : List Value). AnswerAll vs asks) (sym e) own.1)

pub single-none : (rule : KeyRule) (asks : Asks) → rule.many ≡ false → NeedsValue rule asks → (HasMember rule asks → ⊥) → HaveNone rule asks
single-none rule asks single needs none values are all =
    elim ((one_value_or_none rule asks single).0 (values, are, all)) [ inl without ↦ without needs | inr m ↦ none m ]

-- what a search for one value came to
pub one-found : (rule : KeyRule) (asks : Asks) (states : ℕ) (o : One) (v : Value) → o ≡ one.Found v → IsOne rule asks states o → IsMemberFor rule asks v
one-found rule asks states o v e is = subst (IsOne rule asks states) e is

pub one-closed : (rule : KeyRule) (asks : Asks) (states : ℕ) (o : One) (set : List (List (List ℕ))) → o ≡ one.Closed set → IsOne rule asks states o → (rule.kind ≡ Text) × IsClosedForValue rule asks set
one-closed rule asks states o set e is = subst (IsOne rule asks states) e is

pub one-nothing : (rule : KeyRule) (asks : Asks) (states : ℕ) (o : One) → o ≡ one.Nothing → IsOne rule asks states o → (rule.kind ≢ Text) × (HasMember rule asks → ⊥)
one-nothing rule asks states o e is = subst (IsOne rule asks states) e is

pub one-wide : (rule : KeyRule) (asks : Asks) (choice : Choice) (states : ℕ) (o : One) (texts : List (List ℕ)) → IsChoiceIn asks choice → o ≡ one.TooMany texts → IsOne rule (chosen_asks asks choice) states o →
    (rule.kind ≡ Text) × ShowWider (value_patterns rule asks) states texts
one-wide rule asks choice states o texts in_range e is =
    let own : (rule.kind ≡ Text) × ShowWider (value_patterns rule (chosen_asks asks choice)) states texts = subst (IsOne rule (chosen_asks asks choice) states) e is in
    (own.0, wider-all rule asks choice states texts in_range own.1)

pub ok-weaker : {T E : Type 0} (P Q : T → Type 0) (r : Result T E) → ((x : T) → P x → Q x) → IfOk r P → IfOk r Q
ok-weaker P Q (Ok x) f h = f x h
ok-weaker P Q (Err e) f h = tt

-- the ask at the index
pub ask-at : (asks : Asks) (i : ℕ) (a : KeyAsk × Bool) → i < length asks → a ≡ get_or asks i a → slice_get asks i ≡ Some a
ask-at asks i a within e = slice_get-get_or asks i a within ∙ ap (λ (b : KeyAsk × Bool). Some b) (sym e)

answer-true : (a : KeyAsk × Bool) (ask : KeyAsk) (asks : Asks) (i : ℕ) → slice_get asks i ≡ Some a → slice_get asks i ≡ Some (ask, true) → (a.1 ≡ true) × (a.0 ≡ ask)
answer-true a ask asks i e f =
    let named : KeyAsk × Bool = (ask, true) in
    let same : a ≡ named = some-same a named (sym e ∙ f) in
    (ap (λ (b : KeyAsk × Bool). b.1) same, ap (λ (b : KeyAsk × Bool). b.0) same)

pub kept-met : (rule : KeyRule) (asks : Asks) (i : ℕ) (values same : List Value) (a : KeyAsk × Bool) (b : Bool) → AreMembersUpTo rule asks i values → i < length asks → a ≡ get_or asks i a → same ≡ values →
    MatchBool b (a.1 ≡ true) (a.1 ≡ true → Any (λ v. MeetsAsk v a.0) same) → b ≡ false → AreMembersUpTo rule asks (i + 1) values
kept-met rule asks i values same a true up within at is tells off = absurd (cc)
kept-met rule asks i values same a false up within at is tells off =
    members-kept rule asks i values up
    (λ ask e. let own = answer-true a ask asks i (ask-at asks i a within at) e in
    let met : Any (λ v. MeetsAsk v a.0) values = subst (λ (vs : List Value). Any (λ v. MeetsAsk v a.0) vs) is (tells own.0) in
    subst (λ (k : KeyAsk). Any (λ v. MeetsAsk v k) values) own.1 met)

pub wanted-one : (asks : Asks) (i : ℕ) (a : KeyAsk × Bool) (b : Bool) (Q : Type 0) → i < length asks → a ≡ get_or asks i a → MatchBool b (a.1 ≡ true) Q → b ≡ true → IsSomeAnd (slice_get asks i) (λ c. c.1 ≡ true)
wanted-one asks i a true Q within at tells on = wanted-is asks i a (sym (ask-at asks i a within at)) tells
wanted-one asks i a false Q within at tells on = absurd (cc)

pub next-found : (rule : KeyRule) (asks : Asks) (i : ℕ) (values more : List Value) (v : Value) → AreMembersUpTo rule asks i values → IsSomeAnd (slice_get asks i) (λ a. a.1 ≡ true) →
    more ≡ values ++ v ∷ [] → IsMemberFor rule (member_asks asks i) v → AreMembersUpTo rule asks (i + 1) more
next-found rule asks i values more v up wanted e is =
    let ask = wanted-at asks i (slice_get asks i) refl wanted in
    subst (AreMembersUpTo rule asks (i + 1)) (sym e) (members-more rule asks i values v ask.0 up ask.1 is)

pub member-none : (rule : KeyRule) (asks : Asks) (i : ℕ) → IsSomeAnd (slice_get asks i) (λ a. a.1 ≡ true) → (HasMember rule (member_asks asks i) → ⊥) → HaveNone rule asks
member-none rule asks i wanted none values are all =
    let ask = wanted-at asks i (slice_get asks i) refl wanted in none (values-each rule asks values are all i ask.0 ask.1)

pub alone-found : (rule : KeyRule) (asks : Asks) (states : ℕ) (v : Value) (values : List Value) → rule.many ≡ true → AreMembersUpTo rule asks (length asks) [] → values ≡ v ∷ [] →
    IsMemberFor rule (denied_asks asks) v → IsKeyAnswer rule asks states (answer.Found values)
alone-found rule asks states v values several up e is =
    let own = members-values rule asks (v ∷ []) several (member-alone rule asks (length asks) v up is) (λ r f. absurd (cc)) in
    (subst (AreValuesOf rule) (sym e) own.0, subst (λ (vs : List Value). AnswerAll vs asks) (sym e) own.1)

pub alone-none : (rule : KeyRule) (asks : Asks) → rule.required ≡ true → (HasMember rule (denied_asks asks) → ⊥) → HaveNone rule asks
alone-none rule asks required none values are all = none (values-there rule asks values are all required)

pub several-found : (rule : KeyRule) (asks : Asks) (states i : ℕ) (values : List Value) → rule.many ≡ true → length asks ≤ i → i ≤ length asks → AreMembersUpTo rule asks i values → values ≢ [] →
    IsKeyAnswer rule asks states (answer.Found values)
several-found rule asks states i values several past within up there =
    let e : i ≡ length asks = omega (arith, past, within) in
    let all : AreMembersUpTo rule asks (length asks) values = subst (λ (n : ℕ). AreMembersUpTo rule asks n values) e up in
    let own = members-values rule asks values several all (λ r. there) in
    (own.0, own.1)

pub upto-end : (rule : KeyRule) (asks : Asks) (i : ℕ) (values : List Value) → length asks ≤ i → i ≤ length asks → AreMembersUpTo rule asks i values → values ≡ [] → AreMembersUpTo rule asks (length asks) []
upto-end rule asks i values past within up none =
    let e : i ≡ length asks = omega (arith, past, within) in
    let all : AreMembersUpTo rule asks (length asks) values = subst (λ (n : ℕ). AreMembersUpTo rule asks n values) e up in
    subst (AreMembersUpTo rule asks (length asks)) none all

-- where no member is there for all asks, none is answered yes: the key is required
pub none-required : (rule : KeyRule) (asks : Asks) (i : ℕ) (values : List Value) → length asks ≤ i → i ≤ length asks → AreMembersUpTo rule asks i values → values ≡ [] → NeedsValue rule asks → rule.required ≡ true
none-required rule asks i values past within up none needs = elim needs [
  | inl required ↦ required
  | inr some ↦ absurd (
      let all : AreMembersUpTo rule asks (length asks) [] = upto-end rule asks i values past within up none in
      let at : slice_get asks some.0 ≡ Some some.1 = slice_get-get_or asks some.0 some.1 some.2 ∙ ap (λ (a : KeyAsk × Bool). Some a) some.3 in
      let ask = wanted-at asks some.0 (slice_get asks some.0) refl (wanted-is asks some.0 some.1 (sym at) some.4) in
      any-nil (λ v. MeetsAsk v ask.0) (all.met some.0 ask.0 some.2 ask.1))
]

-- ---- the search for all

pub went-on : (rule : KeyRule) (asks : Asks) (i states : ℕ) (values : List Value) (end : Option KeyAnswer) → end ≡ None → MatchOption end (AreMembersUpTo rule asks i values) (IsKeyAnswer rule asks states) → AreMembersUpTo rule asks i values
went-on rule asks i states values end e is = subst (λ (o : Option KeyAnswer). MatchOption o (AreMembersUpTo rule asks i values) (IsKeyAnswer rule asks states)) e is

pub ended-by : (rule : KeyRule) (asks : Asks) (i states : ℕ) (values : List Value) (end : Option KeyAnswer) (a : KeyAnswer) → end ≡ Some a → MatchOption end (AreMembersUpTo rule asks i values) (IsKeyAnswer rule asks states) →
    IsKeyAnswer rule asks states a
ended-by rule asks i states values end a e is = subst (λ (o : Option KeyAnswer). MatchOption o (AreMembersUpTo rule asks i values) (IsKeyAnswer rule asks states)) e is

pub not-both : (b : Bool) → b ≡ false → b ≡ true → ⊥
not-both b off on = let wrong : false ≡ true = sym off ∙ on in cc

module _ (rule : KeyRule) (asks slice : Asks) (b : Bool) (same : slice ≡ asks) (tells : IsTrue b ↔ NeedsValue rule slice) where
  is-needed : b ≡ true → NeedsValue rule asks
  is-needed on = subst (NeedsValue rule) same (tells.0 on)

  pub not-needed : b ≡ false → NeedsValue rule asks → ⊥
  not-needed off needs = not-both b off (tells.1 (subst (NeedsValue rule) (sym same) needs))

pub empty-found : (rule : KeyRule) (asks slice : Asks) (states : ℕ) (values : List Value) (b : Bool) → slice ≡ asks → values ≡ [] → (IsTrue b ↔ NeedsValue rule slice) → b ≡ false → IsKeyAnswer rule asks states (answer.Found values)
empty-found rule asks slice states values b same e tells off =
    let own = none-needed rule asks (not-needed rule asks slice b same tells off) in
    (subst (AreValuesOf rule) (sym e) own.0, subst (λ (vs : List Value). AnswerAll vs asks) (sym e) own.1)

pub needed-at : (rule : KeyRule) (asks slice other : Asks) (b : Bool) → slice ≡ asks → other ≡ asks → (IsTrue b ↔ NeedsValue rule slice) → b ≡ true → NeedsValue rule other
needed-at rule asks slice other b same also tells on = subst (NeedsValue rule) (sym also) (is-needed rule asks slice b same tells on)

pub posed-from : (rule : KeyRule) (asks slice other : Asks) (b required absent : Bool) → RuleIsSound rule → All (λ a. AskIsOf rule.kind a.0) asks → slice ≡ asks → other ≡ asks →
    (IsTrue b ↔ NeedsValue rule slice) → b ≡ true → (IsTrue required ↔ ShowsRequired rule asks) → required ≡ false → (IsTrue absent ↔ ShowsAbsent asks) → absent ≡ false → IsPosed rule other
posed-from rule asks slice other b required absent sound kinds same also tells on is_required off is_absent out =
    let there : AbsentIsWanted asks → ⊥ = λ wanted. elim (is-needed rule asks slice b same tells on) [
      | inl r ↦ not-both required off (is_required.1 (r, wanted))
      | inr some ↦ not-both absent out (is_absent.1 (wanted, some))
    ] in
    let own : IsPosed rule asks = record { sound = sound; kinds = kinds; there = there } in
    subst (IsPosed rule) (sym also) own

pub answer-at : (rule : KeyRule) (asks slice : Asks) (states : ℕ) {E : Type 0} (r : Result KeyAnswer E) → slice ≡ asks → IfOk r (IsKeyAnswer rule slice states) → IfOk r (IsKeyAnswer rule asks states)
answer-at rule asks slice states r same is = subst (λ (a : Asks). IfOk r (IsKeyAnswer rule a states)) same is

pub idle-none : (rule : KeyRule) (asks slice : Asks) (b : Bool) {Q : Type 0} → slice ≡ asks → (IsTrue b ↔ NeedsValue rule slice) → b ≡ true → (NeedsValue rule asks → ⊥) → Q
idle-none rule asks slice b same tells on idle = absurd (idle (is-needed rule asks slice b same tells on))

pub idle-ok : (rule : KeyRule) (asks slice : Asks) (b : Bool) {E : Type 0} (r : Result KeyAnswer E) → slice ≡ asks → (IsTrue b ↔ NeedsValue rule slice) → b ≡ true →
    IfOk r (λ found. (NeedsValue rule asks → ⊥) → found ≡ answer.Found [])
idle-ok rule asks slice b (Ok x) same tells on = λ idle. absurd (idle (is-needed rule asks slice b same tells on))
idle-ok rule asks slice b (Err e) same tells on = tt
