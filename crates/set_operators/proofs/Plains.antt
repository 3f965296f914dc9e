-- The values of the kinds other than texts that meet what asks want.
use Rattle.std.proofs.Common.{◌≡◌, ◌↔◌, ◌⊎◌, inl, inr, ℕ, zero, suc, ◌<◌, List, [], ◌∷◌, ◌++◌, length, map, drop, get_or, Bool, true, false, ◌&&◌, Some, None, ℤ, Decides, All, Any, refl, sym, ap, ◌∙◌, subst, append-nil}
use Rattle.std.specs.List.{list_all}
use Rattle.std.proofs.lemmas.List.Elements.{All-nil, All-cons, All-head, All-tail, All-weaker}
use Rattle.std.proofs.lemmas.List.Folds.{Any-from_list_any, list_any-from_Any}
use Rattle.intervals.specs.declared.compare.Compare.{Compare}
use Rattle.cidr_bits.specs.declared.block.Block.{Block}
use Rattle.wildcard_lang.specs.declared.piece.Piece.{Piece}
use Rattle.policy_model.specs.declared.cond.Cond.{Cond}
use Rattle.policy_model.specs.declared.cond.Cond.TheVariants as cond
use Rattle.policy_model.specs.declared.value.Kind.{Kind}
use Rattle.policy_model.specs.declared.value.Kind.TheVariants as kind
use Rattle.policy_model.specs.declared.value.Value.{Value}
use Rattle.policy_model.specs.declared.value.Value.TheVariants as value
use Rattle.policy_model.specs.Conds.{CondMeets, IsCondOf}
use Rattle.policy_model.specs.Requests.{IsOfKind}
use Rattle.value_theory.specs.declared.clause.Literal.{Literal}
use Rattle.value_theory.specs.declared.kinds.PlainCond.{PlainCond}
use Rattle.value_theory.specs.declared.kinds.PlainCond.TheVariants.{Compares, Inside, Flag, Equals}
use Rattle.value_theory.specs.declared.kinds.PlainKind.{PlainKind}
use Rattle.value_theory.specs.declared.kinds.PlainKind.TheVariants as plain_kind
use Rattle.value_theory.specs.declared.kinds.PlainValue.{PlainValue}
use Rattle.value_theory.specs.declared.kinds.PlainValue.TheVariants as plain
use Rattle.value_theory.specs.declared.search.PlainWants.{PlainWants}
use Rattle.value_theory.specs.declared.search.Solved.{Solved}
use Rattle.value_theory.specs.declared.search.Solved.TheVariants.{Found, Empty}
use Rattle.value_theory.specs.Clauses.{literal_holds}
use Rattle.value_theory.specs.Meaning.{IsOfPlainKind, PlainMeets, PlainMeetsIsMeaning, plain_kind as kind_of, plain_meets}
use Rattle.value_theory.specs.Solutions.{IsProper, IsSolution, answers, meets_clause, meets_clauses}
use Rattle.set_operators.specs.declared.ask.KeyAsk.{KeyAsk}
use Rattle.set_operators.specs.declared.ask.KeyAsk.TheVariants.{Present, SomeMeets, SomeMeetsNone}
use Rattle.set_operators.specs.Asks.{AskIsOf, Asks}
use Rattle.set_operators.specs.Clauses.{ask_items, asks_clauses, asks_items}
use Rattle.set_operators.specs.Members.{AnswersEach}
use Rattle.set_operators.specs.Plain.{IsPlainFor, IsPlainFound, as_kind, as_value, plain_conds, plain_literal_at}
use Rattle.set_operators.specs.Shown.{AbsentIsWanted}
use Rattle.set_operators.proofs.Lists.{any-here, any-nil, any-one, any-stable}
use Rattle.set_operators.proofs.Choosing.{all-flat}
use Rattle.set_operators.proofs.Numbering.{HoldsSo, asks-met, met-asks, range-asks}

-- ---- kinds

-- a value of the kind is one that the theory has
pub plain-of : (k : PlainKind) (v : Value) → IsOfKind (as_kind k) v → (p : PlainValue) × (as_value p ≡ v) × IsOfPlainKind k p
plain-of plain_kind.Truth (value.Word t) h = absurd h
plain-of plain_kind.Truth (value.Truth b) h = (plain.Truth b, refl, tt)
plain-of plain_kind.Truth (value.Number n) h = absurd h
plain-of plain_kind.Truth (value.Address a) h = absurd h
plain-of plain_kind.Truth (value.Bytes bs) h = absurd h
plain-of plain_kind.Number (value.Word t) h = absurd h
plain-of plain_kind.Number (value.Truth b) h = absurd h
plain-of plain_kind.Number (value.Number n) h = (plain.Number n, refl, h)
plain-of plain_kind.Number (value.Address a) h = absurd h
plain-of plain_kind.Number (value.Bytes bs) h = absurd h
plain-of plain_kind.Address (value.Word t) h = absurd h
plain-of plain_kind.Address (value.Truth b) h = absurd h
plain-of plain_kind.Address (value.Number n) h = absurd h
plain-of plain_kind.Address (value.Address a) h = (plain.Address a, refl, h)
plain-of plain_kind.Address (value.Bytes bs) h = absurd h
plain-of plain_kind.Bytes (value.Word t) h = absurd h
plain-of plain_kind.Bytes (value.Truth b) h = absurd h
plain-of plain_kind.Bytes (value.Number n) h = absurd h
plain-of plain_kind.Bytes (value.Address a) h = absurd h
plain-of plain_kind.Bytes (value.Bytes bs) h = (plain.Bytes bs, refl, h)

-- and the other way
pub of-plain : (k : PlainKind) (p : PlainValue) → IsOfPlainKind k p → IsOfKind (as_kind k) (as_value p)
of-plain plain_kind.Truth (plain.Truth b) h = tt
of-plain plain_kind.Truth (plain.Number n) h = h
of-plain plain_kind.Truth (plain.Address a) h = h
of-plain plain_kind.Truth (plain.Bytes bs) h = h
of-plain plain_kind.Number (plain.Truth b) h = h
of-plain plain_kind.Number (plain.Number n) h = h
of-plain plain_kind.Number (plain.Address a) h = h
of-plain plain_kind.Number (plain.Bytes bs) h = h
of-plain plain_kind.Address (plain.Truth b) h = h
of-plain plain_kind.Address (plain.Number n) h = h
of-plain plain_kind.Address (plain.Address a) h = h
of-plain plain_kind.Address (plain.Bytes bs) h = h
of-plain plain_kind.Bytes (plain.Truth b) h = h
of-plain plain_kind.Bytes (plain.Number n) h = h
of-plain plain_kind.Bytes (plain.Address a) h = h
of-plain plain_kind.Bytes (plain.Bytes bs) h = h

-- kinds are told apart by those of keys
back : Kind → PlainKind
back kind.Text = plain_kind.Truth
back kind.Truth = plain_kind.Truth
back kind.Number = plain_kind.Number
back kind.Address = plain_kind.Address
back kind.Bytes = plain_kind.Bytes

back-as : (k : PlainKind) → back (as_kind k) ≡ k
unfolding back
back-as plain_kind.Truth = refl
back-as plain_kind.Number = refl
back-as plain_kind.Address = refl
back-as plain_kind.Bytes = refl

same-kind : (j k : PlainKind) → as_kind j ≡ as_kind k → j ≡ k
same-kind j k e = sym (back-as j) ∙ ap back e ∙ back-as k

cond-kind : (k : PlainKind) (c : Cond) → IsCondOf (as_kind k) c → All (λ p. kind_of p ≡ k) (plain_conds c)
cond-kind k (cond.Matches p) h = All-nil (λ q. kind_of q ≡ k)
cond-kind k (cond.Compares how bound) h = All-cons (λ q. kind_of q ≡ k) (Compares how bound) [] (same-kind plain_kind.Number k h) (All-nil (λ q. kind_of q ≡ k))
cond-kind k (cond.Inside block) h = All-cons (λ q. kind_of q ≡ k) (Inside block) [] (same-kind plain_kind.Address k h) (All-nil (λ q. kind_of q ≡ k))
cond-kind k (cond.Flag t f) h = All-cons (λ q. kind_of q ≡ k) (Flag t f) [] (same-kind plain_kind.Truth k h) (All-nil (λ q. kind_of q ≡ k))
cond-kind k (cond.Equals bytes) h = All-cons (λ q. kind_of q ≡ k) (Equals bytes) [] (same-kind plain_kind.Bytes k h) (All-nil (λ q. kind_of q ≡ k))

ask-kinds : (k : PlainKind) (ask : KeyAsk) → AskIsOf (as_kind k) ask → All (λ p. kind_of p ≡ k) (ask_items plain_conds ask)
ask-kinds k Present h = All-nil (λ q. kind_of q ≡ k)
ask-kinds k (SomeMeets c) h = cond-kind k c h
ask-kinds k (SomeMeetsNone cs) h = all-flat (λ q. kind_of q ≡ k) plain_conds cs (All-weaker (IsCondOf (as_kind k)) (λ c. All (λ q. kind_of q ≡ k) (plain_conds c)) (cond-kind k) cs h)

asks-kinds : (k : PlainKind) (asks : Asks) → All (λ a. AskIsOf (as_kind k) a.0) asks → All (λ p. kind_of p ≡ k) (asks_items plain_conds asks)
asks-kinds k asks all =
    all-flat (λ q. kind_of q ≡ k) (λ a. ask_items plain_conds a.0) asks
    (All-weaker (λ a. AskIsOf (as_kind k) a.0) (λ a. All (λ q. kind_of q ≡ k) (ask_items plain_conds a.0)) (λ a. ask-kinds k a.0) asks all)

-- ---- tests on lists

both : (a b : Bool) → (a && b) ≡ true → (a ≡ true) × (b ≡ true)
both true b e = (refl, e)
both false b e = absurd (cc)

all-pass : {X : Type 0} (p : X → Bool) (xs : List X) → list_all p xs ≡ true → All (λ x. p x ≡ true) xs
all-pass p [] e = All-nil (λ x. p x ≡ true)
all-pass p (x ∷ xs) e = let parts = both (p x) (list_all p xs) e in All-cons (λ y. p y ≡ true) x xs parts.0 (all-pass p xs parts.1)

pass-all : {X : Type 0} (p : X → Bool) (xs : List X) → All (λ x. p x ≡ true) xs → list_all p xs ≡ true
pass-all p [] all = refl
pass-all p (x ∷ xs) all = rw (All-head (λ y. p y ≡ true) x xs all) (pass-all p xs (All-tail (λ y. p y ≡ true) x xs all))

map-at : {X Y : Type 0} (f : X → Y) (xs : List X) (i : ℕ) (x : X) (d : Y) (rest : List X) → drop i xs ≡ x ∷ rest → get_or (map f xs) i d ≡ f x
map-at f [] zero x d rest e = absurd (cc)
map-at f [] (suc i) x d rest e = absurd (cc)
map-at f (y ∷ xs) zero x d rest e = let same : y ≡ x = cc in ap f same
map-at f (y ∷ xs) (suc i) x d rest e = map-at f xs i x d rest e

-- ---- conditions

word-none : (p : PlainValue) (pattern : List Piece) → CondMeets (as_value p) (cond.Matches pattern) → ⊥
word-none (plain.Truth b) pattern m = m
word-none (plain.Number n) pattern m = m
word-none (plain.Address a) pattern m = m
word-none (plain.Bytes bs) pattern m = m

compares : (p : PlainValue) (how : Compare) (bound : ℤ) → CondMeets (as_value p) (cond.Compares how bound) ↔ PlainMeets p (Compares how bound)
compares (plain.Truth b) how bound = (λ m. m, λ m. m)
compares (plain.Number n) how bound = (λ m. m, λ m. m)
compares (plain.Address a) how bound = (λ m. m, λ m. m)
compares (plain.Bytes bs) how bound = (λ m. m, λ m. m)

inside : (p : PlainValue) (block : Block) → CondMeets (as_value p) (cond.Inside block) ↔ PlainMeets p (Inside block)
inside (plain.Truth b) block = (λ m. m, λ m. m)
inside (plain.Number n) block = (λ m. m, λ m. m)
inside (plain.Address a) block = (λ m. m, λ m. m)
inside (plain.Bytes bs) block = (λ m. m, λ m. m)

flags : (p : PlainValue) (t f : Bool) → CondMeets (as_value p) (cond.Flag t f) ↔ PlainMeets p (Flag t f)
flags (plain.Truth b) t f = (λ m. m, λ m. m)
flags (plain.Number n) t f = (λ m. m, λ m. m)
flags (plain.Address a) t f = (λ m. m, λ m. m)
flags (plain.Bytes bs) t f = (λ m. m, λ m. m)

equals : (p : PlainValue) (bytes : List ℕ) → CondMeets (as_value p) (cond.Equals bytes) ↔ PlainMeets p (Equals bytes)
equals (plain.Truth b) bytes = (λ m. m, λ m. m)
equals (plain.Number n) bytes = (λ m. m, λ m. m)
equals (plain.Address a) bytes = (λ m. m, λ m. m)
equals (plain.Bytes bs) bytes = (λ m. m, λ m. m)

single : (p : PlainValue) (c : PlainCond) (M : Type 0) → (M ↔ PlainMeets p c) → M ↔ Any (PlainMeets p) (c ∷ [])
single p c M is = (λ m. any-here (PlainMeets p) c [] (is.0 m), λ w. is.1 (any-one (PlainMeets p) c w))

cond-plain : (p : PlainValue) (c : Cond) → CondMeets (as_value p) c ↔ Any (PlainMeets p) (plain_conds c)
cond-plain p (cond.Matches pattern) = (λ m. absurd (word-none p pattern m), λ w. absurd (any-nil (PlainMeets p) w))
cond-plain p (cond.Compares how bound) = single p (Compares how bound) (CondMeets (as_value p) (cond.Compares how bound)) (compares p how bound)
cond-plain p (cond.Inside block) = single p (Inside block) (CondMeets (as_value p) (cond.Inside block)) (inside p block)
cond-plain p (cond.Flag t f) = single p (Flag t f) (CondMeets (as_value p) (cond.Flag t f)) (flags p t f)
cond-plain p (cond.Equals bytes) = single p (Equals bytes) (CondMeets (as_value p) (cond.Equals bytes)) (equals p bytes)

tested : {Q : Type 0} (b : Bool) → Decides b Q → Q ⊎ (Q → ⊥)
tested true d = inl (d.0 refl)
tested false d = inr (λ q. absurd (let wrong : false ≡ true = d.1 q in cc))

-- a literal holds where its condition is met or not, as it says
literal-so : (b answer : Bool) (i : ℕ) (Q : Type 0) → Decides answer Q → (literal_holds answer (plain_literal_at b i) ≡ true) ↔ HoldsSo b Q
literal-so true answer i Q d = (d.0, d.1)
literal-so false true i Q d = (λ e. absurd (cc), λ n. absurd (n (d.0 refl)))
literal-so false false i Q d = (λ e q. absurd (let wrong : false ≡ true = d.1 q in cc), λ n. refl)

-- ---- what is wanted of a plain value

module _ (meaning : PlainMeetsIsMeaning) (p : PlainValue) (asks : Asks) where
  abbrev conds : List PlainCond
  conds = asks_items plain_conds asks

  abbrev clauses : List (List Literal)
  clauses = asks_clauses plain_literal_at plain_conds asks 0

  abbrev answer : ℕ → Bool
  answer i = get_or (answers conds p) i false

  abbrev Met : Literal → Type 0
  Met l = literal_holds (answer l.pattern) l ≡ true

  literal-met : (b : Bool) (i : ℕ) (c : PlainCond) (rest : List PlainCond) → drop i conds ≡ c ∷ rest → Met (plain_literal_at b i) ↔ HoldsSo b (PlainMeets p c)
  literal-met b i c rest e =
      let at : answer i ≡ plain_meets p c = map-at (plain_meets p) conds i c false rest e in
      literal-so b (answer i) i (PlainMeets p c) (subst (λ (r : Bool). Decides r (PlainMeets p c)) (sym at) (meaning p c))

  stable : (cs : List PlainCond) → ((Any (PlainMeets p) cs → ⊥) → ⊥) → Any (PlainMeets p) cs
  stable cs h = any-stable (PlainMeets p) (λ c. tested (plain_meets p c) (meaning p c)) cs h

  begins : drop 0 conds ≡ conds ++ []
  begins = sym (append-nil conds)

  clause-met : (clause : List Literal) → meets_clause conds p clause ≡ true → Any Met clause
  clause-met clause e = Any-from_list_any (λ (l : Literal). literal_holds (answer l.pattern) l) clause e

  met-clause : (clause : List Literal) → Any Met clause → meets_clause conds p clause ≡ true
  met-clause clause w = list_any-from_Any (λ (l : Literal). literal_holds (answer l.pattern) l) clause w

  -- a value that meets the clauses answers each of the asks
  pub met-plain : (AbsentIsWanted asks → ⊥) → meets_clauses conds clauses p ≡ true → AnswersEach (as_value p) asks
  met-plain there e =
      asks-met plain_literal_at conds Met (PlainMeets p) literal-met (as_value p) plain_conds (cond-plain p) stable asks 0 [] begins
      (All-weaker (λ k. meets_clause conds p k ≡ true) (Any Met) clause-met clauses (all-pass (meets_clause conds p) clauses e)) there

  -- and the other way
  pub plain-met : AnswersEach (as_value p) asks → meets_clauses conds clauses p ≡ true
  plain-met each =
      pass-all (meets_clause conds p) clauses
      (All-weaker (Any Met) (λ k. meets_clause conds p k ≡ true) met-clause clauses
      (met-asks plain_literal_at conds Met (PlainMeets p) literal-met (as_value p) plain_conds (cond-plain p) stable asks 0 [] begins each))

-- the wants can be asked
pub proper : (k : PlainKind) (asks : Asks) (wants : PlainWants) → IsPlainFor k asks wants → All (λ a. AskIsOf (as_kind k) a.0) asks → IsProper wants
proper k asks wants is of = record {
  kinds = rw (is.kind, is.conds) (asks-kinds k asks of);
  range = rw (is.conds, is.clauses) (range-asks plain_literal_at (asks_items plain_conds asks) (λ (l : Literal). l.pattern < length (asks_items plain_conds asks)) (λ holds i h. h) plain_conds asks 0 [] (sym (append-nil (asks_items plain_conds asks))));
}

-- what a search for a plain value comes to
pub found-plain : PlainMeetsIsMeaning → (k : PlainKind) (asks : Asks) (wants : PlainWants) (p : PlainValue) → IsPlainFor k asks wants → (AbsentIsWanted asks → ⊥) →
    IsSolution wants.kind wants.conds wants.clauses (Found p) → IsPlainFound k asks (Some (as_value p))
found-plain meaning k asks wants p is there h =
    let kind : IsOfPlainKind k p = subst (λ (j : PlainKind). IsOfPlainKind j p) is.kind h.0 in
    let conds : meets_clauses (asks_items plain_conds asks) wants.clauses p ≡ true = subst (λ (cs : List PlainCond). meets_clauses cs wants.clauses p ≡ true) is.conds h.1 in
    let met : meets_clauses (asks_items plain_conds asks) (asks_clauses plain_literal_at plain_conds asks 0) p ≡ true =
    subst (λ (ks : List (List Literal)). meets_clauses (asks_items plain_conds asks) ks p ≡ true) is.clauses conds in
    (of-plain k p kind, met-plain meaning p asks there met)

pub no-plain : PlainMeetsIsMeaning → (k : PlainKind) (asks : Asks) (wants : PlainWants) → IsPlainFor k asks wants →
    IsSolution wants.kind wants.conds wants.clauses Empty → IsPlainFound k asks None
no-plain meaning k asks wants is h v of each =
    let own = plain-of k v of in
    let met : meets_clauses (asks_items plain_conds asks) (asks_clauses plain_literal_at plain_conds asks 0) own.0 ≡ true =
    plain-met meaning own.0 asks (subst (λ (u : Value). AnswersEach u asks) (sym own.1) each) in
    let conds : meets_clauses wants.conds (asks_clauses plain_literal_at plain_conds asks 0) own.0 ≡ true =
    subst (λ (cs : List PlainCond). meets_clauses cs (asks_clauses plain_literal_at plain_conds asks 0) own.0 ≡ true) (sym is.conds) met in
    let all : meets_clauses wants.conds wants.clauses own.0 ≡ true = subst (λ (ks : List (List Literal)). meets_clauses wants.conds ks own.0 ≡ true) (sym is.clauses) conds in
    let kind : IsOfPlainKind wants.kind own.0 = subst (λ (j : PlainKind). IsOfPlainKind j own.0) (sym is.kind) own.2 in
    let wrong : true ≡ false = sym all ∙ h own.0 kind in
    cc

pub found-at : PlainMeetsIsMeaning → (k : PlainKind) (asks : Asks) (wants : PlainWants) (solved : Solved) (p : PlainValue) (v : Value) → IsPlainFor k asks wants → (AbsentIsWanted asks → ⊥) →
    solved ≡ Found p → IsSolution wants.kind wants.conds wants.clauses solved → v ≡ as_value p → IsPlainFound k asks (Some v)
found-at meaning k asks wants solved p v is there e h same =
    let own : IsPlainFound k asks (Some (as_value p)) = found-plain meaning k asks wants p is there (subst (IsSolution wants.kind wants.conds wants.clauses) e h) in
    subst (λ (u : Value). IsPlainFound k asks (Some u)) (sym same) own

pub none-at : PlainMeetsIsMeaning → (k : PlainKind) (asks : Asks) (wants : PlainWants) (solved : Solved) → IsPlainFor k asks wants → solved ≡ Empty →
    IsSolution wants.kind wants.conds wants.clauses solved → IsPlainFound k asks None
none-at meaning k asks wants solved is e h = no-plain meaning k asks wants is (subst (IsSolution wants.kind wants.conds wants.clauses) e h)
