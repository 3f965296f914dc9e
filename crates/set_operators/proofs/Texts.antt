-- The texts that meet what asks and a rule want, and the members for the asks.
use Rattle.std.proofs.Common.{◌≡◌, ◌↔◌, ◌⊎◌, inl, inr, ℕ, ◌+◌, ◌<◌, List, [], ◌∷◌, ◌++◌, length, drop, get_or, Bool, true, false, Option, Some, None, unwrap_or, Decides, All, Any, refl, sym, ap, ◌∙◌, subst, append-nil, arith}
use Rattle.std.specs.Option.{option_to_list}
use Rattle.std.proofs.lemmas.List.Elements.{All-nil, All-append}
use Rattle.wildcard_lang.specs.declared.piece.Piece.{Piece}
use Rattle.wildcard_lang.specs.Accepts.{accepts}
use Rattle.wildcard_lang.specs.Matching.{Matches}
use Rattle.wildcard_lang.specs.Reading.{literals}
use Rattle.wildcard_lang.specs.Text.{IsText}
use Rattle.wildcard_lang.proofs.Laws.{Decides-accepts, exact-matched, exact-matches}
use Rattle.pattern_automata.specs.declared.wants.Literal.{Literal}
use Rattle.pattern_automata.specs.Closed.{InRange, IsLiteralMet, Meets}
use Rattle.pattern_automata.proofs.Laws.{closed_sets_are_empty}
use Rattle.policy_model.specs.declared.cond.Cond.{Cond}
use Rattle.policy_model.specs.declared.cond.Cond.TheVariants as cond
use Rattle.policy_model.specs.declared.schema.KeyRule.{KeyRule}
use Rattle.policy_model.specs.declared.value.Kind.{Kind}
use Rattle.policy_model.specs.declared.value.Kind.TheVariants.{Text}
use Rattle.policy_model.specs.declared.value.Value.{Value}
use Rattle.policy_model.specs.declared.value.Value.TheVariants as value
use Rattle.policy_model.specs.Conds.{CondMeets}
use Rattle.policy_model.specs.Requests.{FitsShape, IsListed, IsOfKind}
use Rattle.set_operators.specs.Asks.{Asks}
use Rattle.set_operators.specs.Clauses.{asks_clauses}
use Rattle.set_operators.specs.Laws.{WantsAreOfMembers}
use Rattle.set_operators.specs.Members.{AnswersEach, HasMember, IsMemberFor}
use Rattle.set_operators.specs.Shown.{AbsentIsWanted}
use Rattle.set_operators.specs.Wants.{IsClosedForValue, asks_patterns, cond_patterns, list_clause, listed_pattern, listed_patterns, literal_at, rule_clauses, rule_patterns, shape_clause, value_clauses, value_patterns}
use Rattle.set_operators.proofs.Lists.{any-here, any-nil, any-one, any-spread, any-stable, all-left, all-right, drop-head, drop-past}
use Rattle.set_operators.proofs.Numbering.{HoldsSo, asks-met, met-asks, met-so, range-asks, range-some, so-met}

-- ---- the numbers of patterns

module _ (patterns : List (List Piece)) where
  abbrev IsIn : Literal → Type 0
  IsIn l = l.pattern < length patterns

  within : (holds : Bool) (i : ℕ) → i < length patterns → IsIn (literal_at holds i)
  within holds i h = h

  shape-range : (shape : Option (List Piece)) (i : ℕ) (rest : List (List Piece)) → drop i patterns ≡ option_to_list shape ++ rest → InRange (length patterns) (shape_clause shape i)
  shape-range None i rest e = All-nil (All IsIn)
  shape-range (Some p) i rest e = range-some literal_at patterns IsIn within true (p ∷ []) i rest e

  list-range : (among : Option (List Value)) (i : ℕ) (rest : List (List Piece)) → drop i patterns ≡ listed_patterns (unwrap_or among []) ++ rest → InRange (length patterns) (list_clause among i)
  list-range None i rest e = All-nil (All IsIn)
  list-range (Some listed) i rest e = range-some literal_at patterns IsIn within true (listed_patterns listed) i rest e

  asks-range : (asks : Asks) (rest : List (List Piece)) → drop 0 patterns ≡ asks_patterns asks ++ rest → InRange (length patterns) (asks_clauses literal_at cond_patterns asks 0)
  asks-range asks rest e = range-asks literal_at patterns IsIn within cond_patterns asks 0 rest e

-- where the rule's patterns begin
rule-begins : (rule : KeyRule) (asks : Asks) → drop (length (asks_patterns asks)) (value_patterns rule asks) ≡ rule_patterns rule
rule-begins rule asks =
    let n : ℕ = length (asks_patterns asks) in
    let past : drop (0 + n) (value_patterns rule asks) ≡ rule_patterns rule = drop-past (value_patterns rule asks) (asks_patterns asks) (rule_patterns rule) 0 refl in
    let none : 0 + n ≡ n = omega arith in
    subst (λ (k : ℕ). drop k (value_patterns rule asks) ≡ rule_patterns rule) none past

-- and where its listed texts do
list-begins : (rule : KeyRule) (asks : Asks) → drop (length (asks_patterns asks) + length (option_to_list rule.shape)) (value_patterns rule asks) ≡ listed_patterns (unwrap_or rule.among []) ++ []
list-begins rule asks =
    drop-past (value_patterns rule asks) (option_to_list rule.shape) (listed_patterns (unwrap_or rule.among [])) (length (asks_patterns asks)) (rule-begins rule asks)
    ∙ sym (append-nil (listed_patterns (unwrap_or rule.among [])))

-- the literals of what is wanted name its patterns
pub wants-range : (rule : KeyRule) (asks : Asks) → InRange (length (value_patterns rule asks)) (value_clauses rule asks)
wants-range rule asks =
    let patterns : List (List Piece) = value_patterns rule asks in
    let n : ℕ = length (asks_patterns asks) in
    let shapes : List (List Literal) = shape_clause rule.shape n in
    let lists : List (List Literal) = list_clause rule.among (n + length (option_to_list rule.shape)) in
    All-append (All (IsIn patterns)) (asks_clauses literal_at cond_patterns asks 0) (rule_clauses rule n) (asks-range patterns asks (rule_patterns rule) refl)
    (All-append (All (IsIn patterns)) shapes lists (shape-range patterns rule.shape n (listed_patterns (unwrap_or rule.among [])) (rule-begins rule asks))
    (list-range patterns rule.among (n + length (option_to_list rule.shape)) [] (list-begins rule asks)))

-- ---- one text

module _ (t : List ℕ) where
  abbrev P : List Piece → Type 0
  P p = Matches p t

  cond-matches : (c : Cond) → CondMeets (value.Word t) c ↔ Any P (cond_patterns c)
  cond-matches (cond.Matches p) = (λ m. any-here P p [] m, λ w. any-one P p w)
  cond-matches (cond.Compares compare bound) = (λ m. absurd m, λ w. absurd (any-nil P w))
  cond-matches (cond.Inside block) = (λ m. absurd m, λ w. absurd (any-nil P w))
  cond-matches (cond.Flag at_true at_false) = (λ m. absurd m, λ w. absurd (any-nil P w))
  cond-matches (cond.Equals bytes) = (λ m. absurd m, λ w. absurd (any-nil P w))

  tested : (b : Bool) (p : List Piece) → Decides b (P p) → P p ⊎ (P p → ⊥)
  tested true p d = inl (d.0 refl)
  tested false p d = inr (λ m. absurd (let wrong : false ≡ true = d.1 m in cc))

  stable : (ps : List (List Piece)) → ((Any P ps → ⊥) → ⊥) → Any P ps
  stable ps h = any-stable P (λ p. tested (accepts p t) p (Decides-accepts p t)) ps h

  -- a listed value whose pattern matches is the text
  value-matches : (v : Value) → (v ≡ value.Word t) ↔ Any P (listed_pattern v)
  value-matches (value.Word u) = (
    λ e. let same : u ≡ t = cc in any-here P (literals false u) [] (subst (Matches (literals false u)) same (exact-matches u)),
    λ w. ap value.Word (sym (exact-matched u t (any-one P (literals false u) w))),
  )
  value-matches (value.Truth b) = (λ e. absurd (cc), λ w. absurd (any-nil P w))
  value-matches (value.Number n) = (λ e. absurd (cc), λ w. absurd (any-nil P w))
  value-matches (value.Address a) = (λ e. absurd (cc), λ w. absurd (any-nil P w))
  value-matches (value.Bytes bs) = (λ e. absurd (cc), λ w. absurd (any-nil P w))

  listed-matches : (listed : List Value) → Any (λ v. v ≡ value.Word t) listed ↔ Any P (listed_patterns listed)
  listed-matches listed = any-spread P (λ v. v ≡ value.Word t) listed_pattern value-matches listed

  module _ (patterns : List (List Piece)) where
    abbrev Met : Literal → Type 0
    Met = IsLiteralMet patterns t

    literal-met : (holds : Bool) (i : ℕ) (p : List Piece) (rest : List (List Piece)) → drop i patterns ≡ p ∷ rest → Met (literal_at holds i) ↔ HoldsSo holds (P p)
    literal-met holds i p rest e = (
      λ m. subst (λ (q : List Piece). HoldsSo holds (Matches q t)) (drop-head patterns i p [] rest e) m,
      λ m. subst (λ (q : List Piece). HoldsSo holds (Matches q t)) (sym (drop-head patterns i p [] rest e)) m,
    )

    shape-met : (shape : Option (List Piece)) (i : ℕ) (rest : List (List Piece)) → drop i patterns ≡ option_to_list shape ++ rest → Meets patterns (shape_clause shape i) t → FitsShape shape t
    shape-met None i rest e m = tt
    shape-met (Some p) i rest e m = any-one P p (so-met literal_at patterns Met P literal-met true (p ∷ []) i rest e m)

    met-shape : (shape : Option (List Piece)) (i : ℕ) (rest : List (List Piece)) → drop i patterns ≡ option_to_list shape ++ rest → FitsShape shape t → Meets patterns (shape_clause shape i) t
    met-shape None i rest e m = All-nil (Any Met)
    met-shape (Some p) i rest e m = met-so literal_at patterns Met P literal-met true (p ∷ []) i rest e (any-here P p [] m)

    list-met : (among : Option (List Value)) (i : ℕ) (rest : List (List Piece)) → drop i patterns ≡ listed_patterns (unwrap_or among []) ++ rest → Meets patterns (list_clause among i) t → IsListed among (value.Word t)
    list-met None i rest e m = tt
    list-met (Some listed) i rest e m =
        let w = (listed-matches listed).1 (so-met literal_at patterns Met P literal-met true (listed_patterns listed) i rest e m) in
        (w.0, w.2, subst (λ (v : Value). get_or listed w.0 v ≡ v) w.4 w.3)

    met-list : (among : Option (List Value)) (i : ℕ) (rest : List (List Piece)) → drop i patterns ≡ listed_patterns (unwrap_or among []) ++ rest → IsListed among (value.Word t) → Meets patterns (list_clause among i) t
    met-list None i rest e c = All-nil (Any Met)
    met-list (Some listed) i rest e c =
        met-so literal_at patterns Met P literal-met true (listed_patterns listed) i rest e ((listed-matches listed).0 (c.0, value.Word t, c.1, c.2, refl))

    text-answers : (asks : Asks) (rest : List (List Piece)) → drop 0 patterns ≡ asks_patterns asks ++ rest → Meets patterns (asks_clauses literal_at cond_patterns asks 0) t → (AbsentIsWanted asks → ⊥) → AnswersEach (value.Word t) asks
    text-answers asks rest e m there = asks-met literal_at patterns Met P literal-met (value.Word t) cond_patterns cond-matches stable asks 0 rest e m there

    answers-text : (asks : Asks) (rest : List (List Piece)) → drop 0 patterns ≡ asks_patterns asks ++ rest → AnswersEach (value.Word t) asks → Meets patterns (asks_clauses literal_at cond_patterns asks 0) t
    answers-text asks rest e h = met-asks literal_at patterns Met P literal-met (value.Word t) cond_patterns cond-matches stable asks 0 rest e h

  module _ (rule : KeyRule) (asks : Asks) where
    abbrev all : List (List Piece)
    all = value_patterns rule asks

    abbrev n : ℕ
    n = length (asks_patterns asks)

    abbrev own : List (List Literal)
    own = asks_clauses literal_at cond_patterns asks 0

    abbrev shapes : List (List Literal)
    shapes = shape_clause rule.shape n

    abbrev lists : List (List Literal)
    lists = list_clause rule.among (n + length (option_to_list rule.shape))

    abbrev Each : List (List Literal) → Type 0
    Each clauses = Meets all clauses t

    -- a text that meets what is wanted is a member
    met-member : rule.kind ≡ Text → IsText t → (AbsentIsWanted asks → ⊥) → Each (value_clauses rule asks) → IsMemberFor rule asks (value.Word t)
    met-member kind text there m =
        let rules : Each (rule_clauses rule n) = all-right (Any (Met all)) own (rule_clauses rule n) m in
        record {
          permitted = record {
            kind = subst (λ (k : Kind). IsOfKind k (value.Word t)) (sym kind) text;
            fits = shape-met all rule.shape n (listed_patterns (unwrap_or rule.among [])) (rule-begins rule asks) (all-left (Any (Met all)) shapes lists rules);
            listed = list-met all rule.among (n + length (option_to_list rule.shape)) [] (list-begins rule asks) (all-right (Any (Met all)) shapes lists rules);
          };
          answers = text-answers all asks (rule_patterns rule) refl (all-left (Any (Met all)) own (rule_clauses rule n) m) there;
        }

    -- and the other way
    pub member-met : IsMemberFor rule asks (value.Word t) → Each (value_clauses rule asks)
    member-met is =
        All-append (Any (Met all)) own (rule_clauses rule n) (answers-text all asks (rule_patterns rule) refl is.answers)
        (All-append (Any (Met all)) shapes lists (met-shape all rule.shape n (listed_patterns (unwrap_or rule.among [])) (rule-begins rule asks) is.permitted.fits)
        (met-list all rule.among (n + length (option_to_list rule.shape)) [] (list-begins rule asks) is.permitted.listed))

pub wants_are_of_members : WantsAreOfMembers
wants_are_of_members rule asks t kind there text = (met-member t rule asks kind text there, member-met t rule asks)

-- a closed set has no member
text-member : (rule : KeyRule) (asks : Asks) (set : List (List (List ℕ))) (v : Value) → IsOfKind Text v → IsClosedForValue rule asks set → IsMemberFor rule asks v → ⊥
text-member rule asks set (value.Word t) kind closed is =
    closed_sets_are_empty (value_patterns rule asks) (value_clauses rule asks) set (wants-range rule asks) closed t kind (member-met t rule asks is)
text-member rule asks set (value.Truth b) kind closed is = kind
text-member rule asks set (value.Number n) kind closed is = kind
text-member rule asks set (value.Address a) kind closed is = kind
text-member rule asks set (value.Bytes bs) kind closed is = kind

pub closed-none : (rule : KeyRule) (asks : Asks) (set : List (List (List ℕ))) → rule.kind ≡ Text → IsClosedForValue rule asks set → HasMember rule asks → ⊥
closed-none rule asks set kind closed m =
    text-member rule asks set m.0 (subst (λ (k : Kind). IsOfKind k m.0) kind m.1.permitted.kind) closed m.1
