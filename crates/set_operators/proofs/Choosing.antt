-- The asks that are chosen for one member.
use Rattle.std.proofs.Common.{◌≡◌, ◌≢◌, ℕ, zero, suc, ◌+◌, ◌<◌, ◌==◌, List, [], ◌∷◌, ◌++◌, length, take, drop, flat_map, get_or, Bool, true, false, not, cond, unwrap_or, All, Contains, refl, ap, ◌∙◌, append_assoc, length-append, arith}
use Rattle.std.specs.Option.{option_to_list}
use Rattle.std.proofs.lemmas.Bool.Decides.{nat_tests}
use Rattle.std.proofs.lemmas.List.Elements.{All-nil, All-cons, All-head, All-tail, All-append, All-contains, All-contains_itself, All-filter, All-take, All-drop, All-weaker, Contains-get_or, Contains-append_left, Contains-append_right}
use Rattle.wildcard_lang.specs.declared.piece.Piece.{Piece}
use Rattle.wildcard_lang.specs.Places.{ShowWider}
use Rattle.wildcard_lang.proofs.Laws.{widths-grow}
use Rattle.pattern_automata.specs.declared.wants.Literal.{Literal}
use Rattle.pattern_automata.specs.declared.wants.Wants.{Wants}
use Rattle.pattern_automata.specs.Closed.{InRange}
use Rattle.policy_model.specs.declared.schema.KeyRule.{KeyRule}
use Rattle.set_operators.specs.declared.ask.KeyAsk.{KeyAsk}
use Rattle.set_operators.specs.declared.ask.KeyAsk.TheVariants.{Present}
use Rattle.set_operators.specs.declared.steps.Choice.{Choice}
use Rattle.set_operators.specs.declared.steps.Choice.TheVariants.{Each, Denied, DeniedAnd}
use Rattle.set_operators.specs.Asks.{Asks}
use Rattle.set_operators.specs.Clauses.{ask_items, asks_clauses}
use Rattle.set_operators.specs.Members.{denied_asks, member_asks}
use Rattle.set_operators.specs.Shown.{AbsentIsWanted}
use Rattle.set_operators.specs.Steps.{IsChoiceIn, IsWantsFor, chosen_asks, picked_asks}
use Rattle.set_operators.specs.Wants.{asks_patterns, cond_patterns, list_clause, listed_patterns, literal_at, rule_patterns, shape_clause, value_patterns}
use Rattle.set_operators.proofs.Texts.{wants-range}

-- ---- one by one

picked-each : (i : ℕ) (asks : Asks) → picked_asks Each i asks ≡ asks
picked-each i [] = refl
picked-each i (a ∷ asks) = ap (λ (rest : Asks). a ∷ rest) (picked-each (i + 1) asks)

picked-denied : (i : ℕ) (asks : Asks) → picked_asks Denied i asks ≡ denied_asks asks
picked-denied i [] = refl
picked-denied i (a ∷ asks) = ap (λ (rest : Asks). cond (not a.1) (a ∷ rest) rest) (picked-denied (i + 1) asks)

other : (i k : ℕ) → i ≢ k → (i == k) ≡ false
other i k ne = grind (arith, nat_tests)

same : (i k : ℕ) → i ≡ k → (i == k) ≡ true
same i k e = grind (arith, nat_tests)

picked-behind : (k i : ℕ) (asks : Asks) → k < i → picked_asks (DeniedAnd k) i asks ≡ denied_asks asks
picked-behind k i [] h = refl
picked-behind k i (a ∷ asks) h =
    let ne : i ≢ k = omega arith in
    let not_here : (i == k) ≡ false = other i k ne in
    rw (not_here, picked-behind k (i + 1) asks (omega arith)) refl

deny-front : (b : Bool) (a x : KeyAsk × Bool) (before behind rest : Asks) → rest ≡ before ++ x ∷ behind → cond b (a ∷ rest) rest ≡ cond b (a ∷ before) before ++ x ∷ behind
deny-front true a x before behind rest e = ap (λ (xs : Asks). a ∷ xs) e
deny-front false a x before behind rest e = e

picked-named : (i j k : ℕ) (asks : Asks) → k ≡ i + j → j < length asks → picked_asks (DeniedAnd k) i asks ≡ member_asks asks j
picked-named i j k [] e h = absurd (omega arith)
picked-named i zero k (a ∷ asks) e h =
    let here : i ≡ k = omega arith in
    let hit : (i == k) ≡ true = same i k here in
    rw (hit, picked-behind k (i + 1) asks (omega arith)) refl
picked-named i (suc j) k (a ∷ asks) e h =
    let ne : i ≢ k = omega arith in
    let not_here : (i == k) ≡ false = other i k ne in
    let next : suc j + 1 ≡ suc (j + 1) = omega arith in
    let step : picked_asks (DeniedAnd k) (i + 1) asks ≡ member_asks asks j = picked-named (i + 1) j k asks (omega arith) (omega arith) in
    rw (not_here, next) (deny-front (not a.1) a (get_or asks j (Present, true)) (denied_asks (take j asks)) (denied_asks (drop (j + 1) asks)) (picked_asks (DeniedAnd k) (i + 1) asks) step)

pub picked-chosen : (asks : Asks) (choice : Choice) → IsChoiceIn asks choice → picked_asks choice 0 asks ≡ chosen_asks asks choice
picked-chosen asks Each h = picked-each 0 asks
picked-chosen asks Denied h = picked-denied 0 asks
picked-chosen asks (DeniedAnd k) h = picked-named 0 k k asks (omega arith) h

-- ---- they are among the asks

denied-in : (asks few : Asks) → All (Contains asks) few → All (Contains asks) (denied_asks few)
denied-in asks few all = All-filter (λ a. not a.1) (Contains asks) few all

pub chosen-in : (asks : Asks) (choice : Choice) → IsChoiceIn asks choice → All (Contains asks) (chosen_asks asks choice)
chosen-in asks Each h = All-contains_itself asks
chosen-in asks Denied h = denied-in asks asks (All-contains_itself asks)
chosen-in asks (DeniedAnd k) h =
    let all = All-contains_itself asks in
    All-append (Contains asks) (denied_asks (take k asks)) (get_or asks k (Present, true) ∷ denied_asks (drop (k + 1) asks)) (denied-in asks (take k asks) (All-take (Contains asks) k asks all))
    (All-cons (Contains asks) (get_or asks k (Present, true)) (denied_asks (drop (k + 1) asks)) (Contains-get_or asks k (Present, true) h) (denied-in asks (drop (k + 1) asks) (All-drop (Contains asks) (k + 1) asks all)))

pub chosen-there : (asks : Asks) (choice : Choice) → IsChoiceIn asks choice → (AbsentIsWanted asks → ⊥) → AbsentIsWanted (chosen_asks asks choice) → ⊥
chosen-there asks choice h there absent = there (All-contains (Contains asks) (chosen_asks asks choice) (Present, false) (chosen-in asks choice h) absent)

pub chosen-all : (P : KeyAsk × Bool → Type 0) (asks : Asks) (choice : Choice) → IsChoiceIn asks choice → All P asks → All P (chosen_asks asks choice)
chosen-all P asks choice h all = All-weaker (Contains asks) P (λ a c. All-contains P asks a all c) (chosen_asks asks choice) (chosen-in asks choice h)

pub all-flat : {X Y : Type 0} (P : X → Type 0) (f : Y → List X) (ys : List Y) → All (λ y. All P (f y)) ys → All P (flat_map f ys)
all-flat P f [] all = All-nil P
all-flat P f (y ∷ ys) all = All-append P (f y) (flat_map f ys) (All-head (λ z. All P (f z)) y ys all) (all-flat P f ys (All-tail (λ z. All P (f z)) y ys all))

each-flat : {X Y : Type 0} (f : Y → List X) (ys : List Y) → All (λ y. All (Contains (flat_map f ys)) (f y)) ys
each-flat f [] = All-nil (λ y. All (Contains (flat_map f [])) (f y))
each-flat f (y ∷ ys) =
    All-cons (λ z. All (Contains (f y ++ flat_map f ys)) (f z)) y ys
    (All-weaker (Contains (f y)) (Contains (f y ++ flat_map f ys)) (λ x c. Contains-append_left (f y) (flat_map f ys) x c) (f y) (All-contains_itself (f y)))
    (All-weaker (λ z. All (Contains (flat_map f ys)) (f z)) (λ z. All (Contains (f y ++ flat_map f ys)) (f z))
    (λ z all. All-weaker (Contains (flat_map f ys)) (Contains (f y ++ flat_map f ys)) (λ x c. Contains-append_right (f y) (flat_map f ys) x c) (f z) all) ys (each-flat f ys))

-- the patterns of the chosen asks and the rule are among those of all and the rule
pub wider-all : (rule : KeyRule) (asks : Asks) (choice : Choice) (states : ℕ) (texts : List (List ℕ)) → IsChoiceIn asks choice → ShowWider (value_patterns rule (chosen_asks asks choice)) states texts → ShowWider (value_patterns rule asks) states texts
wider-all rule asks choice states texts h wide =
    let f : KeyAsk × Bool → List (List Piece) = λ a. ask_items cond_patterns a.0 in
    let own : All (Contains (asks_patterns asks)) (asks_patterns (chosen_asks asks choice)) =
    all-flat (Contains (asks_patterns asks)) f (chosen_asks asks choice) (chosen-all (λ a. All (Contains (asks_patterns asks)) (f a)) asks choice h (each-flat f asks)) in
    let among : All (Contains (value_patterns rule asks)) (value_patterns rule (chosen_asks asks choice)) =
    All-append (Contains (value_patterns rule asks)) (asks_patterns (chosen_asks asks choice)) (rule_patterns rule)
    (All-weaker (Contains (asks_patterns asks)) (Contains (value_patterns rule asks)) (λ x c. Contains-append_left (asks_patterns asks) (rule_patterns rule) x c) (asks_patterns (chosen_asks asks choice)) own)
    (All-weaker (Contains (rule_patterns rule)) (Contains (value_patterns rule asks)) (λ x c. Contains-append_right (asks_patterns asks) (rule_patterns rule) x c) (rule_patterns rule) (All-contains_itself (rule_patterns rule))) in
    widths-grow (value_patterns rule (chosen_asks asks choice)) (value_patterns rule asks) states texts among wide

-- ---- what is wanted

pub wants-made : (rule : KeyRule) (asks some : Asks) (first second third : List (List Piece)) (one two three : List (List Literal)) → some ≡ asks →
    first ≡ asks_patterns some → one ≡ asks_clauses literal_at cond_patterns some 0 →
    second ≡ first ++ option_to_list rule.shape → two ≡ one ++ shape_clause rule.shape (length first) →
    third ≡ second ++ listed_patterns (unwrap_or rule.among []) → three ≡ two ++ list_clause rule.among (length second) →
    IsWantsFor rule asks (record { patterns = third; clauses = three })
wants-made rule asks some first second third one two three chose i c j d k e =
    let own : first ≡ asks_patterns asks = i ∙ ap asks_patterns chose in
    let named : one ≡ asks_clauses literal_at cond_patterns asks 0 = c ∙ ap (λ (a : Asks). asks_clauses literal_at cond_patterns a 0) chose in
    let begins : length first ≡ length (asks_patterns asks) = ap length own in
    let ends : length second ≡ length (asks_patterns asks) + length (option_to_list rule.shape) =
    ap length j ∙ length-append first (option_to_list rule.shape) ∙ ap (λ (n : ℕ). n + length (option_to_list rule.shape)) begins in
    record {
      patterns = rw (k, j, own) (append_assoc (asks_patterns asks) (option_to_list rule.shape) (listed_patterns (unwrap_or rule.among [])));
      clauses = rw (e, d, named, ends, begins) (append_assoc (asks_clauses literal_at cond_patterns asks 0) (shape_clause rule.shape (length (asks_patterns asks)))
          (list_clause rule.among (length (asks_patterns asks) + length (option_to_list rule.shape))));
    }

pub made-range : (rule : KeyRule) (asks : Asks) (wants : Wants) → IsWantsFor rule asks wants → InRange (length wants.patterns) wants.clauses
made-range rule asks wants is = rw (is.patterns, is.clauses) (wants-range rule asks)
