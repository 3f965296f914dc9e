-- Going back over what was decided: from which answers the hints replay.
use Rattle.std.proofs.Common.{◌≡◌, ℕ, List, [], ◌∷◌, ◌++◌, Bool, not, Option, Some, None, inl, inr, refl, sym, ap, subst, ◌∙◌, slice_get}
use Rattle.std.specs.List.{Contains}
use Rattle.formula_tree.specs.Answers.{Answers, answer_of, Contained}
use Rattle.formula_tree.proofs.Laws.{answer_of-more, answer_of-rest, answer_of-besides, cases_eq}
use Rattle.cnf_clauses.specs.Literals.{Clause, Literal, IsFalseUnder, IsRefuted, IsUnit}
use Rattle.cnf_clauses.specs.Replays.{Replays, refuted, derives}
use Rattle.cnf_clauses.specs.Explains.{IsNeeded, NeedsAlso, HasNeeded, Explains, Agree}
use Rattle.cnf_clauses.proofs.Convex.{open-in, contained-both}
use Rattle.cnf_clauses.proofs.Hinting.{unit-is, same_clause, none-replay}
use Rattle.cnf_clauses.proofs.Settling.{cases_option}

same_answer : (o : Option Bool) (a b : Bool) → o ≡ Some a → o ≡ Some b → a ≡ b
same_answer o a b e f = let both : Some a ≡ Some b = sym e ∙ f in cc

-- what is open has no answer
not_open : (d : Answers) (v w : ℕ) (b : Bool) → answer_of d w ≡ None → answer_of d v ≡ Some b → v ≡ w → ⊥
not_open d v w b open_there h e = let bad : None ≡ Some b = sym open_there ∙ sym (ap (λ (x : ℕ). answer_of d x) e) ∙ h in absurd (cc)

pub contained-grown : (few known : Answers) (l : Literal) → Contained few known → Contained few (known ++ l ∷ [])
contained-grown few known l inside v b h = answer_of-more known (l ∷ []) v b (inside v b h)

conflict-all : (cs : List Clause) (known : Answers) (c : Clause) (n : ℕ) (new : List Bool) (few : Answers) → slice_get cs n ≡ Some c → Contained few known → IsRefuted known c → NeedsAlso c [] new →
    Replays cs few (n ∷ []) → HasNeeded new known few
conflict-all cs known c n new few there inside all needs (derives d1 n1 rest c2 l2 there2 u2 more) v b needed h = absurd (none-replay cs (few ++ l2 ∷ []) [] refl more)
conflict-all cs known c n new few there inside all needs (refuted d1 n1 c2 there2 all2) v b needed h =
    elim (needs.only v needed) [
      | inl none ↦ absurd (cc)
      | inr (m, k, e) ↦
          let stands : Contains c2 m = subst (λ (y : Clause). Contains y m) (same_clause (slice_get cs n) c c2 there there2) k in
          let here : answer_of few m.0 ≡ Some (not m.1) = all2 m stands in
          let value : not m.1 ≡ b = same_answer (answer_of known m.0) (not m.1) b (inside m.0 (not m.1) here) (ap (λ (x : ℕ). answer_of known x) e ∙ h) in
          sym (ap (λ (x : ℕ). answer_of few x) e) ∙ here ∙ ap (λ (x : Bool). Some x) value
    ]

-- the conflict itself
pub explains-conflict : (cs : List Clause) (known : Answers) (c : Clause) (n : ℕ) (new : List Bool) → slice_get cs n ≡ Some c → IsRefuted known c → NeedsAlso c [] new →
    Explains cs known new (n ∷ [])
explains-conflict cs known c n new there all needs = record {
  replay = λ few inside has. refuted few n c there (λ m k. has m.0 (not m.1) (needs.named m k) (all m k));
  all = λ few inside r. conflict-all cs known c n new few there inside all needs r;
}

pub skipped : (known : Answers) (l : Literal) (needed : List Bool) → (IsNeeded needed l.0 → (b : Bool) × (answer_of known l.0 ≡ Some b)) → (v : ℕ) (b : Bool) → IsNeeded needed v →
    answer_of (known ++ l ∷ []) v ≡ Some b → answer_of known v ≡ Some b
skipped known l needed known_too v b n h =
    elim (cases_eq v l.0) [
      | inl e ↦
          let (x, there) = known_too (subst (λ (y : ℕ). IsNeeded needed y) e n) in
          let here : answer_of known v ≡ Some x = ap (λ (y : ℕ). answer_of known y) e ∙ there in
          let value : x ≡ b = same_answer (answer_of (known ++ l ∷ []) v) x b (answer_of-more known (l ∷ []) v x here) h in
          here ∙ ap (λ (y : Bool). Some y) value
      | inr ne ↦ sym (answer_of-besides known l.0 l.1 v ne) ∙ h
    ]

-- a literal that isn't needed, or that is known besides
pub explains-skip : (cs : List Clause) (known : Answers) (l : Literal) (needed : List Bool) (hs : List ℕ) → (IsNeeded needed l.0 → (b : Bool) × (answer_of known l.0 ≡ Some b)) →
    Explains cs (known ++ l ∷ []) needed hs → Explains cs known needed hs
explains-skip cs known l needed hs known_too old = record {
  replay = λ few inside has. old.replay few (contained-grown few known l inside) (λ v b n h. has v b n (skipped known l needed known_too v b n h));
  all = λ few inside r v b n h. old.all few (contained-grown few known l inside) r v b n (answer_of-more known (l ∷ []) v b h);
}

unit-needed : (known few : Answers) (c : Clause) (l : Literal) (new : List Bool) → Contained few known → IsUnit known c l → ((m : Literal) → Contains c m → IsNeeded new m.0) → HasNeeded new known few → IsUnit few c l
unit-needed known few c l new inside u named has = record {
  stands = u.stands;
  undecided = open-in few known l.0 inside u.undecided;
  others = λ m k. elim (u.others m k) [ inl e ↦ inl e | inr f ↦ inr (has m.0 (not m.1) (named m k) f) ];
}

pub grown-needed : (known few : Answers) (l : Literal) (old new : List Bool) → Contained few known → ((v : ℕ) → IsNeeded old v → IsNeeded new v) → HasNeeded new known few →
    HasNeeded old (known ++ l ∷ []) (few ++ l ∷ [])
grown-needed known few l old new inside kept has v b n h =
    elim (cases_option (answer_of known v)) [
      | inl none ↦
          let last : answer_of (l ∷ []) v ≡ Some b = sym (answer_of-rest known (l ∷ []) v none) ∙ h in
          answer_of-rest few (l ∷ []) v (open-in few known v inside none) ∙ last
      | inr (x, e) ↦
          let value : x ≡ b = same_answer (answer_of (known ++ l ∷ []) v) x b (answer_of-more known (l ∷ []) v x e) h in
          answer_of-more few (l ∷ []) v b (has v b (kept v n) (e ∙ ap (λ (y : Bool). Some y) value))
    ]

more-all : (cs : List Clause) (known : Answers) (l : Literal) (c : Clause) (n : ℕ) (old new : List Bool) (hs : List ℕ) (few : Answers) → slice_get cs n ≡ Some c → IsUnit known c l → NeedsAlso c old new →
    Explains cs (known ++ l ∷ []) old hs → Contained few known → Replays cs few (n ∷ hs) → HasNeeded new known few
more-all cs known l c n old new hs few there u needs before inside (refuted d1 n1 c2 there2 all2) =
    absurd (none-replay cs (known ++ l ∷ []) [] refl (before.replay (known ++ l ∷ []) (λ v b h. h) (λ v b x h. h)))
more-all cs known l c n old new hs few there u needs before inside (derives d1 n1 rest c2 l2 there2 u2 more) = λ v b needed h.
    let same : c2 ≡ c = same_clause (slice_get cs n) c2 c there2 there in
    let here : IsUnit few c l2 = subst (λ (y : Clause). IsUnit few y l2) same u2 in
    let one : l ≡ l2 = unit-is few c l2 l here u.stands (open-in few known l.0 inside u.undecided) in
    let after : Replays cs (few ++ l ∷ []) hs = subst (λ (y : Literal). Replays cs (few ++ y ∷ []) hs) (sym one) more in
    elim (needs.only v needed) [
      | inl before_too ↦
          let grown : answer_of (few ++ l ∷ []) v ≡ Some b =
          before.all (few ++ l ∷ []) (contained-both few known l inside u.undecided) after v b before_too (answer_of-more known (l ∷ []) v b h) in
          sym (answer_of-besides few l.0 l.1 v (λ e. not_open known v l.0 b u.undecided h e)) ∙ grown
      | inr (m, k, e) ↦ elim (here.others m k) [
        | inl f ↦ absurd (not_open known v l.0 b u.undecided h (sym e ∙ ap (λ (y : Literal). y.0) (f ∙ sym one)))
        | inr f ↦
            let value : not m.1 ≡ b = same_answer (answer_of known m.0) (not m.1) b (inside m.0 (not m.1) f) (ap (λ (x : ℕ). answer_of known x) e ∙ h) in
            sym (ap (λ (x : ℕ). answer_of few x) e) ∙ f ∙ ap (λ (x : Bool). Some x) value
      ]
    ]

-- a literal that a clause says, whose hint is put in front
pub explains-more : (cs : List Clause) (known : Answers) (l : Literal) (c : Clause) (n : ℕ) (old new : List Bool) (hs : List ℕ) → slice_get cs n ≡ Some c → IsUnit known c l → NeedsAlso c old new →
    Explains cs (known ++ l ∷ []) old hs → Explains cs known new (n ∷ hs)
explains-more cs known l c n old new hs there u needs before = record {
  replay = λ few inside has. derives few n hs c l there (unit-needed known few c l new inside u needs.named has)
      (before.replay (few ++ l ∷ []) (contained-both few known l inside u.undecided) (grown-needed known few l old new inside needs.kept has));
  all = λ few inside r. more-all cs known l c n old new hs few there u needs before inside r;
}

-- what is false behind a path that agrees with it
pub false-behind : (path before : Answers) (m : Literal) → Agree path before → IsFalseUnder before m → IsFalseUnder (path ++ before) m
false-behind path before m agree f =
    elim (cases_option (answer_of path m.0)) [
      | inl none ↦ answer_of-rest path before m.0 none ∙ f
      | inr (x, e) ↦ answer_of-more path before m.0 (not m.1) (e ∙ ap (λ (y : Bool). Some y) (agree m.0 x (not m.1) e f))
    ]

pub refuted-behind : (path before : Answers) (c : Clause) → Agree path before → IsRefuted before c → IsRefuted (path ++ before) c
refuted-behind path before c agree all m k = false-behind path before m agree (all m k)

pub unit-behind : (path before : Answers) (c : Clause) (l : Literal) → Agree path before → answer_of path l.0 ≡ None → IsUnit before c l → IsUnit (path ++ before) c l
unit-behind path before c l agree none u = record {
  stands = u.stands;
  undecided = answer_of-rest path before l.0 none ∙ u.undecided;
  others = λ m k. elim (u.others m k) [ inl e ↦ inl e | inr f ↦ inr (false-behind path before m agree f) ];
}
