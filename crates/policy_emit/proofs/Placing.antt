-- What holds of conditions holds of them in the order of a file.
use Rattle.std.proofs.Common.{◌≡◌, ◌≢◌, List, [], ◌∷◌, fold, All, Ordering, Less, Equal, Greater, refl, sym}
use Rattle.std.specs.Ordering.{match_ordering}
use Rattle.std.specs.Str.{encode_utf8_all}
use Rattle.std.proofs.lemmas.List.Elements.{All-cons, All-head, All-nil, All-tail}
use Rattle.std.proofs.lemmas.Str.{encodes_same}
use Rattle.policy_model.specs.declared.operator.Condition.{Condition}
use Rattle.policy_json.specs.OperatorNames.{operator_text}
use Rattle.policy_emit.specs.Written.{file_order, in_file_order, place_condition}
use Rattle.policy_emit.proofs.Groups.{cmp, same-name}

module _ (P : Condition → Type 0) where
  held-at : (o : Ordering) (c d : Condition) (ds : List Condition) → P c → All P (d ∷ ds) → All P (place_condition ds c) → All P (match_ordering o (c ∷ d ∷ ds) (c ∷ ds) (d ∷ place_condition ds c))
  held-at Less c d ds own all later = All-cons P c (d ∷ ds) own all
  held-at Equal c d ds own all later = All-cons P c ds own (All-tail P d ds all)
  held-at Greater c d ds own all later = All-cons P d (place_condition ds c) (All-head P d ds all) later

  -- of one that is placed and of those before
  pub place-all : (c : Condition) (ds : List Condition) → P c → All P ds → All P (place_condition ds c)
  place-all c [] own all = All-cons P c [] own all
  place-all c (d ∷ ds) own all = held-at (file_order c d) c d ds own all (place-all c ds own (All-tail P d ds all))

  all-from : (cs before : List Condition) → All P before → All P cs → All P (fold place_condition before cs)
  all-from [] before had all = had
  all-from (c ∷ cs) before had all = all-from cs (place_condition before c) (place-all c before (All-head P c cs all) had) (All-tail P c cs all)

  pub ordered-all : (cs : List Condition) → All P cs → All P (in_file_order cs)
  ordered-all cs all = all-from cs [] (All-nil P) all

-- ---- and back, where no two are on one key

-- a condition on another key
abbrev pub IsOther : Condition → Condition → Type 0
IsOther c d = c.written ≢ d.written

tied : (o : Ordering) (x : Ordering) → match_ordering o Less x Greater ≡ Equal → x ≡ Equal
tied Less x e = absurd (cc)
tied Equal x e = e
tied Greater x e = absurd (cc)

not-tied : (c d : Condition) → IsOther c d → file_order c d ≡ Equal → ⊥
not-tied c d other e =
    other (encodes_same c.written d.written (same-name (encode_utf8_all c.written) (encode_utf8_all d.written) (tied (cmp (operator_text c.operator) (operator_text d.operator)) (cmp (encode_utf8_all c.written) (encode_utf8_all d.written)) e)))

module _ (P : Condition → Type 0) where
  placed-at : (o : Ordering) (c d : Condition) (ds : List Condition) → file_order c d ≡ o → IsOther c d → (All P (place_condition ds c) → P c × All P ds) → All P (match_ordering o (c ∷ d ∷ ds) (c ∷ ds) (d ∷ place_condition ds c)) → P c × All P (d ∷ ds)
  placed-at Less c d ds is other later all = (All-head P c (d ∷ ds) all, All-tail P c (d ∷ ds) all)
  placed-at Equal c d ds is other later all = absurd (not-tied c d other is)
  placed-at Greater c d ds is other later all =
      let rest = later (All-tail P d (place_condition ds c) all) in
      (rest.0, All-cons P d ds (All-head P d (place_condition ds c) all) rest.1)

  placed-all : (c : Condition) (ds : List Condition) → All (IsOther c) ds → All P (place_condition ds c) → P c × All P ds
  placed-all c [] others all = (All-head P c [] all, All-nil P)
  placed-all c (d ∷ ds) others all = placed-at (file_order c d) c d ds refl (All-head (IsOther c) d ds others) (placed-all c ds (All-tail (IsOther c) d ds others)) all

-- no two of them are on one key
abbrev pub AreOthers : List Condition → Type 0
AreOthers [] = Unit {0}
AreOthers (c ∷ cs) = All (IsOther c) cs × AreOthers cs

-- each of these is on another key than each of those before
abbrev AreOthersThan : List Condition → List Condition → Type 0
AreOthersThan before [] = Unit {0}
AreOthersThan before (c ∷ cs) = All (IsOther c) before × AreOthersThan before cs

others-placed : (c : Condition) (before cs : List Condition) → All (IsOther c) cs → AreOthersThan before cs → AreOthersThan (place_condition before c) cs
others-placed c before [] others than = tt
others-placed c before (d ∷ cs) others than = (
  place-all (IsOther d) c before (λ same. All-head (IsOther c) d cs others (sym same)) than.0,
  others-placed c before cs (All-tail (IsOther c) d cs others) than.1,
)

none-before : (cs : List Condition) → AreOthersThan [] cs
none-before [] = tt
none-before (c ∷ cs) = (All-nil (IsOther c), none-before cs)

module _ (P : Condition → Type 0) where
  back-from : (cs before : List Condition) → AreOthers cs → AreOthersThan before cs → All P (fold place_condition before cs) → All P before × All P cs
  back-from [] before others than all = (all, All-nil P)
  back-from (c ∷ cs) before others than all =
      let rest = back-from cs (place_condition before c) others.1 (others-placed c before cs others.0 than.1) all in
      let own = placed-all P c before than.0 rest.0 in
      (own.1, All-cons P c cs own.0 rest.1)

  pub ordered-back : (cs : List Condition) → AreOthers cs → All P (in_file_order cs) → All P cs
  ordered-back cs others all = (back-from cs [] others (none-before cs) all).1
