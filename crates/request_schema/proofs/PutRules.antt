-- Rules that are put into a table of rules: in whichever order, and as often as one likes.
use Rattle.std.proofs.Common.{◌≡◌, ℕ, List, [], ◌∷◌, ◌++◌, ◌||◌, map, All as Each, Bool, true, false, Ordering, Less, Equal, Greater, refl, ap, sym, ◌∙◌, subst}
use Rattle.std.specs.Cmp.Lexicographic.{slice_cmp}
use Rattle.std.specs.List.{list_any}
use Rattle.std.specs.Ordering.{is_eq, match_ordering, nat_cmp, ordering_reverse}
use Rattle.std.proofs.lemmas.Cmp.{alike_right, nat_list_cmp_total, tied_itself}
use Rattle.std.proofs.lemmas.List.Elements.{All-head, All-tail}
use Rattle.text_table.specs.Table.{Entries, with_item}
use Rattle.policy_model.specs.declared.schema.KeyRule.{KeyRule}
use Rattle.request_schema.specs.BuiltIn.{NamedRule, is_key, with_rules}
use Rattle.request_schema.proofs.Entries.{is_key-is}

-- ---- the order of keys

abbrev order : List ℕ → List ℕ → Ordering
order = slice_cmp nat_cmp

turned : (k l : List ℕ) (o : Ordering) → order k l ≡ o → order l k ≡ ordering_reverse o
turned k l o is = nat_list_cmp_total.antisymm l k ∙ ap ordering_reverse is

-- ---- one item

module _ {V : Type 0} where
  -- by how the key stands to the first
  at : (k : List ℕ) (v : V) (e : List ℕ × V) (es : Entries V) (o : Ordering) → order k e.0 ≡ o → with_item (e ∷ es) k v ≡ match_ordering o ((k, v) ∷ e ∷ es) ((e.0, v) ∷ es) (e ∷ with_item es k v)
  at k v e es o is = ap (λ (r : Ordering). match_ordering r ((k, v) ∷ e ∷ es) ((e.0, v) ∷ es) (e ∷ with_item es k v)) is

  abbrev put : List ℕ → V → Entries V → Entries V
  put k v es = with_item es k v

  -- put in twice
  again : (k : List ℕ) (v : V) (es : Entries V) → with_item (with_item es k v) k v ≡ with_item es k v
  again k v [] = at k v (k, v) [] Equal (tied_itself nat_list_cmp_total k)
  again k v (e ∷ es) = by (order k e.0) refl (again k v es)
    where
      by : (o : Ordering) → order k e.0 ≡ o → with_item (with_item es k v) k v ≡ with_item es k v → with_item (with_item (e ∷ es) k v) k v ≡ with_item (e ∷ es) k v
      by Less is later =
          let one = at k v e es Less is in
          ap (put k v) one ∙ at k v (k, v) (e ∷ es) Equal (tied_itself nat_list_cmp_total k) ∙ sym one
      by Equal is later =
          let one = at k v e es Equal is in
          ap (put k v) one ∙ at k v (e.0, v) es Equal is ∙ sym one
      by Greater is later =
          let one = at k v e es Greater is in
          ap (put k v) one ∙ at k v e (with_item es k v) Greater is ∙ ap (λ (t : Entries V). e ∷ t) later ∙ sym one

  -- two keys that differ, where the first is below the second
  module _ (k l : List ℕ) (v w : V) (below : order k l ≡ Less) where
    above : order l k ≡ Greater
    above = turned k l Less below

    swap-below : (es : Entries V) → with_item (with_item es k v) l w ≡ with_item (with_item es l w) k v
    swap-below [] = at l w (k, v) [] Greater above ∙ sym (at k v (l, w) [] Less below)
    swap-below (e ∷ es) = by (order k e.0) (order l e.0) refl refl (swap-below es)
      where
        by : (o p : Ordering) → order k e.0 ≡ o → order l e.0 ≡ p → with_item (with_item es k v) l w ≡ with_item (with_item es l w) k v →
            with_item (with_item (e ∷ es) k v) l w ≡ with_item (with_item (e ∷ es) l w) k v
        by Less Less first second later =
            ap (put l w) (at k v e es Less first) ∙ at l w (k, v) (e ∷ es) Greater above ∙ ap (λ (t : Entries V). (k, v) ∷ t) (at l w e es Less second)
            ∙ sym (ap (put k v) (at l w e es Less second) ∙ at k v (l, w) (e ∷ es) Less below)
        by Less Equal first second later =
            ap (put l w) (at k v e es Less first) ∙ at l w (k, v) (e ∷ es) Greater above ∙ ap (λ (t : Entries V). (k, v) ∷ t) (at l w e es Equal second)
            ∙ sym (ap (put k v) (at l w e es Equal second) ∙ at k v (e.0, w) es Less first)
        by Less Greater first second later =
            ap (put l w) (at k v e es Less first) ∙ at l w (k, v) (e ∷ es) Greater above ∙ ap (λ (t : Entries V). (k, v) ∷ t) (at l w e es Greater second)
            ∙ sym (ap (put k v) (at l w e es Greater second) ∙ at k v e (with_item es l w) Less first)
        by Equal Less first second later = absurd (let same : order l e.0 ≡ order l k = sym (alike_right nat_list_cmp_total k e.0 l first) in let no : Less ≡ Greater = sym second ∙ same ∙ above in cc)
        by Equal Equal first second later = absurd (let same : order l e.0 ≡ order l k = sym (alike_right nat_list_cmp_total k e.0 l first) in let no : Equal ≡ Greater = sym second ∙ same ∙ above in cc)
        by Equal Greater first second later =
            ap (put l w) (at k v e es Equal first) ∙ at l w (e.0, v) es Greater second
            ∙ sym (ap (put k v) (at l w e es Greater second) ∙ at k v e (with_item es l w) Equal first)
        by Greater Less first second later = absurd (let through : order k e.0 ≡ Less = nat_list_cmp_total.trans k l e.0 below second in let no : Greater ≡ Less = sym first ∙ through in cc)
        by Greater Equal first second later = absurd (let same : order k l ≡ order k e.0 = alike_right nat_list_cmp_total l e.0 k second in let no : Less ≡ Greater = sym below ∙ same ∙ first in cc)
        by Greater Greater first second later =
            ap (put l w) (at k v e es Greater first) ∙ at l w e (with_item es k v) Greater second ∙ ap (λ (t : Entries V). e ∷ t) later
            ∙ sym (ap (put k v) (at l w e es Greater second) ∙ at k v e (with_item es l w) Greater first)

-- ---- rules by their keys

module _ (R : List ℕ → KeyRule) where
  abbrev pub ruled : List ℕ → NamedRule
  ruled k = (k, R k)

  abbrev put_all : Entries KeyRule → List (List ℕ) → Entries KeyRule
  put_all rules ks = with_rules rules (map ruled ks)

  abbrev put_one : Entries KeyRule → List ℕ → Entries KeyRule
  put_one rules k = with_item rules k (R k)

  -- two of them in either order
  swap : (k l : List ℕ) (rules : Entries KeyRule) → put_one (put_one rules k) l ≡ put_one (put_one rules l) k
  swap k l rules = by (order k l) refl
    where
      by : (o : Ordering) → order k l ≡ o → put_one (put_one rules k) l ≡ put_one (put_one rules l) k
      by Less is = swap-below k l (R k) (R l) is rules
      by Equal is =
          let same : k ≡ l = is_key-is k l (ap is_eq is) in
          subst (λ (m : List ℕ). put_one (put_one rules k) m ≡ put_one (put_one rules m) k) same refl
      by Greater is = sym (swap-below l k (R l) (R k) (turned k l Greater is) rules)

  -- one of them before the others or behind them
  behind : (k : List ℕ) (ks : List (List ℕ)) (rules : Entries KeyRule) → put_all (put_one rules k) ks ≡ put_one (put_all rules ks) k
  behind k [] rules = refl
  behind k (l ∷ ks) rules = ap (λ (t : Entries KeyRule). put_all t ks) (swap k l rules) ∙ behind k ks (put_one rules l)

  -- one that is put in anyway
  had : (k : List ℕ) (ks : List (List ℕ)) (rules : Entries KeyRule) → list_any (is_key k) ks ≡ true → put_all (put_one rules k) ks ≡ put_all rules ks
  had k [] rules is = absurd (cc)
  had k (l ∷ ks) rules is = by (is_key k l) refl is (had k ks (put_one rules l))
    where
      by : (b : Bool) → is_key k l ≡ b → (b || list_any (is_key k) ks) ≡ true → (list_any (is_key k) ks ≡ true → put_all (put_one (put_one rules l) k) ks ≡ put_all (put_one rules l) ks) →
          put_all (put_one rules k) (l ∷ ks) ≡ put_all rules (l ∷ ks)
      by true same is later =
          let one : k ≡ l = is_key-is k l same in
          subst (λ (m : List ℕ). put_all (put_one rules k) (m ∷ ks) ≡ put_all rules (m ∷ ks)) one (ap (λ (t : Entries KeyRule). put_all t ks) (again k (R k) rules))
      by false other is later = ap (λ (t : Entries KeyRule). put_all t ks) (swap k l rules) ∙ later is

  more : (ks ls : List (List ℕ)) (rules : Entries KeyRule) → put_all rules (ks ++ ls) ≡ put_all (put_all rules ks) ls
  more [] ls rules = refl
  more (k ∷ ks) ls rules = more ks ls (put_one rules k)

  -- one of them behind some of the others
  pulled : (k : List ℕ) (ks ls : List (List ℕ)) (rules : Entries KeyRule) → put_all rules (ks ++ (k ∷ ls)) ≡ put_all (put_one rules k) (ks ++ ls)
  pulled k ks ls rules = more ks (k ∷ ls) rules ∙ ap (λ (t : Entries KeyRule). put_all t ls) (sym (behind k ks rules)) ∙ sym (more ks ls (put_one rules k))

  -- keys that are among the others add nothing
  abbrev pub AreAmong : List (List ℕ) → List (List ℕ) → Type 0
  AreAmong ks ls = Each (λ k. list_any (is_key k) ls ≡ true) ks

  pub among-others : (ks ls ms : List (List ℕ)) (rules : Entries KeyRule) → AreAmong ks (ls ++ ms) → put_all rules (ls ++ (ks ++ ms)) ≡ put_all rules (ls ++ ms)
  among-others [] ls ms rules among = refl
  among-others (k ∷ ks) ls ms rules among =
      let each : List ℕ → Type 0 = λ (l : List ℕ). list_any (is_key l) (ls ++ ms) ≡ true in
      pulled k ls (ks ++ ms) rules ∙ among-others ks ls ms (put_one rules k) (All-tail each k ks among) ∙ had k (ls ++ ms) rules (All-head each k ks among)
