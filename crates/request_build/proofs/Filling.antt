-- The context that gives each key its values: how it grows key by key, what it has at a key, and that it is valid.
use Rattle.std.proofs.Common.{◌≡◌, ◌≢◌, ◌++◌, ◌+◌, ◌<◌, ℕ, zero, suc, List, [], ◌∷◌, length, take, get_or, slice_get, Ordering, Less, Greater, Option, Some, None, All, Contains, refl, sym, ap, subst, ◌∙◌, arith}
use Rattle.std.specs.Prelude.{MatchOption, unwrap_or}
use Rattle.std.specs.BTreeMap.{is_at}
use Rattle.std.specs.List.{flat_map}
use Rattle.std.specs.Map.{keys_of}
use Rattle.std.specs.Ordering.{nat_cmp, ordering_reverse}
use Rattle.std.specs.Cmp.Lexicographic.{slice_cmp}
use Rattle.std.proofs.lemmas.Cmp.{eq_by_cmp_equiv, nat_list_cmp_total, tied_itself}
use Rattle.std.proofs.lemmas.Map.Entries.{lookup_head, lookup_tail}
use Rattle.std.proofs.lemmas.Map.Keys.{IsDistinct-from_sorted, sorted_tail}
use Rattle.std.proofs.lemmas.Map.Views.{All-after_first, lookup-from_Contains}
use Rattle.std.proofs.lemmas.Grind.{flat_map-append}
use Rattle.std.proofs.lemmas.List.{append-nil, take_more}
use Rattle.std.proofs.lemmas.List.Elements.{All-nil, All-cons, All-head, All-tail, All-contains, All-contains_itself}
use Rattle.text_table.specs.Table.{Entries, IsInOrder, item_at, with_item}
use Rattle.policy_model.specs.declared.schema.KeyRule.{KeyRule}
use Rattle.policy_model.specs.declared.value.Value.{Value}
use Rattle.policy_model.specs.Keys.{AreFolded, IsFolded}
use Rattle.policy_model.specs.Soundness.{RuleIsSound}
use Rattle.policy_model.specs.Requests.{EntryIsValid, IsThere, KeysAreValid}
use Rattle.policy_model.proofs.Laws.{slice_get-at}
use Rattle.set_operators.specs.Asks.{AreValuesOf}
use Rattle.request_build.specs.Taken.{filled_entry, with_some}

abbrev cmp : List ℕ → List ℕ → Ordering
cmp = slice_cmp nat_cmp

abbrev pub Rule : Type 0
Rule = List ℕ × KeyRule

abbrev Rules : Type 0
Rules = Entries KeyRule

abbrev Filled : Type 0
Filled = Entries (List Value)

-- ---- keys in order

-- what is put above all keys comes to the end
above-appends : {V : Type 0} (es : Entries V) (key : List ℕ) (v : V) → All (λ q. cmp q key ≡ Less) (keys_of es) → with_item es key v ≡ es ++ (key, v) ∷ []
above-appends [] key v below = refl
above-appends (e ∷ es) key v below =
    let less : cmp e.0 key ≡ Less = All-head (λ q. cmp q key ≡ Less) e.0 (keys_of es) below in
    let greater : cmp key e.0 ≡ Greater = nat_list_cmp_total.antisymm key e.0 ∙ ap ordering_reverse less in
    rw greater (ap (λ xs. e ∷ xs) (above-appends es key v (All-tail (λ q. cmp q key ≡ Less) e.0 (keys_of es) below)))

key-among : (es : Rules) (i : ℕ) (d : List ℕ × KeyRule) → i < length es → Contains (keys_of es) (get_or es i d).0
key-among [] i d within = absurd (omega (arith, within))
key-among (e ∷ es) zero d within = (zero, omega arith, refl)
key-among (e ∷ es) (suc i) d within = let there = key-among es i d (omega (arith, within)) in (suc there.0, omega (arith, there.1), there.2)

-- the first key is below the one at a place behind it
after-first : (e : List ℕ × KeyRule) (es : Rules) (i : ℕ) (d : List ℕ × KeyRule) → IsInOrder (e ∷ es) → i < length es → cmp e.0 (get_or es i d).0 ≡ Less
after-first e es i d order within =
    let all : All (λ q. cmp e.0 q ≡ Less) (keys_of es) = All-after_first cmp e.0 (keys_of es) order in
    All-contains (λ q. cmp e.0 q ≡ Less) (keys_of es) (get_or es i d).0 all (key-among es i d within)

-- the keys before a place are below the one at it
below-at : (keys : Rules) (i : ℕ) (d : List ℕ × KeyRule) → IsInOrder keys → i < length keys → All (λ q. cmp q (get_or keys i d).0 ≡ Less) (keys_of (take i keys))
below-at [] i d order within = absurd (omega (arith, within))
below-at (e ∷ es) zero d order within = All-nil (λ q. cmp q e.0 ≡ Less)
below-at (e ∷ es) (suc i) d order within =
    let at : i < length es = omega (arith, within) in
    let later = get_or es i d in
    All-cons (λ q. cmp q later.0 ≡ Less) e.0 (keys_of (take i es)) (after-first e es i d order at) (below-at es i d (sorted_tail cmp e.0 (keys_of es) order) at)

-- the key at an index is folded, where all are
pub folded-at : (keys : Rules) (i : ℕ) (key : List ℕ) (rule : KeyRule) → AreFolded keys → slice_get keys i ≡ Some (key, rule) → IsFolded key
folded-at [] zero key rule folded there = absurd (cc)
folded-at [] (suc i) key rule folded there = absurd (cc)
folded-at (e ∷ es) zero key rule folded there = let same : e.0 ≡ key = cc in subst IsFolded same (All-head IsFolded e.0 (keys_of es) folded)
folded-at (e ∷ es) (suc i) key rule folded there = folded-at es i key rule (All-tail IsFolded e.0 (keys_of es) folded) there

-- and its rule is sound
pub sound-at : (keys : Rules) (i : ℕ) (key : List ℕ) (rule : KeyRule) → All (λ (e : List ℕ × KeyRule). RuleIsSound e.1) keys → slice_get keys i ≡ Some (key, rule) → RuleIsSound rule
sound-at keys i key rule sound there =
    let at = slice_get-at keys i (key, rule) (key, rule) there in
    subst (λ (e : List ℕ × KeyRule). RuleIsSound e.1) at.1 (sound i (key, rule) at.0)

-- each entry has its own item
pub own-item : {V : Type 0} (es : Entries V) → IsInOrder es → (e : List ℕ × V) → Contains es e → item_at e.0 es ≡ Some e.1
own-item es order e among = lookup-from_Contains (eq_by_cmp_equiv nat_list_cmp_total) e.0 e.1 es (IsDistinct-from_sorted cmp (keys_of es) order) among

-- ---- one key with its values

kept-one : (Q : List ℕ → Type 0) (key : List ℕ) (vs : List Value) (rest : Filled) → Q key → All Q (keys_of rest) → All Q (keys_of (filled_entry key vs ++ rest))
kept-one Q key [] rest here there = there
kept-one Q key (v ∷ vs) rest here there = All-cons Q key (keys_of rest) here there

grows-one : (key : List ℕ) (vs : List Value) (context : Filled) → All (λ q. cmp q key ≡ Less) (keys_of context) → with_some context key vs ≡ context ++ filled_entry key vs
grows-one key [] context below = sym (append-nil context)
grows-one key (v ∷ vs) context below = above-appends context key (v ∷ vs) below

-- a key below all others has no item among them
above-none : (key : List ℕ) (es : Filled) → All (λ q. cmp key q ≡ Less) (keys_of es) → item_at key es ≡ None
above-none key [] above = refl
above-none key (e ∷ es) above =
    let less : cmp key e.0 ≡ Less = All-head (λ q. cmp key q ≡ Less) e.0 (keys_of es) above in
    lookup_tail (is_at (cmp key)) e es (rw less refl) ∙ above-none key es (All-tail (λ q. cmp key q ≡ Less) e.0 (keys_of es) above)

found-one : (key : List ℕ) (vs : List Value) (rest : Filled) → All (λ q. cmp key q ≡ Less) (keys_of rest) → unwrap_or (item_at key (filled_entry key vs ++ rest)) [] ≡ vs
found-one key [] rest above = rw (above-none key rest above) refl
found-one key (v ∷ vs) rest above = rw (lookup_head (is_at (cmp key)) (key, v ∷ vs) rest (rw (tied_itself nat_list_cmp_total key) refl)) refl

skips-one : (key other : List ℕ) (vs : List Value) (rest : Filled) → cmp other key ≡ Less → item_at key (filled_entry other vs ++ rest) ≡ item_at key rest
skips-one key other [] rest less = refl
skips-one key other (v ∷ vs) rest less =
    let greater : cmp key other ≡ Greater = nat_list_cmp_total.antisymm key other ∙ ap ordering_reverse less in
    lookup_tail (is_at (cmp key)) (other, v ∷ vs) rest (rw greater refl)

valid-one : (keys : Rules) (key : List ℕ) (rule : KeyRule) (vs : List Value) (rest : Filled) → item_at key keys ≡ Some rule → AreValuesOf rule vs → All (EntryIsValid keys) rest → All (EntryIsValid keys) (filled_entry key vs ++ rest)
valid-one keys key rule [] rest own are there = there
valid-one keys key rule (v ∷ vs) rest own are there = All-cons (EntryIsValid keys) (key, v ∷ vs) rest (rw own are.permitted) there

some-there : (o : Option (List Value)) (vs : List Value) → unwrap_or o [] ≡ vs → vs ≢ [] → MatchOption o ⊥ (λ ws. ws ≢ [])
some-there None vs is some = some (sym is)
some-there (Some ws) vs is some = λ none. some (sym is ∙ none)

pub all-among : {X : Type 0} (P : X → Type 0) (xs : List X) → ((x : X) → Contains xs x → P x) → All P xs
all-among P xs each k d within = each _ (All-contains_itself xs k d within)

-- ---- each key with the values that it is given

module _ (given : List ℕ → KeyRule → List Value) where
  abbrev context : Rules → Filled
  context keys = flat_map (λ (e : Rule). filled_entry e.0 (given e.0 e.1)) keys

  -- what holds of all keys holds of those that have values
  keys-kept : (Q : List ℕ → Type 0) (keys : Rules) → All Q (keys_of keys) → All Q (keys_of (context keys))
  keys-kept Q [] all = All-nil Q
  keys-kept Q (e ∷ es) all = kept-one Q e.0 (given e.0 e.1) (context es) (All-head Q e.0 (keys_of es) all) (keys-kept Q es (All-tail Q e.0 (keys_of es) all))

  -- with the key at a place the context is that of one key more
  pub grows : (keys : Rules) (i : ℕ) (key : List ℕ) (rule : KeyRule) (vs : List Value) (old new : Filled) → IsInOrder keys → slice_get keys i ≡ Some (key, rule) → old ≡ context (take i keys) → vs ≡ given key rule → new ≡ with_some old key vs → new ≡ context (take (i + 1) keys)
  grows keys i key rule vs old new order there so_far are made =
      let at = slice_get-at keys i (key, rule) (key, rule) there in
      let below : All (λ q. cmp q key ≡ Less) (keys_of (take i keys)) = subst (λ (e : Rule). All (λ q. cmp q e.0 ≡ Less) (keys_of (take i keys))) at.1 (below-at keys i (key, rule) order at.0) in
      let one : with_some (context (take i keys)) key (given key rule) ≡ context (take i keys) ++ filled_entry key (given key rule) =
      grows-one key (given key rule) (context (take i keys)) (keys-kept (λ q. cmp q key ≡ Less) (take i keys) below) in
      let more : take (i + 1) keys ≡ take i keys ++ (key, rule) ∷ [] = take_more keys i (key, rule) at.0 ∙ ap (λ (e : Rule). take i keys ++ e ∷ []) at.1 in
      let both : new ≡ with_some (context (take i keys)) key (given key rule) = rw (sym so_far, sym are) made in
      both ∙ one
      ∙ sym (ap context more ∙ flat_map-append (λ (e : Rule). filled_entry e.0 (given e.0 e.1)) (take i keys) ((key, rule) ∷ []) ∙ ap (λ zs. context (take i keys) ++ zs) (append-nil (filled_entry key (given key rule))))

  -- a key has the values that it is given
  pub has-given : (keys : Rules) → IsInOrder keys → (e : Rule) → Contains keys e → unwrap_or (item_at e.0 (context keys)) [] ≡ given e.0 e.1
  has-given [] order e among = absurd (omega (arith, among.1))
  has-given (x ∷ xs) order e (zero, within, at) =
      let above : All (λ q. cmp x.0 q ≡ Less) (keys_of (context xs)) = keys-kept (λ q. cmp x.0 q ≡ Less) xs (All-after_first cmp x.0 (keys_of xs) order) in
      subst (λ (y : Rule). unwrap_or (item_at y.0 (context (x ∷ xs))) [] ≡ given y.0 y.1) at (found-one x.0 (given x.0 x.1) (context xs) above)
  has-given (x ∷ xs) order e (suc k, within, at) =
      let inside : k < length xs = omega (arith, within) in
      let less : cmp x.0 e.0 ≡ Less = subst (λ (y : Rule). cmp x.0 y.0 ≡ Less) at (after-first x xs k e order inside) in
      ap (λ (o : Option (List Value)). unwrap_or o []) (skips-one e.0 x.0 (given x.0 x.1) (context xs) less) ∙ has-given xs (sorted_tail cmp x.0 (keys_of xs) order) e (k, inside, at)

  -- the values that an entry is given are permitted by its rule
  abbrev pub IsGivenWell : Rule → Type 0
  IsGivenWell e = AreValuesOf e.1 (given e.0 e.1)

  entries-valid : (keys some : Rules) → All (λ (e : Rule). item_at e.0 keys ≡ Some e.1) some → All IsGivenWell some → All (EntryIsValid keys) (context some)
  entries-valid keys [] own well = All-nil (EntryIsValid keys)
  entries-valid keys (e ∷ es) own well =
      valid-one keys e.0 e.1 (given e.0 e.1) (context es) (All-head (λ (x : Rule). item_at x.0 keys ≡ Some x.1) e es own) (All-head IsGivenWell e es well)
      (entries-valid keys es (All-tail (λ (x : Rule). item_at x.0 keys ≡ Some x.1) e es own) (All-tail IsGivenWell e es well))

  -- where the keys are in order, and each is given what its rule permits
  pub context-valid : (keys : Rules) → IsInOrder keys → All IsGivenWell keys → KeysAreValid keys (context keys)
  context-valid keys order well = record {
    each = entries-valid keys keys (all-among (λ (x : Rule). item_at x.0 keys ≡ Some x.1) keys (own-item keys order)) well;
    required = all-among (IsThere (context keys)) keys (λ e among required.
        some-there (item_at e.0 (context keys)) (given e.0 e.1) (has-given keys order e among) ((All-contains IsGivenWell keys e well among).there required));
  }
