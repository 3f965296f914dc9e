-- Two items that are put in at different keys: their order doesn't matter.
use Rattle.std.proofs.Common.{◌≡◌, ◌≢◌, ℕ, List, [], ◌∷◌, Ordering, Less, Equal, Greater, refl, ap, sym, subst, ◌∙◌}
use Rattle.std.specs.Ordering.{ordering_reverse, nat_cmp}
use Rattle.std.specs.Cmp.Lexicographic.{slice_cmp}
use Rattle.std.proofs.lemmas.Cmp.{nat_list_cmp_total}
use Rattle.text_table.specs.Table.{Entries, with_item}
use Rattle.request_schema.proofs.Entries.{equal-keys}

abbrev cmp : List ℕ → List ℕ → Ordering
cmp = slice_cmp nat_cmp

module _ {V : Type 0} (k j : List ℕ) (v w : V) (less : cmp k j ≡ Less) (greater : cmp j k ≡ Greater) where
  swap-less : (e : List ℕ × V) (es : Entries V) (b : Ordering) → cmp k e.0 ≡ Less → cmp j e.0 ≡ b → with_item (with_item (e ∷ es) j w) k v ≡ with_item (with_item (e ∷ es) k v) j w
  swap-less e es Less is up = rw (up, is, less, greater, up) refl
  swap-less e es Equal is up = rw (up, is, greater, up) refl
  swap-less e es Greater is up = rw (up, is, greater, up) refl

  swap-by : (e : List ℕ × V) (es : Entries V) (a : Ordering) → cmp k e.0 ≡ a → with_item (with_item es j w) k v ≡ with_item (with_item es k v) j w → with_item (with_item (e ∷ es) j w) k v ≡ with_item (with_item (e ∷ es) k v) j w
  swap-by e es Less is later = swap-less e es (cmp j e.0) is refl
  swap-by e es Equal is later =
      let up : cmp j e.0 ≡ Greater = subst (λ (x : List ℕ). cmp j x ≡ Greater) (equal-keys k e.0 is) greater in
      rw (up, is, up) refl
  swap-by e es Greater is later =
      let below : cmp e.0 k ≡ Less = nat_list_cmp_total.antisymm e.0 k ∙ ap ordering_reverse is in
      let up : cmp j e.0 ≡ Greater = nat_list_cmp_total.antisymm j e.0 ∙ ap ordering_reverse (nat_list_cmp_total.trans e.0 k j below less) in
      rw (up, is, up) (ap (λ (rest : Entries V). e ∷ rest) later)

  swap-rising : (es : Entries V) → with_item (with_item es j w) k v ≡ with_item (with_item es k v) j w
  swap-rising [] = rw (less, greater) refl
  swap-rising (e ∷ es) = swap-by e es (cmp k e.0) refl (swap-rising es)

swap-by-order : {V : Type 0} (k j : List ℕ) (v w : V) (es : Entries V) (a : Ordering) → cmp k j ≡ a → k ≢ j → with_item (with_item es j w) k v ≡ with_item (with_item es k v) j w
swap-by-order k j v w es Less is apart = swap-rising k j v w is (nat_list_cmp_total.antisymm j k ∙ ap ordering_reverse is) es
swap-by-order k j v w es Equal is apart = absurd (apart (equal-keys k j is))
swap-by-order k j v w es Greater is apart = sym (swap-rising j k w v (nat_list_cmp_total.antisymm j k ∙ ap ordering_reverse is) is es)

pub swap : {V : Type 0} (k j : List ℕ) (v w : V) (es : Entries V) → k ≢ j → with_item (with_item es j w) k v ≡ with_item (with_item es k v) j w
swap k j v w es apart = swap-by-order k j v w es (cmp k j) refl apart
