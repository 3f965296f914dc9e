-- Rules that are put among others one after another.
use Rattle.std.proofs.Common.{◌≡◌, ℕ, List, [], ◌∷◌, ◌++◌, Bool, All, refl, ap, sym, subst, ◌∙◌, Ordering, Less, Equal, Greater}
use Rattle.std.specs.Ordering.{match_ordering, nat_cmp}
use Rattle.std.specs.Cmp.Lexicographic.{slice_cmp}
use Rattle.std.proofs.lemmas.List.Elements.{All-nil, All-cons, All-head, All-tail}
use Rattle.text_table.specs.Table.{Entries, with_item}
use Rattle.policy_model.specs.declared.value.Kind.{Kind}
use Rattle.policy_model.specs.declared.schema.KeyRule.{KeyRule}
use Rattle.policy_model.specs.Soundness.{RuleIsSound}
use Rattle.request_schema.specs.BuiltIn.{NamedRule, RulesAreSound, folded_name, keys_of_kind, plain_rule, with_rules}

-- rules behind others
pub with_rules-append : (rules : Entries KeyRule) (a b : List NamedRule) → with_rules (with_rules rules a) b ≡ with_rules rules (a ++ b)
with_rules-append rules [] b = refl
with_rules-append rules (named ∷ more) b = with_rules-append (with_item rules named.0 named.1) more b

All-at : {V : Type 0} (P : V → Type 0) (e : List ℕ × V) (es : Entries V) (key : List ℕ) (item : V) (later : Entries V) (r : Ordering) → All (λ (x : List ℕ × V). P x.1) (e ∷ es) → P item → All (λ (x : List ℕ × V). P x.1) later →
    All (λ (x : List ℕ × V). P x.1) (match_ordering r ((key, item) ∷ e ∷ es) ((e.0, item) ∷ es) (e ∷ later))
All-at P e es key item later Less all here behind = All-cons (λ x. P x.1) (key, item) (e ∷ es) here all
All-at P e es key item later Equal all here behind = All-cons (λ x. P x.1) (e.0, item) es here (All-tail (λ x. P x.1) e es all)
All-at P e es key item later Greater all here behind = All-cons (λ x. P x.1) e later (All-head (λ x. P x.1) e es all) behind

-- what holds of each entry and of one that is put in holds of all
pub All-with_item : {V : Type 0} (P : V → Type 0) (entries : Entries V) (key : List ℕ) (item : V) → All (λ (e : List ℕ × V). P e.1) entries → P item → All (λ (e : List ℕ × V). P e.1) (with_item entries key item)
All-with_item P [] key item all here = All-cons (λ e. P e.1) (key, item) [] here all
All-with_item {V} P (e ∷ es) key item all here = All-at P e es key item (with_item es key item) (slice_cmp nat_cmp key e.0) all here (All-with_item P es key item (All-tail (λ x. P x.1) e es all) here)

pub All-with_rules : (P : KeyRule → Type 0) (rules : Entries KeyRule) (more : List NamedRule) → All (λ (e : List ℕ × KeyRule). P e.1) rules → All (λ (e : List ℕ × KeyRule). P e.1) more → All (λ (e : List ℕ × KeyRule). P e.1) (with_rules rules more)
All-with_rules P rules [] all added = all
All-with_rules P rules (named ∷ more) all added =
    All-with_rules P (with_item rules named.0 named.1) more (All-with_item P rules named.0 named.1 all (All-head (λ e. P e.1) named more added)) (All-tail (λ e. P e.1) named more added)

-- a rule that asks nothing but a kind and a number of values is sound
pub plain-sound : (k : Kind) (many : Bool) → RuleIsSound (plain_rule k many)
plain-sound k many = record { listed = tt; shape = tt }

pub keys-sound : (k : Kind) (many : Bool) (names : List (List ℕ)) → RulesAreSound (keys_of_kind k many names)
keys-sound k many [] = All-nil (λ (e : NamedRule). RuleIsSound e.1)
keys-sound k many (name ∷ names) = All-cons (λ (e : NamedRule). RuleIsSound e.1) (folded_name name, plain_rule k many) (keys_of_kind k many names) (plain-sound k many) (keys-sound k many names)

-- rules of keys of a kind are put among sound ones
pub with_keys-sound : (k : Kind) (many : Bool) (names : List (List ℕ)) (rules : Entries KeyRule) → RulesAreSound rules → RulesAreSound (with_rules rules (keys_of_kind k many names))
with_keys-sound k many names rules sound = All-with_rules RuleIsSound rules (keys_of_kind k many names) sound (keys-sound k many names)

-- five lists of rules one after another
pub five-lists : (start a b c d e : Entries KeyRule) (v w x y z : List NamedRule) → start ≡ [] → a ≡ with_rules start v → b ≡ with_rules a w → c ≡ with_rules b x → d ≡ with_rules c y → e ≡ with_rules d z → e ≡ with_rules [] (v ++ (w ++ (x ++ (y ++ z))))
five-lists start a b c d e v w x y z none to_a to_b to_c to_d to_e =
    to_e ∙ ap (λ r. with_rules r z) to_d ∙ with_rules-append c y z ∙ ap (λ r. with_rules r (y ++ z)) to_c ∙ with_rules-append b x (y ++ z) ∙ ap (λ r. with_rules r (x ++ (y ++ z))) to_b
    ∙ with_rules-append a w (x ++ (y ++ z)) ∙ ap (λ r. with_rules r (w ++ (x ++ (y ++ z)))) to_a ∙ with_rules-append start v (w ++ (x ++ (y ++ z))) ∙ ap (λ r. with_rules r (v ++ (w ++ (x ++ (y ++ z))))) none

-- where no name is left, the rules that were sound still are
pub added-sound : (k : Kind) (many : Bool) (names left : List (List ℕ)) (rules new : Entries KeyRule) → left ≡ [] → with_rules new (keys_of_kind k many left) ≡ with_rules rules (keys_of_kind k many names) → RulesAreSound rules → RulesAreSound new
added-sound k many names left rules new none same sound =
    let is : new ≡ with_rules rules (keys_of_kind k many names) = ap (λ (ns : List (List ℕ)). with_rules new (keys_of_kind k many ns)) (sym none) ∙ same in
    subst RulesAreSound (sym is) (with_keys-sound k many names rules sound)
