-- The test that computes whether an id is an ARN of an account agrees with the relation.
use Rattle.std.proofs.Common.{◌≡◌, ◌≢◌, ◌↔◌, ℕ, List, [], ◌∷◌, ◌++◌, true, false, Option, Some, None, length, take, refl, subst, sym, ap, ◌∙◌, inl, inr, arith, codes, ◌==◌, option_and_then}
use Rattle.std.proofs.Math.Seq.{take-append_seam}
use Rattle.std.proofs.lemmas.Bool.{cases_Bool}
use Rattle.policy_model.specs.Principals.{IsOfAccount, SharesNoId, has_colon, after_colon, after_prefix, begins_colon, account_test}

-- a text that has the prefix is the prefix and what follows
pub behind_prefix-is : (p t r : List ℕ) → after_prefix p t ≡ Some r → t ≡ p ++ r
behind_prefix-is [] t r e = cc
behind_prefix-is (p ∷ ps) [] r e = cc
behind_prefix-is (p ∷ ps) (c ∷ t) r e = grind (arith, behind_prefix-is ps t r)

pub behind_prefix-append : (p r : List ℕ) → after_prefix p (p ++ r) ≡ Some r
behind_prefix-append [] r = refl
behind_prefix-append (p ∷ ps) r = grind (arith, behind_prefix-append ps r)

-- t is a front without colons, a colon, and r
pub record BeforeColon (t r : List ℕ) : Type 0 where
  pub front : List ℕ
  pub plain : has_colon front ≡ false
  pub is : t ≡ front ++ 58 ∷ r

before-here : (c : ℕ) (t r : List ℕ) → (c == 58) ≡ true → after_colon (c ∷ t) ≡ Some r → BeforeColon (c ∷ t) r
before-here c t r h e = record { front = []; plain = refl; is = grind (arith) }

before-more : (c : ℕ) (t r : List ℕ) → (c == 58) ≡ false → BeforeColon t r → BeforeColon (c ∷ t) r
before-more c t r h b = record { front = c ∷ b.front; plain = grind (arith, b.plain); is = ap (λ u. c ∷ u) b.is }

pub behind_colon-is : (t r : List ℕ) → after_colon t ≡ Some r → BeforeColon t r
behind_colon-is [] r e = absurd (cc)
behind_colon-is (c ∷ t) r e = elim (cases_Bool (c == 58)) [
  | inl h ↦ before-here c t r h e
  | inr h ↦ before-more c t r h (behind_colon-is t r (rw h at e))
]

pub behind_colon-append : (x r : List ℕ) → has_colon x ≡ false → after_colon (x ++ 58 ∷ r) ≡ Some r
behind_colon-append [] r h = refl
behind_colon-append (c ∷ x) r h = grind (arith, behind_colon-append x r)

-- what a prefix and a front without colons leave of an optional text
prefix-step : (p : List ℕ) (o : Option (List ℕ)) (b : List ℕ) → option_and_then (after_prefix p) o ≡ Some b → o ≡ Some (p ++ b)
prefix-step p None b e = absurd (cc)
prefix-step p (Some a) b e = ap (λ t. Some t) (behind_prefix-is p a b e)

record Behind (o : Option (List ℕ)) (b : List ℕ) : Type 0 where
  pub front : List ℕ
  pub plain : has_colon front ≡ false
  pub is : o ≡ Some (front ++ 58 ∷ b)

behind-step : (o : Option (List ℕ)) (b : List ℕ) → option_and_then after_colon o ≡ Some b → Behind o b
behind-step None b e = absurd (cc)
behind-step (Some a) b e = let x : BeforeColon a b = behind_colon-is a b e in record { front = x.front; plain = x.plain; is = ap (λ t. Some t) x.is }

begins_colon-is : (o : Option (List ℕ)) → begins_colon o ≡ true → (r : List ℕ) × (o ≡ Some (58 ∷ r))
begins_colon-is None e = absurd (cc)
begins_colon-is (Some []) e = absurd (cc)
begins_colon-is (Some (c ∷ t)) e = (t, grind (arith, e))

parts : (account id r : List ℕ) (o0 o1 o2 o3 : Option (List ℕ)) → after_prefix (codes "arn:") id ≡ o0 → option_and_then after_colon o0 ≡ o1 → option_and_then after_colon o1 ≡ o2 →
    option_and_then after_colon o2 ≡ o3 → option_and_then (after_prefix account) o3 ≡ Some (58 ∷ r) → IsOfAccount account id
parts account id r o0 o1 o2 o3 e0 e1 e2 e3 e =
    let at_account : o3 ≡ Some (account ++ 58 ∷ r) = prefix-step account o3 (58 ∷ r) e in
    let region : Behind o2 (account ++ 58 ∷ r) = behind-step o2 (account ++ 58 ∷ r) (e3 ∙ at_account) in
    let service : Behind o1 (region.front ++ 58 ∷ (account ++ 58 ∷ r)) = behind-step o1 (region.front ++ 58 ∷ (account ++ 58 ∷ r)) (e2 ∙ region.is) in
    let partition : Behind o0 (service.front ++ 58 ∷ (region.front ++ 58 ∷ (account ++ 58 ∷ r))) = behind-step o0 (service.front ++ 58 ∷ (region.front ++ 58 ∷ (account ++ 58 ∷ r))) (e1 ∙ service.is) in
    record {
      partition = partition.front;
      service = service.front;
      region = region.front;
      rest = r;
      plain_partition = partition.plain;
      plain_service = service.plain;
      plain_region = region.plain;
      is = behind_prefix-is (codes "arn:") id _ (e0 ∙ partition.is);
    }

pub account_test-is : (account id : List ℕ) → account_test account id ≡ true → IsOfAccount account id
account_test-is account id e =
    let last = begins_colon-is _ e in parts account id last.0 _ _ _ _ refl refl refl refl last.1

-- what stands behind the region of an id of the account
behind_region : (account id : List ℕ) (h : IsOfAccount account id) →
    option_and_then after_colon (option_and_then after_colon (option_and_then after_colon (after_prefix (codes "arn:") id))) ≡ Some (account ++ 58 ∷ h.rest)
behind_region account id h =
    rw (
      h.is,
      behind_colon-append h.partition (h.service ++ 58 ∷ (h.region ++ 58 ∷ (account ++ 58 ∷ h.rest))) h.plain_partition,
      behind_colon-append h.service (h.region ++ 58 ∷ (account ++ 58 ∷ h.rest)) h.plain_service,
      behind_colon-append h.region (account ++ 58 ∷ h.rest) h.plain_region,
    ) refl

pub account_test-of : (account id : List ℕ) → IsOfAccount account id → account_test account id ≡ true
account_test-of account id h = rw (behind_region account id h, behind_prefix-append account (58 ∷ h.rest)) refl

some-same : (x y : List ℕ) → Some x ≡ Some y → x ≡ y
some-same x y e = cc

-- accounts of one length that have an id in common are the same
one-account : (a b id : List ℕ) → length a ≡ length b → IsOfAccount a id → IsOfAccount b id → a ≡ b
one-account a b id same h g =
    let texts : a ++ 58 ∷ h.rest ≡ b ++ 58 ∷ g.rest = some-same _ _ (sym (behind_region a id h) ∙ behind_region b id g) in
    sym (take-append_seam a (58 ∷ h.rest)) ∙ (ap (λ (t : List ℕ). take (length a) t) texts ∙
    (ap (λ (n : ℕ). take n (b ++ 58 ∷ g.rest)) same ∙ take-append_seam b (58 ∷ g.rest)))

-- each account has an id: one whose other parts are empty
own-id : (account : List ℕ) → IsOfAccount account (codes "arn:" ++ 58 ∷ 58 ∷ 58 ∷ (account ++ 58 ∷ []))
own-id account = record {
  partition = [];
  service = [];
  region = [];
  rest = [];
  plain_partition = refl;
  plain_service = refl;
  plain_region = refl;
  is = refl;
}

-- accounts of one length have no id in common exactly where they differ
pub accounts-apart : (a b : List ℕ) → length a ≡ length b → (a ≢ b) ↔ SharesNoId a b
accounts-apart a b same = (
  λ differ id one other. differ (one-account a b id same one other),
  λ apart e. apart (codes "arn:" ++ 58 ∷ 58 ∷ 58 ∷ (a ++ 58 ∷ [])) (own-id a) (subst (λ (t : List ℕ). IsOfAccount t (codes "arn:" ++ 58 ∷ 58 ∷ 58 ∷ (a ++ 58 ∷ []))) e (own-id a)),
)
