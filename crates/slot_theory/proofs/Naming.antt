-- An entry names a principal by its fixed answer for the principal's kind, and else by its pattern.
use Rattle.std.proofs.Common.{◌≡◌, ◌↔◌, ℕ, List, [], ◌∷◌, ◌++◌, Bool, true, false, Option, Some, None, MatchBool, if◌then◌else◌, codes, refl, sym, ap, ◌∙◌, subst, arith}
use Rattle.std.specs.List.{list_all}
use Rattle.std.proofs.lemmas.Bool.{both_ways, cases_from_iff, cond_both, eqb-true}
use Rattle.wildcard_lang.specs.declared.piece.Piece.{Piece}
use Rattle.wildcard_lang.specs.declared.piece.Piece.TheVariants.{Lit, Many, ManyNoColon}
use Rattle.wildcard_lang.specs.Matching.{Matches, takes, takes_one}
use Rattle.wildcard_lang.specs.Reading.{literals}
use Rattle.wildcard_lang.proofs.Laws.{OneTaken, RunTaken, Apart, one_left, many_left, many_right, append_left, append_right}
use Rattle.wildcard_lang.proofs.Laws.{exact-matched, exact-matches}
use Rattle.policy_model.specs.declared.principal.PrincipalKind.{PrincipalKind}
use Rattle.policy_model.specs.declared.principal.PrincipalKind.TheVariants.{Aws, Service, Federated, CanonicalUser}
use Rattle.policy_model.specs.declared.principal.Entry.{Entry}
use Rattle.policy_model.specs.declared.principal.Entry.TheVariants.{All, Kind, Account, Exact}
use Rattle.policy_model.specs.declared.test.Test.TheVariants.{Principal}
use Rattle.policy_model.specs.Principals.{EntryNames, IsOfAccount, has_colon}
use Rattle.slot_theory.specs.Entries.{is_kind, fixed_answer, any_part, account_pattern}
use Rattle.slot_theory.proofs.Wanting.{many-all, own_pattern}

-- ---- kinds

pub same-kind : (j k : PrincipalKind) → is_kind j k ≡ true → j ≡ k
same-kind Aws Aws e = refl
same-kind Service Service e = refl
same-kind Federated Federated e = refl
same-kind CanonicalUser CanonicalUser e = refl
same-kind j k e = absurd (cc)

pub kind-own : (k : PrincipalKind) → is_kind k k ≡ true
kind-own Aws = refl
kind-own Service = refl
kind-own Federated = refl
kind-own CanonicalUser = refl

pub kind-same : (j k : PrincipalKind) → j ≡ k → is_kind j k ≡ true
kind-same j k e = rw e (kind-own k)

-- ---- the ids of an account

plain-run : (t : List ℕ) → list_all (takes ManyNoColon) t ≡ true → has_colon t ≡ false
plain-run [] h = refl
plain-run (c ∷ t) h = grind (arith, plain-run t)

run-plain : (t : List ℕ) → has_colon t ≡ false → list_all (takes ManyNoColon) t ≡ true
run-plain [] h = refl
run-plain (c ∷ t) h = grind (arith, run-plain t)

-- a front without colons, a colon, and a rest that matches
record PartTaken (ps : List Piece) (t : List ℕ) : Type 0 where
  pub part : List ℕ
  pub rest : List ℕ
  pub plain : has_colon part ≡ false
  pub is : t ≡ part ++ 58 ∷ rest
  pub matches : Matches ps rest

colon-taken : (c : ℕ) → takes (Lit 58) c ≡ true → c ≡ 58
colon-taken c h = eqb-true c 58 h

part-left : (ps : List Piece) (t : List ℕ) → Matches (any_part ++ ps) t → PartTaken ps t
part-left ps t m =
    let r : RunTaken ManyNoColon (Lit 58 ∷ ps) t = many_left ManyNoColon (Lit 58 ∷ ps) t refl m in
    let o : OneTaken (Lit 58) ps r.rest = one_left (Lit 58) ps r.rest refl r.matches in
    let colon : r.rest ≡ 58 ∷ o.rest = o.is ∙ ap (λ (c : ℕ). c ∷ o.rest) (colon-taken o.first o.taken) in
    record { part = r.run; rest = o.rest; plain = plain-run r.run r.taken; is = r.is ∙ ap (λ (u : List ℕ). r.run ++ u) colon; matches = o.matches }

part-right : (ps : List Piece) (part rest : List ℕ) → has_colon part ≡ false → Matches ps rest → Matches (any_part ++ ps) (part ++ 58 ∷ rest)
part-right ps part rest h m = many_right ManyNoColon (Lit 58 ∷ ps) part (58 ∷ rest) refl (run-plain part h) (takes_one refl refl m)

-- a text in front, and a rest that matches
record TextTaken (cs : List ℕ) (ps : List Piece) (t : List ℕ) : Type 0 where
  pub rest : List ℕ
  pub is : t ≡ cs ++ rest
  pub matches : Matches ps rest

text-left : (cs : List ℕ) (ps : List Piece) (t : List ℕ) → Matches (literals false cs ++ ps) t → TextTaken cs ps t
text-left cs ps t m =
    let a : Apart (literals false cs) ps t = append_left (literals false cs) ps t m in
    record { rest = a.right; is = a.is ∙ ap (λ (u : List ℕ). u ++ a.right) (exact-matched cs a.left a.first); matches = a.second }

text-right : (cs : List ℕ) (ps : List Piece) (rest : List ℕ) → Matches ps rest → Matches (literals false cs ++ ps) (cs ++ rest)
text-right cs ps rest m = append_right (literals false cs) ps cs rest (exact-matches cs) m

-- the pieces of an account's pattern from the account on
abbrev account_end : List ℕ → List Piece
account_end account = literals false account ++ Lit 58 ∷ Many ∷ []

pub account-matched : (account id : List ℕ) → Matches (account_pattern account) id → IsOfAccount account id
account-matched account id m =
    let arn : TextTaken (codes "arn:") _ id = text-left (codes "arn:") (any_part ++ (any_part ++ (any_part ++ account_end account))) id m in
    let partition : PartTaken (any_part ++ (any_part ++ account_end account)) arn.rest = part-left _ _ arn.matches in
    let service : PartTaken (any_part ++ account_end account) partition.rest = part-left _ _ partition.matches in
    let region : PartTaken (account_end account) service.rest = part-left _ _ service.matches in
    let own : TextTaken account (Lit 58 ∷ Many ∷ []) region.rest = text-left account _ _ region.matches in
    let colon : OneTaken (Lit 58) (Many ∷ []) own.rest = one_left (Lit 58) (Many ∷ []) own.rest refl own.matches in
    let last : own.rest ≡ 58 ∷ colon.rest = colon.is ∙ ap (λ (c : ℕ). c ∷ colon.rest) (colon-taken colon.first colon.taken) in
    record {
      partition = partition.part;
      service = service.part;
      region = region.part;
      rest = colon.rest;
      plain_partition = partition.plain;
      plain_service = service.plain;
      plain_region = region.plain;
      is = arn.is ∙ ap (λ (u : List ℕ). codes "arn:" ++ u) (partition.is ∙ ap (λ (u : List ℕ). partition.part ++ 58 ∷ u) (service.is ∙ ap (λ (u : List ℕ). service.part ++ 58 ∷ u) (region.is ∙ ap (λ (u : List ℕ). region.part ++ 58 ∷ u) (own.is ∙ ap (λ (u : List ℕ). account ++ u) last))));
    }

pub account-matches : (account id : List ℕ) → IsOfAccount account id → Matches (account_pattern account) id
account-matches account id a =
    rw a.is (
    text-right (codes "arn:") (any_part ++ (any_part ++ (any_part ++ account_end account))) _
    (part-right (any_part ++ (any_part ++ account_end account)) a.partition _ a.plain_partition
    (part-right (any_part ++ account_end account) a.service _ a.plain_service
    (part-right (account_end account) a.region _ a.plain_region
    (text-right account (Lit 58 ∷ Many ∷ []) (58 ∷ a.rest) (takes_one refl refl (many-all a.rest))))))
    )

-- ---- entries

some-same : (a b : Bool) → Some a ≡ Some b → a ≡ b
some-same a b e = cc

kind-decides : (j k : PrincipalKind) → MatchBool (is_kind j k) (j ≡ k) (j ≡ k → ⊥)
kind-decides j k = cases_from_iff {b = is_kind j k} {P = j ≡ k} (same-kind j k, kind-same j k)

abbrev Answers : Bool → PrincipalKind → List ℕ → Entry → Type 0
Answers b k id entry = MatchBool b (EntryNames k id entry) (EntryNames k id entry → ⊥)

-- an answer that is no for every kind but one
other-kind : (j k : PrincipalKind) (b : Bool) (A : Type 0) → (A → j ≡ k) → (if is_kind j k then None else Some false) ≡ Some b → MatchBool b A (A → ⊥)
other-kind j k b A own =
    cond_both (is_kind j k) None (Some false) (λ (o : Option Bool). o ≡ Some b → MatchBool b A (A → ⊥)) (λ h e. absurd (cc))
    (λ h e. subst (λ (x : Bool). MatchBool x A (A → ⊥)) (some-same false b e) (λ a. both_ways (is_kind j k) h (kind-same j k (own a))))

-- an entry answers as its fixed answer
pub fixed-names : (k : PrincipalKind) (id : List ℕ) (entry : Entry) (b : Bool) → fixed_answer k entry ≡ Some b → MatchBool b (EntryNames k id entry) (EntryNames k id entry → ⊥)
fixed-names k id All b e = subst (λ (x : Bool). Answers x k id All) (some-same true b e) tt
fixed-names k id (Kind kind) b e = subst (λ (x : Bool). Answers x k id (Kind kind)) (some-same (is_kind k kind) b e) (kind-decides k kind)
fixed-names k id (Account account) b e = other-kind k Aws b (EntryNames k id (Account account)) (λ n. n.0) e
fixed-names k id (Exact kind own) b e = other-kind k kind b (EntryNames k id (Exact kind own)) (λ n. n.0) e

open-kind : (j k : PrincipalKind) → (if is_kind j k then None else Some false) ≡ None → j ≡ k
open-kind j k = cond_both (is_kind j k) None (Some false) (λ (o : Option Bool). o ≡ None → j ≡ k) (λ h e. same-kind j k h) (λ h e. absurd (cc))

-- and where there is none, as its pattern matches
pub open-names : (k : PrincipalKind) (id : List ℕ) (entry : Entry) → fixed_answer k entry ≡ None → EntryNames k id entry ↔ Matches (own_pattern (Principal entry)) id
open-names k id All e = absurd (cc)
open-names k id (Kind kind) e = absurd (cc)
open-names k id (Account account) e = (λ n. account-matches account id n.1, λ m. (open-kind k Aws e, account-matched account id m))
open-names k id (Exact kind own) e = (λ n. subst (λ (t : List ℕ). Matches (literals false own) t) (sym n.1) (exact-matches own), λ m. (open-kind k kind e, exact-matched own id m))
