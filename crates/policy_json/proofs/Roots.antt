-- The account whose root an id is.
use Rattle.std.proofs.Common.{◌≡◌, ℕ, ◌==◌, List, [], ◌∷◌, ◌++◌, length, take, drop, Bool, true, false, ◌&&◌, Option, Some, None, refl, codes, ◌≢◌, option_and_then, bytes_eq, subst, All, if◌then◌else◌, ap, ◌∙◌, sym, arith}
use Rattle.std.proofs.lemmas.List.{take_at, drop_at, take-append-drop}
use Rattle.std.proofs.lemmas.List.Elements.{All-head, All-tail, All-weaker}
use Rattle.std.proofs.lemmas.List.Sums.{AllPass-from_list_all, list_all-from_AllPass}
use Rattle.std.proofs.lemmas.Bool.Decides.{Decides-eqb}
use Rattle.std.proofs.lemmas.Slice.Eq.{bytes_eq-Decides}
use lib.Utf8.{low_scalar}
use Rattle.std.specs.Char.{IsAsciiDigit, is_ascii_digit}
use Rattle.std.specs.List.{list_all}
use Rattle.wildcard_lang.specs.Text.{IsText}
use Rattle.policy_model.specs.declared.principal.TheConstants.{ACCOUNT_DIGITS}
use Rattle.policy_model.proofs.Laws.{behind_colon-is, behind_colon-append, behind_prefix-is}
use Rattle.policy_model.specs.Principals.{after_colon, after_prefix, has_colon}
use Rattle.policy_model.specs.Soundness.{IsAccount}
use Rattle.policy_json.specs.Principals.{IsRootOf, account_before_root, account_of, nonempty_part, is_account, root_account}

digit-is : (c : ℕ) → is_ascii_digit c ≡ true → IsAsciiDigit c
digit-is c e = grind arith

digit-of : (c : ℕ) → IsAsciiDigit c → is_ascii_digit c ≡ true
digit-of c h = grind arith

both : (a b : Bool) → (a && b) ≡ true → (a ≡ true) × (b ≡ true)
both true b e = (refl, e)
both false b e = cc

-- the test for twelve digits
pub is_account-is : (text : List ℕ) → is_account text ≡ true → IsAccount text
is_account-is text e =
    let parts = both (list_all is_ascii_digit text) (length text == ACCOUNT_DIGITS) e in
    record {
      digits = All-weaker (λ (c : ℕ). is_ascii_digit c ≡ true) IsAsciiDigit digit-is text (AllPass-from_list_all is_ascii_digit text parts.0);
      count = (Decides-eqb (length text) ACCOUNT_DIGITS).0 parts.1;
    }

pub is_account-of : (text : List ℕ) → IsAccount text → is_account text ≡ true
is_account-of text h =
    let digits = list_all-from_AllPass is_ascii_digit text (All-weaker IsAsciiDigit (λ (c : ℕ). is_ascii_digit c ≡ true) digit-of text h.digits) in
    rw (digits, h.count) refl

same_tests : (b t : Bool) → (b ≡ true → t ≡ true) → (t ≡ true → b ≡ true) → b ≡ t
same_tests true t h k = sym (h refl)
same_tests false true h k = k refl
same_tests false false h k = refl

-- a test that says whether the text is an account is the computed one
pub is_account-test : (b : Bool) (text : List ℕ) → (b ≡ true → IsAccount text) → (IsAccount text → b ≡ true) → b ≡ is_account text
is_account-test b text h k = same_tests b (is_account text) (λ e. is_account-of text (h e)) (λ e. k (is_account-is text e))

-- what stands before a step that found something
record Step (f : List ℕ → Option (List ℕ)) (o : Option (List ℕ)) (b : List ℕ) : Type 0 where
  pub from : List ℕ
  pub before : o ≡ Some from
  pub found : f from ≡ Some b

step : (f : List ℕ → Option (List ℕ)) (o : Option (List ℕ)) (b : List ℕ) → option_and_then f o ≡ Some b → Step f o b
step f None b e = absurd cc
step f (Some a) b e = record { from = a; before = refl; found = e }

record BeforeRoot (text account : List ℕ) : Type 0 where
  pub account_is : IsAccount account
  pub is : text ≡ account ++ codes ":root"

if_found : {X : Type 0} (b : Bool) (x y : X) → (if b then Some x else None) ≡ Some y → (b ≡ true) × (x ≡ y)
if_found true x y e = (refl, cc)
if_found false x y e = absurd cc

before_root : (text account : List ℕ) → account_before_root text ≡ Some account → BeforeRoot text account
before_root text account e =
    let found = if_found (is_account (take ACCOUNT_DIGITS text) && bytes_eq (drop ACCOUNT_DIGITS text) (codes ":root")) (take ACCOUNT_DIGITS text) account e in
    let parts = both (is_account (take ACCOUNT_DIGITS text)) (bytes_eq (drop ACCOUNT_DIGITS text) (codes ":root")) found.0 in
    let rest = (bytes_eq-Decides (drop ACCOUNT_DIGITS text) (codes ":root")).0 parts.1 in
    record {
      account_is = subst IsAccount found.1 (is_account-is (take ACCOUNT_DIGITS text) parts.0);
      is = sym (take-append-drop ACCOUNT_DIGITS text) ∙ ap (λ (t : List ℕ). t ++ drop ACCOUNT_DIGITS text) found.1 ∙ ap (λ (t : List ℕ). account ++ t) rest;
    }

before_root-of : (account : List ℕ) → IsAccount account → account_before_root (account ++ codes ":root") ≡ Some account
before_root-of account h = rw (take_at account (codes ":root") ACCOUNT_DIGITS h.count, drop_at account (codes ":root") ACCOUNT_DIGITS h.count, is_account-of account h) refl

unless_found : {X : Type 0} (b : Bool) (x y : X) → (if b then None else Some x) ≡ Some y → x ≡ y
unless_found true x y e = absurd cc
unless_found false x y e = cc

nonempty_part-is : (text plain : List ℕ) → nonempty_part text ≡ Some plain → text ≡ plain
nonempty_part-is [] plain e = cc
nonempty_part-is (c ∷ cs) plain e = unless_found (c == 58) (c ∷ cs) plain e

nonempty_part-some : (front rest plain : List ℕ) → nonempty_part (front ++ 58 ∷ rest) ≡ Some plain → front ≢ []
nonempty_part-some [] rest plain e = cc
nonempty_part-some (c ∷ cs) rest plain e = λ h. cc

nonempty_part-of : (front rest : List ℕ) → front ≢ [] → has_colon front ≡ false → nonempty_part (front ++ 58 ∷ rest) ≡ Some (front ++ 58 ∷ rest)
nonempty_part-of [] rest some plain = absurd (some refl)
nonempty_part-of (c ∷ cs) rest some plain = grind (arith)

pub root_account-is : (account id : List ℕ) → root_account id ≡ Some account → IsRootOf account id
root_account-is account id e =
    let root : Step account_before_root _ account = step account_before_root _ account e in
    let service : Step (after_prefix (codes "iam::")) _ root.from = step (after_prefix (codes "iam::")) _ root.from root.before in
    let colon : Step after_colon _ service.from = step after_colon _ service.from service.before in
    let plain : Step nonempty_part _ colon.from = step nonempty_part _ colon.from colon.before in
    let last = before_root root.from account root.found in
    let cut = behind_colon-is colon.from service.from colon.found in
    let same = nonempty_part-is plain.from colon.from plain.found in
    let behind_service : service.from ≡ codes "iam::" ++ (account ++ codes ":root") = behind_prefix-is (codes "iam::") service.from root.from service.found ∙ ap (λ (t : List ℕ). codes "iam::" ++ t) last.is in
    let behind_arn : plain.from ≡ cut.front ++ 58 ∷ (codes "iam::" ++ (account ++ codes ":root")) = same ∙ cut.is ∙ ap (λ (t : List ℕ). cut.front ++ 58 ∷ t) behind_service in
    record {
      account_is = last.account_is;
      partition = cut.front;
      nonempty = nonempty_part-some cut.front service.from colon.from (ap nonempty_part (sym (same ∙ cut.is)) ∙ plain.found);
      plain = cut.plain;
      is = behind_prefix-is (codes "arn:") id plain.from plain.before ∙ ap (λ (t : List ℕ). codes "arn:" ++ t) behind_arn;
    }

pub root_account-of : (account id : List ℕ) → IsRootOf account id → root_account id ≡ Some account
root_account-of account id h =
    let behind_arn = h.partition ++ 58 ∷ (codes "iam::" ++ (account ++ codes ":root")) in
    rw (
      h.is,
      nonempty_part-of h.partition (codes "iam::" ++ (account ++ codes ":root")) h.nonempty h.plain,
      behind_colon-append h.partition (codes "iam::" ++ (account ++ codes ":root")) h.plain,
      before_root-of account h.account_is,
    ) refl

account_or : (b : Bool) (id account : List ℕ) → is_account id ≡ b → (if b then Some id else root_account id) ≡ Some account → IsAccount account
account_or true id account is e = let same : id ≡ account = cc in subst IsAccount same (is_account-is id is)
account_or false id account is e = (root_account-is account id e).account_is

-- what an id stands for is an account
pub account_of-is : (id account : List ℕ) → account_of id ≡ Some account → IsAccount account
account_of-is id account e = account_or (is_account id) id account refl e

digits-text : (text : List ℕ) → All IsAsciiDigit text → IsText text
digits-text [] h = refl
digits-text (c ∷ cs) h =
    let here : IsAsciiDigit c = All-head IsAsciiDigit c cs h in
    rw (low_scalar c (omega (arith, here.1)), digits-text cs (All-tail IsAsciiDigit c cs h)) refl

-- an account is a text
pub account-text : (account : List ℕ) → IsAccount account → IsText account
account-text account h = digits-text account h.digits
