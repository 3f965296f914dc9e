-- An element of principals as it is written is read as its entry, without a fault.
use Rattle.std.proofs.Common.{◌≡◌, ◌≢◌, ◌≤◌, ◌==◌, ◌||◌, ℕ, List, [], ◌∷◌, Bool, true, false, not, nat_le, Option, Some, None, length, codes, chars, All as Each, refl, ap, ◌∙◌, arith}
use Rattle.std.specs.Char.{IsAsciiDigit}
use Rattle.std.specs.Str.{encode_utf8_all}
use Rattle.std.proofs.lemmas.Bool.{le-leb}
use Rattle.std.proofs.lemmas.Bool.Decides.{nat_tests}
use Rattle.std.proofs.lemmas.List.Elements.{All-head, All-tail}
use Rattle.std.proofs.lemmas.Slice.Eq.{bytes_eq-Decides}
use Rattle.json.proofs.Printed.Utf8.{IsUtf8-are_ascii}
use Rattle.json_shapes.specs.Checks.{first_fault}
use Rattle.json_shapes.specs.Shapes.{is_among}
use Rattle.json_shapes.specs.Spelled.{IsSpelled}
use Rattle.std.specs.Str.{IsUtf8}
use Rattle.wildcard_lang.specs.Text.{IsText}
use Rattle.wildcard_lang.specs.declared.pattern.TheConstants.{MOST_PIECES}
use Rattle.policy_model.specs.declared.principal.TheConstants.{ACCOUNT_DIGITS}
use Rattle.policy_model.specs.declared.principal.Entry.{Entry}
use Rattle.policy_model.specs.declared.principal.Entry.TheVariants.{All, Kind, Account, Exact}
use Rattle.policy_model.specs.declared.principal.PrincipalKind.{PrincipalKind}
use Rattle.policy_model.specs.declared.principal.PrincipalKind.TheVariants.{Aws, Service, Federated, CanonicalUser}
use Rattle.policy_model.specs.Principals.{kind_word}
use Rattle.policy_model.specs.Soundness.{IsAccount}
use Rattle.policy_json.specs.Laws.{StandsForAccount, by_digits}
use Rattle.policy_json.specs.Principals.{account_of, account_or_exact, entries_of, entry_of, has_wildcard, is_star_id, kind_names, kind_of, principal_checks}
use Rattle.policy_json.specs.ReadForms.{IsReadEntry, IsReadId}
use Rattle.policy_json.specs.Texts.{matcher_of}
use Rattle.policy_json.proofs.Laws.{read-stands, stands-read}
use Rattle.policy_emit.specs.Kept.{EntryIsKept}
use Rattle.policy_emit.specs.Written.{entry_data, entry_element, id_data, one_item}
use Rattle.policy_emit.proofs.Blocks.{IsShallowIf, IsSpelledIf}
use Rattle.policy_emit.proofs.Choosing.{else-taken}
use Rattle.policy_emit.proofs.Operands.{chars-encoded, encoded-utf8, if-passes}

-- ---- ids

kind-known : (k : PrincipalKind) → is_among kind_names (kind_word k) ≡ true
kind-known Aws = refl
kind-known Service = refl
kind-known Federated = refl
kind-known CanonicalUser = refl

kind-again : (k : PrincipalKind) → kind_of (kind_word k) ≡ k
kind-again Aws = refl
kind-again Service = refl
kind-again Federated = refl
kind-again CanonicalUser = refl

pub kind-utf8 : (k : PrincipalKind) → IsUtf8 (kind_word k)
kind-utf8 Aws = IsUtf8-are_ascii (codes "AWS") refl
kind-utf8 Service = IsUtf8-are_ascii (codes "Service") refl
kind-utf8 Federated = IsUtf8-are_ascii (codes "Federated") refl
kind-utf8 CanonicalUser = IsUtf8-are_ascii (codes "CanonicalUser") refl

-- an id as files give it: `*` or without wildcards, and neither empty nor too long
record IsGivenId (id : List ℕ) : Type 0 where
  text : IsText id
  nonempty : not (nat_le (length id) 0) ≡ true
  plain : (is_star_id id || not (has_wildcard id)) ≡ true
  short : length id ≤ MOST_PIECES

module _ (k : PrincipalKind) (id : List ℕ) (given : IsGivenId id) where
  read : chars (encode_utf8_all id) ≡ id
  read = chars-encoded id given.text

  id-passes : (location : _) (name : List ℕ) → first_fault (principal_checks location name (Some (id_data k id))) ≡ None
  id-passes location name =
      if-passes (is_among kind_names (kind_word k)) _ _ (kind-known k)
      (if-passes _ _ _ (ap (λ (t : List ℕ). not (nat_le (length t) 0)) read ∙ given.nonempty)
      (if-passes _ _ _ (ap (λ (t : List ℕ). is_star_id t || not (has_wildcard t)) read ∙ given.plain)
      (if-passes _ _ _ (ap (λ (t : List ℕ). nat_le (length t) MOST_PIECES) read ∙ le-leb (length id) MOST_PIECES given.short) refl)))

  id-stands : (e : Entry) → entry_of k id ≡ e → matcher_of entries_of (Some (id_data k id)) None ≡ Some (one_item e)
  id-stands e is =
      ap (λ (j : PrincipalKind). Some (one_item (entry_of j (chars (encode_utf8_all id))))) (kind-again k)
      ∙ ap (λ (t : List ℕ). Some (one_item (entry_of k t))) read ∙ ap (λ (f : Entry). Some (one_item f)) is

  id-spelled : IsSpelled (id_data k id)
  id-spelled = ((tt, tt), ((kind-utf8 k, encoded-utf8 id given.text), tt))

-- ---- entries

none-within : (n : ℕ) → 1 ≤ n → nat_le n 0 ≡ false
none-within n some = grind (arith, nat_tests)

some-length : (t : List ℕ) → t ≢ [] → not (nat_le (length t) 0) ≡ true
some-length [] some = absurd (some refl)
some-length (c ∷ t) some = ap not (none-within (length (c ∷ t)) (omega arith))

star-wild : (id : List ℕ) (b : Bool) → is_star_id id ≡ b → has_wildcard id ≡ false → b ≡ false
star-wild id false is plain = refl
star-wild id true is plain =
    let same : id ≡ codes "*" = (bytes_eq-Decides id (codes "*")).0 is in
    let wild : has_wildcard id ≡ true = ap has_wildcard same in
    cc

plain-id : (b : Bool) (id : List ℕ) → has_wildcard id ≡ false → (b || not (has_wildcard id)) ≡ true
plain-id true id plain = refl
plain-id false id plain = ap not plain

given-id : (k : PrincipalKind) (id : List ℕ) → IsReadId k id → IsText id → IsGivenId id
given-id k id is text = record { text = text; nonempty = some-length id is.nonempty; plain = plain-id (is_star_id id) id is.plain; short = is.short }

exact-at : (id : List ℕ) (found : Option (List ℕ)) → account_of id ≡ found → ((account : List ℕ) → ¬ StandsForAccount account id) → account_or_exact id found ≡ Exact Aws id
exact-at id None is other = refl
exact-at id (Some account) is other = absurd (other account (read-stands account id is))

exact-again : (k : PrincipalKind) (id : List ℕ) → IsReadId k id → entry_of k id ≡ Exact k id
exact-again Aws id is =
    let star = star-wild id (is_star_id id) refl is.plain in
    else-taken (is_star_id id) All (account_or_exact id (account_of id)) star ∙ exact-at id (account_of id) refl (is.no_account refl)
exact-again Service id is = else-taken (is_star_id id) (Kind Service) (Exact Service id) (star-wild id (is_star_id id) refl is.plain)
exact-again Federated id is = else-taken (is_star_id id) (Kind Federated) (Exact Federated id) (star-wild id (is_star_id id) refl is.plain)
exact-again CanonicalUser id is = else-taken (is_star_id id) (Kind CanonicalUser) (Exact CanonicalUser id) (star-wild id (is_star_id id) refl is.plain)

digit-plain : (c : ℕ) → IsAsciiDigit c → ((c == 42) || (c == 63)) ≡ false
digit-plain c is = grind arith

or-false : (a b : Bool) → a ≡ false → b ≡ false → (a || b) ≡ false
or-false false b e f = f
or-false true b e f = absurd (cc)

digits-plain : (t : List ℕ) → Each IsAsciiDigit t → has_wildcard t ≡ false
digits-plain [] all = refl
digits-plain (c ∷ t) all = or-false ((c == 42) || (c == 63)) (has_wildcard t) (digit-plain c (All-head IsAsciiDigit c t all)) (digits-plain t (All-tail IsAsciiDigit c t all))

account-some : (a : List ℕ) → length a ≡ ACCOUNT_DIGITS → not (nat_le (length a) 0) ≡ true
account-some [] is = absurd (omega (arith, is))
account-some (c ∷ a) is = ap not (none-within (length (c ∷ a)) (omega arith))

given-account : (a : List ℕ) → IsAccount a → IsText a → IsGivenId a
given-account a is text = record { text = text; nonempty = account-some a is.count; plain = plain-id (is_star_id a) a (digits-plain a is.digits); short = omega (arith, is.count) }

account-again : (a : List ℕ) → IsAccount a → entry_of Aws a ≡ Account a
account-again a is =
    else-taken (is_star_id a) All (account_or_exact a (account_of a)) (star-wild a (is_star_id a) refl (digits-plain a is.digits))
    ∙ ap (account_or_exact a) (stands-read a a (by_digits is refl))

star-given : IsGivenId (codes "*")
star-given = record { text = refl; nonempty = refl; plain = refl; short = omega arith }

kind-star : (k : PrincipalKind) → k ≢ Aws → entry_of k (codes "*") ≡ Kind k
kind-star Aws other = absurd (other refl)
kind-star Service other = refl
kind-star Federated other = refl
kind-star CanonicalUser other = refl

-- ---- the element

pub principal-stands : (e : Entry) → IsReadEntry e → EntryIsKept e → matcher_of entries_of (entry_data e) None ≡ entry_element e
principal-stands All is kept = refl
principal-stands (Kind k) is kept = id-stands k (codes "*") star-given (Kind k) (kind-star k is)
principal-stands (Account a) is kept = id-stands Aws a (given-account a is kept) (Account a) (account-again a is)
principal-stands (Exact k id) is kept = id-stands k id (given-id k id is kept) (Exact k id) (exact-again k id is)

pub principal-passes : (e : Entry) → IsReadEntry e → EntryIsKept e → (location : _) (name : List ℕ) → first_fault (principal_checks location name (entry_data e)) ≡ None
principal-passes All is kept location name = refl
principal-passes (Kind k) is kept location name = id-passes k (codes "*") star-given location name
principal-passes (Account a) is kept location name = id-passes Aws a (given-account a is kept) location name
principal-passes (Exact k id) is kept location name = id-passes k id (given-id k id is kept) location name

pub principal-spelled : (e : Entry) → IsReadEntry e → EntryIsKept e → IsSpelledIf (entry_data e)
principal-spelled All is kept = tt
principal-spelled (Kind k) is kept = id-spelled k (codes "*") star-given
principal-spelled (Account a) is kept = id-spelled Aws a (given-account a is kept)
principal-spelled (Exact k id) is kept = id-spelled k id (given-id k id is kept)

pub principal-shallow : (e : Entry) → IsShallowIf (entry_data e)
principal-shallow All = tt
principal-shallow (Kind k) = omega arith
principal-shallow (Account a) = omega arith
principal-shallow (Exact k id) = omega arith
