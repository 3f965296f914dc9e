-- Predicates of written forms are equal where their texts are.
use Rattle.std.proofs.Common.{◌≡◌, ◌≢◌, ℕ, ◌==◌, nat_lt, Bool, true, false, List, ◌++◌, get_or, if◌then◌else◌, MatchBool, codes, refl, ap, sym, ◌∙◌, subst, ℤ}
use Rattle.std.specs.List.{list_any}
use Rattle.std.specs.Str.{encode_utf8_all}
use Rattle.std.proofs.lemmas.Bool.{eq-eqb}
use Rattle.std.proofs.lemmas.Option.{same_Some}
use Rattle.std.proofs.lemmas.Str.{encodes_same}
use Rattle.base64.specs.Engines.{standard}
use Rattle.base64.specs.GeneralPurpose.{encode_of}
use Rattle.cidr_bits.specs.Laws.{BlockIsSpelled, OneBlock}
use Rattle.intervals.specs.declared.compare.Compare.{Compare}
use Rattle.intervals.specs.declared.compare.Compare.TheVariants.{Equal, Less, LessOrEqual, Greater, GreaterOrEqual}
use Rattle.intervals.specs.DecimalTexts.{decimal_of, written_decimal}
use Rattle.intervals.specs.Scaled.{IsScaled}
use Rattle.intervals.proofs.Laws.{read_again}
use Rattle.wildcard_lang.specs.declared.piece.Piece.{Piece}
use Rattle.wildcard_lang.specs.WrittenAgain.{IsArnOf, IsGlobOf, IsLiteralOf}
use Rattle.wildcard_lang.specs.Writing.{written_form}
use Rattle.wildcard_lang.proofs.Laws.{arns-apart, globs-apart, literals-apart}
use Rattle.policy_model.specs.Principals.{kind_word}
use Rattle.policy_model.specs.declared.cond.Cond.{Cond}
use Rattle.policy_model.specs.declared.cond.Cond.TheVariants as cond
use Rattle.policy_model.specs.declared.principal.Entry.{Entry}
use Rattle.policy_model.specs.declared.principal.Entry.TheVariants.{All, Kind, Account, Exact}
use Rattle.policy_model.specs.declared.principal.PrincipalKind.{PrincipalKind}
use Rattle.policy_model.specs.declared.principal.PrincipalKind.TheVariants.{Aws, Service, Federated, CanonicalUser}
use Rattle.policy_model.specs.declared.test.Slot.TheVariants as slot
use Rattle.strata.specs.declared.predicate.Predicate.{Predicate}
use Rattle.strata.specs.declared.predicate.Predicate.TheVariants.{Every, Principal, Word, Meets}
use Rattle.findings.specs.Texts.{compare_word, cond_text, entry_text, flag_text, is_narrow_wildcard, pattern_text, predicate_text, takes_either_case}
use Rattle.read_predicates.specs.Laws.{PredicatesAreWrittenApart}
use Rattle.read_predicates.specs.WrittenForms.{IsWrittenCond, IsWrittenForm, IsWrittenPattern}
use Rattle.read_predicates.proofs.Blocks.{blocks-apart}
use Rattle.read_predicates.proofs.Bytes.{bytes-apart}

-- the first character of a text, and the second
abbrev head : List ℕ → ℕ
head text = get_or text 0 0

abbrev second : List ℕ → ℕ
second text = get_or text 1 0

-- texts with other characters at some index aren't the same
differ : {text other : List ℕ} (i : ℕ) → text ≡ other → (get_or text i 0 == get_or other i 0) ≡ false → ⊥
differ {text} {other} i same apart =
    let alike : (get_or text i 0 == get_or other i 0) ≡ true = eq-eqb (get_or text i 0) (get_or other i 0) (ap (λ (t : List ℕ). get_or t i 0) same) in
    absurd (cc)

-- ---- entries

kinds-apart : (k l : PrincipalKind) → kind_word k ≡ kind_word l → k ≡ l
kinds-apart Aws Aws e = refl
kinds-apart Aws Service e = absurd (differ 0 e refl)
kinds-apart Aws Federated e = absurd (differ 0 e refl)
kinds-apart Aws CanonicalUser e = absurd (differ 0 e refl)
kinds-apart Service Aws e = absurd (differ 0 e refl)
kinds-apart Service Service e = refl
kinds-apart Service Federated e = absurd (differ 0 e refl)
kinds-apart Service CanonicalUser e = absurd (differ 0 e refl)
kinds-apart Federated Aws e = absurd (differ 0 e refl)
kinds-apart Federated Service e = absurd (differ 0 e refl)
kinds-apart Federated Federated e = refl
kinds-apart Federated CanonicalUser e = absurd (differ 0 e refl)
kinds-apart CanonicalUser Aws e = absurd (differ 0 e refl)
kinds-apart CanonicalUser Service e = absurd (differ 0 e refl)
kinds-apart CanonicalUser Federated e = absurd (differ 0 e refl)
kinds-apart CanonicalUser CanonicalUser e = refl

exact-same : (k : PrincipalKind) (id other : List ℕ) → entry_text (Exact k id) ≡ entry_text (Exact k other) → encode_utf8_all id ≡ encode_utf8_all other
exact-same Aws id other e = cc
exact-same Service id other e = cc
exact-same Federated id other e = cc
exact-same CanonicalUser id other e = cc

-- the kind of an exact id, by the first character of its text
exact-kind : (k l : PrincipalKind) (id other : List ℕ) → entry_text (Exact k id) ≡ entry_text (Exact l other) → k ≡ l
exact-kind Aws Aws id other e = refl
exact-kind Aws Service id other e = absurd (differ 0 e refl)
exact-kind Aws Federated id other e = absurd (differ 0 e refl)
exact-kind Aws CanonicalUser id other e = absurd (differ 0 e refl)
exact-kind Service Aws id other e = absurd (differ 0 e refl)
exact-kind Service Service id other e = refl
exact-kind Service Federated id other e = absurd (differ 0 e refl)
exact-kind Service CanonicalUser id other e = absurd (differ 0 e refl)
exact-kind Federated Aws id other e = absurd (differ 0 e refl)
exact-kind Federated Service id other e = absurd (differ 0 e refl)
exact-kind Federated Federated id other e = refl
exact-kind Federated CanonicalUser id other e = absurd (differ 0 e refl)
exact-kind CanonicalUser Aws id other e = absurd (differ 0 e refl)
exact-kind CanonicalUser Service id other e = absurd (differ 0 e refl)
exact-kind CanonicalUser Federated id other e = absurd (differ 0 e refl)
exact-kind CanonicalUser CanonicalUser id other e = refl

exact-apart : (k l : PrincipalKind) (id other : List ℕ) → entry_text (Exact k id) ≡ entry_text (Exact l other) → Exact k id ≡ Exact l other
exact-apart k l id other e =
    let kind : k ≡ l = exact-kind k l id other e in
    let same : entry_text (Exact k id) ≡ entry_text (Exact k other) = subst (λ (m : PrincipalKind). entry_text (Exact k id) ≡ entry_text (Exact m other)) (sym kind) e in
    let ids : id ≡ other = encodes_same id other (exact-same k id other same) in
    cc

-- an exact id begins with a capital
exact-capital : (k : PrincipalKind) (id : List ℕ) → nat_lt (head (entry_text (Exact k id))) 97 ≡ true
exact-capital Aws id = refl
exact-capital Service id = refl
exact-capital Federated id = refl
exact-capital CanonicalUser id = refl

no-exact : (text : List ℕ) (k : PrincipalKind) (id : List ℕ) → nat_lt (head text) 97 ≡ false → text ≡ entry_text (Exact k id) → ⊥
no-exact text k id small e =
    let both : false ≡ true = sym small ∙ ap (λ (t : List ℕ). nat_lt (head t) 97) e ∙ exact-capital k id in
    absurd (cc)

entry-apart : (e f : Entry) → e ≢ All → f ≢ All → entry_text e ≡ entry_text f → e ≡ f
entry-apart All f first other same = absurd (first refl)
entry-apart (Kind k) All first other same = absurd (other refl)
entry-apart (Kind k) (Kind l) first other same = let words : kind_word k ≡ kind_word l = cc in ap Kind (kinds-apart k l words)
entry-apart (Kind k) (Account a) first other same = absurd (differ 0 same refl)
entry-apart (Kind k) (Exact l id) first other same = absurd (no-exact (entry_text (Kind k)) l id refl same)
entry-apart (Account a) All first other same = absurd (other refl)
entry-apart (Account a) (Kind k) first other same = absurd (differ 0 same refl)
entry-apart (Account a) (Account b) first other same = let digits : encode_utf8_all a ≡ encode_utf8_all b = cc in ap Account (encodes_same a b digits)
entry-apart (Account a) (Exact k id) first other same = absurd (no-exact (entry_text (Account a)) k id refl same)
entry-apart (Exact k id) All first other same = absurd (other refl)
entry-apart (Exact k id) (Kind l) first other same = absurd (no-exact (entry_text (Kind l)) k id refl (sym same))
entry-apart (Exact k id) (Account a) first other same = absurd (no-exact (entry_text (Account a)) k id refl (sym same))
entry-apart (Exact k id) (Exact l other_id) first other same = exact-apart k l id other_id same

any-no-entry : (e : Entry) → e ≢ All → codes "any" ≡ entry_text e → ⊥
any-no-entry All some e = some refl
any-no-entry (Kind k) some e = absurd (differ 0 e refl)
any-no-entry (Account a) some e = absurd (differ 1 e refl)
any-no-entry (Exact k id) some e = no-exact (codes "any") k id refl e

-- ---- patterns

-- the word of a class by its two tests
abbrev class_word : Bool → Bool → List ℕ
class_word narrow either = (if narrow then codes "arn " else (if either then codes "fold " else codes "like "))

-- what follows the word of a class is the same, and the tests that the class goes by
record SameClass (n f m g : Bool) (rest other : List ℕ) : Type 0 where
  narrow : n ≡ m
  either : m ≡ false → f ≡ g
  rest_is : rest ≡ other

same-class : (n f m g : Bool) (rest other : List ℕ) → class_word n f ++ rest ≡ class_word m g ++ other → SameClass n f m g rest other
same-class true f true g rest other e = record { narrow = refl; either = λ no. absurd (cc); rest_is = cc }
same-class true f false true rest other e = absurd (differ 0 e refl)
same-class true f false false rest other e = absurd (differ 0 e refl)
same-class false true true g rest other e = absurd (differ 0 e refl)
same-class false false true g rest other e = absurd (differ 0 e refl)
same-class false true false true rest other e = record { narrow = refl; either = λ no. refl; rest_is = cc }
same-class false true false false rest other e = absurd (differ 0 e refl)
same-class false false false true rest other e = absurd (differ 0 e refl)
same-class false false false false rest other e = record { narrow = refl; either = λ no. refl; rest_is = cc }

abbrev SameText : List Piece → List Piece → Type 0
SameText p q = SameClass (list_any is_narrow_wildcard p) (list_any takes_either_case p) (list_any is_narrow_wildcard q) (list_any takes_either_case q) (encode_utf8_all (written_form p)) (encode_utf8_all (written_form q))

same-text : (p q : List Piece) → pattern_text p ≡ pattern_text q → SameText p q
same-text p q e = same-class _ _ _ _ (encode_utf8_all (written_form p)) (encode_utf8_all (written_form q)) e

same-form : (p q : List Piece) → SameText p q → written_form p ≡ written_form q
same-form p q same = encodes_same (written_form p) (written_form q) same.rest_is

globs-told : (fold escapes : Bool) (p q : List Piece) → IsGlobOf fold escapes p → IsGlobOf fold escapes q → pattern_text p ≡ pattern_text q → p ≡ q
globs-told fold escapes p q first other e = globs-apart fold escapes escapes p q first other (same-form p q (same-text p q e))

-- the class by its two tests
abbrev ClassedBy : Bool → Bool → List Piece → Type 0
ClassedBy narrow either p = MatchBool narrow (IsArnOf true p) (MatchBool either (IsLiteralOf true true p) (IsGlobOf false true p))

classes-apart : (n f m g : Bool) (p q : List Piece) → ClassedBy n f p → ClassedBy m g q → n ≡ m → (m ≡ false → f ≡ g) → written_form p ≡ written_form q → p ≡ q
classes-apart true f true g p q first other narrow either same = arns-apart true true p q first other same
classes-apart true f false g p q first other narrow either same = absurd (cc)
classes-apart false f true g p q first other narrow either same = absurd (cc)
classes-apart false true false true p q first other narrow either same = literals-apart true true true p q first other same
classes-apart false true false false p q first other narrow either same = let no = either refl in absurd (cc)
classes-apart false false false true p q first other narrow either same = let no = either refl in absurd (cc)
classes-apart false false false false p q first other narrow either same = globs-apart false true true p q first other same

patterns-told : (p q : List Piece) → IsWrittenPattern p → IsWrittenPattern q → pattern_text p ≡ pattern_text q → p ≡ q
patterns-told p q first other e =
    let same = same-text p q e in
    classes-apart (list_any is_narrow_wildcard p) (list_any takes_either_case p) (list_any is_narrow_wildcard q) (list_any takes_either_case q) p q first.classed other.classed same.narrow same.either (same-form p q same)

any-no-class : (n f : Bool) (rest : List ℕ) → codes "any" ≡ class_word n f ++ rest → ⊥
any-no-class true f rest e = absurd (differ 1 e refl)
any-no-class false true rest e = absurd (differ 0 e refl)
any-no-class false false rest e = absurd (differ 0 e refl)

any-no-pattern : (p : List Piece) → codes "any" ≡ pattern_text p → ⊥
any-no-pattern p e = any-no-class (list_any is_narrow_wildcard p) (list_any takes_either_case p) (encode_utf8_all (written_form p)) e

-- ---- what is asked of a value: the first two characters tell what it is

abbrev tag : List ℕ → ℕ
tag text =
    (if head text == 105 then (if second text == 110 then 3 else 4)
    else (if head text == 98 then 5
    else (if nat_lt (head text) 97 then 2 else 1)))

abbrev number_of : Cond → ℕ
number_of (cond.Matches p) = 1
number_of (cond.Compares how bound) = 2
number_of (cond.Inside block) = 3
number_of (cond.Flag at_true at_false) = 4
number_of (cond.Equals bytes) = 5

class-tag : (n f : Bool) (rest : List ℕ) → tag (class_word n f ++ rest) ≡ 1
class-tag true f rest = refl
class-tag false true rest = refl
class-tag false false rest = refl

compare-tag : (how : Compare) (rest : List ℕ) → tag (compare_word how ++ rest) ≡ 2
compare-tag Equal rest = refl
compare-tag Less rest = refl
compare-tag LessOrEqual rest = refl
compare-tag Greater rest = refl
compare-tag GreaterOrEqual rest = refl

flag-tag : (a b : Bool) → tag (flag_text a b) ≡ 4
flag-tag true true = refl
flag-tag true false = refl
flag-tag false true = refl
flag-tag false false = refl

cond-tag : (c : Cond) → tag (cond_text c) ≡ number_of c
cond-tag (cond.Matches p) = class-tag (list_any is_narrow_wildcard p) (list_any takes_either_case p) (encode_utf8_all (written_form p))
cond-tag (cond.Compares how bound) = compare-tag how (written_decimal bound)
cond-tag (cond.Inside block) = refl
cond-tag (cond.Flag a b) = flag-tag a b
cond-tag (cond.Equals bytes) = refl

-- how a comparison is written tells which it is
compares-same : (h k : Compare) (rest other : List ℕ) → compare_word h ++ rest ≡ compare_word k ++ other → h ≡ k
compares-same Equal Equal rest other e = refl
compares-same Equal Less rest other e = absurd (differ 0 e refl)
compares-same Equal LessOrEqual rest other e = absurd (differ 0 e refl)
compares-same Equal Greater rest other e = absurd (differ 0 e refl)
compares-same Equal GreaterOrEqual rest other e = absurd (differ 0 e refl)
compares-same Less Equal rest other e = absurd (differ 0 e refl)
compares-same Less Less rest other e = refl
compares-same Less LessOrEqual rest other e = absurd (differ 1 e refl)
compares-same Less Greater rest other e = absurd (differ 0 e refl)
compares-same Less GreaterOrEqual rest other e = absurd (differ 0 e refl)
compares-same LessOrEqual Equal rest other e = absurd (differ 0 e refl)
compares-same LessOrEqual Less rest other e = absurd (differ 1 e refl)
compares-same LessOrEqual LessOrEqual rest other e = refl
compares-same LessOrEqual Greater rest other e = absurd (differ 0 e refl)
compares-same LessOrEqual GreaterOrEqual rest other e = absurd (differ 0 e refl)
compares-same Greater Equal rest other e = absurd (differ 0 e refl)
compares-same Greater Less rest other e = absurd (differ 0 e refl)
compares-same Greater LessOrEqual rest other e = absurd (differ 0 e refl)
compares-same Greater Greater rest other e = refl
compares-same Greater GreaterOrEqual rest other e = absurd (differ 1 e refl)
compares-same GreaterOrEqual Equal rest other e = absurd (differ 0 e refl)
compares-same GreaterOrEqual Less rest other e = absurd (differ 0 e refl)
compares-same GreaterOrEqual LessOrEqual rest other e = absurd (differ 0 e refl)
compares-same GreaterOrEqual Greater rest other e = absurd (differ 1 e refl)
compares-same GreaterOrEqual GreaterOrEqual rest other e = refl

bounds-same : (how : Compare) (rest other : List ℕ) → compare_word how ++ rest ≡ compare_word how ++ other → rest ≡ other
bounds-same Equal rest other e = cc
bounds-same Less rest other e = cc
bounds-same LessOrEqual rest other e = cc
bounds-same Greater rest other e = cc
bounds-same GreaterOrEqual rest other e = cc

numbers-apart : (m n : ℤ) → IsScaled m → IsScaled n → written_decimal m ≡ written_decimal n → m ≡ n
numbers-apart m n first other e = same_Some m n (sym (read_again m first) ∙ ap decimal_of e ∙ read_again n other)

compares-apart : (h k : Compare) (m n : ℤ) → IsScaled m → IsScaled n → cond_text (cond.Compares h m) ≡ cond_text (cond.Compares k n) → cond.Compares h m ≡ cond.Compares k n
compares-apart h k m n first other e =
    let how : h ≡ k = compares-same h k (written_decimal m) (written_decimal n) e in
    let same : compare_word h ++ written_decimal m ≡ compare_word h ++ written_decimal n = subst (λ (l : Compare). compare_word h ++ written_decimal m ≡ compare_word l ++ written_decimal n) (sym how) e in
    let bound : m ≡ n = numbers-apart m n first other (bounds-same h (written_decimal m) (written_decimal n) same) in
    cc

flags-apart : (a b c d : Bool) → flag_text a b ≡ flag_text c d → cond.Flag a b ≡ cond.Flag c d
flags-apart true true true true e = refl
flags-apart true true true false e = absurd (differ 7 e refl)
flags-apart true true false true e = absurd (differ 3 e refl)
flags-apart true true false false e = absurd (differ 3 e refl)
flags-apart true false true true e = absurd (differ 7 e refl)
flags-apart true false true false e = refl
flags-apart true false false true e = absurd (differ 3 e refl)
flags-apart true false false false e = absurd (differ 3 e refl)
flags-apart false true true true e = absurd (differ 3 e refl)
flags-apart false true true false e = absurd (differ 3 e refl)
flags-apart false true false true e = refl
flags-apart false true false false e = absurd (differ 3 e refl)
flags-apart false false true true e = absurd (differ 3 e refl)
flags-apart false false true false e = absurd (differ 3 e refl)
flags-apart false false false true e = absurd (differ 3 e refl)
flags-apart false false false false e = refl

-- what the texts of blocks say
pub record BlockTexts : Type 0 where
  pub spelled : BlockIsSpelled
  pub one : OneBlock

module _ (blocks : BlockTexts) where
  of-number : (c d : Cond) → IsWrittenCond c → IsWrittenCond d → cond_text c ≡ cond_text d → number_of c ≡ number_of d → c ≡ d
  of-number (cond.Matches p) (cond.Matches q) first other e n = ap cond.Matches (patterns-told p q first other e)
  of-number (cond.Matches p) (cond.Compares how bound) first other e n = absurd (cc)
  of-number (cond.Matches p) (cond.Inside block) first other e n = absurd (cc)
  of-number (cond.Matches p) (cond.Flag a b) first other e n = absurd (cc)
  of-number (cond.Matches p) (cond.Equals bytes) first other e n = absurd (cc)
  of-number (cond.Compares how bound) (cond.Matches q) first other e n = absurd (cc)
  of-number (cond.Compares h m) (cond.Compares k b) first other e n = compares-apart h k m b first other e
  of-number (cond.Compares how bound) (cond.Inside block) first other e n = absurd (cc)
  of-number (cond.Compares how bound) (cond.Flag a b) first other e n = absurd (cc)
  of-number (cond.Compares how bound) (cond.Equals bytes) first other e n = absurd (cc)
  of-number (cond.Inside block) (cond.Matches q) first other e n = absurd (cc)
  of-number (cond.Inside block) (cond.Compares how bound) first other e n = absurd (cc)
  of-number (cond.Inside b) (cond.Inside c) first other e n = ap cond.Inside (blocks-apart blocks.spelled blocks.one b c first other (cc))
  of-number (cond.Inside block) (cond.Flag a b) first other e n = absurd (cc)
  of-number (cond.Inside block) (cond.Equals bytes) first other e n = absurd (cc)
  of-number (cond.Flag a b) (cond.Matches q) first other e n = absurd (cc)
  of-number (cond.Flag a b) (cond.Compares how bound) first other e n = absurd (cc)
  of-number (cond.Flag a b) (cond.Inside block) first other e n = absurd (cc)
  of-number (cond.Flag a b) (cond.Flag c d) first other e n = flags-apart a b c d e
  of-number (cond.Flag a b) (cond.Equals bytes) first other e n = absurd (cc)
  of-number (cond.Equals bytes) (cond.Matches q) first other e n = absurd (cc)
  of-number (cond.Equals bytes) (cond.Compares how bound) first other e n = absurd (cc)
  of-number (cond.Equals bytes) (cond.Inside block) first other e n = absurd (cc)
  of-number (cond.Equals bytes) (cond.Flag a b) first other e n = absurd (cc)
  of-number (cond.Equals bs) (cond.Equals cs) first other e n = let same : encode_of standard bs ≡ encode_of standard cs = cc in ap cond.Equals (bytes-apart bs cs first other same)

  cond-apart : (c d : Cond) → IsWrittenCond c → IsWrittenCond d → cond_text c ≡ cond_text d → c ≡ d
  cond-apart c d first other e = of-number c d first other e (sym (cond-tag c) ∙ ap tag e ∙ cond-tag d)

  any-no-number : (c : Cond) → number_of c ≡ 1 → codes "any" ≡ cond_text c → ⊥
  any-no-number (cond.Matches p) n e = any-no-pattern p e
  any-no-number (cond.Compares how bound) n e = absurd (cc)
  any-no-number (cond.Inside block) n e = absurd (cc)
  any-no-number (cond.Flag a b) n e = absurd (cc)
  any-no-number (cond.Equals bytes) n e = absurd (cc)

  any-no-cond : (c : Cond) → codes "any" ≡ cond_text c → ⊥
  any-no-cond c e = let one : 1 ≡ number_of c = ap tag e ∙ cond-tag c in any-no-number c (sym one) e

  -- ---- predicates

  principals-apart : (p q : Predicate) → IsWrittenForm slot.Principal p → IsWrittenForm slot.Principal q → predicate_text p ≡ predicate_text q → p ≡ q
  principals-apart Every Every first other e = refl
  principals-apart Every (Principal f) first other e = absurd (any-no-entry f other.not_all e)
  principals-apart Every (Word q) first other e = absurd other
  principals-apart Every (Meets d) first other e = absurd other
  principals-apart (Principal f) Every first other e = absurd (any-no-entry f first.not_all (sym e))
  principals-apart (Principal f) (Principal g) first other e = ap Principal (entry-apart f g first.not_all other.not_all e)
  principals-apart (Principal f) (Word q) first other e = absurd other
  principals-apart (Principal f) (Meets d) first other e = absurd other
  principals-apart (Word p) q first other e = absurd first
  principals-apart (Meets c) q first other e = absurd first

  actions-apart : (p q : Predicate) → IsWrittenForm slot.Action p → IsWrittenForm slot.Action q → predicate_text p ≡ predicate_text q → p ≡ q
  actions-apart Every Every first other e = refl
  actions-apart Every (Principal f) first other e = absurd other
  actions-apart Every (Word q) first other e = absurd (any-no-pattern q e)
  actions-apart Every (Meets d) first other e = absurd other
  actions-apart (Word p) Every first other e = absurd (any-no-pattern p (sym e))
  actions-apart (Word p) (Principal f) first other e = absurd other
  actions-apart (Word p) (Word q) first other e = ap Word (globs-told true false p q first.glob other.glob e)
  actions-apart (Word p) (Meets d) first other e = absurd other
  actions-apart (Principal f) q first other e = absurd first
  actions-apart (Meets c) q first other e = absurd first

  resources-apart : (p q : Predicate) → IsWrittenForm slot.Resource p → IsWrittenForm slot.Resource q → predicate_text p ≡ predicate_text q → p ≡ q
  resources-apart Every Every first other e = refl
  resources-apart Every (Principal f) first other e = absurd other
  resources-apart Every (Word q) first other e = absurd (any-no-pattern q e)
  resources-apart Every (Meets d) first other e = absurd other
  resources-apart (Word p) Every first other e = absurd (any-no-pattern p (sym e))
  resources-apart (Word p) (Principal f) first other e = absurd other
  resources-apart (Word p) (Word q) first other e = ap Word (globs-told false true p q first.glob other.glob e)
  resources-apart (Word p) (Meets d) first other e = absurd other
  resources-apart (Principal f) q first other e = absurd first
  resources-apart (Meets c) q first other e = absurd first

  values-apart : (key : List ℕ) (p q : Predicate) → IsWrittenForm (slot.Key key) p → IsWrittenForm (slot.Key key) q → predicate_text p ≡ predicate_text q → p ≡ q
  values-apart key Every Every first other e = refl
  values-apart key Every (Principal f) first other e = absurd other
  values-apart key Every (Word q) first other e = absurd other
  values-apart key Every (Meets d) first other e = absurd (any-no-cond d e)
  values-apart key (Meets c) Every first other e = absurd (any-no-cond c (sym e))
  values-apart key (Meets c) (Principal f) first other e = absurd other
  values-apart key (Meets c) (Word q) first other e = absurd other
  values-apart key (Meets c) (Meets d) first other e = ap Meets (cond-apart c d first.cond other.cond e)
  values-apart key (Principal f) q first other e = absurd first
  values-apart key (Word p) q first other e = absurd first

  pub predicates-apart : PredicatesAreWrittenApart
  predicates-apart slot.Principal p q first other e = principals-apart p q first other e
  predicates-apart slot.Action p q first other e = actions-apart p q first other e
  predicates-apart slot.Resource p q first other e = resources-apart p q first other e
  predicates-apart (slot.Key key) p q first other e = values-apart key p q first other e
