-- A file has one head, or one line of it fails; and what a printed summary has as its head.
use Rattle.std.proofs.Common.{eqb, true, false, ◌≡◌, ◌≤◌, ◌<◌, ◌+◌, ◌*◌, ◌^◌, ℕ, List, [], ◌∷◌, ◌++◌, length, map, flat_map, All, Ok, Result, codes, decimal, append_assoc, refl, sym, ap, ◌∙◌, subst, arith, inl, inr}
use Rattle.std.specs.Int.{IsInRange}
use Rattle.std.specs.Str.{all_ascii_digits}
use Rattle.std.specs.Str.Parse.{digits_value, AllDigits}
use Rattle.std.proofs.lemmas.Bool.{ne_eqb}
use Rattle.std.proofs.lemmas.Fmt.{digits_decimal}
use Rattle.std.proofs.lemmas.List.Elements.{All-from_get_or, All-nil, All-cons, All-head, All-tail, All-weaker}
use Rattle.std.proofs.lemmas.Str.Parse.{IsNumeralModel, numerals_by_value, tells_all_ascii_digits, digit_at}
use Rattle.command_words.specs.declared.limits.TheConstants.{MOST_FINDINGS}
use Rattle.policy_model.specs.declared.request.Request.{Request}
use Rattle.policy_model.specs.declared.schema.Schema.{Schema}
use Rattle.strata.specs.declared.stratum.Stratum.{Stratum}
use Rattle.findings.specs.Findings.{IsFinding}
use Rattle.findings.specs.Texts.{finding_text}
use Rattle.request_json.specs.Laws.{RequestIsReadAgain}
use Rattle.request_json.specs.RequestFiles.{request_from}
use Rattle.request_json.specs.declared.fault.RequestFault.{RequestFault}
use Rattle.request_json.specs.RequestTexts.{request_text}
use Rattle.proof_text.specs.Laws.{IsUnbroken}
use Rattle.proof_text.specs.LineForms.{ended_lines, lines_of}
use Rattle.proof_text.proofs.Ended.{decimal_same, lines_again}
use Rattle.summary_answers.specs.declared.answer.Found.{Found}
use Rattle.summary_answers.specs.FindingTexts.{count_line, found_lines, found_text, request_end}
use Rattle.summary_answers.specs.Found.{HaveFindings}
use Rattle.certified_summaries.specs.declared.fault.HeadFault.{HeadFault}
use Rattle.certified_summaries.specs.Heads.{ArePairLines, IsFindingLine, IsHead, IsHeadFault, IsPairAt, IsRequestLine, PairFails, RequestFails, head_lines}
use Rattle.certified_summaries.proofs.Heading.{content-same, count-content}
use Rattle.certified_summaries.proofs.Unbroken.{finding-unbroken, join, request-unbroken}

-- ---- one head

cons-front : {X : Type 0} (x y : X) (xs ys : List X) → x ∷ xs ≡ y ∷ ys → x ≡ y
cons-front x y xs ys e = cc

cons-rest : {X : Type 0} (x y : X) (xs ys : List X) → x ∷ xs ≡ y ∷ ys → xs ≡ ys
cons-rest x y xs ys e = cc

behind-words : (a b : List ℕ) → codes "findings: " ++ a ≡ codes "findings: " ++ b → a ≡ b
behind-words a b e = cc

count-same : (n m : ℕ) → n ≤ MOST_FINDINGS → m ≤ MOST_FINDINGS → count_line n ≡ count_line m → n ≡ m
count-same n m few also is =
    let whole : codes "findings: " ++ decimal n ≡ codes "findings: " ++ decimal m = content-same (codes "findings: " ++ decimal n) (codes "findings: " ++ decimal m) (sym (count-content n) ∙ is ∙ count-content m) in
    decimal_same n m (omega arith) (omega arith) (behind-words (decimal n) (decimal m) whole)

-- findings of one text are the same
abbrev pub AreTextsApart : List Stratum → Type 0
AreTextsApart ds = (f g : List ℕ) → IsFinding ds f → IsFinding ds g → finding_text ds f ≡ finding_text ds g → f ≡ g

ok-same : (x y : Result Request RequestFault) (r s : Request) → x ≡ Ok r → y ≡ Ok s → x ≡ y → r ≡ s
ok-same x y r s one other same = cc

one-finding : (ds : List Stratum) → AreTextsApart ds → (line f g : List ℕ) → IsFindingLine ds line f → IsFindingLine ds line g → f ≡ g
one-finding ds apart line f g one other =
    apart f g one.finding other.finding (content-same (finding_text ds f) (finding_text ds g) (sym one.written ∙ other.written))

one-request : (schema : Schema) (line : List ℕ) (r s : Request) → IsRequestLine schema line r → IsRequestLine schema line s → r ≡ s
one-request schema line r s one other =
    let same : one.content ≡ other.content = content-same one.content other.content (sym one.ended ∙ other.ended) in
    ok-same (request_from schema one.content) (request_from schema other.content) r s one.read other.read (ap (request_from schema) same)

abbrev pair_with : List ℕ → Request → List ℕ × Request
pair_with f r = (f, r)

same-pair : (p q : List ℕ × Request) → p.0 ≡ q.0 → p.1 ≡ q.1 → p ≡ q
same-pair p q first second = ap (λ (x : List ℕ). pair_with x p.1) first ∙ ap (λ (x : Request). pair_with q.0 x) second

one-pair : (schema : Schema) (ds : List Stratum) → AreTextsApart ds → (line next : List ℕ) (p q : List ℕ × Request) → IsPairAt schema ds line next p → IsPairAt schema ds line next q → p ≡ q
one-pair schema ds apart line next p q one other =
    same-pair p q (one-finding ds apart line p.0 q.0 one.finding other.finding) (one-request schema next p.1 q.1 one.request other.request)

-- the lines of as many pairs are those of the same
one-list : (schema : Schema) (ds : List Stratum) → AreTextsApart ds → (fa fb ba bb : List (List ℕ)) (a b : List (List ℕ × Request)) → ArePairLines schema ds fa a → ArePairLines schema ds fb b → length a ≡ length b → fa ++ ba ≡ fb ++ bb → a ≡ b
one-list schema ds apart [] [] ba bb [] [] one other count lines = refl
one-list schema ds apart [] fb ba bb (p ∷ a) b one other count lines = absurd one
one-list schema ds apart fa [] ba bb a (q ∷ b) one other count lines = absurd other
one-list schema ds apart (l ∷ []) fb ba bb a b one other count lines = absurd one
one-list schema ds apart fa (l ∷ []) ba bb a b one other count lines = absurd other
one-list schema ds apart (l ∷ m ∷ fa) fb ba bb [] b one other count lines = absurd one
one-list schema ds apart fa (l ∷ m ∷ fb) ba bb a [] one other count lines = absurd other
one-list schema ds apart [] (l ∷ m ∷ fb) ba bb [] (q ∷ b) one other count lines = absurd (omega (arith, count))
one-list schema ds apart (l ∷ m ∷ fa) [] ba bb (p ∷ a) [] one other count lines = absurd (omega (arith, count))
one-list schema ds apart (l ∷ m ∷ fa) (k ∷ n ∷ fb) ba bb (p ∷ a) (q ∷ b) one other count lines =
    let first : l ≡ k = cons-front l k (m ∷ (fa ++ ba)) (n ∷ (fb ++ bb)) lines in
    let later : m ∷ (fa ++ ba) ≡ n ∷ (fb ++ bb) = cons-rest l k (m ∷ (fa ++ ba)) (n ∷ (fb ++ bb)) lines in
    let second : m ≡ n = cons-front m n (fa ++ ba) (fb ++ bb) later in
    let rest : fa ++ ba ≡ fb ++ bb = cons-rest m n (fa ++ ba) (fb ++ bb) later in
    let moved : IsPairAt schema ds k n p = subst (λ (x : List ℕ). IsPairAt schema ds x n p) first (subst (λ (x : List ℕ). IsPairAt schema ds l x p) second one.0) in
    ap (λ (x : List ℕ × Request). x ∷ a) (one-pair schema ds apart k n p q moved other.0) ∙ ap (λ (xs : List (List ℕ × Request)). q ∷ xs) (one-list schema ds apart fa fb ba bb a b one.1 other.1 (omega (arith, count)) rest)

pub one-head : (schema : Schema) (ds : List Stratum) → AreTextsApart ds → (bytes : List ℕ) (a b : List (List ℕ × Request)) → IsHead schema ds bytes a → IsHead schema ds bytes b → a ≡ b
one-head schema ds apart bytes a b one other =
    let both : count_line (length a) ∷ (one.front ++ one.behind) ≡ count_line (length b) ∷ (other.front ++ other.behind) = sym one.lines ∙ other.lines in
    let count : length a ≡ length b = count-same (length a) (length b) one.few other.few (cons-front (count_line (length a)) (count_line (length b)) (one.front ++ one.behind) (other.front ++ other.behind) both) in
    one-list schema ds apart one.front other.front one.behind other.behind a b one.are other.are count
    (cons-rest (count_line (length a)) (count_line (length b)) (one.front ++ one.behind) (other.front ++ other.behind) both)

-- ---- no line of a head fails

request-stands : (schema : Schema) (n : ℕ) (lines : List (List ℕ)) (next : List ℕ) (rest : List (List ℕ)) (r : Request) (fault : HeadFault) → lines ≡ next ∷ rest → IsRequestLine schema next r → RequestFails schema n lines fault → ⊥
request-stands schema n [] next rest r fault is of fails = absurd (cc)
request-stands schema n (l ∷ lines) next rest r fault is of fails =
    let same : next ≡ l = cc in
    fails.0 r (subst (λ (x : List ℕ). IsRequestLine schema x r) same of)

pair-stands : (schema : Schema) (ds : List Stratum) (n : ℕ) (lines : List (List ℕ)) (line next : List ℕ) (rest : List (List ℕ)) (p : List ℕ × Request) (fault : HeadFault) → lines ≡ line ∷ next ∷ rest → IsPairAt schema ds line next p → PairFails schema ds n lines fault → ⊥
pair-stands schema ds n [] line next rest p fault is of fails = absurd (cc)
pair-stands schema ds n (l ∷ lines) line next rest p fault is of (inl fails) =
    let same : line ≡ l = cc in
    fails.0 p.0 (subst (λ (x : List ℕ). IsFindingLine ds x p.0) same of.finding)
pair-stands schema ds n (l ∷ lines) line next rest p fault is of (inr second) =
    let behind : second.behind ≡ next ∷ rest = cons-rest second.line line second.behind (next ∷ rest) (sym second.lines_are ∙ is) in
    request-stands schema (n + 1) second.behind next rest p.1 fault behind of.request second.fails

none-fails : (schema : Schema) (ds : List Stratum) (n : ℕ) (fa fb ba bb : List (List ℕ)) (a b : List (List ℕ × Request)) (fault : HeadFault) → ArePairLines schema ds fa a → ArePairLines schema ds fb b → length b < length a → fa ++ ba ≡ fb ++ bb → PairFails schema ds n bb fault → ⊥
none-fails schema ds n [] fb ba bb [] b fault one other fewer lines fails = absurd (omega (arith, fewer))
none-fails schema ds n [] fb ba bb (p ∷ a) b fault one other fewer lines fails = absurd one
none-fails schema ds n (l ∷ []) fb ba bb a b fault one other fewer lines fails = absurd one
none-fails schema ds n (l ∷ m ∷ fa) fb ba bb [] b fault one other fewer lines fails = absurd one
none-fails schema ds n (l ∷ m ∷ fa) [] ba bb (p ∷ a) [] fault one other fewer lines fails = pair-stands schema ds n bb l m (fa ++ ba) p fault (sym lines) one.0 fails
none-fails schema ds n fa [] ba bb a (q ∷ b) fault one other fewer lines fails = absurd other
none-fails schema ds n fa (k ∷ []) ba bb a b fault one other fewer lines fails = absurd other
none-fails schema ds n fa (k ∷ j ∷ fb) ba bb a [] fault one other fewer lines fails = absurd other
none-fails schema ds n (l ∷ m ∷ fa) (k ∷ j ∷ fb) ba bb (p ∷ a) (q ∷ b) fault one other fewer lines fails =
    let later : m ∷ (fa ++ ba) ≡ j ∷ (fb ++ bb) = cons-rest l k (m ∷ (fa ++ ba)) (j ∷ (fb ++ bb)) lines in
    let rest : fa ++ ba ≡ fb ++ bb = cons-rest m j (fa ++ ba) (fb ++ bb) later in
    none-fails schema ds n fa fb ba bb a b fault one.1 other.1 (omega (arith, fewer)) rest fails

pub no-head_fault : (schema : Schema) (ds : List Stratum) (bytes : List ℕ) (pairs : List (List ℕ × Request)) (fault : HeadFault) → IsHead schema ds bytes pairs → IsHeadFault schema ds bytes fault → ⊥
no-head_fault schema ds bytes pairs fault is (inl count) = count.none (length pairs) (record { few = is.few; behind = is.front ++ is.behind; is = is.lines })
no-head_fault schema ds bytes pairs fault is (inr behind) =
    let both : count_line (length pairs) ∷ (is.front ++ is.behind) ≡ count_line behind.count ∷ (behind.front ++ behind.behind) = sym is.lines ∙ behind.lines in
    let count : length pairs ≡ behind.count = count-same (length pairs) behind.count is.few behind.few (cons-front (count_line (length pairs)) (count_line behind.count) (is.front ++ is.behind) (behind.front ++ behind.behind) both) in
    none-fails schema ds (head_lines behind.pairs + 1) is.front behind.front is.behind behind.behind pairs behind.pairs fault is.are behind.are (omega (arith, behind.fewer, count))
    (cons-rest (count_line (length pairs)) (count_line behind.count) (is.front ++ is.behind) (behind.front ++ behind.behind) both) behind.fails

-- ---- the head of a printed summary

-- the contents of the lines of pairs
abbrev pub pair_contents : List Stratum → List (List ℕ × Request) → List (List ℕ)
pair_contents ds [] = []
pair_contents ds (p ∷ pairs) = finding_text ds p.0 ∷ request_text p.1 ∷ pair_contents ds pairs

-- and of the head of all
abbrev pub head_contents : List Stratum → List (List ℕ × Request) → List (List ℕ)
head_contents ds pairs = (codes "findings: " ++ decimal (length pairs)) ∷ pair_contents ds pairs

end-of : (r : Request) → request_end r ≡ 10 ∷ (request_text r ++ 10 ∷ [])
unfolding request_end
end-of r = refl

lines-of : (ds : List Stratum) (p : List ℕ × Request) → found_lines ds p ≡ finding_text ds p.0 ++ request_end p.1
unfolding found_lines
lines-of ds p = refl

pair-text : (ds : List Stratum) (pairs : List (List ℕ × Request)) → flat_map (found_lines ds) pairs ≡ ended_lines (pair_contents ds pairs)
pair-text ds [] = refl
pair-text ds (p ∷ pairs) =
    ap (λ (t : List ℕ). t ++ flat_map (found_lines ds) pairs) (lines-of ds p ∙ ap (λ (t : List ℕ). finding_text ds p.0 ++ t) (end-of p.1)) ∙
    append_assoc (finding_text ds p.0) (10 ∷ (request_text p.1 ++ 10 ∷ [])) (flat_map (found_lines ds) pairs) ∙
    ap (λ (t : List ℕ). finding_text ds p.0 ++ 10 ∷ ((request_text p.1 ++ 10 ∷ []) ++ t)) (pair-text ds pairs) ∙
    sym (append_assoc (finding_text ds p.0) (10 ∷ []) ((request_text p.1 ++ 10 ∷ []) ++ ended_lines (pair_contents ds pairs)))

pub head-text : (found : Found) → found_text found ≡ ended_lines (head_contents found.strata.dimensions found.summary)
head-text found =
    ap (λ (t : List ℕ). t ++ flat_map (found_lines found.strata.dimensions) found.summary) (count-content (length found.summary)) ∙
    ap (λ (t : List ℕ). ((codes "findings: " ++ decimal (length found.summary)) ++ 10 ∷ []) ++ t) (pair-text found.strata.dimensions found.summary)

contents-count : (ds : List Stratum) (pairs : List (List ℕ × Request)) → length (pair_contents ds pairs) ≡ 2 * length pairs
contents-count ds [] = refl
contents-count ds (p ∷ pairs) = omega (arith, contents-count ds pairs)

pub head-count : (ds : List Stratum) (pairs : List (List ℕ × Request)) → length (head_contents ds pairs) ≡ head_lines pairs
head-count ds pairs = omega (arith, contents-count ds pairs)

-- ---- its lines are unbroken

own : IsNumeralModel (λ ds. all_ascii_digits ds ≡ true) (digits_value 10)
own = numerals_by_value _ tells_all_ascii_digits

decimal-unbroken : (n : ℕ) → n < 2 ^ 64 → IsUnbroken (decimal n)
decimal-unbroken n small =
    let digits : AllDigits 10 (decimal n) = own.to (decimal n) (digits_decimal own n small) in
    All-weaker (IsInRange 48 57) (λ b. eqb b 10 ≡ false) (λ b range. ne_eqb b 10 (λ e. omega (arith, range.0, e))) (decimal n) (All-from_get_or (IsInRange 48 57) (decimal n) 0 (λ i. digit_at (decimal n) i digits))

letter : (b : ℕ) (rest : List ℕ) → eqb b 10 ≡ false → IsUnbroken rest → IsUnbroken (b ∷ rest)
letter b rest other more = All-cons (λ c. eqb c 10 ≡ false) b rest other more

word-unbroken : IsUnbroken (codes "findings: ")
word-unbroken = letter 102 (105 ∷ 110 ∷ 100 ∷ 105 ∷ 110 ∷ 103 ∷ 115 ∷ 58 ∷ 32 ∷ []) refl (letter 105 (110 ∷ 100 ∷ 105 ∷ 110 ∷ 103 ∷ 115 ∷ 58 ∷ 32 ∷ []) refl (letter 110 (100 ∷ 105 ∷ 110 ∷ 103 ∷ 115 ∷ 58 ∷ 32 ∷ []) refl (letter 100 (105 ∷ 110 ∷ 103 ∷ 115 ∷ 58 ∷ 32 ∷ []) refl (letter 105 (110 ∷ 103 ∷ 115 ∷ 58 ∷ 32 ∷ []) refl (letter 110 (103 ∷ 115 ∷ 58 ∷ 32 ∷ []) refl (letter 103 (115 ∷ 58 ∷ 32 ∷ []) refl (letter 115 (58 ∷ 32 ∷ []) refl (letter 58 (32 ∷ []) refl (letter 32 ([]) refl (All-nil (λ c. eqb c 10 ≡ false)))))))))))

pairs-unbroken : (ds : List Stratum) (pairs : List (List ℕ × Request)) → All IsUnbroken (pair_contents ds pairs)
pairs-unbroken ds [] = All-nil IsUnbroken
pairs-unbroken ds (p ∷ pairs) =
    All-cons IsUnbroken (finding_text ds p.0) (request_text p.1 ∷ pair_contents ds pairs) (finding-unbroken ds p.0)
    (All-cons IsUnbroken (request_text p.1) (pair_contents ds pairs) (request-unbroken p.1) (pairs-unbroken ds pairs))

pub head-unbroken : (ds : List Stratum) (pairs : List (List ℕ × Request)) → length pairs ≤ MOST_FINDINGS → All IsUnbroken (head_contents ds pairs)
head-unbroken ds pairs few =
    All-cons IsUnbroken (codes "findings: " ++ decimal (length pairs)) (pair_contents ds pairs)
    (join (codes "findings: ") (decimal (length pairs)) word-unbroken (decimal-unbroken (length pairs) (omega arith))) (pairs-unbroken ds pairs)

-- ---- and it is the head of the summary

printed-lines : (schema : Schema) (ds : List Stratum) (pairs : List (List ℕ × Request)) → HaveFindings ds pairs → All (λ p. RequestIsReadAgain schema p.1) pairs → ArePairLines schema ds (map (λ content. content ++ 10 ∷ []) (pair_contents ds pairs)) pairs
printed-lines schema ds [] findings requests = tt
printed-lines schema ds (p ∷ pairs) findings requests =
    let F : List ℕ × Request → Type 0 = λ q. IsFinding ds q.0 in
    let R : List ℕ × Request → Type 0 = λ q. RequestIsReadAgain schema q.1 in
    let again = All-head R p pairs requests in (
      record {
        finding = record { finding = All-head F p pairs findings; written = refl };
        request = record { content = request_text p.1; ended = refl; read = again.alone };
      },
      printed-lines schema ds pairs (All-tail F p pairs findings) (All-tail R p pairs requests),
    )

pub printed-head : (schema : Schema) (found : Found) (text bytes : List ℕ) → length found.summary ≤ MOST_FINDINGS → HaveFindings found.strata.dimensions found.summary → All (λ p. RequestIsReadAgain schema p.1) found.summary → bytes ≡ found_text found ++ text → IsHead schema found.strata.dimensions bytes found.summary
printed-head schema found text bytes few findings requests is =
    let ds = found.strata.dimensions in
    let contents = head_contents ds found.summary in
    let ended : List ℕ → List ℕ = λ content. content ++ 10 ∷ [] in
    record {
      few = few;
      front = map ended (pair_contents ds found.summary);
      behind = lines_of text;
      lines =
          ap lines_of (is ∙ ap (λ (t : List ℕ). t ++ text) (head-text found)) ∙ lines_again contents text (head-unbroken ds found.summary few) ∙
          ap (λ (t : List ℕ). t ∷ (map ended (pair_contents ds found.summary) ++ lines_of text)) (sym (count-content (length found.summary)));
      are = printed-lines schema ds found.summary findings requests;
    }
