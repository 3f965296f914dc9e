-- The lines of a head, read one by one.
use Rattle.std.proofs.Common.{◌≡◌, ◌<◌, ◌≤◌, ◌+◌, ◌*◌, ◌^◌, ℕ, List, [], ◌∷◌, ◌++◌, length, drop, take, true, false, Some, None, Err, codes, decimal, append_assoc, refl, sym, ap, ◌∙◌, subst, arith, inr}
use Rattle.std.specs.Prelude.{bytes_eq}
use Rattle.std.proofs.lemmas.List.{length-append, take-append-drop}
use Rattle.std.proofs.lemmas.Slice.Eq.{bytes_eq-Decides}
use Rattle.command_words.specs.declared.limits.TheConstants.{MOST_FINDINGS}
use Rattle.policy_model.specs.declared.request.Request.{Request}
use Rattle.policy_model.specs.declared.schema.Schema.{Schema}
use Rattle.strata.specs.declared.stratum.Stratum.{Stratum}
use Rattle.findings.specs.Texts.{finding_text}
use Rattle.request_json.specs.RequestFiles.{request_from}
use Rattle.proof_text.specs.LineForms.{content_of, lines_of}
use Rattle.proof_text.specs.Reads.{IsNoDecimal}
use Rattle.proof_text.proofs.Ended.{content_again, content_spelled, decimal_same}
use Rattle.summary_answers.specs.FindingTexts.{count_line}
use Rattle.certified_summaries.specs.declared.fault.HeadAnswer.{HeadAnswer}
use Rattle.certified_summaries.specs.declared.fault.HeadAnswer.TheVariants.{NoMemory, Refused}
use Rattle.certified_summaries.specs.declared.fault.HeadCode.TheVariants.{C6Finding, C7Request}
use Rattle.certified_summaries.specs.declared.fault.HeadFault.{HeadFault}
use Rattle.certified_summaries.specs.Heads.{ArePairLines, FindingFails, IsFindingLine, IsHeadFault, IsNoFindingLine, IsNoRequestLine, IsPairAt, IsRequestLine, PairFails, RequestFails, head_fault_at, head_lines}
use Rattle.certified_summaries.specs.Reading.{ArePairRead, IsCountIn, IsFindingOf, IsFindingRead, IsHeadRead, IsPairRead, IsRequestOf, IsRequestRead}

-- ---- the count

-- the content of the line of a count
pub count-content : (n : ℕ) → count_line n ≡ (codes "findings: " ++ decimal n) ++ 10 ∷ []
unfolding count_line
count-content n = sym (append_assoc (codes "findings: ") (decimal n) (10 ∷ []))

some-same : {X : Type 0} (x y : X) → Some x ≡ Some y → x ≡ y
some-same x y e = cc

content-of_count : (line : List ℕ) (n : ℕ) → line ≡ count_line n → content_of line ≡ Some (codes "findings: " ++ decimal n)
content-of_count line n is = ap content_of (is ∙ count-content n) ∙ content_again (codes "findings: " ++ decimal n)

-- a line without an end says no count
pub count-open : (line : List ℕ) → content_of line ≡ None → IsCountIn line None
count-open line none n few is =
    let some = content-of_count line n is in
    absurd (cc)

-- the content of a line that says a count
said-content : (line content : List ℕ) (n : ℕ) → content_of line ≡ Some content → line ≡ count_line n → content ≡ codes "findings: " ++ decimal n
said-content line content n ended is = some-same content (codes "findings: " ++ decimal n) (sym ended ∙ content-of_count line n is)

front-of : (digits : List ℕ) → take 10 (codes "findings: " ++ digits) ≡ codes "findings: "
front-of digits = refl

rest-of : (digits : List ℕ) → drop 10 (codes "findings: " ++ digits) ≡ digits
rest-of digits = refl

-- a line that begins otherwise says none
pub count-other : (line content : List ℕ) → content_of line ≡ Some content → bytes_eq (take 10 content) (codes "findings: ") ≡ false → IsCountIn line None
count-other line content ended other n few is =
    let front : take 10 content ≡ codes "findings: " = ap (take 10) (said-content line content n ended is) ∙ front-of (decimal n) in
    let same : bytes_eq (take 10 content) (codes "findings: ") ≡ true = (bytes_eq-Decides (take 10 content) (codes "findings: ")).1 front in
    absurd (cc)

digits-of : (line content digits : List ℕ) (n : ℕ) → content_of line ≡ Some content → digits ≡ drop 10 content → line ≡ count_line n → digits ≡ decimal n
digits-of line content digits n ended behind is = behind ∙ ap (drop 10) (said-content line content n ended is) ∙ rest-of (decimal n)

-- nor does one whose end is no number
pub count-no_number : (line content digits : List ℕ) → content_of line ≡ Some content → digits ≡ drop 10 content → IsNoDecimal digits → IsCountIn line None
count-no_number line content digits ended behind none n few is =
    none n (omega arith) (digits-of line content digits n ended behind is)

-- or whose number is too large
pub count-large : (line content digits : List ℕ) (m : ℕ) → content_of line ≡ Some content → digits ≡ drop 10 content → digits ≡ decimal m → m < 2 ^ 32 → MOST_FINDINGS < m → IsCountIn line None
count-large line content digits m ended behind number small large n few is =
    let same : n ≡ m = decimal_same n m (omega arith) (omega arith) (sym (digits-of line content digits n ended behind is) ∙ number) in
    absurd (omega arith)

pub count-said : (line content digits : List ℕ) (n : ℕ) → content_of line ≡ Some content → bytes_eq (take 10 content) (codes "findings: ") ≡ true → digits ≡ drop 10 content → digits ≡ decimal n → n ≤ MOST_FINDINGS → IsCountIn line (Some n)
count-said line content digits n ended begins behind number few =
    let front : take 10 content ≡ codes "findings: " = (bytes_eq-Decides (take 10 content) (codes "findings: ")).0 begins in
    let whole : content ≡ codes "findings: " ++ decimal n =
    sym (take-append-drop 10 content) ∙ ap (λ (t : List ℕ). t ++ drop 10 content) front ∙ ap (λ (t : List ℕ). codes "findings: " ++ t) (sym behind ∙ number) in
    (few, content_spelled line content ended ∙ ap (λ (t : List ℕ). t ++ 10 ∷ []) whole ∙ sym (count-content n))

-- ---- lines of findings and requests

pub content-same : (content other : List ℕ) → content ++ 10 ∷ [] ≡ other ++ 10 ∷ [] → content ≡ other
content-same content other e = some-same content other (sym (content_again content) ∙ ap content_of e ∙ content_again other)

-- a line without an end is that of no finding
pub finding-open : (ds : List Stratum) (line : List ℕ) → content_of line ≡ None → IsNoFindingLine ds line
finding-open ds line none f is =
    let some = ap content_of is.written ∙ content_again (finding_text ds f) in
    absurd (cc)

pub finding-other : (ds : List Stratum) (line content : List ℕ) → content_of line ≡ Some content → IsFindingOf ds content None → IsNoFindingLine ds line
finding-other ds line content ended none f is =
    none f is.finding (content-same content (finding_text ds f) (sym (content_spelled line content ended) ∙ is.written))

pub finding-is : (ds : List Stratum) (line content f : List ℕ) → content_of line ≡ Some content → IsFindingOf ds content (Some f) → IsFindingLine ds line f
finding-is ds line content f ended is = record {
  finding = is.0;
  written = content_spelled line content ended ∙ ap (λ (t : List ℕ). t ++ 10 ∷ []) is.1;
}

pub request-open : (schema : Schema) (line : List ℕ) → content_of line ≡ None → IsNoRequestLine schema line
request-open schema line none r is =
    let some = ap content_of is.ended ∙ content_again is.content in
    absurd (cc)

pub request-other : (schema : Schema) (line content : List ℕ) → content_of line ≡ Some content → IsRequestOf schema content None → IsNoRequestLine schema line
request-other schema line content ended none r is =
    let same : is.content ≡ content = content-same is.content content (sym is.ended ∙ content_spelled line content ended) in
    none r (ap (request_from schema) (sym same) ∙ is.read)

pub request-is : (schema : Schema) (line content : List ℕ) (r : Request) → content_of line ≡ Some content → IsRequestOf schema content (Some r) → IsRequestLine schema line r
request-is schema line content r ended is = record { content = content; ended = content_spelled line content ended; read = is }

-- a line that stands first
module _ (bytes line behind : List ℕ) (lines : lines_of bytes ≡ line ∷ lines_of behind) where
  pub finding-fails : (ds : List Stratum) (n : ℕ) → IsNoFindingLine ds line → FindingFails ds n (lines_of bytes) (head_fault_at n C6Finding)
  finding-fails ds n none = subst (λ (ls : List (List ℕ)). FindingFails ds n ls (head_fault_at n C6Finding)) (sym lines) (none, refl)

  pub request-fails : (schema : Schema) (n : ℕ) → IsNoRequestLine schema line → RequestFails schema n (lines_of bytes) (head_fault_at n C7Request)
  request-fails schema n none = subst (λ (ls : List (List ℕ)). RequestFails schema n ls (head_fault_at n C7Request)) (sym lines) (none, refl)

-- the answer at a line is a fault there
pub finding-answer : (ds : List Stratum) (n : ℕ) (bytes : List ℕ) (answer : HeadAnswer) (fault : HeadFault) → answer ≡ Refused fault → FindingFails ds n (lines_of bytes) fault → IsFindingRead ds n bytes (Err answer)
finding-answer ds n bytes answer fault is fails = subst (λ (a : HeadAnswer). IsFindingRead ds n bytes (Err a)) (sym is) fails

pub request-answer : (schema : Schema) (n : ℕ) (bytes : List ℕ) (answer : HeadAnswer) (fault : HeadFault) → answer ≡ Refused fault → RequestFails schema n (lines_of bytes) fault → IsRequestRead schema n bytes (Err answer)
request-answer schema n bytes answer fault is fails = subst (λ (a : HeadAnswer). IsRequestRead schema n bytes (Err a)) (sym is) fails

-- ---- pairs

-- the lines of one pair more
lines-more : (schema : Schema) (ds : List Stratum) (front : List (List ℕ)) (pairs : List (List ℕ × Request)) (line next : List ℕ) (p : List ℕ × Request) → ArePairLines schema ds front pairs → IsPairAt schema ds line next p → ArePairLines schema ds (front ++ line ∷ next ∷ []) (pairs ++ p ∷ [])
lines-more schema ds [] [] line next p are pair = (pair, tt)
lines-more schema ds [] (q ∷ pairs) line next p are pair = absurd are
lines-more schema ds (l ∷ []) pairs line next p are pair = absurd are
lines-more schema ds (l ∷ m ∷ front) [] line next p are pair = absurd are
lines-more schema ds (l ∷ m ∷ front) (q ∷ pairs) line next p are pair = (are.0, lines-more schema ds front pairs line next p are.1 pair)

pub lines-count : (schema : Schema) (ds : List Stratum) (front : List (List ℕ)) (pairs : List (List ℕ × Request)) → ArePairLines schema ds front pairs → length front ≡ 2 * length pairs
lines-count schema ds [] [] are = refl
lines-count schema ds [] (q ∷ pairs) are = absurd are
lines-count schema ds (l ∷ []) pairs are = absurd are
lines-count schema ds (l ∷ m ∷ front) [] are = absurd are
lines-count schema ds (l ∷ m ∷ front) (q ∷ pairs) are = omega (arith, lines-count schema ds front pairs are.1)

-- what was read of the pairs so far, and what is left
pub record IsHeadSoFar (schema : Schema) (ds : List Stratum) (bytes : List ℕ) (count place : ℕ) (pairs : List (List ℕ × Request)) (rest : List ℕ) : Type 0 where
  pub few : count ≤ MOST_FINDINGS
  pub done : length pairs ≡ place
  pub front : List (List ℕ)
  pub lines : lines_of bytes ≡ count_line count ∷ (front ++ lines_of rest)
  pub are : ArePairLines schema ds front pairs

pub so-far-pair : (schema : Schema) (ds : List Stratum) (bytes rest behind : List ℕ) (count place : ℕ) (pairs more : List (List ℕ × Request)) (p : List ℕ × Request) → IsHeadSoFar schema ds bytes count place pairs rest → ArePairRead schema ds rest p behind → more ≡ pairs ++ p ∷ [] →
    IsHeadSoFar schema ds bytes count (place + 1) more behind
so-far-pair schema ds bytes rest behind count place pairs more p before read grows = record {
  few = before.few;
  done = ap length grows ∙ length-append pairs (p ∷ []) ∙ omega (arith, before.done);
  front = before.front ++ read.line ∷ read.next ∷ [];
  lines =
      before.lines ∙ ap (λ (ls : List (List ℕ)). count_line count ∷ (before.front ++ ls)) read.is ∙
      ap (λ (ls : List (List ℕ)). count_line count ∷ ls) (sym (append_assoc before.front (read.line ∷ read.next ∷ []) (lines_of behind)));
  are = subst (ArePairLines schema ds (before.front ++ read.line ∷ read.next ∷ [])) (sym grows) (lines-more schema ds before.front pairs read.line read.next p before.are read.pair);
}

pub so-far-fails : (schema : Schema) (ds : List Stratum) (bytes rest : List ℕ) (count place n : ℕ) (pairs : List (List ℕ × Request)) (fault : HeadFault) → IsHeadSoFar schema ds bytes count place pairs rest → place < count → n ≡ 2 * place + 2 → PairFails schema ds n (lines_of rest) fault → IsHeadFault schema ds bytes fault
so-far-fails schema ds bytes rest count place n pairs fault before left number fails =
    let same : n ≡ head_lines pairs + 1 = omega (arith, before.done, number) in
    inr (record {
      count = count;
      few = before.few;
      pairs = pairs;
      front = before.front;
      behind = lines_of rest;
      lines = before.lines;
      are = before.are;
      fewer = omega (arith, before.done, left);
      fails = subst (λ (k : ℕ). PairFails schema ds k (lines_of rest) fault) same fails;
    })

pub head-fails : (schema : Schema) (ds : List Stratum) (bytes rest : List ℕ) (count place n : ℕ) (pairs : List (List ℕ × Request)) (answer : HeadAnswer) → IsHeadSoFar schema ds bytes count place pairs rest → place < count → n ≡ 2 * place + 2 → IsPairRead schema ds n rest (Err answer) → IsHeadRead schema ds bytes (Err answer)
head-fails schema ds bytes rest count place n pairs (Refused fault) before left number fails = so-far-fails schema ds bytes rest count place n pairs fault before left number fails
head-fails schema ds bytes rest count place n pairs NoMemory before left number fails = tt
