-- A line that says something is the text of what it says.
use Rattle.std.proofs.Common.{◌≡◌, ℕ, ◌<◌, ◌≤◌, Bool, true, false, not, ◌&&◌, List, [], ◌∷◌, ◌++◌, length, get_or, map, Option, Some, None, option_map, codes, decimal, bytes_eq, eqb, refl, sym, ap, ◌∙◌, arith, if◌then◌else◌}
use Rattle.std.proofs.lemmas.Bool.{and_parts, eq-eqb, eqb-true, leb-true}
use Rattle.std.proofs.lemmas.Fmt.{decimal-digits_value}
use Rattle.std.proofs.lemmas.List.Splits.{join_with_byte-slice_split}
use Rattle.std.proofs.lemmas.Slice.Eq.{bytes_eq-Decides}
use Rattle.std.specs.List.{concat, join_with_byte, list_all, slice_split}
use Rattle.std.specs.Option.{option_and_then}
use Rattle.std.specs.Str.{all_ascii_digits}
use Rattle.std.specs.Str.Parse.{digits_value}
use Rattle.formula_tree.specs.Answers.{Answers}
use Rattle.proof_text.specs.Faults.{answered_tests, numbers_in}
use Rattle.proof_text.specs.LineForms.{Expected, ExpectClosedSet, ExpectKindProof, ExpectNode, ExpectSlotProof, ExpectState, ExpectVersion, all_given, answer_said, answers_of, closed_said, content_of, content_said, is_number, is_plain_front, label_said, label_line_of}
use Rattle.proof_text.specs.LineForms.{line_said, lists_of_places, node_said, number_said, numbers_of, one_number, places_in, line_of_word, said_alone, said_in, signed_answer, some_numbers, with_number}
use Rattle.proof_text.specs.Lines.{Line, absent_line, answer_part, certificate_line, clauses_line, closed_line, kinds_line, label_line, line_parts, line_text, member_line, never_line, places_line, places_part, points_line, required_line, reuse_line}
use Rattle.proof_text.specs.Lines.{slot_line, some_line, split_line, value_line}
use Rattle.proof_text.specs.Steps.{are_answers_small, are_lists_small, are_small, is_answer_small, is_small}
use Rattle.proof_text.specs.declared.limits.TheConstants.{MOST_NUMBER}
use Rattle.proof_text.proofs.Bytes.{own, some-part}

-- ---- choices

chosen : (b : Bool) (x y : Option Line) (l : Line) (P : Type 0) → (if b then x else y) ≡ Some l → (b ≡ true → x ≡ Some l → P) → (y ≡ Some l → P) → P
chosen true x y l P e here other = here refl e
chosen false x y l P e here other = other e

same-word : (word other : List ℕ) → bytes_eq word other ≡ true → word ≡ other
same-word word other e = (bytes_eq-Decides word other).0 e

mapped : {X Y : Type 0} (f : X → Y) (o : Option X) (y : Y) → option_map f o ≡ Some y → (x : X) × (o ≡ Some x) × (f x ≡ y)
mapped f None y e = cc
mapped f (Some x) y e = (x, refl, cc)

-- ---- numbers

picked : (b : Bool) (v n : ℕ) → (if b then Some v else None) ≡ Some n → (b ≡ true) × (v ≡ n)
picked true v n e = (refl, cc)
picked false v n e = cc

front-some : (ds : List ℕ) → is_plain_front ds ≡ true → 0 < length ds
front-some [] e = cc
front-some (c ∷ cs) e = omega arith

front-other : (c : ℕ) → not (eqb c 48) ≡ true → c ≡ 48 → ⊥
front-other c e is = let same : eqb c 48 ≡ true = eq-eqb c 48 is in cc

front-alone : (ds : List ℕ) → is_plain_front ds ≡ true → get_or ds 0 0 ≡ 48 → length ds ≡ 1
front-alone [] e is = cc
front-alone (c ∷ []) e is = refl
front-alone (c ∷ d ∷ cs) e is = absurd (front-other c e is)

pub number-spelled : (part : List ℕ) (n : ℕ) → number_said part ≡ Some n → is_small n ≡ true → part ≡ decimal n
number-spelled part n is small =
    let known = picked (is_number part) (digits_value 10 part) n is in
    let forms = and_parts (is_plain_front part) (all_ascii_digits part) known.0 in
    let low : n ≤ MOST_NUMBER = leb-true n MOST_NUMBER small in
    sym (decimal-digits_value own part forms.1 (front-some part forms.0) (front-alone part forms.0) (omega (arith, known.1, low))) ∙ ap decimal known.1

-- ---- lists of parts

given-cons : {X : Type 0} (o : Option X) (os : List (Option X)) (xs : List X) → all_given (o ∷ os) ≡ Some xs → (x : X) × (ys : List X) × (o ≡ Some x) × (all_given os ≡ Some ys) × (xs ≡ x ∷ ys)
given-cons None os xs e = cc
given-cons (Some x) os xs e = let rest = mapped (λ ys. x ∷ ys) (all_given os) xs e in (x, rest.0, refl, rest.1, sym rest.2)

given-nil : {X : Type 0} (xs : List X) → Some [] ≡ Some xs → xs ≡ []
given-nil xs e = cc

given-spelled : {X : Type 0} (f : List ℕ → Option X) (text : X → List ℕ) (small : X → Bool) → ((part : List ℕ) (x : X) → f part ≡ Some x → small x ≡ true → part ≡ text x) → (parts : List (List ℕ)) (xs : List X) → all_given (map f parts) ≡ Some xs → list_all small xs ≡ true →
    parts ≡ map text xs
given-spelled f text small back [] xs e holds = sym (ap (map text) (given-nil xs e))
given-spelled f text small back (part ∷ parts) xs e holds =
    let known = given-cons (f part) (map f parts) xs e in
    let both = and_parts (small known.0) (list_all small known.1) (ap (list_all small) (sym known.4) ∙ holds) in
    ap (λ p. p ∷ parts) (back part known.0 known.2 both.0) ∙ ap (λ ps. text known.0 ∷ ps) (given-spelled f text small back parts known.1 known.3 both.1) ∙ ap (map text) (sym known.4)

numbers-spelled : (parts : List (List ℕ)) (ns : List ℕ) → numbers_of parts ≡ Some ns → are_small ns ≡ true → parts ≡ map decimal ns
numbers-spelled parts ns e small = given-spelled number_said decimal is_small number-spelled parts ns e small

-- ---- places

joined : (ns : List ℕ) (part : List ℕ) (parts : List (List ℕ)) → part ∷ parts ≡ map decimal ns → join_with_byte 44 (map decimal ns) ≡ places_part ns
joined [] part parts e = cc
joined (n ∷ ns) part parts e = refl

places-picked : (dash : Bool) (part : List ℕ) (ns : List ℕ) → bytes_eq part (codes "-") ≡ dash → (if dash then Some [] else numbers_of (slice_split (λ b. eqb b 44) part)) ≡ Some ns → are_small ns ≡ true → part ≡ places_part ns
places-picked true part ns is e small = same-word part (codes "-") is ∙ ap places_part (sym (given-nil ns e))
places-picked false part ns is e small =
    let parts = numbers-spelled (slice_split (λ b. eqb b 44) part) ns e small in
    let first = some-part (λ b. eqb b 44) part in
    sym (join_with_byte-slice_split 44 part) ∙ ap (join_with_byte 44) parts ∙ joined ns first.0 first.1 (sym first.2 ∙ parts)

places-spelled : (part : List ℕ) (ns : List ℕ) → places_in part ≡ Some ns → are_small ns ≡ true → part ≡ places_part ns
places-spelled part ns e small = places-picked (bytes_eq part (codes "-")) part ns refl e small

-- ---- answers

signed : (holds : Bool) (sign : ℕ) (digits : List ℕ) (p : ℕ × Bool) → (if holds then 43 else 45) ≡ sign → signed_answer holds (number_said digits) ≡ Some p → is_answer_small p ≡ true → sign ∷ digits ≡ answer_part p
signed holds sign digits p is e small =
    let known = mapped (λ (n : ℕ). (n, holds)) (number_said digits) p e in
    let same : known.0 ≡ p.0 = ap (λ (q : ℕ × Bool). q.0) known.2 in
    let alike : holds ≡ p.1 = ap (λ (q : ℕ × Bool). q.1) known.2 in
    let low : is_small known.0 ≡ true = ap is_small same ∙ small in
    ap (λ c. c ∷ digits) (sym is) ∙ ap (λ ds. (if holds then 43 else 45) ∷ ds) (number-spelled digits known.0 known.1 low ∙ ap decimal same) ∙ ap (λ (b : Bool). (if b then 43 else 45) ∷ decimal p.0) alike

answer-picked : (plus minus : Bool) (c : ℕ) (digits : List ℕ) (p : ℕ × Bool) → eqb c 43 ≡ plus → eqb c 45 ≡ minus → (if plus then signed_answer true (number_said digits) else (if minus then signed_answer false (number_said digits) else None)) ≡ Some p → is_answer_small p ≡ true →
    c ∷ digits ≡ answer_part p
answer-picked true minus c digits p is other e small = signed true c digits p (sym (eqb-true c 43 is)) e small
answer-picked false true c digits p is other e small = signed false c digits p (sym (eqb-true c 45 other)) e small
answer-picked false false c digits p is other e small = cc

answer-spelled : (part : List ℕ) (p : ℕ × Bool) → answer_said part ≡ Some p → is_answer_small p ≡ true → part ≡ answer_part p
answer-spelled [] p e small = cc
answer-spelled (c ∷ digits) p e small = answer-picked (eqb c 43) (eqb c 45) c digits p refl refl e small

answers-spelled : (parts : List (List ℕ)) (given : Answers) → answers_of parts ≡ Some given → are_answers_small given ≡ true → parts ≡ map answer_part given
answers-spelled parts given e small = given-spelled answer_said answer_part is_answer_small answer-spelled parts given e small

tests-small : (given : Answers) → are_small (answered_tests given) ≡ are_answers_small given
tests-small [] = refl
tests-small (p ∷ given) = ap (λ b. is_small p.0 && b) (tests-small given)

and-more : (a b c d : Bool) → d ≡ (b && c) → (a && d) ≡ ((a && b) && c)
and-more true b c d e = e
and-more false b c d e = refl

list_all-append : (xs ys : List ℕ) → are_small (xs ++ ys) ≡ (are_small xs && are_small ys)
list_all-append [] ys = refl
list_all-append (x ∷ xs) ys = and-more (is_small x) (are_small xs) (are_small ys) (are_small (xs ++ ys)) (list_all-append xs ys)

pub lists-small : (lists : List (List ℕ)) → are_small (concat lists) ≡ are_lists_small lists
lists-small [] = refl
lists-small (ns ∷ lists) = list_all-append ns (concat lists) ∙ ap (λ b. are_small ns && b) (lists-small lists)

-- ---- forms of lines

alone-spelled : (word other : List ℕ) (parts : List (List ℕ)) (k l : Line) → line_parts k ≡ other ∷ [] → bytes_eq word other ≡ true → said_alone k parts ≡ Some l → word ∷ parts ≡ line_parts l
alone-spelled word other [] k l shape is e = let same : k ≡ l = cc in ap (λ w. w ∷ []) (same-word word other is) ∙ sym shape ∙ ap line_parts same
alone-spelled word other (part ∷ parts) k l shape is e = cc

one-part : (parts : List (List ℕ)) (n : ℕ) → one_number parts ≡ Some n → is_small n ≡ true → parts ≡ decimal n ∷ []
one-part [] n e small = cc
one-part (part ∷ []) n e small = ap (λ p. p ∷ []) (number-spelled part n e small)
one-part (part ∷ other ∷ parts) n e small = cc

number-form : (word other : List ℕ) (parts : List (List ℕ)) (f : ℕ → Line) (l : Line) → ((n : ℕ) → line_parts (f n) ≡ other ∷ decimal n ∷ []) → ((n : ℕ) → are_small (numbers_in (f n)) ≡ true → is_small n ≡ true) → bytes_eq word other ≡ true → with_number f parts ≡ Some l → are_small (numbers_in l) ≡ true →
    word ∷ parts ≡ line_parts l
number-form word other parts f l shape sizes is e small =
    let known = mapped f (one_number parts) l e in
    let low = sizes known.0 (ap (λ (k : Line). are_small (numbers_in k)) known.2 ∙ small) in
    ap (λ w. w ∷ parts) (same-word word other is) ∙ ap (λ ps. other ∷ ps) (one-part parts known.0 known.1 low) ∙ sym (shape known.0) ∙ ap line_parts known.2

some-parts : (parts : List (List ℕ)) (ns : List ℕ) → some_numbers parts ≡ Some ns → are_small ns ≡ true → parts ≡ map decimal ns
some-parts [] ns e small = cc
some-parts (part ∷ parts) ns e small = numbers-spelled (part ∷ parts) ns e small

numbers-form : (word other : List ℕ) (parts : List (List ℕ)) (f : List ℕ → Line) (l : Line) → ((ns : List ℕ) → line_parts (f ns) ≡ other ∷ map decimal ns) → ((ns : List ℕ) → are_small (numbers_in (f ns)) ≡ true → are_small ns ≡ true) → bytes_eq word other ≡ true →
    option_map f (some_numbers parts) ≡ Some l → are_small (numbers_in l) ≡ true → word ∷ parts ≡ line_parts l
numbers-form word other parts f l shape sizes is e small =
    let known = mapped f (some_numbers parts) l e in
    let low = sizes known.0 (ap (λ (k : Line). are_small (numbers_in k)) known.2 ∙ small) in
    ap (λ w. w ∷ parts) (same-word word other is) ∙ ap (λ ps. other ∷ ps) (some-parts parts known.0 known.1 low) ∙ sym (shape known.0) ∙ ap line_parts known.2

places-form : (word : List ℕ) (parts : List (List ℕ)) (l : Line) → bytes_eq word (codes "places") ≡ true → option_map places_line (lists_of_places parts) ≡ Some l → are_small (numbers_in l) ≡ true → word ∷ parts ≡ line_parts l
places-form word parts l is e small =
    let known = mapped places_line (lists_of_places parts) l e in
    let low = sym (lists-small known.0) ∙ ap (λ (k : Line). are_small (numbers_in k)) known.2 ∙ small in
    ap (λ w. w ∷ parts) (same-word word (codes "places") is) ∙ ap (λ ps. codes "places" ∷ ps) (given-spelled places_in places_part are_small places-spelled parts known.0 known.1 low) ∙ ap line_parts known.2

labelled-parts : (o : Option ℕ) (p : Option Answers) (l : Line) → label_line_of o p ≡ Some l → (n : ℕ) × (given : Answers) × (o ≡ Some n) × (p ≡ Some given) × (label_line n given ≡ l)
labelled-parts None p l e = cc
labelled-parts (Some n) p l e = let known = mapped (label_line n) p l e in (n, known.0, refl, known.1, known.2)

label-form : (word : List ℕ) (parts : List (List ℕ)) (l : Line) → bytes_eq word (codes "label") ≡ true → label_said parts ≡ Some l → are_small (numbers_in l) ≡ true → word ∷ parts ≡ line_parts l
label-form word [] l is e small = cc
label-form word (part ∷ parts) l is e small =
    let known = labelled-parts (number_said part) (answers_of parts) l e in
    let both = and_parts (is_small known.0) (are_small (answered_tests known.1)) (ap (λ (k : Line). are_small (numbers_in k)) known.4 ∙ small) in
    ap (λ w. w ∷ part ∷ parts) (same-word word (codes "label") is) ∙ ap (λ p. codes "label" ∷ p ∷ parts) (number-spelled part known.0 known.2 both.0) ∙
    ap (λ ps. codes "label" ∷ decimal known.0 ∷ ps) (answers-spelled parts known.1 known.3 (sym (tests-small known.1) ∙ both.1)) ∙ ap line_parts known.4

one-small : (n : ℕ) → are_small (n ∷ []) ≡ true → is_small n ≡ true
one-small n e = (and_parts (is_small n) true e).0

-- ---- what may stand

closed-form : (word : List ℕ) (parts : List (List ℕ)) (l : Line) → closed_said word parts ≡ Some l → are_small (numbers_in l) ≡ true → word ∷ parts ≡ line_parts l
closed-form word parts l e small =
    chosen (bytes_eq word (codes "closed")) (with_number closed_line parts) None l (word ∷ parts ≡ line_parts l) e
    (λ is h. number-form word (codes "closed") parts closed_line l (λ n. refl) one-small is h small) (λ h. cc)

node-form : (word : List ℕ) (parts : List (List ℕ)) (l : Line) → node_said word parts ≡ Some l → are_small (numbers_in l) ≡ true → word ∷ parts ≡ line_parts l
node-form word parts l e small =
    let P : Type 0 = word ∷ parts ≡ line_parts l in
    chosen (bytes_eq word (codes "split")) _ _ l P e (λ is h. number-form word (codes "split") parts split_line l (λ n. refl) one-small is h small) (λ e1.
    chosen (bytes_eq word (codes "value")) _ _ l P e1 (λ is h. alone-spelled word (codes "value") parts value_line l refl is h) (λ e2.
    chosen (bytes_eq word (codes "slot")) _ _ l P e2 (λ is h. numbers-form word (codes "slot") parts slot_line l (λ ns. refl) (λ ns k. k) is h small) (λ e3.
    chosen (bytes_eq word (codes "clauses")) _ _ l P e3 (λ is h. numbers-form word (codes "clauses") parts clauses_line l (λ ns. refl) (λ ns k. k) is h small) (λ e4.
    chosen (bytes_eq word (codes "label")) _ _ l P e4 (λ is h. label-form word parts l is h small) (λ e5.
    chosen (bytes_eq word (codes "reuse")) _ _ l P e5 (λ is h. number-form word (codes "reuse") parts reuse_line l (λ n. refl) one-small is h small) (λ e6. cc))))))

slot-form : (word : List ℕ) (parts : List (List ℕ)) (l : Line) → line_of_word ExpectSlotProof word parts ≡ Some l → are_small (numbers_in l) ≡ true → word ∷ parts ≡ line_parts l
slot-form word parts l e small =
    let P : Type 0 = word ∷ parts ≡ line_parts l in
    chosen (bytes_eq word (codes "points")) _ _ l P e (λ is h. alone-spelled word (codes "points") parts points_line l refl is h) (λ e1.
    chosen (bytes_eq word (codes "absent")) _ _ l P e1 (λ is h. alone-spelled word (codes "absent") parts absent_line l refl is h) (λ e2.
    chosen (bytes_eq word (codes "required")) _ _ l P e2 (λ is h. alone-spelled word (codes "required") parts required_line l refl is h) (λ e3.
    chosen (bytes_eq word (codes "kinds")) _ _ l P e3 (λ is h. alone-spelled word (codes "kinds") parts kinds_line l refl is h) (λ e4.
    chosen (bytes_eq word (codes "member")) _ _ l P e4 (λ is h. number-form word (codes "member") parts member_line l (λ n. refl) one-small is h small) (λ e5.
    chosen (bytes_eq word (codes "some")) _ _ l P e5 (λ is h. alone-spelled word (codes "some") parts some_line l refl is h) (λ e6. closed-form word parts l e6 small))))))

said-spelled : (e : Expected) (word : List ℕ) (parts : List (List ℕ)) (l : Line) → line_of_word e word parts ≡ Some l → are_small (numbers_in l) ≡ true → word ∷ parts ≡ line_parts l
said-spelled ExpectVersion word parts l e small =
    chosen (bytes_eq word (codes "certificate")) (with_number certificate_line parts) None l (word ∷ parts ≡ line_parts l) e
    (λ is h. number-form word (codes "certificate") parts certificate_line l (λ n. refl) one-small is h small) (λ h. cc)
said-spelled (ExpectNode depth inside) word parts l e small = node-form word parts l e small
said-spelled ExpectSlotProof word parts l e small = slot-form word parts l e small
said-spelled ExpectKindProof word parts l e small =
    chosen (bytes_eq word (codes "never")) (said_alone never_line parts) (closed_said word parts) l (word ∷ parts ≡ line_parts l) e
    (λ is h. alone-spelled word (codes "never") parts never_line l refl is h) (λ h. closed-form word parts l h small)
said-spelled ExpectClosedSet word parts l e small = closed-form word parts l e small
said-spelled ExpectState word parts l e small =
    chosen (bytes_eq word (codes "places")) (option_map places_line (lists_of_places parts)) None l (word ∷ parts ≡ line_parts l) e
    (λ is h. places-form word parts l is h small) (λ h. cc)

-- ---- lines

and-then : {X Y : Type 0} (f : X → Option Y) (o : Option X) (y : Y) → option_and_then f o ≡ Some y → (x : X) × (o ≡ Some x) × (f x ≡ Some y)
and-then f None y e = cc
and-then f (Some x) y e = (x, refl, e)

end-picked : (b : ℕ) (ends : Bool) (content : List ℕ) → eqb b 10 ≡ ends → (if ends then Some [] else None) ≡ Some content → b ∷ [] ≡ content ++ 10 ∷ []
end-picked b true content is e = let none : content ≡ [] = given-nil content e in ap (λ c. c ∷ []) (eqb-true b 10 is) ∙ ap (λ t. t ++ 10 ∷ []) (sym none)
end-picked b false content is e = cc

pub content-spelled : (line content : List ℕ) → content_of line ≡ Some content → line ≡ content ++ 10 ∷ []
content-spelled [] content e = cc
content-spelled (b ∷ []) content e = end-picked b (eqb b 10) content refl e
content-spelled (b ∷ c ∷ bs) content e =
    let known = mapped (λ t. b ∷ t) (content_of (c ∷ bs)) content e in
    ap (λ r. b ∷ r) (content-spelled (c ∷ bs) known.0 known.1) ∙ ap (λ t. t ++ 10 ∷ []) known.2

pub spelled : (e : Expected) (line : List ℕ) (l : Line) → line_said e line ≡ Some l → are_small (numbers_in l) ≡ true → line ≡ line_text l
spelled e line l is small =
    let known = and-then (content_said e) (content_of line) l is in
    let text = known.0 in
    let first = some-part (λ b. eqb b 32) text in
    let parts : first.0 ∷ first.1 ≡ line_parts l = said-spelled e first.0 first.1 l (ap (said_in e) (sym first.2) ∙ known.2) small in
    content-spelled line text known.1 ∙ ap (λ t. t ++ 10 ∷ []) (sym (join_with_byte-slice_split 32 text) ∙ ap (join_with_byte 32) (first.2 ∙ parts))
