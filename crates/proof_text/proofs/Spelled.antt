-- A text is the certificate of one refutation at most.
use Rattle.std.proofs.Common.{◌≡◌, ℕ, List, [], ◌∷◌, ◌++◌, length, map, drop, codes, append-nil, eqb, get_or, Some, None, Option, option_map, refl, sym, ap, ◌∙◌, arith, inl, inr, if◌then◌else◌}
use Rattle.std.specs.Prelude.{bytes_eq}
use Rattle.std.specs.List.{join_with_byte, slice_split}
use Rattle.std.proofs.lemmas.List.{append_assoc}
use Rattle.std.proofs.lemmas.List.Elements.{All-head, All-tail}
use Rattle.slot_theory.specs.declared.outcome.KindProof.{KindProof}
use Rattle.slot_theory.specs.declared.outcome.KindProof.TheVariants.{Never, Closed}
use Rattle.slot_theory.specs.declared.outcome.SlotProof.{SlotProof}
use Rattle.slot_theory.specs.declared.outcome.SlotProof.TheVariants.{Points, Absent, Required, Word, Kinds, Member, SomeMember}
use Rattle.refute_check.specs.Proofs.{Proof, by_clauses, by_slot, by_value, label, reuse, split}
use Rattle.proof_text.specs.Laws.{HasSmallNumbers, IsSmall, OneProofForEachText}
use Rattle.proof_text.specs.LineForms.{content_of, label_said, lines_of, lists_of_places, numbers_of, said_alone, with_number}
use Rattle.proof_text.specs.Lines.{Line, certificate_line, split_line, value_line, slot_line, clauses_line, label_line, reuse_line}
use Rattle.proof_text.specs.Lines.{points_line, absent_line, required_line, closed_line, kinds_line, never_line, member_line, some_line, places_line}
use Rattle.proof_text.specs.Lines.{line_parts, line_text, verdict_line}
use Rattle.proof_text.specs.Spelling.{closed_lines, kind_lines, node_lines, proof_lines, slot_lines, certificate_text}
use Rattle.proof_text.proofs.Cutting.{content-again}
use Rattle.proof_text.proofs.Files.{spelled-lines}
use Rattle.proof_text.proofs.Decimals.{lists-written, number-written, numbers-written}
use Rattle.proof_text.proofs.Said.{all-within, label-again, lists-small, lists-within, one-small, parts-again, parts-free, parts-some, space}
use Rattle.proof_text.proofs.Small.{AllSmall}

cons-front : {X : Type 0} (x y : X) (xs ys : List X) → x ∷ xs ≡ y ∷ ys → x ≡ y
cons-front x y xs ys same = cc

cons-rest : {X : Type 0} (x y : X) (xs ys : List X) → x ∷ xs ≡ y ∷ ys → xs ≡ ys
cons-rest x y xs ys same = cc

-- ---- one line for each text

-- what parts say, whatever must stand
abbrev line_with : List ℕ → List (List ℕ) → Option Line
line_with word parts =
    (if bytes_eq word (codes "certificate") then with_number certificate_line parts
    else (if bytes_eq word (codes "split") then with_number split_line parts
    else (if bytes_eq word (codes "value") then said_alone value_line parts
    else (if bytes_eq word (codes "slot") then option_map slot_line (numbers_of parts)
    else (if bytes_eq word (codes "clauses") then option_map clauses_line (numbers_of parts)
    else (if bytes_eq word (codes "label") then label_said parts
    else (if bytes_eq word (codes "reuse") then with_number reuse_line parts
    else (if bytes_eq word (codes "points") then said_alone points_line parts
    else (if bytes_eq word (codes "absent") then said_alone absent_line parts
    else (if bytes_eq word (codes "required") then said_alone required_line parts
    else (if bytes_eq word (codes "closed") then with_number closed_line parts
    else (if bytes_eq word (codes "kinds") then said_alone kinds_line parts
    else (if bytes_eq word (codes "never") then said_alone never_line parts
    else (if bytes_eq word (codes "member") then with_number member_line parts
    else (if bytes_eq word (codes "some") then said_alone some_line parts
    else (if bytes_eq word (codes "places") then option_map places_line (lists_of_places parts) else None))))))))))))))))

abbrev line_of : List (List ℕ) → Option Line
line_of [] = None
line_of (word ∷ parts) = line_with word parts

again : (l : Line) → HasSmallNumbers l → line_of (line_parts l) ≡ Some l
again (certificate_line n) small = ap (option_map certificate_line) (number-written n (one-small n small))
again (split_line n) small = ap (option_map split_line) (number-written n (one-small n small))
again value_line small = refl
again (slot_line ns) small = ap (option_map slot_line) (numbers-written ns (all-within ns small))
again (clauses_line ns) small = ap (option_map clauses_line) (numbers-written ns (all-within ns small))
again (label_line n given) small = label-again n given small
again (reuse_line n) small = ap (option_map reuse_line) (number-written n (one-small n small))
again points_line small = refl
again absent_line small = refl
again required_line small = refl
again (closed_line n) small = ap (option_map closed_line) (number-written n (one-small n small))
again kinds_line small = refl
again never_line small = refl
again (member_line n) small = ap (option_map member_line) (number-written n (one-small n small))
again some_line small = refl
again (places_line lists) small = ap (option_map places_line) (lists-written lists (lists-within lists (lists-small lists small)))

same-line : (l m : Line) → HasSmallNumbers l → HasSmallNumbers m → line_text l ≡ line_text m → l ≡ m
same-line l m first second same =
    let contents = ap content_of same in
    let content : Some (join_with_byte 32 (line_parts l)) ≡ Some (join_with_byte 32 (line_parts m)) =
    sym (content-again (join_with_byte 32 (line_parts l))) ∙ contents ∙ content-again (join_with_byte 32 (line_parts m)) in
    let joined : join_with_byte 32 (line_parts l) ≡ join_with_byte 32 (line_parts m) = cc in
    let parts : line_parts l ≡ line_parts m =
    sym (parts-again (line_parts l) (parts-some l) (parts-free 32 l space first)) ∙ ap (λ t. slice_split (λ b. eqb b 32) t) joined ∙ parts-again (line_parts m) (parts-some m) (parts-free 32 m space second) in
    let lines : Some l ≡ Some m = sym (again l first) ∙ ap line_of parts ∙ again m second in
    cc

same-lines : (ls ms : List Line) → AllSmall ls → AllSmall ms → map line_text ls ≡ map line_text ms → ls ≡ ms
same-lines [] [] first second same = refl
same-lines [] (m ∷ ms) first second same = absurd (cc)
same-lines (l ∷ ls) [] first second same = absurd (cc)
same-lines (l ∷ ls) (m ∷ ms) first second same =
    let front : line_text l ≡ line_text m = cons-front (line_text l) (line_text m) (map line_text ls) (map line_text ms) same in
    let rest : map line_text ls ≡ map line_text ms = cons-rest (line_text l) (line_text m) (map line_text ls) (map line_text ms) same in
    let line = same-line l m (All-head HasSmallNumbers l ls first) (All-head HasSmallNumbers m ms second) front in
    let lines = same-lines ls ms (All-tail HasSmallNumbers l ls first) (All-tail HasSmallNumbers m ms second) rest in
    ap (λ k. k ∷ ls) line ∙ ap (λ r. m ∷ r) lines

-- ---- one refutation for each list of lines

same-states : (set other : List (List (List ℕ))) (a b : List Line) → length set ≡ length other → map places_line set ++ a ≡ map places_line other ++ b → (set ≡ other) × (a ≡ b)
same-states [] [] a b count same = (refl, same)
same-states [] (s ∷ other) a b count same = absurd (omega (arith, count))
same-states (s ∷ set) [] a b count same = absurd (omega (arith, count))
same-states (s ∷ set) (t ∷ other) a b count same =
    let front : places_line s ≡ places_line t = cons-front (places_line s) (places_line t) (map places_line set ++ a) (map places_line other ++ b) same in
    let lists : s ≡ t = cc in
    let rest = same-states set other a b (omega (arith, count)) (cons-rest (places_line s) (places_line t) (map places_line set ++ a) (map places_line other ++ b) same) in
    (ap (λ l. l ∷ set) lists ∙ ap (λ r. t ∷ r) rest.0, rest.1)

same-closed : (set other : List (List (List ℕ))) (a b : List Line) → closed_lines set ++ a ≡ closed_lines other ++ b → (set ≡ other) × (a ≡ b)
same-closed set other a b same =
    let front : closed_line (length set) ≡ closed_line (length other) = cons-front (closed_line (length set)) (closed_line (length other)) (map places_line set ++ a) (map places_line other ++ b) same in
    let count : length set ≡ length other = cc in
    same-states set other a b count (cons-rest (closed_line (length set)) (closed_line (length other)) (map places_line set ++ a) (map places_line other ++ b) same)

same-kind : (p q : KindProof) (a b : List Line) → kind_lines p ++ a ≡ kind_lines q ++ b → (p ≡ q) × (a ≡ b)
same-kind Never Never a b same = (refl, cons-rest never_line never_line a b same)
same-kind Never (Closed other) a b same = absurd (cc)
same-kind (Closed set) Never a b same = absurd (cc)
same-kind (Closed set) (Closed other) a b same = let is = same-closed set other a b same in (ap Closed is.0, is.1)

same-kinds : (p q r s t u v w : KindProof) (a b : List Line) →
    (kind_lines p ++ (kind_lines q ++ (kind_lines r ++ kind_lines s))) ++ a ≡ (kind_lines t ++ (kind_lines u ++ (kind_lines v ++ kind_lines w))) ++ b → (Kinds p q r s ≡ Kinds t u v w) × (a ≡ b)
same-kinds p q r s t u v w a b same =
    let one = same-kind p t ((kind_lines q ++ (kind_lines r ++ kind_lines s)) ++ a) ((kind_lines u ++ (kind_lines v ++ kind_lines w)) ++ b)
    (sym (append_assoc (kind_lines p) (kind_lines q ++ (kind_lines r ++ kind_lines s)) a) ∙ same ∙ append_assoc (kind_lines t) (kind_lines u ++ (kind_lines v ++ kind_lines w)) b) in
    let two = same-kind q u ((kind_lines r ++ kind_lines s) ++ a) ((kind_lines v ++ kind_lines w) ++ b)
    (sym (append_assoc (kind_lines q) (kind_lines r ++ kind_lines s) a) ∙ one.1 ∙ append_assoc (kind_lines u) (kind_lines v ++ kind_lines w) b) in
    let three = same-kind r v (kind_lines s ++ a) (kind_lines w ++ b) (sym (append_assoc (kind_lines r) (kind_lines s) a) ∙ two.1 ∙ append_assoc (kind_lines v) (kind_lines w) b) in
    let four = same-kind s w a b three.1 in
    (ap (λ k. Kinds k q r s) one.0 ∙ ap (λ k. Kinds t k r s) two.0 ∙ ap (λ k. Kinds t u k s) three.0 ∙ ap (λ k. Kinds t u v k) four.0, four.1)

same-slot : (p q : SlotProof) (a b : List Line) → slot_lines p ++ a ≡ slot_lines q ++ b → (p ≡ q) × (a ≡ b)
same-slot Points Points a b same = (refl, cons-rest points_line points_line a b same)
same-slot Absent Absent a b same = (refl, cons-rest absent_line absent_line a b same)
same-slot Required Required a b same = (refl, cons-rest required_line required_line a b same)
same-slot (Word set) (Word other) a b same = let is = same-closed set other a b same in (ap Word is.0, is.1)
same-slot (Kinds p q r s) (Kinds t u v w) a b same = same-kinds p q r s t u v w a b (cons-rest kinds_line kinds_line _ _ same)
same-slot (Member n set) (Member m other) a b same =
    let front : member_line n ≡ member_line m = cons-front (member_line n) (member_line m) (closed_lines set ++ a) (closed_lines other ++ b) same in
    let number : n ≡ m = cc in
    let is = same-closed set other a b (cons-rest (member_line n) (member_line m) (closed_lines set ++ a) (closed_lines other ++ b) same) in
    (ap (λ k. Member k set) number ∙ ap (Member m) is.0, is.1)
same-slot (SomeMember set) (SomeMember other) a b same = let is = same-closed set other a b (cons-rest some_line some_line (closed_lines set ++ a) (closed_lines other ++ b) same) in (ap SomeMember is.0, is.1)
same-slot p q a b same = absurd (cc)

same-node : (p q : Proof) (a b : List Line) → node_lines p ++ a ≡ node_lines q ++ b → (p ≡ q) × (a ≡ b)
same-node (split n y z) (split m v w) a b same =
    let front : split_line n ≡ split_line m = cons-front (split_line n) (split_line m) ((node_lines y ++ node_lines z) ++ a) ((node_lines v ++ node_lines w) ++ b) same in
    let number : n ≡ m = cc in
    let rest = cons-rest (split_line n) (split_line m) ((node_lines y ++ node_lines z) ++ a) ((node_lines v ++ node_lines w) ++ b) same in
    let one = same-node y v (node_lines z ++ a) (node_lines w ++ b) (sym (append_assoc (node_lines y) (node_lines z) a) ∙ rest ∙ append_assoc (node_lines v) (node_lines w) b) in
    let two = same-node z w a b one.1 in
    (ap (λ k. split k y z) number ∙ ap (λ r. split m r z) one.0 ∙ ap (split m v) two.0, two.1)
same-node by_value by_value a b same = (refl, cons-rest value_line value_line a b same)
same-node (by_slot core proof) (by_slot other shown) a b same =
    let front : slot_line core ≡ slot_line other = cons-front (slot_line core) (slot_line other) (slot_lines proof ++ a) (slot_lines shown ++ b) same in
    let cores : core ≡ other = cc in
    let is = same-slot proof shown a b (cons-rest (slot_line core) (slot_line other) (slot_lines proof ++ a) (slot_lines shown ++ b) same) in
    (ap (λ k. by_slot k proof) cores ∙ ap (by_slot other) is.0, is.1)
same-node (by_clauses hints) (by_clauses other) a b same =
    let front : clauses_line hints ≡ clauses_line other = cons-front (clauses_line hints) (clauses_line other) a b same in
    let lists : hints ≡ other = cc in
    (ap by_clauses lists, cons-rest (clauses_line hints) (clauses_line other) a b same)
same-node (label n given p) (label m others q) a b same =
    let front : label_line n given ≡ label_line m others = cons-front (label_line n given) (label_line m others) (node_lines p ++ a) (node_lines q ++ b) same in
    let number : n ≡ m = cc in
    let answers : given ≡ others = cc in
    let is = same-node p q a b (cons-rest (label_line n given) (label_line m others) (node_lines p ++ a) (node_lines q ++ b) same) in
    (ap (λ k. label k given p) number ∙ ap (λ k. label m k p) answers ∙ ap (label m others) is.0, is.1)
same-node (reuse n) (reuse m) a b same =
    let front : reuse_line n ≡ reuse_line m = cons-front (reuse_line n) (reuse_line m) a b same in
    let number : n ≡ m = cc in
    (ap reuse number, cons-rest (reuse_line n) (reuse_line m) a b same)
same-node p q a b same = absurd (cc)

-- ---- one refutation for each text

same-spelling : (version : ℕ) (p q : Proof) → IsSmall version p → IsSmall version q → certificate_text version p ≡ certificate_text version q → p ≡ q
same-spelling version p q first second same =
    let texts = sym (spelled-lines (proof_lines version p) first) ∙ ap lines_of same ∙ spelled-lines (proof_lines version q) second in
    let lines = same-lines (proof_lines version p) (proof_lines version q) first second texts in
    let nodes = cons-rest (certificate_line version) (certificate_line version) (node_lines p) (node_lines q) lines in
    (same-node p q [] [] (append-nil (node_lines p) ∙ nodes ∙ sym (append-nil (node_lines q)))).0

-- a certificate doesn't begin as the answer of a comparison does
other-start : (version : ℕ) (p : Proof) (bytes : List ℕ) → certificate_text version p ≡ verdict_line ++ bytes → ⊥
other-start version p bytes same = let first = ap (λ t. get_or t 0 0) same in absurd (omega (arith, first))

pub one_proof_for_each_text : OneProofForEachText
one_proof_for_each_text version bytes p q first second (inl is) (inl other) = same-spelling version p q first second (sym is ∙ other)
one_proof_for_each_text version bytes p q first second (inl is) (inr other) = absurd (other-start version p (certificate_text version q) (sym is ∙ other))
one_proof_for_each_text version bytes p q first second (inr is) (inl other) = absurd (other-start version q (certificate_text version p) (sym other ∙ is))
one_proof_for_each_text version bytes p q first second (inr is) (inr other) = same-spelling version p q first second (ap (drop (length verdict_line)) (sym is ∙ other))
