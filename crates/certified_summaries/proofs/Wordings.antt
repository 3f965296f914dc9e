-- Findings by the texts of their predicates.
use Rattle.std.proofs.Common.{◌≡◌, ◌≢◌, ◌<◌, ◌≤◌, ◌+◌, ℕ, zero, suc, List, [], ◌∷◌, ◌++◌, length, map, take, slice_get, All, get_or, Some, None, refl, sym, ap, ◌∙◌, subst, arith, inl, inr}
use Rattle.std.specs.Prelude.{String, string_bytes, bytes_eq, true, false}
use Rattle.std.proofs.lemmas.Slice.Eq.{bytes_eq-Decides}
use Rattle.std.specs.Str.{IsUtf8}
use Rattle.std.proofs.Math.Seq.{take-length}
use Rattle.std.proofs.lemmas.Bool.{cases_lt}
use Rattle.std.proofs.lemmas.List.{length-map, map-append, map_more, take_more}
use Rattle.std.proofs.lemmas.List.Elements.{All-nil, All-cons, All-append, All-head, All-tail}
use Rattle.std.proofs.lemmas.Option.{get_or_from_slice_get, slice_get_within}
use Rattle.serde_json.specs.Data.{Data, array, depth, items_depth, string}
use Rattle.serde_json.specs.Read.{max_depth}
use Rattle.serde_json.specs.View.{items_of, view}
use Rattle.serde_json.specs.Written.{compact_text}
use Rattle.serde_json.specs.declared.value.Value.{Value}
use Rattle.command_words.specs.Asked.{texts_in}
use Rattle.json_shapes.specs.Json.{json_of, values_in, values_of, views}
use Rattle.json_shapes.specs.Spelled.{CompactTextsAreReadAgain, ItemsAreSpelled}
use Rattle.strata.specs.declared.predicate.Predicate.{Predicate}
use Rattle.strata.specs.declared.stratum.Stratum.{Stratum}
use Rattle.strata.specs.Covers.{predicate_at}
use Rattle.findings.specs.Findings.{IsFinding}
use Rattle.findings.specs.Texts.{finding_data, finding_text, number_text, predicate_text, predicate_texts}
use Rattle.certified_summaries.specs.Reading.{AreTextsOf, IsFindingIn, IsFindingOf, IsNumberIn, IsNumberable, texts_of_dimension}

-- ---- items of lists

-- the item of an index, of the images of a list
pub at-map : {X Y : Type 0} (h : X → Y) (xs : List X) (i : ℕ) (x : X) → slice_get xs i ≡ Some x → slice_get (map h xs) i ≡ Some (h x)
at-map h [] i x e = absurd (cc)
at-map h (y ∷ xs) zero x e = let same : y ≡ x = cc in ap (λ z. Some (h z)) same
at-map h (y ∷ xs) (suc i) x e = at-map h xs i x e

some-same : {X : Type 0} (x y : X) → Some x ≡ Some y → x ≡ y
some-same x y e = cc

-- a list's items up to one more
pub take-next : {X : Type 0} (xs : List X) (i : ℕ) (x : X) → slice_get xs i ≡ Some x → take (i + 1) xs ≡ take i xs ++ x ∷ []
take-next xs i x e = take_more xs i x (slice_get_within xs i x e) ∙ ap (λ y. take i xs ++ y ∷ []) (get_or_from_slice_get xs i x x e)

-- ---- tables of texts

-- one text more
pub texts-more : {Z : Type 0} {X : Type 0} (h : X → List ℕ) (xs : List X) (i : ℕ) (x : X) (texts more : List (String Z)) (s : String Z) → i < length xs → x ≡ get_or xs i x → texts_in texts ≡ map h (take i xs) → string_bytes s ≡ h x → more ≡ texts ++ s ∷ [] → texts_in more ≡ map h (take (i + 1) xs)
texts-more {Z} h xs i x texts more s within at before is grows =
    ap (λ (ts : List (String Z)). texts_in ts) grows ∙ map-append (λ (t : String Z). string_bytes t) texts (s ∷ []) ∙
    ap (λ (ts : List (List ℕ)). ts ++ string_bytes s ∷ []) before ∙
    ap (λ (t : List ℕ). map h (take i xs) ++ t ∷ []) (is ∙ ap h at) ∙ sym (map_more h xs i x within)

pub utf8-more : {Z : Type 0} (texts more : List (String Z)) (s : String Z) → All IsUtf8 (texts_in texts) → IsUtf8 (string_bytes s) → more ≡ texts ++ s ∷ [] → All IsUtf8 (texts_in more)
utf8-more {Z} texts more s before utf8 grows =
    subst (λ (ts : List (List ℕ)). All IsUtf8 ts) (sym (ap (λ (ts : List (String Z)). texts_in ts) grows ∙ map-append (λ (t : String Z). string_bytes t) texts (s ∷ [])))
    (All-append IsUtf8 (texts_in texts) (string_bytes s ∷ []) before (All-cons IsUtf8 (string_bytes s) [] utf8 (All-nil IsUtf8)))

-- texts that are compared
pub same-text : (a b : List ℕ) → true ≡ bytes_eq a b → a ≡ b
same-text a b e = (bytes_eq-Decides a b).0 (sym e)

pub other-text : (a b : List ℕ) → false ≡ bytes_eq a b → a ≡ b → ⊥
other-text a b e is = let same : bytes_eq a b ≡ true = (bytes_eq-Decides a b).1 is in absurd (cc)

-- the text of an index
pub texts-at : {Z : Type 0} (texts : List (String Z)) (i : ℕ) (s : String Z) → i < length texts → s ≡ get_or texts i s → slice_get (texts_in texts) i ≡ Some (string_bytes s)
texts-at [] i s within is = absurd (omega arith)
texts-at {Z} (t ∷ texts) zero s within is = ap (λ (x : String Z). Some (string_bytes x)) (sym is)
texts-at (t ∷ texts) (suc i) s within is = texts-at texts i s (omega arith) is

-- a text that isn't the one of an index, nor one before it
pub others-more : (texts : List (List ℕ)) (i : ℕ) (here text : List ℕ) → slice_get texts i ≡ Some here → (here ≡ text → ⊥) → ((k : ℕ) → k < i → slice_get texts k ≢ Some text) → (k : ℕ) → k < i + 1 → slice_get texts k ≢ Some text
others-more texts i here text at other before k within is = elim (cases_lt k i) [
  | inl less ↦ before k less is
  | inr more ↦ (let same : k ≡ i = omega arith in other (some-same here text (sym at ∙ ap (slice_get texts) (sym same) ∙ is)))
]

pub others-all : {Z : Type 0} (texts : List (String Z)) (i : ℕ) (text : List ℕ) → length texts ≤ i → ((k : ℕ) → k < i → slice_get (texts_in texts) k ≢ Some text) → (n : ℕ) → slice_get (texts_in texts) n ≢ Some text
others-all {Z} texts i text past before n is =
    let within : n < length texts = subst (λ (k : ℕ). n < k) (length-map texts (λ (s : String Z). string_bytes s)) (slice_get_within (texts_in texts) n text is) in
    before n (omega arith) is

-- ---- the numbers and texts of a finding

-- the predicate of a number that is in range
predicate-there : (ps : List Predicate) (n : ℕ) → n < length ps → slice_get ps n ≡ Some (predicate_at ps n)
predicate-there [] n h = absurd (omega arith)
predicate-there (p ∷ ps) zero h = refl
predicate-there (p ∷ ps) (suc n) h = predicate-there ps n (omega arith)

-- its text
pub text-there : (d : Stratum) (n : ℕ) → n < length d.predicates → slice_get (texts_of_dimension d) n ≡ Some (number_text d n)
text-there d n h = at-map predicate_text d.predicates n (predicate_at d.predicates n) (predicate-there d.predicates n h)

-- what a finding has in the dimension of an index
record HasAt (ds : List Stratum) (f : List ℕ) (i : ℕ) (d : Stratum) : Type 0 where
  number : ℕ
  within : number < length d.predicates
  text : slice_get (predicate_texts ds f) i ≡ Some (number_text d number)

has-at : (ds : List Stratum) (f : List ℕ) (i : ℕ) (d : Stratum) → IsFinding ds f → slice_get ds i ≡ Some d → HasAt ds f i d
has-at [] f i d is e = absurd (cc)
has-at (x ∷ ds) [] i d is e = absurd is
has-at (x ∷ ds) (n ∷ f) zero d is e =
    let same : x ≡ d = cc in
    record { number = n; within = subst (λ (y : Stratum). n < length y.predicates) same is.0; text = ap (λ (y : Stratum). Some (number_text y n)) same }
has-at (x ∷ ds) (n ∷ f) (suc i) d is e =
    let more = has-at ds f i d is.1 e in
    record { number = more.number; within = more.within; text = more.text }

-- one more dimension
pub finding-next : (ds : List Stratum) (f : List ℕ) (d : Stratum) (n : ℕ) → IsFinding ds f → n < length d.predicates → IsFinding (ds ++ d ∷ []) (f ++ n ∷ [])
finding-next [] [] d n is h = (h, tt)
finding-next [] (m ∷ f) d n is h = absurd is
finding-next (x ∷ ds) [] d n is h = absurd is
finding-next (x ∷ ds) (m ∷ f) d n is h = (is.0, finding-next ds f d n is.1 h)

pub texts-next : (ds : List Stratum) (f : List ℕ) (d : Stratum) (n : ℕ) → IsFinding ds f → predicate_texts (ds ++ d ∷ []) (f ++ n ∷ []) ≡ predicate_texts ds f ++ number_text d n ∷ []
texts-next [] [] d n is = refl
texts-next [] (m ∷ f) d n is = absurd is
texts-next (x ∷ ds) [] d n is = absurd is
texts-next (x ∷ ds) (m ∷ f) d n is = ap (λ (ts : List (List ℕ)). number_text x m ∷ ts) (texts-next ds f d n is.1)

-- ---- values that are texts

-- where the value of a dimension is the text of none of its predicates, no finding has these texts
pub none-in : (ds : List Stratum) (values : List Value) (i : ℕ) (d : Stratum) (v : Value) → slice_get ds i ≡ Some d → slice_get values i ≡ Some v → IsNumberIn (texts_of_dimension d) (view v) None → IsFindingIn ds values None
none-in ds values i d v at here none f is same =
    let has = has-at ds f i d is at in
    let one : slice_get (views values) i ≡ Some (view v) = at-map view values i v here in
    let other : slice_get (map string (predicate_texts ds f)) i ≡ Some (string (number_text d has.number)) = at-map string (predicate_texts ds f) i (number_text d has.number) has.text in
    none has.number (number_text d has.number) (text-there d has.number has.within)
    (some-same (view v) (string (number_text d has.number)) (sym one ∙ ap (λ (xs : List Data). slice_get xs i) same ∙ other))

texts-count : (ds : List Stratum) (f : List ℕ) → IsFinding ds f → length (predicate_texts ds f) ≡ length ds
texts-count [] [] is = refl
texts-count [] (n ∷ f) is = absurd is
texts-count (d ∷ ds) [] is = absurd is
texts-count (d ∷ ds) (n ∷ f) is = ap suc (texts-count ds f is.1)

-- nor where there are more values, or fewer
pub none-long : (ds : List Stratum) (values : List Value) → (length values ≡ length ds → ⊥) → IsFindingIn ds values None
none-long ds values other f is same =
    other (sym (length-map values view) ∙ ap length same ∙ length-map (predicate_texts ds f) string ∙ texts-count ds f is)

-- what is known of the values of the first dimensions
pub record IsFindingSoFar (ds : List Stratum) (values : List Value) (i : ℕ) (f : List ℕ) : Type 0 where
  pub finding : IsFinding (take i ds) f
  pub are : views (take i values) ≡ map string (predicate_texts (take i ds) f)

pub so-far-none : (ds : List Stratum) (values : List Value) → IsFindingSoFar ds values 0 []
so-far-none ds values = record { finding = tt; are = refl }

-- the text of a number is that of its predicate
text-is : (d : Stratum) (n : ℕ) (text : List ℕ) → slice_get (texts_of_dimension d) n ≡ Some text → (n < length d.predicates) × (text ≡ number_text d n)
text-is d n text at =
    let within : n < length d.predicates = subst (λ (k : ℕ). n < k) (length-map d.predicates predicate_text) (slice_get_within (texts_of_dimension d) n text at) in
    (within, some-same text (number_text d n) (sym at ∙ text-there d n within))

pub so-far-more : (ds : List Stratum) (values : List Value) (i n : ℕ) (f g : List ℕ) (d : Stratum) (v : Value) → slice_get ds i ≡ Some d → slice_get values i ≡ Some v → IsNumberIn (texts_of_dimension d) (view v) (Some n) →
    IsFindingSoFar ds values i f → g ≡ f ++ n ∷ [] → IsFindingSoFar ds values (i + 1) g
so-far-more ds values i n f g d v at here (text, there, is) before grows =
    let own = text-is d n text there in
    let dims = take-next ds i d at in
    record {
      finding =
          subst (λ (xs : List Stratum). IsFinding xs g) (sym dims) (subst (IsFinding (take i ds ++ d ∷ [])) (sym grows) (finding-next (take i ds) f d n before.finding own.0));
      are =
          ap views (take-next values i v here) ∙ map-append view (take i values) (v ∷ []) ∙
          ap (λ (xs : List Data). xs ++ view v ∷ []) before.are ∙
          ap (λ (x : Data). map string (predicate_texts (take i ds) f) ++ x ∷ []) (is ∙ ap string own.1) ∙
          sym (map-append string (predicate_texts (take i ds) f) (number_text d n ∷ [])) ∙
          ap (map string) (sym (texts-next (take i ds) f d n before.finding)) ∙
          ap (λ (xs : List Stratum). map string (predicate_texts xs (f ++ n ∷ []))) (sym dims) ∙
          ap (λ (h : List ℕ). map string (predicate_texts (take (i + 1) ds) h)) (sym grows);
    }

-- ---- texts of findings are read as lists of texts

values-again : (ts : List (List ℕ)) → values_of (items_of (map string ts)) ≡ map string ts
values-again [] = refl
values-again (t ∷ ts) = ap (λ (xs : List Data). string t ∷ xs) (values-again ts)

items-spelled : (ts : List (List ℕ)) → All IsUtf8 ts → ItemsAreSpelled (items_of (map string ts))
items-spelled [] utf8 = tt
items-spelled (t ∷ ts) utf8 = (All-head IsUtf8 t ts utf8, items-spelled ts (All-tail IsUtf8 t ts utf8))

flat-items : (ts : List (List ℕ)) → items_depth (items_of (map string ts)) ≡ 0
flat-items [] = refl
flat-items (t ∷ ts) = omega (arith, flat-items ts)

shallow : (ts : List (List ℕ)) → depth (array (items_of (map string ts))) ≤ max_depth
shallow ts = omega (arith, flat-items ts)

all-there : {X : Type 0} (P : X → Type 0) (xs : List X) (i : ℕ) (x : X) → All P xs → slice_get xs i ≡ Some x → P x
all-there P [] i x all e = absurd (cc)
all-there P (y ∷ xs) zero x all e = let same : y ≡ x = cc in subst P same (All-head P y xs all)
all-there P (y ∷ xs) (suc i) x all e = all-there P xs i x (All-tail P y xs all) e

-- the texts of a finding's predicates are of UTF-8 where those of all predicates are
texts-utf8 : (ds : List Stratum) (f : List ℕ) → All (λ d. All IsUtf8 (texts_of_dimension d)) ds → IsFinding ds f → All IsUtf8 (predicate_texts ds f)
texts-utf8 [] f utf8 is = All-nil IsUtf8
texts-utf8 (d ∷ ds) [] utf8 is = absurd is
texts-utf8 (d ∷ ds) (n ∷ f) utf8 is =
    let P : Stratum → Type 0 = λ x. All IsUtf8 (texts_of_dimension x) in
    All-cons IsUtf8 (number_text d n) (predicate_texts ds f)
    (all-there IsUtf8 (texts_of_dimension d) n (number_text d n) (All-head P d ds utf8) (text-there d n is.0))
    (texts-utf8 ds f (All-tail P d ds utf8) is.1)

-- that of a table of texts is that of the predicates
table-utf8 : {Z : Type 0} (ds : List Stratum) (table : List (List (String Z))) → map (λ texts. texts_in texts) table ≡ map texts_of_dimension ds → All (λ texts. All IsUtf8 (texts_in texts)) table → All (λ d. All IsUtf8 (texts_of_dimension d)) ds
table-utf8 [] table are utf8 = All-nil (λ d. All IsUtf8 (texts_of_dimension d))
table-utf8 (d ∷ ds) [] are utf8 = absurd (cc)
table-utf8 {Z} (d ∷ ds) (texts ∷ table) are utf8 =
    let P : List (String Z) → Type 0 = λ ts. All IsUtf8 (texts_in ts) in
    let first : texts_in texts ≡ texts_of_dimension d = cc in
    let rest : map (λ (ts : List (String Z)). texts_in ts) table ≡ map texts_of_dimension ds = cc in
    All-cons (λ x. All IsUtf8 (texts_of_dimension x)) d ds (subst (All IsUtf8) first (All-head P texts table utf8)) (table-utf8 ds table rest (All-tail P texts table utf8))

-- the text of a finding is read as the list of its texts
finding-read : CompactTextsAreReadAgain → {Z : Type 0} (ds : List Stratum) (table : List (List (String Z))) (f : List ℕ) → AreTextsOf ds table → IsFinding ds f → json_of (finding_text ds f) ≡ Some (finding_data ds f)
finding-read law ds table f of is =
    (law (finding_data ds f) (items-spelled (predicate_texts ds f) (texts-utf8 ds f (table-utf8 ds table of.are of.utf8) is)) (shallow (predicate_texts ds f))).alone

-- what is no JSON is the text of no finding
pub none-json : CompactTextsAreReadAgain → {Z : Type 0} (ds : List Stratum) (table : List (List (String Z))) (text : List ℕ) → AreTextsOf ds table → json_of text ≡ None → IsFindingOf ds text None
none-json law ds table text of none f is same =
    let some = ap json_of same ∙ finding-read law ds table f of is in
    absurd (cc)

-- the values of a text that is read
values-are : CompactTextsAreReadAgain → {Z : Type 0} (ds : List Stratum) (table : List (List (String Z))) (text : List ℕ) (d : Data) (f : List ℕ) → AreTextsOf ds table → json_of text ≡ Some d → IsFinding ds f → text ≡ finding_text ds f → values_in d ≡ map string (predicate_texts ds f)
values-are law ds table text d f of read is same =
    let whole : d ≡ finding_data ds f = some-same d (finding_data ds f) (sym read ∙ ap json_of same ∙ finding-read law ds table f of is) in
    ap values_in whole ∙ values-again (predicate_texts ds f)

-- where no finding has the texts of a list, the text of the list is that of none
pub none-values : CompactTextsAreReadAgain → {Z : Type 0} (ds : List Stratum) (table : List (List (String Z))) (text : List ℕ) (d : Data) (values : List Value) → AreTextsOf ds table → json_of text ≡ Some d → views values ≡ values_in d → IsFindingIn ds values None → IsFindingOf ds text None
none-values law ds table text d values of read viewed none f is same =
    none f is (viewed ∙ values-are law ds table text d f of read is same)

-- nor is another text than that of the finding that has them
pub none-written : CompactTextsAreReadAgain → {Z : Type 0} (ds : List Stratum) (table : List (List (String Z))) (text : List ℕ) (d : Data) (values : List Value) (g : List ℕ) → AreTextsOf ds table → json_of text ≡ Some d → views values ≡ values_in d → IsFindingIn ds values (Some g) → (finding_text ds g ≡ text → ⊥) → IsFindingOf ds text None
none-written law ds table text d values g of read viewed has other f is same =
    other (ap (λ (xs : List Data). compact_text (array (items_of xs))) (sym has.1 ∙ viewed ∙ values-are law ds table text d f of read is same) ∙ sym same)

-- ---- tables

-- the texts of one dimension more
pub record IsTableSoFar {Z : Type 0} (ds : List Stratum) (i : ℕ) (table : List (List (String Z))) : Type 0 where
  pub are : map (λ texts. texts_in texts) table ≡ map texts_of_dimension (take i ds)
  pub utf8 : All (λ texts. All IsUtf8 (texts_in texts)) table
  pub few : All IsNumberable table

pub table-none : {Z : Type 0} (ds : List Stratum) → IsTableSoFar {Z = Z} ds 0 []
table-none {Z} ds = record { are = refl; utf8 = All-nil (λ (ts : List (String Z)). All IsUtf8 (texts_in ts)); few = All-nil IsNumberable }

pub table-more : {Z : Type 0} (ds : List Stratum) (i : ℕ) (d : Stratum) (table more : List (List (String Z))) (texts : List (String Z)) → i < length ds → d ≡ get_or ds i d → All (λ x. IsNumberable x.predicates) ds → IsTableSoFar ds i table → texts_in texts ≡ texts_of_dimension d → All IsUtf8 (texts_in texts) → more ≡ table ++ texts ∷ [] → IsTableSoFar ds (i + 1) more
table-more {Z} ds i d table more texts within at few before is utf8 grows =
    let P : List (String Z) → Type 0 = λ ts. All IsUtf8 (texts_in ts) in
    let N : List (String Z) → Type 0 = IsNumberable in
    let long : length texts ≡ length d.predicates = sym (length-map texts (λ (s : String Z). string_bytes s)) ∙ ap length is ∙ length-map d.predicates predicate_text in
    let own : IsNumberable d.predicates = subst (λ (x : Stratum). IsNumberable x.predicates) (sym at) (few i d within) in
    let short : N texts = omega (arith, long, own) in
    record {
      are =
          ap (λ (t : List (List (String Z))). map (λ ts. texts_in ts) t) grows ∙ map-append (λ (ts : List (String Z)). texts_in ts) table (texts ∷ []) ∙
          ap (λ (t : List (List (List ℕ))). t ++ texts_in texts ∷ []) before.are ∙
          ap (λ (t : List (List ℕ)). map texts_of_dimension (take i ds) ++ t ∷ []) (is ∙ ap texts_of_dimension at) ∙ sym (map_more texts_of_dimension ds i d within);
      utf8 = subst (All P) (sym grows) (All-append P table (texts ∷ []) before.utf8 (All-cons P texts [] utf8 (All-nil P)));
      few = subst (All N) (sym grows) (All-append N table (texts ∷ []) before.few (All-cons N texts [] short (All-nil N)));
    }

pub table-all : {Z : Type 0} (ds : List Stratum) (i : ℕ) (table : List (List (String Z))) → i ≡ length ds → IsTableSoFar ds i table → AreTextsOf ds table
table-all ds i table all is = record { are = is.are ∙ ap (map texts_of_dimension) (ap (λ (k : ℕ). take k ds) all ∙ take-length ds); utf8 = is.utf8; few = is.few }

-- a table has a row for each dimension
pub table-long : {Z : Type 0} (ds : List Stratum) (table : List (List (String Z))) → AreTextsOf ds table → length table ≡ length ds
table-long {Z} ds table of = sym (length-map table (λ (ts : List (String Z)). texts_in ts)) ∙ ap length of.are ∙ length-map ds texts_of_dimension

-- ---- one dimension

there : {X : Type 0} (xs : List X) (i : ℕ) (x : X) → i < length xs → x ≡ get_or xs i x → slice_get xs i ≡ Some x
there [] i x within is = absurd (omega arith)
there (y ∷ xs) zero x within is = ap Some (sym is)
there (y ∷ xs) (suc i) x within is = there xs i x (omega arith) is

-- an item whose image stands at an index
record HasImage {X Y : Type 0} (h : X → Y) (xs : List X) (i : ℕ) (y : Y) : Type 0 where
  item : X
  at : slice_get xs i ≡ Some item
  is : y ≡ h item

from-map : {X Y : Type 0} (h : X → Y) (xs : List X) (i : ℕ) (y : Y) → slice_get (map h xs) i ≡ Some y → HasImage h xs i y
from-map h [] i y e = absurd (cc)
from-map h (x ∷ xs) zero y e = record { item = x; at = refl; is = some-same y (h x) (sym e) }
from-map h (x ∷ xs) (suc i) y e = let more = from-map h xs i y e in record { item = more.item; at = more.at; is = more.is }

row-at : {Z : Type 0} (ds : List Stratum) (table : List (List (String Z))) (i : ℕ) (row : List (String Z)) → AreTextsOf ds table → i < length table → row ≡ get_or table i row → HasImage texts_of_dimension ds i (texts_in row)
row-at {Z} ds table i row of within is =
    from-map texts_of_dimension ds i (texts_in row)
    (ap (λ (tss : List (List (List ℕ))). slice_get tss i) (sym of.are) ∙ at-map (λ (ts : List (String Z)). texts_in ts) table i row (there table i row within is))

-- a value that is the text of none of the dimension's predicates
pub dimension-none : {Z : Type 0} (ds : List Stratum) (table rows : List (List (String Z))) (values : List Value) (i : ℕ) (row texts : List (String Z)) (v : Value) → AreTextsOf ds table → rows ≡ table → i < length rows → row ≡ get_or rows i row → texts ≡ row → i < length values → v ≡ get_or values i v → IsNumberIn (texts_in texts) (view v) None → IsFindingIn ds values None
dimension-none {Z} ds table rows values i row texts v of same within is copied inside at none =
    let own : AreTextsOf ds rows = subst (AreTextsOf ds) (sym same) of in
    let d = row-at ds rows i row own within is in
    none-in ds values i d.item v d.at (there values i v inside at)
    (subst (λ (ts : List (List ℕ)). IsNumberIn ts (view v) None) (ap (λ (ts : List (String Z)). texts_in ts) copied ∙ d.is) none)

pub dimension-more : {Z : Type 0} (ds : List Stratum) (table rows : List (List (String Z))) (values : List Value) (i n : ℕ) (row texts : List (String Z)) (v : Value) (f g : List ℕ) → AreTextsOf ds table → rows ≡ table → i < length rows → row ≡ get_or rows i row → texts ≡ row → i < length values → v ≡ get_or values i v → IsNumberIn (texts_in texts) (view v) (Some n) →
    IsFindingSoFar ds values i f → g ≡ f ++ n ∷ [] → IsFindingSoFar ds values (i + 1) g
dimension-more {Z} ds table rows values i n row texts v f g of same within is copied inside at some before grows =
    let own : AreTextsOf ds rows = subst (AreTextsOf ds) (sym same) of in
    let d = row-at ds rows i row own within is in
    so-far-more ds values i n f g d.item v d.at (there values i v inside at)
    (subst (λ (ts : List (List ℕ)). IsNumberIn ts (view v) (Some n)) (ap (λ (ts : List (String Z)). texts_in ts) copied ∙ d.is) some) before grows
