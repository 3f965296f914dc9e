-- The text of an option of numbers writes a number in the option's range.
use Rattle.std.proofs.Common.{zero, suc, ◌≡◌, ◌∙◌, ◌&&◌, ◌==◌, ◌<◌, ◌≤◌, ℕ, Bool, true, false, not, cond, inl, inr, arith, refl, sym, ap, subst, codes, length, List, [], ◌∷◌, map, Option, Some, None}
use Rattle.std.specs.Prelude.{IfSome, option_map, pos, slice_get, unwrap_or}
use Rattle.std.specs.Borrow.{Bor}
use Rattle.std.specs.List.{All, list_all, slice_index_or}
use Rattle.std.specs.Str.{bytes_eq}
use Rattle.std.specs.Str.Parse.{IsNumeral, starts_with_minus, without_leading_plus}
use Rattle.std.proofs.lemmas.Bool.{cases_lt, eqb-true}
use Rattle.std.proofs.lemmas.Int.{ints}
use Rattle.std.proofs.lemmas.List.{get_or-map, length-map, nil_from_length}
use Rattle.std.proofs.lemmas.Slice.Eq.{bytes_eq-Decides}
use Rattle.clap.specs.Built.{BuildsTo, IsAuto, IsParsedFrom, SameRules}
use Rattle.clap.specs.Facts.{Entry, EntryPasses, HasReading, PassesArg, ValuesPass, args_of, groups_of, parser_of, parser_of_value}
use Rattle.clap.specs.Lexer.{without_minus}
use Rattle.clap.specs.Matches.{found_of, matched_of, one_text}
use Rattle.clap.specs.Simple.{App, app_of, has_plain_fields}
use Rattle.clap.specs.Values.{Accepts, IsSignedIn, read_as, reading_of}
use Rattle.clap.specs.Walk.{Rule, rule_of}
use Rattle.clap.specs.declared.builder.arg.Arg.{Arg}
use Rattle.clap.specs.declared.builder.command.Command.{Command}
use Rattle.clap.specs.declared.builder.command.Command.TheViews.{out-Command}
use Rattle.clap.specs.declared.builder.value_parser.Reading.{Reading}
use Rattle.clap.specs.declared.builder.value_parser.ValueParser.{ValueParser}
use Rattle.clap.specs.declared.builder.value_parser.ValueParser.TheVariants.{Signed}
use Rattle.clap.specs.declared.parser.matches.ArgMatches.{ArgMatches}
use Rattle.clap.specs.declared.parser.matches.Found.{Found}
use Rattle.clap.specs.declared.parser.matches.MatchedArg.{MatchedArg}
use Rattle.clap.proofs.CallerLemmas.{entry_by_id}
use Rattle.command_words.specs.Asked.{written_number}
use Rattle.command_words.specs.Parsing.{HasNumberUpTo}

-- a text that the parser took, as it is read
abbrev Reads : ValueParser → List ℕ → Type 0
Reads q t = (raw : List ℕ) × (t ≡ read_as (reading_of q) raw) × Accepts false q raw

-- each rule of this id has the parser
abbrev pub HasParser : List ℕ → ValueParser → Rule → Type 0
HasParser id q r = bytes_eq r.id id ≡ true → (r.parser ≡ Some q) × (r.ignore_case ≡ false)

-- and so has each argument of the command
abbrev ArgsTake : Command → List ℕ → ValueParser → Type 0
ArgsTake c id q = (j : ℕ) (x : Arg) → j < length (args_of c) → slice_index_or (args_of c) j x ≡ x → bytes_eq x.id.now id ≡ true
    → (parser_of x ≡ q) × (x.ignore_case ≡ false)

-- ---- one entry

first_read : (q : ValueParser) (how : Reading) (vs : List (Bor (List ℕ))) → how ≡ reading_of q → All (λ v. Accepts false q v.now) vs
    → IfSome (option_map (λ s. read_as how s.now) (slice_get vs 0)) (Reads q)
first_read q how [] is all = tt
first_read q how (v ∷ vs) is all = (v.now, ap (λ h. read_as h v.now) is, all 0 v (omega arith))

passes : (c : Command) (id v : List ℕ) (q : ValueParser) → ArgsTake c id q → PassesArg c id v → Accepts false q v
passes c id v q take any =
    let facts = take any.0 any.1 any.2 any.3 any.4.0 in
    let as_q : Accepts any.1.ignore_case q v = subst (λ (w : ValueParser). Accepts any.1.ignore_case w v) facts.0 any.4.1 in
    subst (λ (b : Bool). Accepts b q v) facts.1 as_q

reads : (c : Command) (id : List ℕ) (q : ValueParser) (how : Reading) → ArgsTake c id q → HasReading c id how → how ≡ reading_of q
reads c id q how take any = sym any.4.1 ∙ ap reading_of (take any.0 any.1 any.2 any.3 any.4.0).0

entry_read : (c : Command) (id : List ℕ) (q : ValueParser) (x : MatchedArg) (e : Entry) → groups_of c ≡ [] → (id ≡ [] → ⊥) → ArgsTake c id q
    → e.1 ≡ x → e.0.now ≡ id → EntryPasses c e → IfSome (option_map (λ s. read_as x.reading s.now) (slice_get x.vals.items 0)) (Reads q)
entry_read c id q x e none named take same key pass =
    let no_group : e.1.is_group ≡ true → ⊥ = λ g. elim (pass.3 g) [
      | inl empty ↦ named (sym key ∙ empty)
      | inr lots ↦
          let bad : 0 < 0 = rw none at lots in
          absurd (omega arith)
    ] in
    let all : All (λ v. PassesArg c id v.now) x.vals.items = elim pass.0 [
      | inl g ↦ absurd (no_group g)
      | inr vals ↦ subst (λ (w : List ℕ). All (λ v. PassesArg c w v.now) x.vals.items) key (rw same at vals)
    ] in
    let is : e.1.reading ≡ reading_of q = elim pass.4 [
      | inl g ↦ absurd (no_group g)
      | inr h ↦ reads c id q e.1.reading take (subst (λ (w : List ℕ). HasReading c w e.1.reading) key h)
    ] in
    first_read q x.reading x.vals.items (ap (λ (y : MatchedArg). y.reading) (sym same) ∙ is)
    (λ k d lt. passes c id _ q take (all k d lt))

text_read : (c : Command) (f : Found) (id : List ℕ) (q : ValueParser) → ValuesPass c f → groups_of c ≡ [] → (id ≡ [] → ⊥) → ArgsTake c id q
    → IfSome (one_text f id) (Reads q)
text_read c f id q values none named take = go (matched_of f id) refl
  where
    go : (o : Option MatchedArg) → matched_of f id ≡ o → IfSome (one_text f id) (Reads q)
    go None e = rw e tt
    go (Some x) e =
        let got = entry_by_id (EntryPasses c) f.entries.items id x values e in
        rw e (entry_read c id q x got.0 none named take got.1 ((bytes_eq-Decides got.0.0.now id).0 got.2) got.3)

-- ---- the command that was built

rule_at : (xs : List Arg) (id : List ℕ) (q : ValueParser) (j : ℕ) (x : Arg) → All (HasParser id q) (map rule_of xs) → j < length xs
    → bytes_eq (slice_index_or xs j x).id.now id ≡ true
    → ((slice_index_or xs j x).value_parser ≡ Some q) × ((slice_index_or xs j x).ignore_case ≡ false)
rule_at xs id q j x all lt same =
    let at : slice_index_or (map rule_of xs) j (rule_of x) ≡ rule_of (slice_index_or xs j x) = get_or-map rule_of xs j x (rule_of x) lt in
    subst (HasParser id q) at (all j (rule_of x) (omega (arith, length-map {A = Arg} {B = Rule}))) same

own_takes : (a x : Arg) (id : List ℕ) (q : ValueParser) → SameRules a x → bytes_eq x.id.now id ≡ true
    → (bytes_eq a.id.now id ≡ true → (a.value_parser ≡ Some q) × (a.ignore_case ≡ false)) → (parser_of x ≡ q) × (x.ignore_case ≡ false)
own_takes a x id q s same rule =
    let has = rule (rw (← s.id) same) in
    (ap parser_of_value (s.parser q has.0), s.ignore_case ∙ has.1)

built_takes : (old built : Command) (id : List ℕ) (q : ValueParser) → BuildsTo old built → All (HasParser id q) (map rule_of (args_of old))
    → (id ≡ codes "help" → ⊥) → (id ≡ codes "version" → ⊥) → ArgsTake built id q
built_takes old built id q from all help version j x high at same =
    let key : x.id.now ≡ id = (bytes_eq-Decides x.id.now id).0 same in
    elim (cases_lt j (length (args_of old))) [
      | inl under ↦
          let s = subst (λ w. SameRules (slice_index_or (args_of old) j x) w) at (from.kept j x under).1 in
          own_takes (slice_index_or (args_of old) j x) x id q s same (rule_at (args_of old) id q j x all under)
      | inr over ↦ elim (subst IsAuto at (from.extra j x over high)) [
        | inl h ↦ absurd (help (sym key ∙ h))
        | inr h ↦ absurd (version (sym key ∙ h))
      ]
    ]

-- ---- what the command's form says of it

first_of_both : (a b : Bool) → (a && b) ≡ true → a ≡ true
first_of_both true b e = refl
first_of_both false b e = e

second_of_both : (a b : Bool) → (a && b) ≡ true → b ≡ true
second_of_both true b e = e
second_of_both false b e = cc

false_if_not : (a : Bool) → not a ≡ true → a ≡ false
false_if_not true e = sym e
false_if_not false e = refl

empty_is_nil : {X : Type 0} (xs : List X) → (length xs == 0) ≡ true → xs ≡ []
empty_is_nil xs e = nil_from_length xs (eqb-true (length xs) 0 e)

has_no_globals : (c : Command) → has_plain_fields (out-Command c) ≡ true → (out-Command c).has_globals ≡ false
has_no_globals c plain = false_if_not _ (first_of_both _ _ (second_of_both _ _ (second_of_both _ _ plain)))

has_no_groups : (c : Command) → has_plain_fields (out-Command c) ≡ true → groups_of c ≡ []
has_no_groups c plain = empty_is_nil _ (first_of_both _ _ plain)

names_no_group : (xs : List Arg) → list_all (λ r. r.is_simple) (map rule_of xs) ≡ true → (k : ℕ) (d : Arg) → k < length xs
    → (slice_index_or xs k d).groups.items ≡ []
names_no_group [] simple k d lt = absurd (omega arith)
names_no_group (x ∷ xs) simple zero d lt =
    empty_is_nil _ (first_of_both _ _ (second_of_both _ _ (second_of_both _ _ (first_of_both _ _ simple))))
names_no_group (x ∷ xs) simple (suc k) d lt = names_no_group xs (second_of_both _ _ simple) k d (omega arith)

-- the text of an id, after a parse of a simple command whose rules give it this parser
parsed_reads : (old : Command) (m : ArgMatches) (a : App) (id : List ℕ) (q : ValueParser) → IsParsedFrom old m → app_of old ≡ a
    → a.top.is_plain ≡ true → list_all (λ r. r.is_simple) a.top.rules ≡ true → (id ≡ [] → ⊥) → (id ≡ codes "help" → ⊥)
    → (id ≡ codes "version" → ⊥) → All (HasParser id q) a.top.rules → IfSome (one_text (found_of m) id) (Reads q)
parsed_reads old m a id q p is plain simple named help version has =
    let plain_fields : has_plain_fields (out-Command old) ≡ true = ap (λ (x : App). x.top.is_plain) is ∙ plain in
    let rules : map rule_of (args_of old) ≡ a.top.rules = ap (λ (x : App). x.top.rules) is in
    let simple_rules : list_all (λ r. r.is_simple) (map rule_of (args_of old)) ≡ true =
    subst (λ (rs : List Rule). list_all (λ r. r.is_simple) rs ≡ true) (sym rules) simple in
    let has_rules : All (HasParser id q) (map rule_of (args_of old)) = subst (All (HasParser id q)) (sym rules) has in
    let parsed = p.parsed (p.from.globals ∙ has_no_globals old plain_fields) in
    let groups = (p.from.same_groups (names_no_group (args_of old) simple_rules)).1 ∙ has_no_groups old plain_fields in
    text_read p.built (found_of m) id q parsed.values groups named (built_takes old p.built id q p.from has_rules help version)

-- ---- numbers

pub number_in_range : (most : ℕ) (t : List ℕ) → IsSignedIn (pos 1) (pos most) t
    → (starts_with_minus t ≡ false) × IsNumeral 10 (without_leading_plus t) × (1 ≤ written_number t) × (written_number t ≤ most)
number_in_range most t passed = go (starts_with_minus t) refl
  where
    go : (b : Bool) → starts_with_minus t ≡ b
        → (starts_with_minus t ≡ false) × IsNumeral 10 (without_leading_plus t) × (1 ≤ written_number t) × (written_number t ≤ most)
    go true minus =
        let low = rw minus at passed.2 in
        absurd (omega (arith, ints))
    go false minus =
        let numeral = rw minus at passed.0 in
        let low = rw minus at passed.2 in
        let high = rw minus at passed.3 in
        (minus, numeral, omega (arith, ints), omega (arith, ints))

same_without_minus : (t : List ℕ) → starts_with_minus t ≡ false → without_minus t ≡ t
same_without_minus [] e = refl
same_without_minus (x ∷ xs) e = go (x == 45) e
  where
    go : (b : Bool) → b ≡ false → unwrap_or (cond b (Some xs) None) (x ∷ xs) ≡ x ∷ xs
    go true e = cc
    go false e = refl

number_text : (most : ℕ) (t : List ℕ) → Reads (Signed (pos 1) (pos most)) t → IsSignedIn (pos 1) (pos most) t
number_text most t r =
    let plain = same_without_minus r.0 (number_in_range most r.0 r.2).0 in
    subst (IsSignedIn (pos 1) (pos most)) (sym (r.1 ∙ plain)) r.2

number_if_some : (most : ℕ) (o : Option (List ℕ)) → IfSome o (Reads (Signed (pos 1) (pos most))) → IfSome o (IsSignedIn (pos 1) (pos most))
number_if_some most None h = tt
number_if_some most (Some t) h = number_text most t h

pub has_number : (old : Command) (m : ArgMatches) (a : App) (id : List ℕ) (most : ℕ) → IsParsedFrom old m → app_of old ≡ a
    → a.top.is_plain ≡ true → list_all (λ r. r.is_simple) a.top.rules ≡ true → (id ≡ [] → ⊥) → (id ≡ codes "help" → ⊥)
    → (id ≡ codes "version" → ⊥) → All (HasParser id (Signed (pos 1) (pos most))) a.top.rules → HasNumberUpTo (found_of m) id most
has_number old m a id most p is plain simple named help version has =
    number_if_some most (one_text (found_of m) id) (parsed_reads old m a id (Signed (pos 1) (pos most)) p is plain simple named help version has)
