-- A sample of a pattern is a text that the pattern matches, and where nothing is asked any value answers.
use Rattle.std.proofs.Common.{◌≡◌, ◌≢◌, ◌≤◌, ◌<◌, ◌+◌, ℕ, List, [], ◌∷◌, ◌++◌, length, get_or, take, true, refl, sym, ap, ◌∙◌, subst, codes, arith}
use Rattle.std.specs.Prelude.{Option, Some, None}
use Rattle.std.specs.List.{flat_map}
use Rattle.std.proofs.lemmas.Bool.{and_parts, and_from}
use Rattle.std.proofs.lemmas.Bool.Decides.{Decides-eqb}
use Rattle.std.proofs.lemmas.Grind.{flat_map-append}
use Rattle.std.proofs.lemmas.List.{append-nil, take_all, take_more}
use Rattle.wildcard_lang.specs.declared.piece.Piece.{Piece}
use Rattle.wildcard_lang.specs.declared.piece.Piece.TheVariants.{Lit, LitFold, One, Many, OneNoColon, ManyNoColon}
use Rattle.wildcard_lang.specs.Text.{IsText}
use Rattle.wildcard_lang.specs.Patterns.{own_character}
use Rattle.wildcard_lang.specs.Matching.{Matches, no_pieces, takes_one, is_done, takes_more}
use Rattle.policy_model.specs.Requests.{IsWord}
use Rattle.policy_model.specs.Soundness.{WordShapeIsSound}
use Rattle.formula_tree.specs.Answers.{Answers}
use Rattle.policy_model.specs.declared.test.Slot.{Slot}
use Rattle.policy_model.specs.declared.test.Test.{Test}
use Rattle.policy_model.specs.declared.test.Test.TheVariants.{Action}
use Rattle.slot_theory.specs.declared.outcome.SlotValue.{SlotValue}
use Rattle.slot_theory.specs.Slots.{AnswersSlot, slot_of}
use Rattle.slot_theory.specs.Cores.{HasTest}
use Rattle.std.proofs.lemmas.Option.{get_or_from_slice_get}
use Rattle.slot_theory.specs.Unasked.{or_x, sample, sample_of_piece, stated_word}

pub sample-text : (ps : List Piece) → IsText (flat_map own_character ps) → IsText (sample ps)
sample-text [] h = refl
sample-text (Lit c ∷ ps) h = let parts = and_parts _ _ h in and_from _ _ parts.0 (sample-text ps parts.1)
sample-text (LitFold c ∷ ps) h = let parts = and_parts _ _ h in and_from _ _ parts.0 (sample-text ps parts.1)
sample-text (One ∷ ps) h = and_from true _ refl (sample-text ps h)
sample-text (OneNoColon ∷ ps) h = and_from true _ refl (sample-text ps h)
sample-text (Many ∷ ps) h = sample-text ps h
sample-text (ManyNoColon ∷ ps) h = sample-text ps h

-- what was gathered from all pieces is a text
pub gathered-text : (ps qs : List Piece) (got : List ℕ) (i : ℕ) → qs ≡ ps → IsText (flat_map own_character ps) → got ≡ sample (take i ps) → length qs ≤ i → IsText got
gathered-text ps qs got i same text made end =
    let whole : length ps ≤ i = omega (arith, ap length same) in
    rw (made, take_all i ps whole) (sample-text ps text)

-- one more piece was gathered
pub gathered-more : (ps qs : List Piece) (i : ℕ) (d : Piece) (before after : List ℕ) → qs ≡ ps → i < length qs → before ≡ sample (take i ps) → after ≡ before ++ sample_of_piece (get_or qs i d) → after ≡ sample (take (i + 1) ps)
gathered-more ps qs i d before after same within made is =
    let here : i < length ps = omega (arith, ap length same) in
    let piece : sample_of_piece (get_or qs i d) ≡ sample_of_piece (get_or ps i d) = ap (λ (xs : List Piece). sample_of_piece (get_or xs i d)) same in
    let one : sample (get_or ps i d ∷ []) ≡ sample_of_piece (get_or ps i d) = append-nil (sample_of_piece (get_or ps i d)) in
    is ∙ ap (λ (xs : List ℕ). xs ++ sample_of_piece (get_or qs i d)) made ∙ ap (λ (xs : List ℕ). sample (take i ps) ++ xs) (piece ∙ sym one)
    ∙ sym (flat_map-append sample_of_piece (take i ps) (get_or ps i d ∷ [])) ∙ ap sample (sym (take_more ps i d here))

-- what was gathered from all pieces is the sample
pub gathered-all : (ps qs : List Piece) (t got : List ℕ) (i : ℕ) → qs ≡ ps → t ≡ got → got ≡ sample (take i ps) → length qs ≤ i → t ≡ sample ps
gathered-all ps qs t got i same is made end =
    let whole : length ps ≤ i = omega (arith, ap length same) in
    is ∙ made ∙ ap sample (take_all i ps whole)

-- the sample matches
pub sample-matches : (ps : List Piece) → Matches ps (sample ps)
sample-matches [] = no_pieces
sample-matches (Lit c ∷ ps) = takes_one refl ((Decides-eqb c c).1 refl) (sample-matches ps)
sample-matches (LitFold c ∷ ps) = takes_one refl (rw ((Decides-eqb c c).1 refl) refl) (sample-matches ps)
sample-matches (One ∷ ps) = takes_one refl refl (sample-matches ps)
sample-matches (OneNoColon ∷ ps) = takes_one refl refl (sample-matches ps)
sample-matches (Many ∷ ps) = is_done refl (sample-matches ps)
sample-matches (ManyNoColon ∷ ps) = is_done refl (sample-matches ps)

-- what was gathered from all pieces matches
pub gathered-matches : (ps qs : List Piece) (t got : List ℕ) (i : ℕ) → qs ≡ ps → t ≡ got → got ≡ sample (take i ps) → length qs ≤ i → Matches ps t
gathered-matches ps qs t got i same is made end =
    let whole : length ps ≤ i = omega (arith, ap length same) in
    rw (is, made, take_all i ps whole) (sample-matches ps)

-- where the sample is empty, the pieces take any number of characters, so they match `x` too where there is one
pub stars-match : (ps : List Piece) → ps ≢ [] → sample ps ≡ [] → Matches ps (codes "x")
stars-match [] some none = absurd (some refl)
stars-match (Lit c ∷ ps) some none = absurd cc
stars-match (LitFold c ∷ ps) some none = absurd cc
stars-match (One ∷ ps) some none = absurd cc
stars-match (OneNoColon ∷ ps) some none = absurd cc
stars-match (Many ∷ ps) some none = takes_more refl refl (is_done refl (subst (Matches ps) none (sample-matches ps)))
stars-match (ManyNoColon ∷ ps) some none = takes_more refl refl (is_done refl (subst (Matches ps) none (sample-matches ps)))

pub word-x : (shape : List Piece) (t : List ℕ) → shape ≢ [] → t ≡ sample shape → t ≡ [] → IsWord (Some shape) (codes "x")
word-x shape t some is none = record { text = refl; nonempty = λ e. absurd cc; fits = stars-match shape some (sym is ∙ none) }

pub word-free : IsWord None (codes "x")
word-free = record { text = refl; nonempty = λ e. absurd cc; fits = tt }

pub word-sample : (shape : List Piece) (t : List ℕ) → t ≡ sample shape → ¬ (t ≡ []) → IsText t → IsWord (Some shape) t
word-sample shape t is some text = record { text = text; nonempty = some; fits = rw is (sample-matches shape) }

pub or_x-none : (t u : List ℕ) → t ≡ u → t ≡ [] → codes "x" ≡ or_x u
or_x-none t [] is none = refl
or_x-none t (c ∷ cs) is none = absurd (cc (is, none))

or_x-word : (shape : List Piece) (t : List ℕ) → t ≡ sample shape → IsText t → shape ≢ [] → IsWord (Some shape) (or_x t)
or_x-word shape [] is text some = word-x shape [] some is refl
or_x-word shape (c ∷ cs) is text some = word-sample shape (c ∷ cs) is (λ e. absurd cc) text

-- the stated word is a word of its shape
pub stated-is-word : (shape : Option (List Piece)) → WordShapeIsSound shape → IsWord shape (stated_word shape)
stated-is-word None sound = word-free
stated-is-word (Some shape) sound = or_x-word shape (sample shape) refl (sample-text shape sound.pattern.scalars) (λ e. sound.nonempty (ap (λ (ps : List Piece). Some ps) e))

-- what isn't asked is answered by any value
pub unasked-answers : (tests : List Test) (path : Answers) (s : Slot) (v : SlotValue) → ¬ HasTest tests path s → AnswersSlot tests path s v
unasked-answers tests path s v none n b t answered at on =
    absurd (none (record { number = n; is = record { answered = rw answered refl; on_slot = ap slot_of (get_or_from_slice_get tests n t (Action []) at) ∙ on } }))
