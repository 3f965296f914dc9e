-- Splits of two sides that were made: bare, or the node of a label that is learned.
use Rattle.std.proofs.Common.{◌≡◌, ◌↔◌, ◌⊎◌, ◌<◌, ◌≤◌, ◌+◌, ◌*◌, ℕ, suc, max, List, [], ◌∷◌, ◌++◌, length, Bool, true, false, None, Some, Result, Ok, Err, IfOk, IsTrue, All, slice_get, refl, sym, ◌∙◌, ap, subst, inl, inr, arith}
use Rattle.std.proofs.lemmas.Bool.{cases_lt}
use Rattle.std.proofs.lemmas.List.{append_assoc, length-append}
use Rattle.std.proofs.lemmas.List.Elements.{All-push}
use Rattle.formula_tree.specs.Answers.{Answers, Contained, answer_of}
use Rattle.formula_tree.specs.Runs.{path_with, unanswered_count}
use Rattle.formula_tree.specs.Trees.{Tree}
use Rattle.formula_tree.proofs.Laws.{unanswered-more}
use Rattle.nogoods.specs.Hits.{NoHit, answers_at}
use Rattle.policy_model.specs.declared.schema.Schema.{Schema}
use Rattle.policy_model.specs.declared.test.Test.{Test}
use Rattle.slot_theory.specs.Possible.{PathInRange}
use Rattle.refute_check.specs.Closing.{Rise}
use Rattle.refute_check.specs.Laws.{NoneMeets, TreeInRange}
use Rattle.refute_check.specs.Proofs.{Proof, depth, label, labels, split, splits}
use Rattle.search_parts.specs.declared.learning.TheConstants.{MOST_LEARNED}
use Rattle.search_parts.specs.declared.part.Halves.{Halves}
use Rattle.search_parts.specs.declared.part.Needs.{Needs}
use Rattle.search_parts.specs.declared.part.Needs.TheVariants.{Just, Open, Unknown}
use Rattle.search_parts.specs.declared.part.Part.{Part}
use Rattle.search_parts.specs.Joining.{IsJoined}
use Rattle.search_parts.specs.Least.{AreKnownNeeds}
use Rattle.search_parts.specs.Making.{AreMadeHalves, AreOwnNeeds, IsMadePart, IsPartOf, part_proof}
use Rattle.search_parts.specs.Needs.{AreLeast, AreNeeds}
use Rattle.search_parts.specs.Parts.{ClosesByStore, EndInOrder, IsTrimmedAlong, LabelSplits}
use Rattle.search_parts.specs.Trimmed.{bare_splits}
use Rattle.search_parts.proofs.Closing.{grew, grows}
use Rattle.search_parts.proofs.Making.{made-of}
use Rattle.search_parts.proofs.Needing.{label-just, least-closes, least-needed, needs-grow}
use Rattle.search_parts.proofs.Trimming.{along-grows, along-label, along-shorter, along-split, none-stored}
use Rattle.search_parts.proofs.Unmet.{closed-none}

push-at : (store : List Answers) (a : Answers) → slice_get (store ++ a ∷ []) (length store) ≡ Some a
push-at [] a = refl
push-at (x ∷ store) a = push-at store a

module _ (schema : Schema) (tests : List Test) (tree : Tree) where
  abbrev C : List Answers → Proof → Answers → Type 0
  C store = ClosesByStore store schema tests tree

  abbrev Along : List Answers → ℕ → Proof → Answers → Type 0
  Along store = IsTrimmedAlong store schema tests tree

  abbrev Made : List Answers → List Answers → Answers → ℕ → Part → Type 0
  Made = IsMadePart schema tests tree

  -- ---- what a part needs is of its path

  own-now : (store : List Answers) (p : Proof) (path : Answers) (need : Needs) → C store p path → AreNeeds store (C store p) p path need → AreOwnNeeds tree store path need
  own-now store p path (Just needs) closes are = are.there
  own-now store p path Open closes are = subst (λ (q : Proof). C store q path) are closes
  own-now store p path Unknown closes are = are

  own-later : (store more : List Answers) (path : Answers) (need : Needs) → AreOwnNeeds tree store path need → AreOwnNeeds tree (store ++ more) path need
  own-later store more path (Just needs) own = own
  own-later store more path Open own = own
  own-later store more path Unknown own = omega (arith, own, length-append store more)

  pub own-needs : (old new store more : List Answers) (path : Answers) (used : ℕ) (part : Part) → Made old new path used part → store ≡ new ++ more → AreOwnNeeds tree store path part.needs
  own-needs old new store more path used part made grew_to =
      subst (λ (s : List Answers). AreOwnNeeds tree s path part.needs) (sym grew_to)
      (own-later new more path part.needs (own-now new (part_proof part) path part.needs made.closed.closes made.closed.needs))

  -- ---- what is known of a split before it is labelled, by what is stored after both sides

  record IsJoint (old new : List Answers) (path : Answers) (n : ℕ) (y z : Proof) (first second : Needs) (used : ℕ) : Type 0 where
    within : n < length tests
    free : answer_of path n ≡ None
    left : C new y (path_with path n true)
    right : C new z (path_with path n false)
    order : EndInOrder (length old) (split n y z)
    stored : length new ≡ length old + labels (split n y z)
    more : List Answers
    grows : new ≡ old ++ more
    trimmed : Along new (length old) (split n y z) path
    labelled : LabelSplits (split n y z)
    learned : (bare_splits y + bare_splits z ≡ 0) ⊎ (MOST_LEARNED ≤ length new)
    nests : depth (split n y z) + 1 ≤ 2 * unanswered_count path (length tests)
    few : splits (split n y z) ≤ used
    needs_left : AreNeeds new (C new y) y (path_with path n true) first
    needs_right : AreNeeds new (C new z) z (path_with path n false) second

  none-bare : (m n : ℕ) (a b : ℕ) (most : ℕ) → a ≤ b → (m ≡ 0) ⊎ (most ≤ a) → (n ≡ 0) ⊎ (most ≤ b) → (m + n ≡ 0) ⊎ (most ≤ b)
  none-bare m n a b most le (inl e) (inl d) = inl (omega (arith, e, d))
  none-bare m n a b most le (inr h) other = inr (omega (arith, h, le))
  none-bare m n a b most le (inl e) (inr h) = inr h

  joint : (old middle more : List Answers) (path : Answers) (n : ℕ) (yes no : Part) (first second used : ℕ) → n < length tests → answer_of path n ≡ None → Made old middle (path_with path n true) first yes → Made middle (middle ++ more) (path_with path n false) second no →
      ¬ C middle (part_proof yes) path → NoHit old path → first + second + 1 ≤ used → IsJoint old (middle ++ more) path n (part_proof yes) (part_proof no) yes.needs no.needs used
  joint old middle more path n a b first second used within free one other needed nothing le =
      let y = part_proof a in
      let z = part_proof b in
      let new = middle ++ more in
      let room : length old + labels y ≤ length middle = omega (arith, one.closed.stored) in
      let place : length middle ≡ length old + labels y = one.closed.stored in
      let longer : length middle ≤ length new = omega (arith, length-append middle more) in
      let all : new ≡ old ++ (one.closed.more ++ more) = ap (λ (l : List Answers). l ++ more) one.closed.grows ∙ append_assoc old one.closed.more more in
      let closes_y : C new y (path_with path n true) = grows schema tests tree middle more (length old) y (path_with path n true) one.closed.order room one.closed.closes in
      let along_y : Along new (length old) y (path_with path n true) = along-grows schema tests tree middle more (length old) y (path_with path n true) one.closed.order room one.trim.trimmed in
      let along_z : Along new (length old + labels y) z (path_with path n false) = subst (λ (k : ℕ). Along new k z (path_with path n false)) place other.trim.trimmed in
      let order_z : EndInOrder (length old + labels y) z = subst (λ (k : ℕ). EndInOrder k z) place other.closed.order in
      let alone : ¬ C new y path = λ early. needed (grew schema tests tree middle more (length old) y path one.closed.order room early) in
      let none : (i : ℕ) → i < length old → ¬ Contained (answers_at new i) path = subst (λ (s : List Answers). (i : ℕ) → i < length old → ¬ Contained (answers_at s i) path) (sym all) (none-stored schema tests tree old (one.closed.more ++ more) path nothing) in
      let fewer_y = unanswered-more path n true (length tests) within free in
      let fewer_z = unanswered-more path n false (length tests) within free in
      record {
        within = within;
        free = free;
        left = closes_y;
        right = other.closed.closes;
        order = (one.closed.order, order_z);
        stored = omega (arith, one.closed.stored, other.closed.stored);
        more = one.closed.more ++ more;
        grows = all;
        trimmed = along-split schema tests tree new (length old) n y z path free closes_y alone none along_y along_z;
        labelled = (one.trim.splits_labelled, other.trim.splits_labelled);
        learned = none-bare (bare_splits y) (bare_splits z) (length middle) (length new) MOST_LEARNED longer one.trim.learned other.trim.learned;
        nests = deep (depth y) (depth z) (unanswered_count (path_with path n true) (length tests)) (unanswered_count (path_with path n false) (length tests)) (unanswered_count path (length tests)) fewer_y fewer_z one.trim.nests other.trim.nests;
        few = omega (arith, one.trim.few, other.trim.few, le);
        needs_left = needs-grow schema tests tree middle more (length old) y one.closed.order room (path_with path n true) a.needs one.closed.needs;
        needs_right = other.closed.needs;
      }
    where
      deep : (a b u v w : ℕ) → w ≡ suc u → w ≡ suc v → a ≤ 2 * u → b ≤ 2 * v → max a b + 1 + 1 ≤ 2 * w
      deep a b u v w e d h g = omega (arith, e, d, h, g)

  -- ---- bare

  module _ (old new : List Answers) (path : Answers) (n : ℕ) (y z : Proof) (first second : Needs) (used : ℕ) (j : IsJoint old new path n y z first second used) where
    split-closes : C new (split n y z) path
    split-closes = ((j.within, j.free), j.left, j.right)

    bare-made : (part : Part) → IsPartOf (split n y z) Unknown part → MOST_LEARNED ≤ length new → Made old new path used part
    bare-made part of full =
        made-of schema tests tree old new path used (split n y z) Unknown part of
        (record { closes = split-closes; order = j.order; stored = j.stored; more = j.more; grows = j.grows; needs = full })
        (record { trimmed = j.trimmed; splits_labelled = j.labelled; learned = inr full; nests = omega (arith, j.nests); few = j.few })

    -- ---- under a label

    module _ (answers : Answers) (least : AreLeast tree path n first second answers) (rise : Rise answers) where
      inner-closes : C new (split n y z) answers
      inner-closes = least-closes schema tests tree new path n y z first second j.within j.free j.needs_left j.needs_right answers least

      abbrev after : List Answers
      after = new ++ answers ∷ []

      room : length old + labels (split n y z) ≤ length new
      room = omega (arith, j.stored)

      label-closed : C after (label (length new) answers (split n y z)) path
      label-closed = (
        record { stored = push-at new answers; rise = rise; there = least.there },
        grows schema tests tree new (answers ∷ []) (length old) (split n y z) answers j.order room inner-closes,
      )

      label-trimmed : Along after (length old) (label (length new) answers (split n y z)) path
      label-trimmed =
          along-label schema tests tree after (length old) (length new) answers (split n y z) path
          (λ m b is closes. least-needed schema tests tree new path n y z first second j.within j.free j.needs_left j.needs_right answers least m b is
          (grew schema tests tree new (answers ∷ []) (length old) (split n y z) _ j.order room closes))
          (along-shorter schema tests tree after (length old) (split n y z) answers path least.there
          (along-grows schema tests tree new (answers ∷ []) (length old) (split n y z) path j.order room j.trimmed))

      label-made : (part : Part) → IsPartOf (label (length new) answers (split n y z)) (Just answers) part → Made old after path used part
      label-made part of =
          let longer : length after ≡ length new + 1 = length-append new (answers ∷ []) in
          made-of schema tests tree old after path used (label (length new) answers (split n y z)) (Just answers) part of
          (record {
            closes = label-closed;
            order = (j.order, j.stored);
            stored = omega (arith, longer, j.stored);
            more = j.more ++ answers ∷ [];
            grows = ap (λ (l : List Answers). l ++ answers ∷ []) j.grows ∙ append_assoc old j.more (answers ∷ []);
            needs = label-just schema tests tree after (length new) answers path (split n y z) (push-at new answers) rise least.there label-closed.1;
          })
          (record {
            trimmed = label-trimmed;
            splits_labelled = j.labelled;
            learned = elim j.learned [ inl none ↦ inl none | inr full ↦ inr (omega (arith, full, longer)) ];
            nests = omega (arith, j.nests);
            few = j.few;
          })

      -- no request answers what was learned
      label-unmet : All (NoneMeets schema tests tree) new → TreeInRange tests tree → PathInRange tests path → All (NoneMeets schema tests tree) after
      label-unmet right below range =
          All-push (NoneMeets schema tests tree) new answers right
          (closed-none schema tests tree below new right (split n y z) answers (λ m b is. range m b (least.there m b is)) inner-closes)

-- ---- what is shown of a join

module _ (path : Answers) (halves : Halves) (before : List Answers) (tree : Tree) (part : Part) where
  abbrev whole : Proof
  whole = split halves.test (part_proof halves.yes) (part_proof halves.no)

  joint-of : (schema : Schema) (tests : List Test) (old middle : List Answers) (first second used : ℕ) → AreMadeHalves schema tests tree old middle before path first second halves → first + second + 1 ≤ used →
      IsJoint schema tests tree old before path halves.test (part_proof halves.yes) (part_proof halves.no) halves.yes.needs halves.no.needs used
  joint-of schema tests old middle first second used made le =
      let grown = made.no_side.closed.grows in
      let other = subst (λ (s : List Answers). IsMadePart schema tests tree middle s (path_with path halves.test false) second halves.no) grown made.no_side in
      subst (λ (s : List Answers). IsJoint schema tests tree old s path halves.test (part_proof halves.yes) (part_proof halves.no) halves.yes.needs halves.no.needs used) (sym grown)
      (joint schema tests tree old middle made.no_side.closed.more path halves.test halves.yes halves.no first second used made.within made.open_test made.yes_side other made.needed made.nothing le)

  pub bare-joined : IsPartOf whole Unknown part → MOST_LEARNED ≤ length before → IsJoined path halves before before tree part
  bare-joined of full schema tests old middle first second used made le =
      let j = joint-of schema tests old middle first second used made le in
      record {
        made = bare-made schema tests tree old before path halves.test (part_proof halves.yes) (part_proof halves.no) halves.yes.needs halves.no.needs used j part of full;
        unmet = λ right below range. right;
      }

  pub label-joined : (answers : Answers) → AreLeast tree path halves.test halves.yes.needs halves.no.needs answers → Rise answers → IsPartOf (label (length before) answers whole) (Just answers) part → IsJoined path halves before (before ++ answers ∷ []) tree part
  label-joined answers least rise of schema tests old middle first second used made le =
      let j = joint-of schema tests old middle first second used made le in
      record {
        made = label-made schema tests tree old before path halves.test (part_proof halves.yes) (part_proof halves.no) halves.yes.needs halves.no.needs used j answers least rise part of;
        unmet = label-unmet schema tests tree old before path halves.test (part_proof halves.yes) (part_proof halves.no) halves.yes.needs halves.no.needs used j answers least rise;
      }

  pub learn-joined : (number : ℕ) (later : List Answers) (answers : Answers) → number ≡ length before → later ≡ before ++ answers ∷ [] → AreLeast tree path halves.test halves.yes.needs halves.no.needs answers → Rise answers → IsPartOf (label number answers whole) (Just answers) part → IsJoined path halves before later tree part
  learn-joined number later answers count grew_to least rise of =
      subst (λ (s : List Answers). IsJoined path halves before s tree part) (sym grew_to)
      (label-joined answers least rise (subst (λ (n : ℕ). IsPartOf (label n answers whole) (Just answers) part) count of))

pub bare-result : {E : Type 0} (path : Answers) (halves : Halves) (before : List Answers) (tree : Tree) (result : Result Part E) → MOST_LEARNED ≤ length before → IfOk result (IsPartOf (split halves.test (part_proof halves.yes) (part_proof halves.no)) Unknown) → IfOk result (IsJoined path halves before before tree)
bare-result path halves before tree (Ok part) full of = bare-joined path halves before tree part of full
bare-result path halves before tree (Err e) full of = tt

pub no-room : (r : Bool) (a b : ℕ) → r ≡ false → IsTrue r ↔ (a < b) → b ≤ a
no-room r a b off says =
    elim (cases_lt a b) [
      | inl h ↦ (let on : r ≡ true = says.1 h in let bad : false ≡ true = sym off ∙ on in absurd (cc))
      | inr h ↦ h
    ]

pub learned-few : (before after : List Answers) (answers : Answers) → length before < MOST_LEARNED → after ≡ before ++ answers ∷ [] → length after ≤ MOST_LEARNED
learned-few before after answers room grew_to = subst (λ (s : List Answers). length s ≤ MOST_LEARNED) (sym grew_to) (omega (arith, room, length-append before (answers ∷ [])))

-- while lists are learned, what a side needs is known
pub known-needs : (tree : Tree) (store : List Answers) (path : Answers) (need : Needs) → length store < MOST_LEARNED → AreOwnNeeds tree store path need → AreKnownNeeds tree path need
known-needs tree store path (Just needs) room own = own
known-needs tree store path Open room own = own
known-needs tree store path Unknown room own = absurd (omega (arith, room, own))
