-- Parts while they are made: leaves, a part without the split above it, and splits, bare or under a label.
use Rattle.std.proofs.Common.{◌≡◌, ◌<◌, ◌≤◌, ℕ, suc, List, [], length, Bool, true, None, refl, sym, ◌∙◌, subst, inl, arith}
use Rattle.std.proofs.lemmas.List.{append-nil}
use Rattle.std.proofs.lemmas.Option.{slice_get-get_or}
use Rattle.formula_tree.specs.Answers.{Answers, Contained, answer_of}
use Rattle.formula_tree.specs.Runs.{path_with, unanswered_count}
use Rattle.formula_tree.specs.Trees.{Tree}
use Rattle.formula_tree.specs.Values.{value}
use Rattle.formula_tree.specs.declared.value.Three.TheVariants.{No}
use Rattle.formula_tree.proofs.Laws.{contained-answered, unanswered-more, unanswered-start}
use Rattle.cnf_clauses.specs.Following.{IsConflictAt}
use Rattle.cnf_clauses.specs.Numbering.{clauses_of}
use Rattle.cnf_clauses.specs.declared.following.Conflict.{Conflict}
use Rattle.nogoods.specs.Hits.{answers_at}
use Rattle.policy_model.specs.declared.schema.Schema.{Schema}
use Rattle.policy_model.specs.declared.test.Test.{Test}
use Rattle.slot_theory.specs.declared.outcome.SlotProof.{SlotProof}
use Rattle.slot_theory.specs.Cores.{Accepts}
use Rattle.slot_theory.proofs.Laws.{accepts_alike}
use Rattle.refute_check.specs.Proofs.{Proof, by_clauses, by_slot, by_value, depth, labels, reuse, splits}
use Rattle.search_parts.specs.declared.part.Needs.{Needs}
use Rattle.search_parts.specs.declared.part.Needs.TheVariants.{Just, Open, Unknown}
use Rattle.search_parts.specs.declared.part.Part.{Part}
use Rattle.search_parts.specs.Making.{IsClosedPart, IsKeptCore, IsMadePart, IsPartOf, IsRefutationOf, IsSlotPart, IsTrimPart, part_proof}
use Rattle.search_parts.specs.Needs.{AreAnswersTo, AreNeeds}
use Rattle.search_parts.specs.Parts.{ClosesByStore, EndInOrder}
use Rattle.search_parts.specs.Renaming.{renamed_proof}
use Rattle.search_parts.proofs.Closing.{accepts-more, core-within}
use Rattle.search_parts.proofs.Needing.{clauses-just, just-shorter, reuse-just, slot-just}
use Rattle.search_parts.proofs.Renamed.{renamed-depth, renamed-splits}
use Rattle.search_parts.proofs.Trimming.{along-skipped, whole-closes, whole-trimmed}

module _ (schema : Schema) (tests : List Test) (tree : Tree) where
  abbrev C : List Answers → Proof → Answers → Type 0
  C store = ClosesByStore store schema tests tree

  abbrev Closed : List Answers → List Answers → Answers → Proof → Needs → Type 0
  Closed = IsClosedPart schema tests tree

  abbrev Trim : List Answers → List Answers → Answers → ℕ → Proof → Type 0
  Trim = IsTrimPart schema tests tree

  abbrev Made : List Answers → List Answers → Answers → ℕ → Part → Type 0
  Made = IsMadePart schema tests tree

  -- what is known of a refutation is known of the part that it is
  pub made-of : (old new : List Answers) (path : Answers) (used : ℕ) (p : Proof) (need : Needs) (part : Part) → IsPartOf p need part → Closed old new path p need → Trim old new path used p → Made old new path used part
  made-of old new path used p need part of closed trim = record {
    closed = subst (λ (q : Proof). Closed old new path q part.needs) (sym of.is) (subst (λ (m : Needs). Closed old new path p m) (sym of.needs) closed);
    trim = subst (Trim old new path used) (sym of.is) trim;
  }

  -- ---- leaves

  module _ (store : List Answers) (path : Answers) (used : ℕ) where
    -- without labels and splits
    leaf-closed : (p : Proof) (need : Needs) → C store p path → EndInOrder (length store) p → labels p ≡ 0 → AreNeeds store (C store p) p path need → Closed store store path p need
    leaf-closed p need closes order none are = record {
      closes = closes;
      order = order;
      stored = omega (arith, none);
      more = [];
      grows = sym (append-nil store);
      needs = are;
    }

    value-trim : Trim store store path used by_value
    value-trim = record { trimmed = λ few inside closes. tt; splits_labelled = tt; learned = inl refl; nests = omega arith; few = omega arith }

    slot-trim : (core : List ℕ) (proof : SlotProof) → Trim store store path used (by_slot core proof)
    slot-trim core proof = record { trimmed = λ few inside closes. tt; splits_labelled = tt; learned = inl refl; nests = omega arith; few = omega arith }

    clauses-trim : (hints : List ℕ) → Trim store store path used (by_clauses hints)
    clauses-trim hints = record { trimmed = λ few inside closes. tt; splits_labelled = tt; learned = inl refl; nests = omega arith; few = omega arith }

    reuse-trim : (n : ℕ) → Trim store store path used (reuse n)
    reuse-trim n = record { trimmed = λ few inside closes. tt; splits_labelled = tt; learned = inl refl; nests = omega arith; few = omega arith }

    pub value-made : (part : Part) → IsPartOf by_value Open part → value path tree ≡ No → Made store store path used part
    value-made part of is_no =
        made-of store store path used by_value Open part of (leaf-closed by_value Open is_no tt refl refl) value-trim

    pub clauses-made : (c : Conflict) (part : Part) → IsPartOf (by_clauses c.hints) (Just c.answers) part → IsConflictAt (clauses_of (length tests) tree) path c → Made store store path used part
    clauses-made c part of met =
        let inside : Contained c.answers path = (met.rest path (λ n b is. is)).1 met.replay in
        made-of store store path used (by_clauses c.hints) (Just c.answers) part of
        (leaf-closed (by_clauses c.hints) (Just c.answers) met.replay tt refl (clauses-just schema tests tree store path c.answers c.hints met.rest inside)) (clauses-trim c.hints)

    slot-leaf : (answers : Answers) (core : List ℕ) (proof : SlotProof) (part : Part) → IsPartOf (by_slot core proof) (Just answers) part → AreAnswersTo core path answers → Accepts schema tests path core proof → Made store store path used part
    slot-leaf answers core proof part of own accepts =
        made-of store store path used (by_slot core proof) (Just answers) part of
        (leaf-closed (by_slot core proof) (Just answers) accepts tt refl (slot-just schema tests tree store path answers core proof accepts own)) (slot-trim core proof)

    pub slot-made : (core : List ℕ) (proof : SlotProof) (part : Part) → IsSlotPart path core proof part → Accepts schema tests path core proof → Made store store path used part
    slot-made core proof part s accepts = slot-leaf s.answers core proof part s.is s.own accepts

    pub reuse-made : (n : ℕ) (part : Part) → IsPartOf (reuse n) (Just (answers_at store n)) part → n < length store → Contained (answers_at store n) path → Made store store path used part
    reuse-made n part of within inside =
        made-of store store path used (reuse n) (Just (answers_at store n)) part of
        (leaf-closed (reuse n) (Just (answers_at store n)) (record { within = within; there = inside }) within refl (reuse-just schema tests tree store n (answers_at store n) path (slice_get-get_or store n [] within) inside)) (reuse-trim n)

    own-more : (core : List ℕ) (answers : Answers) (proof : SlotProof) → Accepts schema tests answers core proof → AreAnswersTo core answers answers → Contained answers path → AreAnswersTo core path answers
    own-more core answers proof accepted own inside = record {
      there = inside;
      only = own.only;
      all = λ k d small. sym (core-within core answers path inside accepted.conflict.core_is.answered k d small);
    }

    pub kept-made : (answers : Answers) (p : Proof) (part : Part) → IsPartOf p (Just answers) part → IsKeptCore schema tests answers p → Contained answers path → Made store store path used part
    kept-made answers p part of kept inside =
        let same : IsPartOf (by_slot kept.core kept.proof) (Just answers) part = record { is = of.is ∙ kept.is; needs = of.needs } in
        let accepts = accepts-more schema tests answers path kept.core kept.proof inside kept.accepted in
        slot-leaf answers kept.core kept.proof part same (own-more kept.core answers kept.proof kept.accepted kept.own inside) accepts

  -- a core that was found is one that can be kept, with the answers that it needs
  pub core-kept : (path : Answers) (core : List ℕ) (proof : SlotProof) (part : Part) (s : IsSlotPart path core proof part) → Accepts schema tests path core proof → IsKeptCore schema tests s.answers (part_proof part)
  core-kept path core proof part s accepts = record {
    core = core;
    proof = proof;
    is = s.is.is;
    accepted = accepts_alike schema tests path s.answers core proof s.own.all accepts;
    own = record { there = λ n b is. is; only = s.own.only; all = λ k d small. refl };
  }

  -- ---- a part without the split above it

  skipped-needs : (store : List Answers) (p : Proof) (path : Answers) (n : ℕ) (b : Bool) (need : Needs) → C store p path → AreNeeds store (C store p) p (path_with path n b) need → AreNeeds store (C store p) p path need
  skipped-needs store p path n b (Just needs) closes are =
      just-shorter (C store p) path (path_with path n b) needs (contained-answered path n b) are (are.needed path (contained-answered path n b) closes)
  skipped-needs store p path n b Open closes are = are
  skipped-needs store p path n b Unknown closes are = are

  pub skip-made : (old new : List Answers) (path : Answers) (n used more : ℕ) (part : Part) → n < length tests → answer_of path n ≡ None → Made old new (path_with path n true) used part → C new (part_proof part) path → used ≤ more → Made old new path more part
  skip-made old new path n used more part within free made closes le =
      let fewer : unanswered_count path (length tests) ≡ suc (unanswered_count (path_with path n true) (length tests)) = unanswered-more path n true (length tests) within free in
      record {
        closed = record {
          closes = closes;
          order = made.closed.order;
          stored = made.closed.stored;
          more = made.closed.more;
          grows = made.closed.grows;
          needs = skipped-needs new (part_proof part) path n true part.needs closes made.closed.needs;
        };
        trim = record {
          trimmed = along-skipped schema tests tree new (length old) (part_proof part) path n true made.trim.trimmed;
          splits_labelled = made.trim.splits_labelled;
          learned = made.trim.learned;
          nests = omega (arith, made.trim.nests, fewer);
          few = omega (arith, made.trim.few, le);
        };
      }

  -- ---- the whole

  pub finished-made : (store : List Answers) (used : ℕ) (part : Part) → Made [] store [] used part → IsRefutationOf schema tests tree used (renamed_proof [] 0 (part_proof part))
  finished-made store used part made =
      let p = part_proof part in
      let closed = made.closed in
      let count : length store ≡ labels p = omega (arith, closed.stored) in
      let room : labels p ≤ length store = omega (arith, count) in
      let deep : depth (renamed_proof [] 0 p) ≡ depth p = renamed-depth p [] 0 in
      let many : splits (renamed_proof [] 0 p) ≡ splits p = renamed-splits p [] 0 in
      let open_tests : unanswered_count [] (length tests) ≡ length tests = unanswered-start (length tests) in
      record {
        closes = whole-closes schema tests tree store p closed.order room closed.closes;
        few = omega (arith, made.trim.few, many);
        nests = omega (arith, made.trim.nests, deep, open_tests);
        trimmed = whole-trimmed schema tests tree store p closed.order room closed.closes made.trim.trimmed made.trim.splits_labelled (sym count) made.trim.learned;
      }

  pub made-labels : (store : List Answers) (used : ℕ) (part : Part) → Made [] store [] used part → labels (part_proof part) ≡ length store
  made-labels store used part made = omega (arith, made.closed.stored)
