-- What is found at a node of a search, and from there at the node before it.
use Rattle.std.proofs.Common.{◌≡◌, ◌≢◌, ℕ, ◌+◌, ◌<◌, ◌≤◌, ◌++◌, List, length, All, true, false, Some, refl, sym, subst, arith, length-append}
use Rattle.formula_tree.specs.Answers.{Answers, Contained}
use Rattle.formula_tree.specs.Nodes.{EndsWithNone, at_start, in_no, in_yes}
use Rattle.formula_tree.specs.Runs.{Run, path_with}
use Rattle.formula_tree.specs.Trees.{Tree}
use Rattle.formula_tree.specs.Values.{pick, value}
use Rattle.formula_tree.specs.declared.value.Three.TheVariants.{No, Yes}
use Rattle.formula_tree.proofs.Laws.{pick-unanswered}
use Rattle.cnf_clauses.specs.declared.following.Conflict.{Conflict}
use Rattle.cnf_clauses.specs.Following.{IsConflictAt}
use Rattle.cnf_clauses.specs.Numbering.{clauses_of}
use Rattle.nogoods.specs.Hits.{NoHit, answers_at}
use Rattle.policy_model.specs.declared.request.Request.{Request}
use Rattle.policy_model.specs.declared.schema.Schema.{Schema}
use Rattle.policy_model.specs.declared.test.Slot.{Slot}
use Rattle.policy_model.specs.Soundness.{TestSuits}
use Rattle.policy_compile.specs.declared.outcome.Query.{Query}
use Rattle.policy_compile.specs.Queries.{asked_tree}
use Rattle.slot_theory.specs.Possible.{IsPossible, PathInRange}
use Rattle.slot_theory.specs.declared.outcome.SlotProof.{SlotProof}
use Rattle.slot_theory.specs.Slots.{patterns_at}
use Rattle.wildcard_lang.specs.Places.{ShowWider}
use Rattle.slot_theory.specs.Cores.{Accepts, HasTest}
use Rattle.slot_theory.proofs.Laws.{impossible}
use Rattle.refute_check.specs.Laws.{IsMetBy, NoneMeets, TreeInRange}
use Rattle.refute_check.specs.Proofs.{Proof, by_clauses, by_value, labels, reuse}
use Rattle.refute_check.specs.Propagated.{MeetsConflict, PropagatedRun}
use Rattle.refute_check.proofs.RunLaws.{plain-ends, propagated-ends, unmet-by-clauses, unmet-by-path, unmet-by-value}
use Rattle.search_parts.specs.declared.part.Needs.TheVariants.{Just, Open}
use Rattle.search_parts.specs.declared.part.Part.{Part}
use Rattle.search_parts.specs.Joining.{IsJoined, IsJoinedFrom}
use Rattle.search_parts.specs.Making.{IsKeptCore, IsMadePart, IsPartOf, IsSlotPart, part_proof}
use Rattle.search_parts.specs.Parts.{ClosesByStore}
use Rattle.search_parts.proofs.Laws.{clauses-made, closed-none, closes-grows, kept-made, reuse-made, skip-made, slot-made, value-made}
use Rattle.tree_search.specs.declared.found.Found.{Found}
use Rattle.tree_search.specs.declared.found.Found.TheVariants.{Refuted, Met, OutOfSplits, OutOfStates}
use Rattle.tree_search.specs.Decisions.{NeedMore}
use Rattle.tree_search.specs.Nodes.{IsToBeSplit}
use Rattle.tree_search.specs.Nodes as nodes
use Rattle.tree_search.specs.Leading.{IsReachedBy, LeadBy, nowhere, to_yes, to_no}
use Rattle.tree_search.specs.Search.{IsFoundFrom, IsMetThere, IsRefutedPart, IsShortOf, IsWideBy}
use Rattle.tree_search.specs.States.{AreAllUnmet}
use Rattle.tree_search.proofs.Splitting.{Runs, both-end, needs-no, needs-one, needs-yes, plain-splits, propagated-splits, skip-end}

module _ (schema : Schema) (query : Query) where
  abbrev P : Answers → Type 0
  P = IsPossible schema query.tests

  abbrev tree : Tree
  tree = asked_tree query

  abbrev R : Runs
  R = Run P tree

  abbrev S : Runs
  S = PropagatedRun schema query.tests tree

  abbrev C : List Answers → Proof → Answers → Type 0
  C store = ClosesByStore store schema query.tests tree

  abbrev Unmet : Answers → Type 0
  Unmet = NoneMeets schema query.tests tree

  abbrev IsPart : Answers → List Answers → List Answers → ℕ → Part → Type 0
  IsPart = IsRefutedPart schema query

  -- ---- a node that is split

  module _ (p : Answers) (t : ℕ) (h : P p) (quiet : ¬ MeetsConflict query.tests tree p) (e : pick p tree ≡ Some t) where
    abbrev on_yes : Answers
    on_yes = path_with p t true

    abbrev on_no : Answers
    on_no = path_with p t false

    abbrev split : IsToBeSplit schema query p
    split = record { possible = h; test = t; picks = e; quiet = quiet }

    -- both runs from it split
    need-one : NeedMore schema query p 0
    need-one = record {
      plain = needs-one R on_yes on_no p (plain-splits schema query.tests tree p t h e);
      propagated = needs-one S on_yes on_no p (propagated-splits schema query.tests tree p t h e quiet);
    }

    -- where they need more on its yes side, so they do there
    need-yes : (left rest : ℕ) → rest + 1 ≡ left → NeedMore schema query on_yes rest → NeedMore schema query p left
    need-yes left rest count more = record {
      plain = needs-yes R on_yes on_no p (plain-splits schema query.tests tree p t h e) left rest count more.plain;
      propagated = needs-yes S on_yes on_no p (propagated-splits schema query.tests tree p t h e quiet) left rest count more.propagated;
    }

    -- a node that is reached from its yes side
    reached-yes : (store : List Answers) (ended k used : ℕ) (node : Answers) → used ≡ k + 1 → IsReachedBy schema query store ended k on_yes node → IsReachedBy schema query store ended used p node
    reached-yes store ended k used node sum r = record {
      on_run = in_yes p node t h e r.on_run;
      propagated = nodes.in_yes p node split r.propagated;
      lead = to_yes ended p node t k used r.lead sum;
    }

    -- what is found on the yes side, unless that is refuted
    pub after-yes : (states left rest k used : ℕ) (old new : List Answers) (f : Found) → rest + 1 ≡ left → used ≡ k + 1 → ((r : _) → f ≡ Refuted r → ⊥) →
        IsFoundFrom schema query states on_yes (record { old = old; new = new; left = rest; used = k }) f → IsFoundFrom schema query states p (record { old = old; new = new; left = left; used = used }) f
    after-yes states left rest k used old new (Refuted r) count sum other is = absurd (other r refl)
    after-yes states left rest k used old new (Met q) count sum other is = record {
      node = is.node;
      reached = reached-yes new (length old) k used is.node sum is.reached;
      met = is.met;
      is_yes = is.is_yes;
    }
    after-yes states left rest k used old new OutOfSplits count sum other is = record {
      more = need-yes left rest count is.more;
      node = is.node;
      reached = reached-yes new (length old) rest left is.node (sym count) is.reached;
      next = is.next;
    }
    after-yes states left rest k used old new (OutOfStates w) count sum other is = record {
      reached = reached-yes new (length old) k used w.path sum is.reached;
      not_no = is.not_no;
      asked = is.asked;
      texts = is.texts;
    }

    module _ (old middle : List Answers) (k : ℕ) (y : Part) (side_yes : IsPart on_yes old middle k y) where
      -- where its yes side is refuted and they need more on its no side than is then left, so they do there
      need-no : (left rest : ℕ) → rest + k + 1 ≡ left → NeedMore schema query on_no rest → NeedMore schema query p left
      need-no left rest count more = record {
        plain = needs-no R on_yes on_no p (plain-splits schema query.tests tree p t h e) k left rest side_yes.counted.plain count more.plain;
        propagated = needs-no S on_yes on_no p (propagated-splits schema query.tests tree p t h e quiet) k left rest side_yes.counted.propagated count more.propagated;
      }

      -- no run from the yes side ends with a request
      yes-side-ends : EndsWithNone P tree on_yes
      yes-side-ends n run = let bad = (side_yes.counted.plain true n run).0 in absurd (cc)

      -- the yes side closes by what is stored later, too
      side-closes : (new more : List Answers) → new ≡ middle ++ more → C new (part_proof y) on_yes
      side-closes new more grows =
          let stored = side_yes.made.closed.stored in
          rw grows (closes-grows schema query.tests tree middle more (length old) (part_proof y) on_yes side_yes.made.closed.order (omega arith) side_yes.made.closed.closes)

      side-ended : (new more : List Answers) → new ≡ middle ++ more → length old + labels (part_proof y) ≤ length new
      side-ended new more grows =
          let stored = side_yes.made.closed.stored in
          let long = length-append middle more in
          rw grows (omega arith)

      -- a node that is reached from the no side
      reached-no : (new more : List Answers) (m used : ℕ) (node : Answers) → new ≡ middle ++ more → used ≡ k + m + 1 → IsReachedBy schema query new (length middle) m on_no node → IsReachedBy schema query new (length old) used p node
      reached-no new more m used node grows sum r = record {
        on_run = in_no p node t h e yes-side-ends r.on_run;
        propagated = nodes.in_no p node split (λ n run. let bad = (side_yes.counted.propagated true n run).0 in absurd (cc)) r.propagated;
        lead =
            to_no (length old) p node t k m used (part_proof y)
            (record { closes = side-closes new more grows; order = side_yes.made.closed.order; within = side-ended new more grows; among = side_yes.made.trim.few; counted = side_yes.counted })
            (subst (λ (n : ℕ). LeadBy schema query new n m on_no node) side_yes.made.closed.stored r.lead) sum;
      }

      -- what is found on the no side, unless that is refuted
      pub after-no : (states left rest m used : ℕ) (new more : List Answers) (f : Found) → rest + k + 1 ≡ left → used ≡ k + m + 1 → new ≡ middle ++ more → ((r : _) → f ≡ Refuted r → ⊥) →
          IsFoundFrom schema query states on_no (record { old = middle; new = new; left = rest; used = m }) f → IsFoundFrom schema query states p (record { old = old; new = new; left = left; used = used }) f
      after-no states left rest m used new more (Refuted r) count sum grows other is = absurd (other r refl)
      after-no states left rest m used new more (Met q) count sum grows other is = record {
        node = is.node;
        reached = reached-no new more m used is.node grows sum is.reached;
        met = is.met;
        is_yes = is.is_yes;
      }
      after-no states left rest m used new more OutOfSplits count sum grows other is = record {
        more = need-no left rest count is.more;
        node = is.node;
        reached = reached-no new more rest left is.node grows (omega arith) is.reached;
        next = is.next;
      }
      after-no states left rest m used new more (OutOfStates w) count sum grows other is = record {
        reached = reached-no new more m used w.path grows sum is.reached;
        not_no = is.not_no;
        asked = is.asked;
        texts = is.texts;
      }

      module _ (below : TreeInRange query.tests tree) (range : PathInRange query.tests p) (within : t < length query.tests) where
        -- where the yes side closes without the answer, so does the node
        pub skip-refuted : (used : ℕ) → AreAllUnmet schema query middle → C middle (part_proof y) p → used ≡ k + 1 → IsPart p old middle used y
        skip-refuted used right closes sum =
            let unmet : Unmet p = closed-none schema query.tests tree below middle right (part_proof y) p range closes in
            record {
              made = skip-made schema query.tests tree old middle p t k used y within (pick-unanswered p tree t e) side_yes.made closes (omega arith);
              counted = record {
                plain = skip-end R on_yes on_no p (plain-splits schema query.tests tree p t h e) k used side_yes.counted.plain sum (λ end n run. plain-ends schema query.tests tree below p end n range unmet run);
                propagated = skip-end S on_yes on_no p (propagated-splits schema query.tests tree p t h e quiet) k used side_yes.counted.propagated sum (λ end n run. propagated-ends schema query.tests tree below p end n range unmet run);
              };
            }

        -- where both sides are refuted, their split is
        pub join-refuted : (new after : List Answers) (m used : ℕ) (z part : Part) → IsPart on_no middle new m z → NoHit old p → (C middle (part_proof y) p → ⊥) → used ≡ k + m + 1 →
            IsJoined p (record { test = t; yes = y; no = z }) new after tree part → AreAllUnmet schema query new → IsPart p old after used part × AreAllUnmet schema query after
        join-refuted new after m used z part side_no nothing needed sum joined right =
            let from : IsJoinedFrom schema query.tests tree old new after p used part =
            joined schema query.tests old middle k m used
            (record { within = within; open_test = pick-unanswered p tree t e; yes_side = side_yes.made; no_side = side_no.made; needed = needed; nothing = nothing })
            (omega arith) in (
              record {
                made = from.made;
                counted = record {
                  plain = both-end R on_yes on_no p (plain-splits schema query.tests tree p t h e) k m used side_yes.counted.plain side_no.counted.plain sum;
                  propagated = both-end S on_yes on_no p (propagated-splits schema query.tests tree p t h e quiet) k m used side_yes.counted.propagated side_no.counted.propagated sum;
                };
              },
              from.unmet right below range,
            )

  -- ---- a node that isn't

  module _ (path : Answers) (store : List Answers) where
    reached-here : (used : ℕ) (node : Answers) → used ≡ 0 → node ≡ path → IsReachedBy schema query store (length store) used path node
    reached-here used node none same = rw (none, same) (record { on_run = at_start path; propagated = nodes.at_start path; lead = nowhere (length store) path })

    pub wide-here : (states used : ℕ) (copy : Answers) (s : Slot) (texts : List (List ℕ)) → used ≡ 0 → copy ≡ path → value path tree ≢ No → HasTest query.tests path s → ShowWider (patterns_at schema query.tests path s) states texts →
        IsWideBy schema query store (length store) used states path (record { path = copy; slot = s; texts = texts })
    wide-here states used copy s texts none same says asked wide = record {
      reached = reached-here used copy none same;
      not_no = subst (λ (q : Answers). value q tree ≢ No) (sym same) says;
      asked = subst (λ (q : Answers). HasTest query.tests q s) (sym same) asked;
      texts = subst (λ (q : Answers). ShowWider (patterns_at schema query.tests q s) states texts) (sym same) wide;
    }

    pub met-here : (used : ℕ) (q : Request) → used ≡ 0 → IsMetBy schema query.tests tree path q → value path tree ≡ Yes → IsMetThere schema query store (length store) used path q
    met-here used q none met is_yes = record { node = path; reached = reached-here used path none refl; met = met; is_yes = is_yes }

    pub short-here : (left t : ℕ) → left ≡ 0 → P path → ¬ MeetsConflict query.tests tree path → pick path tree ≡ Some t → IsShortOf schema query store (length store) left path
    short-here left t none h quiet e = record {
      more = subst (λ (most : ℕ). NeedMore schema query path most) (sym none) (need-one path t h quiet e);
      node = path;
      reached = reached-here left path none refl;
      next = split path t h quiet e;
    }

    module _ (below : TreeInRange query.tests tree) (range : PathInRange query.tests path) where
      -- a part without splits, where no valid request answers the path and makes the query yes
      leaf-refuted : (used : ℕ) (part : Part) → used ≡ 0 → IsMadePart schema query.tests tree store store path used part → Unmet path → IsPart path store store used part
      leaf-refuted used part none made unmet = record {
        made = made;
        counted = record {
          plain = λ end n run. (plain-ends schema query.tests tree below path end n range unmet run, omega arith);
          propagated = λ end n run. (propagated-ends schema query.tests tree below path end n range unmet run, omega arith);
        };
      }

      pub value-refuted : (used : ℕ) (part : Part) → used ≡ 0 → IsPartOf by_value Open part → value path tree ≡ No → IsPart path store store used part
      value-refuted used part none is is_no = leaf-refuted used part none (value-made schema query.tests tree store path used part is is_no) (unmet-by-value schema query.tests tree path range is_no)

      pub clauses-refuted : (used : ℕ) (part : Part) (c : Conflict) → used ≡ 0 → IsPartOf (by_clauses c.hints) (Just c.answers) part → IsConflictAt (clauses_of (length query.tests) tree) path c → IsPart path store store used part
      clauses-refuted used part c none is conflict =
          leaf-refuted used part none (clauses-made schema query.tests tree store path used c part is conflict) (unmet-by-clauses schema query.tests tree below path range (record { hints = c.hints; replay = conflict.replay }))

      pub slot-refuted : (used : ℕ) (part : Part) (core : List ℕ) (proof : SlotProof) → used ≡ 0 → IsSlotPart path core proof part → All (TestSuits schema) query.tests → Accepts schema query.tests path core proof → IsPart path store store used part
      slot-refuted used part core proof none is suit accepted =
          leaf-refuted used part none (slot-made schema query.tests tree store path used core proof part is accepted) (unmet-by-path schema query.tests tree path (impossible schema query.tests path core proof suit accepted))

      -- a part that closes by what is stored, where that leaves no request
      stored-refuted : (used : ℕ) (part : Part) → used ≡ 0 → AreAllUnmet schema query store → IsMadePart schema query.tests tree store store path used part → IsPart path store store used part
      stored-refuted used part none right made = leaf-refuted used part none made (closed-none schema query.tests tree below store right (part_proof part) path range made.closed.closes)

      pub reuse-refuted : (used : ℕ) (part : Part) (number : ℕ) → used ≡ 0 → AreAllUnmet schema query store → IsPartOf (reuse number) (Just (answers_at store number)) part → number < length store → Contained (answers_at store number) path → IsPart path store store used part
      reuse-refuted used part number none right is within there = stored-refuted used part none right (reuse-made schema query.tests tree store path used number part is within there)

      pub kept-refuted : (used : ℕ) (part : Part) (answers : Answers) (p : Proof) → used ≡ 0 → AreAllUnmet schema query store → IsPartOf p (Just answers) part → IsKeptCore schema query.tests answers p → Contained answers path → IsPart path store store used part
      kept-refuted used part answers p none right is kept there = stored-refuted used part none right (kept-made schema query.tests tree store path used answers p part is kept there)
