-- What a core and its proof say depends on the answers to the core's tests alone.
use Rattle.std.proofs.Common.{◌≡◌, ◌≢◌, ℕ, ◌+◌, List, [], ◌∷◌, Bool, Option, Some, IsSome, IsSomeAnd, Any, refl, subst}
use Rattle.std.specs.Prelude.{MatchOption}
use Rattle.std.specs.Option.{is_none}
use Rattle.text_table.specs.Table.{item_at}
use Rattle.set_operators.specs.Asks.{Asks}
use Rattle.std.proofs.lemmas.List.Elements.{All-head, All-tail, All-filter}
use Rattle.wildcard_lang.specs.declared.piece.Piece.{Piece}
use Rattle.formula_tree.specs.Answers.{Answers, answer_of}
use Rattle.pattern_automata.specs.declared.wants.Literal.{Literal}
use Rattle.pattern_automata.specs.Closed.{IsClosed}
use Rattle.policy_model.specs.declared.principal.PrincipalKind.{PrincipalKind}
use Rattle.policy_model.specs.declared.principal.PrincipalKind.TheVariants.{Aws, Service, Federated, CanonicalUser}
use Rattle.policy_model.specs.declared.schema.Schema.{Schema}
use Rattle.policy_model.specs.declared.schema.KeyRule.{KeyRule}
use Rattle.policy_model.specs.declared.test.Slot.{Slot}
use Rattle.policy_model.specs.declared.test.Slot.TheVariants as slot
use Rattle.policy_model.specs.declared.test.Test.{Test}
use Rattle.policy_model.specs.Requests.{shape_of}
use Rattle.slot_theory.specs.declared.outcome.KindProof.{KindProof}
use Rattle.slot_theory.specs.declared.outcome.KindProof.TheVariants.{Never, Closed}
use Rattle.slot_theory.specs.declared.outcome.SlotProof.{SlotProof}
use Rattle.slot_theory.specs.declared.outcome.SlotProof.TheVariants.{Points, Absent, Required, Word, Kinds, Member, SomeMember}
use Rattle.slot_theory.specs.Slots.{fixed_at, test_at}
use Rattle.slot_theory.specs.Wants.{IsClosedFor, wanted_clauses, wanted_patterns}
use Rattle.slot_theory.specs.Cores.{IsContradicted, IsCore, KeyShows, KindShows, PrincipalShows, Shows, WordShows, asks_of, open_tests}
use Rattle.slot_theory.specs.Acceptance.{AcceptsByTheCoreAlone, AnswerCoreAlike}

module _ (tests : List Test) (path other : Answers) where
  clauses-alike : (numbers : List ℕ) (shape : Option (List Piece)) (i : ℕ) → AnswerCoreAlike numbers path other → wanted_clauses path numbers shape i ≡ wanted_clauses other numbers shape i
  clauses-alike [] shape i alike = refl
  clauses-alike (n ∷ numbers) shape i alike =
      let first : answer_of path n ≡ answer_of other n = All-head (λ m. answer_of path m ≡ answer_of other m) n numbers alike in
      let rest : wanted_clauses path numbers shape (i + 1) ≡ wanted_clauses other numbers shape (i + 1) = clauses-alike numbers shape (i + 1) (All-tail (λ m. answer_of path m ≡ answer_of other m) n numbers alike) in
      rw (first, rest) refl

  asks-alike : (core : List ℕ) → AnswerCoreAlike core path other → asks_of tests path core ≡ asks_of tests other core
  asks-alike [] alike = refl
  asks-alike (n ∷ ns) alike =
      let first : answer_of path n ≡ answer_of other n = All-head (λ m. answer_of path m ≡ answer_of other m) n ns alike in
      let rest : asks_of tests path ns ≡ asks_of tests other ns = asks-alike ns (All-tail (λ m. answer_of path m ≡ answer_of other m) n ns alike) in
      rw (first, rest) refl

  closed-alike : (numbers : List ℕ) (shape : Option (List Piece)) (closed : List (List (List ℕ))) → AnswerCoreAlike numbers path other → IsClosedFor tests path numbers shape closed → IsClosedFor tests other numbers shape closed
  closed-alike numbers shape closed alike = subst (λ (clauses : List (List Literal)). IsClosed (wanted_patterns tests numbers shape) clauses closed) (clauses-alike numbers shape 0 alike)

  module _ (core : List ℕ) (alike : AnswerCoreAlike core path other) where
    core-alike : (s : Slot) → IsCore tests path core s → IsCore tests other core s
    core-alike s is = record {
      nonempty = is.nonempty;
      rises = is.rises;
      within = is.within;
      answered = λ k d l. subst IsSome (alike k d l) (is.answered k d l);
      on_slot = is.on_slot;
    }

    contradicted-alike : (k : PrincipalKind) → Any (IsContradicted tests path k) core → Any (IsContradicted tests other k) core
    contradicted-alike k some =
        let n = some.1 in
        let same : answer_of path n ≡ answer_of other n = subst (λ (m : ℕ). answer_of path m ≡ answer_of other m) some.3 (alike some.0 n some.2) in
        (some.0, n, some.2, some.3, subst (λ (o : Option Bool). IsSomeAnd (fixed_at k (test_at tests n)) (λ b. o ≢ Some b)) same some.4)

    module _ (schema : Schema) where
      kind-alike : (k : PrincipalKind) (proof : KindProof) → KindShows schema tests path core k proof → KindShows schema tests other core k proof
      kind-alike k Never shows = contradicted-alike k shows
      kind-alike k (Closed closed) shows =
          closed-alike (open_tests tests k core) (shape_of schema.shapes k) closed (All-filter (λ n. is_none (fixed_at k (test_at tests n))) (λ n. answer_of path n ≡ answer_of other n) core alike) shows

      word-alike : (shape : Option (List Piece)) (proof : SlotProof) → WordShows shape tests path core proof → WordShows shape tests other core proof
      word-alike shape (Word closed) set = closed-alike core shape closed alike set
      word-alike shape Points h = absurd h
      word-alike shape Absent h = absurd h
      word-alike shape Required h = absurd h
      word-alike shape (Kinds aws service federated canonical_user) h = absurd h
      word-alike shape (Member n set) h = absurd h
      word-alike shape (SomeMember set) h = absurd h

      principal-alike : (proof : SlotProof) → PrincipalShows schema tests path core proof → PrincipalShows schema tests other core proof
      principal-alike (Kinds aws service federated canonical_user) (a, b, c, d) =
          (kind-alike Aws aws a, kind-alike Service service b, kind-alike Federated federated c, kind-alike CanonicalUser canonical_user d)
      principal-alike (Word closed) h = absurd h
      principal-alike Points h = absurd h
      principal-alike Absent h = absurd h
      principal-alike Required h = absurd h
      principal-alike (Member n set) h = absurd h
      principal-alike (SomeMember set) h = absurd h

      key-alike : (o : Option KeyRule) (proof : SlotProof) → MatchOption o ⊥ (λ rule. KeyShows rule (asks_of tests path core) core proof) → MatchOption o ⊥ (λ rule. KeyShows rule (asks_of tests other core) core proof)
      key-alike o proof h = subst (λ (asks : Asks). MatchOption o ⊥ (λ rule. KeyShows rule asks core proof)) (asks-alike core alike) h

      shows-alike : (s : Slot) (proof : SlotProof) → Shows schema tests path core s proof → Shows schema tests other core s proof
      shows-alike slot.Principal proof h = principal-alike proof h
      shows-alike slot.Action proof h = word-alike schema.shapes.action proof h
      shows-alike slot.Resource proof h = word-alike schema.shapes.resource proof h
      shows-alike (slot.Key name) proof h = key-alike (item_at name schema.keys) proof h

pub accepts_alike : AcceptsByTheCoreAlone
accepts_alike schema tests path other core proof alike accepted =
    let conflict = accepted.conflict in
    record {
      slot = accepted.slot;
      conflict = record {
        core_is = core-alike tests path other core alike accepted.slot conflict.core_is;
        shows = shows-alike tests path other core alike schema accepted.slot proof conflict.shows;
      };
    }
