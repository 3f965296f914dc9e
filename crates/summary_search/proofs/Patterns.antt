-- The patterns of a path of one test or two are those of the predicates that are asked.
use Rattle.std.proofs.Common.{◌≡◌, ◌∙◌, List, [], ◌∷◌, ◌++◌, Bool, true, false, Option, Some, append_assoc, refl, sym, ap}
use Rattle.std.proofs.lemmas.List.{append-nil}
use Rattle.std.specs.List.{flat_map}
use Rattle.std.specs.Option.{option_to_list}
use Rattle.wildcard_lang.specs.declared.piece.Piece.{Piece}
use Rattle.policy_model.specs.declared.schema.Schema.{Schema}
use Rattle.policy_model.specs.declared.test.Slot.{Slot}
use Rattle.policy_model.specs.declared.test.Test.{Test}
use Rattle.slot_theory.specs.Slots.{asked_by_schema, is_on, patterns_at, slot_of, test_patterns}
use Rattle.slot_theory.proofs.Laws.{slot-on}
use Rattle.strata.specs.declared.predicate.Predicate.{Predicate}
use Rattle.strata.specs.declared.predicate.Predicate.TheVariants.{Every}
use Rattle.strata.specs.Asking.{pair_patterns, predicate_patterns}
use Rattle.strata.specs.Predicates.{test_of}
use Rattle.summary_search.proofs.Answering.{every-none}

-- the patterns of a predicate's test
patterns-of : (s : Slot) (p : Predicate) (t : Test) → test_of s p ≡ Some t → predicate_patterns s p ≡ test_patterns t ++ []
patterns-of s p t e = ap (λ (o : Option Test). flat_map test_patterns (option_to_list o)) e

patterns-none : (s : Slot) → predicate_patterns s Every ≡ []
patterns-none s = ap (λ (o : Option Test). flat_map test_patterns (option_to_list o)) (every-none s)

at-one : (schema : Schema) (s : Slot) (t : Test) (b : Bool) → is_on s t ≡ true → patterns_at schema (t ∷ []) ((0, b) ∷ []) s ≡ (test_patterns t ++ []) ++ asked_by_schema schema s
at-one schema s t b on = rw on refl

at-two : (schema : Schema) (s : Slot) (t u : Test) → is_on s t ≡ true → is_on s u ≡ true →
    patterns_at schema (t ∷ u ∷ []) ((0, true) ∷ (1, false) ∷ []) s ≡ (test_patterns t ++ (test_patterns u ++ [])) ++ asked_by_schema schema s
at-two schema s t u on other = rw (on, other) refl

-- patterns one behind the other, however they were joined
regroup : (a b c : List (List Piece)) → (a ++ (b ++ [])) ++ c ≡ (a ++ []) ++ ((b ++ []) ++ c)
regroup a b c = simp (append-nil, append_assoc)

module _ (schema : Schema) (s : Slot) where
  abbrev asked : List (List Piece)
  asked = asked_by_schema schema s

  -- one predicate, which is met
  pub asked-met : (p : Predicate) (t : Test) → test_of s p ≡ Some t → slot_of t ≡ s → patterns_at schema (t ∷ []) ((0, true) ∷ []) s ≡ pair_patterns schema s p Every
  asked-met p t e on =
      at-one schema s t true (slot-on s t on)
      ∙ ap (λ (ps : List (List Piece)). (test_patterns t ++ []) ++ (ps ++ asked)) (sym (patterns-none s))
      ∙ ap (λ (ps : List (List Piece)). ps ++ (predicate_patterns s Every ++ asked)) (sym (patterns-of s p t e))

  -- one, which isn't
  pub asked-missed : (q : Predicate) (u : Test) → test_of s q ≡ Some u → slot_of u ≡ s → patterns_at schema (u ∷ []) ((0, false) ∷ []) s ≡ pair_patterns schema s Every q
  asked-missed q u e on =
      at-one schema s u false (slot-on s u on)
      ∙ ap (λ (ps : List (List Piece)). ps ++ asked) (sym (patterns-of s q u e))
      ∙ ap (λ (ps : List (List Piece)). ps ++ (predicate_patterns s q ++ asked)) (sym (patterns-none s))

  -- and two
  pub asked-both : (p q : Predicate) (t u : Test) → test_of s p ≡ Some t → test_of s q ≡ Some u → slot_of t ≡ s → slot_of u ≡ s →
      patterns_at schema (t ∷ u ∷ []) ((0, true) ∷ (1, false) ∷ []) s ≡ pair_patterns schema s p q
  asked-both p q t u e f on other =
      at-two schema s t u (slot-on s t on) (slot-on s u other)
      ∙ regroup (test_patterns t) (test_patterns u) asked
      ∙ ap (λ (ps : List (List Piece)). ps ++ ((test_patterns u ++ []) ++ asked)) (sym (patterns-of s p t e))
      ∙ ap (λ (ps : List (List Piece)). predicate_patterns s p ++ (ps ++ asked)) (sym (patterns-of s q u f))
