-- Patterns that match each text of a shape.
use Rattle.std.proofs.Common.{◌≡◌, ℕ, List, [], ◌∷◌, refl, sym, subst}
use Rattle.std.specs.Prelude.{Option, Some}
use Rattle.wildcard_lang.specs.declared.piece.Piece.{Piece}
use Rattle.wildcard_lang.specs.declared.piece.Piece.TheVariants.{Many}
use Rattle.wildcard_lang.specs.Covering.{CoversPattern}
use Rattle.wildcard_lang.specs.Matching.{Matches, is_done, no_pieces, takes_more}
use Rattle.wildcard_lang.proofs.Laws.{covering-includes}
use Rattle.policy_model.specs.declared.cond.Cond.{Cond}
use Rattle.policy_model.specs.declared.cond.Cond.TheVariants as cond
use Rattle.policy_model.specs.declared.schema.KeyRule.{KeyRule}
use Rattle.policy_model.specs.declared.value.Kind.TheVariants as kind
use Rattle.policy_model.specs.declared.value.Value.{Value}
use Rattle.policy_model.specs.declared.value.Value.TheVariants as value
use Rattle.policy_model.specs.Conds.{CondMeets}
use Rattle.policy_model.specs.Requests.{IsOfKind, ValueFits}
use Rattle.test_relations.specs.Parts.{EachValueMeets, MatchesEach}

star-matches : (t : List ℕ) → Matches (Many ∷ []) t
star-matches [] = is_done refl no_pieces
star-matches (c ∷ t) = takes_more refl refl (star-matches t)

pub star-matches-each : (p : List Piece) (shape : Option (List Piece)) → p ≡ Many ∷ [] → MatchesEach p shape
star-matches-each p shape is t fits = subst (λ (q : List Piece). Matches q t) (sym is) (star-matches t)

pub covers-each : (p q : List Piece) (shape : Option (List Piece)) → shape ≡ Some q → CoversPattern p q → MatchesEach p shape
covers-each p q shape is covers =
    subst (λ (s : Option (List Piece)). MatchesEach p s) (sym is) (λ t fits. covering-includes p q t covers fits)

text-meets : (shape : Option (List Piece)) (p : List Piece) → MatchesEach p shape → (v : Value) → IsOfKind kind.Text v → ValueFits shape v → CondMeets v (cond.Matches p)
text-meets shape p each (value.Word t) text fits = each t fits
text-meets shape p each (value.Truth b) never fits = absurd never
text-meets shape p each (value.Number n) never fits = absurd never
text-meets shape p each (value.Address a) never fits = absurd never
text-meets shape p each (value.Bytes bs) never fits = absurd never

-- a rule of texts permits texts of its shape alone
pub texts-meet : (one : Cond) (rule : KeyRule) (p : List Piece) → rule.kind ≡ kind.Text → one ≡ cond.Matches p → MatchesEach p rule.shape → EachValueMeets one rule
texts-meet one rule p of is each v permitted =
    subst (CondMeets v) (sym is) (text-meets rule.shape p each v (subst (λ k. IsOfKind k v) of permitted.kind) permitted.fits)
