use Rattle.std.proofs.Common.{subst, Contains, List, ℕ, map, ◌∷◌, [], ◌∙◌, sym, refl, inl, inr}
use Rattle.std.proofs.lemmas.Bool.{iff_false}
use Rattle.std.proofs.lemmas.List.Elements.{Contains-append_cases, Contains-append_left, Contains-append_right}
use Rattle.pattern_automata.proofs.Sets.{among-Decides, vector-same}
use Rattle.pattern_automata.proofs.found.Found.has.Goals as goal

pub returns-then-is_single : goal.returns-then-is_single
returns-then-is_single c = (
  λ yes'. subst (λ (x : List (List ℕ)). Contains x c.args.words.now) c.self.view_is (Contains-append_left _ (map (λ v. v.items) c.self.inside.others.keys) c.args.words.now (c.is_single.ensures.0 c.if-is_single.true)),
  λ there. refl,
)

pub returns : goal.returns
returns c =
    let other = among-Decides (λ v. v.items) _ c.args.words.now (vector-same c.args.words.now) c.self.inside.others.keys in (
      λ yes'. subst (λ (x : List (List ℕ)). Contains x c.args.words.now) c.self.view_is (Contains-append_right (map (λ w. w ∷ []) c.self.inside.single.keys) _ c.args.words.now (other.0 (sym c.contains.ensures ∙ yes'))),
      λ there.
          elim (Contains-append_cases (map (λ w. w ∷ []) c.self.inside.single.keys) (map (λ v. v.items) c.self.inside.others.keys) c.args.words.now (subst (λ (x : List (List ℕ)). Contains x c.args.words.now) (sym c.self.view_is) there)) [
            | inl s ↦ absurd (iff_false c.is_single.ensures c.if-is_single.false s)
            | inr o ↦ c.contains.ensures ∙ other.1 o
          ],
    )
