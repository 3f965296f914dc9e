use Rattle.std.proofs.Common.{subst, Contains, List, ℕ, map, ◌∷◌, []}
use Rattle.std.proofs.lemmas.List.Elements.{Contains-append_right}
use Rattle.pattern_automata.proofs.found.Found.push.Goals as goal

pub push_other-requires : goal.push_other-requires
push_other-requires c = λ h. c.requires
    (subst (λ (x : List (List ℕ)). Contains x c.args.words.now) c.self.view_is (Contains-append_right (map (λ w. w ∷ []) c.self.inside.single.keys) _ c.args.words.now h))
