use Rattle.std.proofs.Common.{◌<◌, List, All, length, subst, sym, arith}
use Rattle.std.proofs.lemmas.Bool.{MatchBool-at_true}
use Rattle.pattern_automata.specs.declared.moves.Patch.{Patch}
use Rattle.pattern_automata.specs.Moves.{fronts}
use Rattle.pattern_automata.specs.Steps.{IsAway}
use Rattle.pattern_automata.proofs.Patching.{patches-within}
use Rattle.pattern_automata.proofs.Masking.{all-alike, leads-alike}
use Rattle.pattern_automata.proofs.search.leads_as_first.Goals as goal

pub leads_alike-requires : goal.leads_alike-requires
leads_alike-requires c =
    subst (λ (x : List Patch). All (λ (p : Patch). p.index < length c.args.state.now) x) (sym c.as_slice.ensures.value) (patches-within c.args.wants.now.patterns c.args.step.now _ c.requires.does c.requires.size)

pub returns : goal.returns
returns c = λ h. (
  0,
  omega (arith, c.if-k-eq0.false),
  leads-alike c.args.wants.now.patterns c.args.machine.now.masks c.requires.machine.masks c.args.step.now c.requires.does _ (MatchBool-at_true _ _ c.if-not-machine.false c.requires.machine.alphabet.first).2 c.args.state.now
      (all-alike (fronts c.args.wants.now.patterns) c.args.machine.now.masks c.requires.machine.masks c.args.step.now.character c.args.step.now.patches.items c.requires.does.distinguished.right c.args.state.now
      (subst (λ (x : List Patch). All (IsAway c.args.state.now) x) c.as_slice.ensures.value (c.leads_alike.ensures h))),
)
