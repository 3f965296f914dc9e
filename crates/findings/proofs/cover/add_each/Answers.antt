use Rattle.std.proofs.Common.{◌<◌, arith, length, List, subst, sym, ◌≡◌, ℕ, map, take, ◌∙◌}
use Rattle.std.specs.Prelude.{All}
use Rattle.std.proofs.lemmas.List.{map_more, take_all}
use Rattle.formula_tree.specs.Trees.{tree_of, trees_of}
use Rattle.policy_compile.specs.Plans.{Plan}
use Rattle.findings.specs.Asked.{AreAsked, IsAsked}
use Rattle.findings.specs.CoverQueries.{lies_plan}
use Rattle.findings.specs.Findings.{IsFinding}
use Rattle.findings.proofs.Plans.{asked-next, asked-none}
use Rattle.findings.proofs.cover.add_each.Goals as goal

pub findings-init : goal.findings-init
findings-init c = asked-none c.args.numbering.now.tests.keys (trees_of c.args.branches.now)

pub lies_in-requires : goal.lies_in-requires
lies_in-requires c =
    let within : c.findings.finding-index < length c.as_slice-finding-items.result.now = omega arith in
    let all = subst (λ (xs : List (List ℕ)). All (IsFinding c.args.strata.now.dimensions) xs) (sym c.as_slice-finding-items.ensures) c.requires in
    subst (IsFinding c.args.strata.now.dimensions) (sym c.finding-item.is) (all c.findings.finding-index c.finding-item.result within)

pub findings-preserved : goal.findings-preserved
findings-preserved c =
    let within : c.findings.finding-index < length c.as_slice-finding-items.result.now = omega arith in
    let plans = map_more (lies_plan c.args.strata.now.dimensions) c.as_slice-finding-items.result.now c.findings.finding-index c.finding-item.result within in
    let asked = subst (λ (f : List ℕ). IsAsked c.findings.numbering.tests.keys c.lies_in.new.numbering.tests.keys (lies_plan c.args.strata.now.dimensions f) (tree_of c.in_ok-lies_in.field-0.value)) c.finding-item.is c.in_ok-lies_in.ensures in
    subst (λ (ps : List Plan). AreAsked c.args.numbering.now.tests.keys c.lies_in.new.numbering.tests.keys ps (trees_of c.args.branches.now) (trees_of c.push.new.self)) (sym plans)
    (asked-next c.args.numbering.now.tests.keys c.findings.numbering.tests.keys c.lies_in.new.numbering.tests.keys _ _ (trees_of c.args.branches.now) (trees_of c.findings.branches) (trees_of c.push.new.self) _ c.findings.invariant asked c.in_ok-push.ensures.ok)

pub returns : goal.returns
returns c =
    let whole : take c.findings.finding-index c.as_slice-finding-items.result.now ≡ c.args.findings.now = take_all c.findings.finding-index c.as_slice-finding-items.result.now (omega arith) ∙ c.as_slice-finding-items.ensures in
    subst (λ (fs : List (List ℕ)). AreAsked c.args.numbering.now.tests.keys c.findings.numbering.tests.keys (map (lies_plan c.args.strata.now.dimensions) fs) (trees_of c.args.branches.now) (trees_of c.findings.branches)) whole c.findings.invariant
