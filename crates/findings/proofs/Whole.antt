-- The query of a finding from its parts.
use Rattle.std.proofs.Common.{◌≡◌, ℕ, List, [], ◌∷◌, ◌++◌, sym, ap, subst, ◌∙◌, rules}
use Rattle.std.specs.Global.{Global}
use Rattle.std.specs.declared.rc.Rc.{Rc}
use Rattle.std.proofs.lemmas.List.{append_assoc}
use Rattle.formula_tree.specs.declared.formula.Branches.{Branches}
use Rattle.formula_tree.specs.declared.formula.Formula.{Formula, the_lemmas}
use Rattle.formula_tree.specs.declared.formula.Formula.TheVariants.{All}
use Rattle.formula_tree.specs.Trees.{Tree, of_list, tree_of, trees_of}
use Rattle.formula_tree.specs.Trees as tree
use Rattle.policy_model.specs.declared.test.Test.{Test}
use Rattle.policy_compile.specs.declared.outcome.Query.{Query}
use Rattle.policy_compile.specs.Numbering.{Collects, IsNumbered, numbered_all}
use Rattle.policy_compile.specs.Plans.{Plan, tests_in}
use Rattle.strata.specs.declared.stratum.Stratum.{Stratum}
use Rattle.findings.specs.Asked.{AreAsked, AsksBase, AsksOwn, IsAsked, no_finer_plan}
use Rattle.findings.specs.Asking.{ArePartsAsked, IsWholeAsked}
use Rattle.findings.specs.Queries.{finding_plan, own_plans}
use Rattle.findings.proofs.Plans.{asked-next}

-- the parts are asked
pub parts-asked : (base : Query) (ds : List Stratum) (f : List ℕ) (a b c : List Test) (first second third : List Tree) (t : Tree) (r : Rc Formula Global) →
    AreAsked [] a (own_plans ds f) [] first → IsAsked a b (no_finer_plan ds f) t → second ≡ first ++ t ∷ [] → AsksBase b c base r → third ≡ second ++ tree_of r.value ∷ [] → ArePartsAsked base ds f c third
parts-asked base ds f a b c first second third t r own finer two asks three allowed query =
    let one = asked-next [] a b (own_plans ds f) (no_finer_plan ds f) [] first second t own finer two in
    let each = asked-next [] b c (own_plans ds f ++ no_finer_plan ds f ∷ []) allowed [] second third (tree_of r.value) one (asks allowed query) three in
    subst (λ (ps : List Plan). AreAsked [] c ps [] third) (append_assoc (own_plans ds f) (no_finer_plan ds f ∷ []) (allowed ∷ [])) each

tree-All : (b : Branches) → tree_of (All b) ≡ tree.all (of_list (trees_of b))
tree-All b = search (rules, the_lemmas)

-- and so is the formula of them all
pub whole-asked : (base : Query) (ds : List Stratum) (f : List ℕ) (tests : List Test) (branches : Branches) (whole : Formula) → ArePartsAsked base ds f tests (trees_of branches) → whole ≡ All branches → IsWholeAsked base ds f tests (tree_of whole)
whole-asked base ds f tests branches whole parts is allowed query =
    let done = parts allowed query in
    let tree_is : tree_of whole ≡ tree.all (of_list done.more) = ap tree_of is ∙ tree-All branches ∙ ap (λ (ts : List Tree). tree.all (of_list ts)) done.is in
    record {
      collects = done.collects;
      numbered = subst (IsNumbered tests (finding_plan allowed ds f)) (sym tree_is) (numbered_all done.numbered);
    }

-- that formula and the tests are the finding's query
pub query-asked : (base : Query) (ds : List Stratum) (f : List ℕ) (tests : List Test) (q : Query) → IsWholeAsked base ds f tests (tree_of q.formula.value) → q.tests ≡ tests → AsksOwn base ds f q
query-asked base ds f tests q asked is allowed query =
    let whole = asked allowed query in
    record {
      tests = subst (λ (xs : List Test). Collects [] (tests_in (finding_plan allowed ds f)) xs) (sym is) whole.collects;
      tree = subst (λ (xs : List Test). IsNumbered xs (finding_plan allowed ds f) (tree_of q.formula.value)) (sym is) whole.numbered;
    }
