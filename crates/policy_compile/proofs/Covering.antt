-- A query that doesn't hold of a request that the first set allows: the second set allows it too.
use Rattle.std.proofs.Common.{◌≡◌, ℕ, Bool, false, List, inl, inr}
use Rattle.std.proofs.lemmas.Bool.{cases_Bool}
use Rattle.formula_tree.specs.Trees as tree
use Rattle.formula_tree.specs.Values.{holds}
use Rattle.policy_model.specs.declared.request.Request.{Request}
use Rattle.policy_model.specs.declared.schema.Schema.{Schema}
use Rattle.policy_model.specs.declared.set.PolicySet.{PolicySet}
use Rattle.policy_model.specs.declared.test.Test.{Test}
use Rattle.policy_model.specs.Sets.{Allows}
use Rattle.policy_compile.specs.Laws.{AsksPair}
use Rattle.policy_compile.specs.Numbering.{AreNumbered, IsNumbered, numbered_all, numbered_more, numbered_not}
use Rattle.policy_compile.specs.Plans.{Plan, Plans, all, more, none, not}
use Rattle.policy_compile.specs.Sets.{query_plan, set_plan}
use Rattle.policy_compile.proofs.Meanings.{holds-numbered, query-holds, set-holds}

-- a plan's part of a numbered tree
record Part (tests : List Test) (p : Plan) : Type 0 where
  part : tree.Tree
  numbered : IsNumbered tests p part

record Parts (tests : List Test) (ps : Plans) : Type 0 where
  parts : tree.Trees
  numbered : AreNumbered tests ps parts

of-all : (tests : List Test) (ps : Plans) (t : tree.Tree) → IsNumbered tests (all ps) t → Parts tests ps
of-all tests ps (tree.all ts) (numbered_all h) = record { parts = ts; numbered = h }
of-all tests ps tree.yes h = elim h [ ]
of-all tests ps tree.no h = elim h [ ]
of-all tests ps (tree.test n) h = elim h [ ]
of-all tests ps (tree.not t) h = elim h [ ]
of-all tests ps (tree.one_of ts) h = elim h [ ]

of-more : (tests : List Test) (p : Plan) (ps : Plans) (ts : tree.Trees) → AreNumbered tests (more p ps) ts → Part tests p × Parts tests ps
of-more tests p ps (tree.more t ts) (numbered_more h hs) = (record { part = t; numbered = h }, record { parts = ts; numbered = hs })
of-more tests p ps tree.none h = elim h [ ]

of-not : (tests : List Test) (p : Plan) (t : tree.Tree) → IsNumbered tests (not p) t → Part tests p
of-not tests p (tree.not t) (numbered_not h) = record { part = t; numbered = h }
of-not tests p tree.yes h = elim h [ ]
of-not tests p tree.no h = elim h [ ]
of-not tests p (tree.test n) h = elim h [ ]
of-not tests p (tree.all ts) h = elim h [ ]
of-not tests p (tree.one_of ts) h = elim h [ ]

-- the part of a query's tree that asks the second set
second-part : (schema : Schema) (first second : PolicySet) (tests : List Test) (t : tree.Tree) → IsNumbered tests (query_plan schema first second) t → Part tests (set_plan schema second)
second-part schema first second tests t h =
    let whole = of-all tests (more (set_plan schema first) (more (not (set_plan schema second)) none)) t h in
    let one = of-more tests (set_plan schema first) (more (not (set_plan schema second)) none) whole.parts whole.numbered in
    let two = of-more tests (not (set_plan schema second)) none one.1.parts one.1.numbered in
    of-not tests (set_plan schema second) two.0.part two.0.numbered

pub query-covers : (schema : Schema) (first second : PolicySet) (r : Request) (t : tree.Tree) (answers : ℕ → Bool) → AsksPair schema first second r answers t →
    holds answers t ≡ false → Allows schema first r → Allows schema second r
query-covers schema first second r t answers asks refuted allowed =
    let second_set = second-part schema first second asks.tests t asks.numbered in
    let second_says = holds-numbered answers r asks.tests asks.say (set_plan schema second) second_set.part second_set.numbered in
    let whole_says = holds-numbered answers r asks.tests asks.say (query_plan schema first second) t asks.numbered in
    let second_allows = set-holds schema r second asks.second_fits asks.valid in
    let pair_says = query-holds schema r first second asks.first_fits asks.second_fits asks.valid in
    elim (cases_Bool (holds answers second_set.part)) [
      | inl e ↦ second_allows.0 (second_says.0 e)
      | inr e ↦
          let refused : ¬ Allows schema second r = λ a. let yes = second_says.1 (second_allows.1 a) in absurd (cc) in
          let met = whole_says.1 (pair_says.1 (allowed, refused)) in
          absurd (cc)
    ]
