-- Tests that are read one after another, and the trees of their plans.
use Rattle.std.proofs.Common.{◌≡◌, ℕ, zero, suc, ◌⊎◌, ◌+◌, ◌<◌, get_or, take, None, List, [], ◌∷◌, ◌++◌, length, Some, Option, refl, sym, ap, subst, ◌∙◌, inl, inr, arith}
use Rattle.std.specs.Prelude.{Contains, slice_get, slice_index}
use Rattle.std.specs.Global.{Global}
use Rattle.std.specs.declared.rc.Rc.{Rc}
use Rattle.std.proofs.lemmas.List.{append-nil, append_assoc, length-append, take_more}
use Rattle.std.proofs.lemmas.Option.{slice_get_within}
use Rattle.std.proofs.lemmas.List.Elements.{Contains-append_left, Contains-push, Contains-push_cases}
use Rattle.formula_tree.specs.declared.formula.Branches.{Branches}
use Rattle.formula_tree.specs.declared.formula.Formula.{Formula, the_lemmas}
use Rattle.formula_tree.specs.declared.formula.Formula.TheVariants.{Not, OneOf, Test as TestNode, Yes}
use Rattle.formula_tree.specs.Trees.{Tree, Trees, of_list, tree_of, trees_of}
use Rattle.formula_tree.specs.Trees as tree
use Rattle.policy_model.specs.declared.test.Test.{Test}
use Rattle.policy_compile.specs.declared.outcome.Query.{Query}
use Rattle.policy_compile.specs.Numbering.{AreNumbered, Collects, IsNumbered, again, anew, nothing, numbered_all, numbered_ask, numbered_more, numbered_none, numbered_not, numbered_one_of, numbered_yes}
use Rattle.policy_compile.specs.Plans.{Plan, Plans, all, ask, more, none, not, of_plans, one_of, tests_in, tests_in_each, yes}
use Rattle.findings.specs.Asked.{AreAsked, AreNumbersOf, AsksBase, HasTestNumber, IsAsked, IsRenumbered}
use Rattle.findings.specs.Queries.{plan_or_yes}
use Rattle.findings.specs.Renumbering.{renumbered_tree, renumbered_each}
use Rattle.std.proofs.Common.{rules}

-- ---- lists of tests

-- tests that are read in two parts
pub reads-append : (a xs b ys c : List Test) → Collects a xs b → Collects b ys c → Collects a (xs ++ ys) c
reads-append a [] b ys c nothing second = second
reads-append a (t ∷ xs) b ys c (again had first) second = again had (reads-append a xs b ys c first second)
reads-append a (t ∷ xs) b ys c (anew not_had first) second = anew not_had (reads-append (a ++ t ∷ []) xs b ys c first second)

-- what a list has in front
pub record IsFront (a b : List Test) : Type 0 where
  pub rest : List Test
  pub is : b ≡ a ++ rest

pub reads-front : (a xs b : List Test) → Collects a xs b → IsFront a b
reads-front a [] b nothing = record { rest = []; is = sym (append-nil a) }
reads-front a (t ∷ xs) b (again had first) = reads-front a xs b first
reads-front a (t ∷ xs) b (anew not_had first) =
    let longer : IsFront (a ++ t ∷ []) b = reads-front (a ++ t ∷ []) xs b first in
    record { rest = t ∷ longer.rest; is = longer.is ∙ append_assoc a (t ∷ []) longer.rest }

same-rest : (a xs ys : List Test) → a ++ xs ≡ a ++ ys → xs ≡ ys
same-rest [] xs ys e = e
same-rest (t ∷ a) xs ys e = same-rest a xs ys (cc)

-- one test that is read: it is had, or it is new
record IsHad (mid rest got : List Test) (t : Test) : Type 0 where
  there : Contains mid t
  reads : Collects mid rest got

record IsNew (mid rest got : List Test) (t : Test) : Type 0 where
  new : ¬ Contains mid t
  reads : Collects (mid ++ t ∷ []) rest got

first-read : (mid rest got : List Test) (t : Test) → Collects mid (t ∷ rest) got → IsHad mid rest got t ⊎ IsNew mid rest got t
first-read mid rest got t (again there reads) = inl (record { there = there; reads = reads })
first-read mid rest got t (anew new reads) = inr (record { new = new; reads = reads })

-- a list that was read once may be read again in its stead, by whoever has of it what was had
reads-through : (seen read base rest mid got : List Test) → Collects seen read base → base ≡ seen ++ rest → ((t : Test) → Contains seen t → Contains mid t) → Collects mid rest got → Collects mid read got
reads-through seen [] base rest mid got nothing is had reads =
    let empty : rest ≡ [] = same-rest seen rest [] (sym is ∙ sym (append-nil seen)) in
    subst (λ (xs : List Test). Collects mid xs got) empty reads
reads-through seen (t ∷ read) base rest mid got (again there first) is had reads =
    again (had t there) (reads-through seen read base rest mid got first is had reads)
reads-through seen (t ∷ read) base rest mid got (anew new first) is had reads =
    let longer = reads-front (seen ++ t ∷ []) read base first in
    let next : rest ≡ t ∷ longer.rest = same-rest seen rest (t ∷ longer.rest) (sym is ∙ longer.is ∙ append_assoc seen (t ∷ []) longer.rest) in
    elim (first-read mid longer.rest got t (subst (λ (xs : List Test). Collects mid xs got) next reads)) [
      | inl old ↦ again old.there (reads-through (seen ++ t ∷ []) read base longer.rest mid got first longer.is (λ u h. elim (Contains-push_cases seen t u h) [
        | inl before ↦ had u before
        | inr same ↦ subst (Contains mid) same old.there
      ]) old.reads)
      | inr one ↦ anew one.new (reads-through (seen ++ t ∷ []) read base longer.rest (mid ++ t ∷ []) got first longer.is (λ u h. elim (Contains-push_cases seen t u h) [
        | inl before ↦ Contains-append_left mid (t ∷ []) u (had u before)
        | inr same ↦ subst (Contains (mid ++ t ∷ [])) same (Contains-push mid t)
      ]) one.reads)
    ]

pub reads-again : (read base had got : List Test) → Collects [] read base → Collects had base got → Collects had read got
reads-again read base had got first reads = reads-through [] read base base had got first refl (λ t h. absurd (omega (arith, h.1))) reads

-- ---- trees keep their plans where tests are added at the end

pub at-some : {T : Type 0} (xs : List T) (i : ℕ) → i < length xs → (x : T) × (slice_get xs i ≡ Some x)
at-some [] i within = absurd (omega (arith, within))
at-some (x ∷ xs) zero within = (x, refl)
at-some (x ∷ xs) (suc i) within = at-some xs i (omega (arith, within))

at-longer : (xs ys : List Test) (n : ℕ) (t : Test) → slice_get xs n ≡ Some t → slice_get (xs ++ ys) n ≡ Some t
at-longer [] ys n t e = absurd (cc)
at-longer (x ∷ xs) ys zero t e = e
at-longer (x ∷ xs) ys (suc n) t e = at-longer xs ys n t e

mutual
  numbered-longer : (xs ys : List Test) (p : Plan) (t : Tree) → IsNumbered xs p t → IsNumbered (xs ++ ys) p t
  numbered-longer xs ys yes tree.yes numbered_yes = numbered_yes
  numbered-longer xs ys (ask u) (tree.test n) (numbered_ask at) = numbered_ask (at-longer xs ys n u at)
  numbered-longer xs ys (not p) (tree.not t) (numbered_not h) = numbered_not (numbered-longer xs ys p t h)
  numbered-longer xs ys (all ps) (tree.all ts) (numbered_all h) = numbered_all (all-longer xs ys ps ts h)
  numbered-longer xs ys (one_of ps) (tree.one_of ts) (numbered_one_of h) = numbered_one_of (all-longer xs ys ps ts h)
  numbered-longer xs ys yes tree.no x = elim x [ ]
  numbered-longer xs ys yes (tree.test n) x = elim x [ ]
  numbered-longer xs ys yes (tree.not t) x = elim x [ ]
  numbered-longer xs ys yes (tree.all ts) x = elim x [ ]
  numbered-longer xs ys yes (tree.one_of ts) x = elim x [ ]
  numbered-longer xs ys (ask u) tree.yes x = elim x [ ]
  numbered-longer xs ys (ask u) tree.no x = elim x [ ]
  numbered-longer xs ys (ask u) (tree.not t) x = elim x [ ]
  numbered-longer xs ys (ask u) (tree.all ts) x = elim x [ ]
  numbered-longer xs ys (ask u) (tree.one_of ts) x = elim x [ ]
  numbered-longer xs ys (not p) tree.yes x = elim x [ ]
  numbered-longer xs ys (not p) tree.no x = elim x [ ]
  numbered-longer xs ys (not p) (tree.test n) x = elim x [ ]
  numbered-longer xs ys (not p) (tree.all ts) x = elim x [ ]
  numbered-longer xs ys (not p) (tree.one_of ts) x = elim x [ ]
  numbered-longer xs ys (all ps) tree.yes x = elim x [ ]
  numbered-longer xs ys (all ps) tree.no x = elim x [ ]
  numbered-longer xs ys (all ps) (tree.test n) x = elim x [ ]
  numbered-longer xs ys (all ps) (tree.not t) x = elim x [ ]
  numbered-longer xs ys (all ps) (tree.one_of ts) x = elim x [ ]
  numbered-longer xs ys (one_of ps) tree.yes x = elim x [ ]
  numbered-longer xs ys (one_of ps) tree.no x = elim x [ ]
  numbered-longer xs ys (one_of ps) (tree.test n) x = elim x [ ]
  numbered-longer xs ys (one_of ps) (tree.not t) x = elim x [ ]
  numbered-longer xs ys (one_of ps) (tree.all ts) x = elim x [ ]

  all-longer : (xs ys : List Test) (ps : Plans) (ts : Trees) → AreNumbered xs ps ts → AreNumbered (xs ++ ys) ps ts
  all-longer xs ys none tree.none numbered_none = numbered_none
  all-longer xs ys (more p ps) (tree.more t ts) (numbered_more h hs) = numbered_more (numbered-longer xs ys p t h) (all-longer xs ys ps ts hs)
  all-longer xs ys none (tree.more t ts) x = elim x [ ]
  all-longer xs ys (more p ps) tree.none x = elim x [ ]

pub numbered-since : (a xs b : List Test) (p : Plan) (t : Tree) → Collects a xs b → IsNumbered a p t → IsNumbered b p t
numbered-since a xs b p t reads h =
    let longer = reads-front a xs b reads in
    subst (λ (tests : List Test). IsNumbered tests p t) (sym longer.is) (numbered-longer a longer.rest p t h)

pub numbered-after : (a xs b : List Test) (ps : Plans) (ts : Trees) → Collects a xs b → AreNumbered a ps ts → AreNumbered b ps ts
numbered-after a xs b ps ts reads h =
    let longer = reads-front a xs b reads in
    subst (λ (tests : List Test). AreNumbered tests ps ts) (sym longer.is) (all-longer a longer.rest ps ts h)

-- ---- several plans

numbered-append : (tests : List Test) (ps qs : List Plan) (xs ys : List Tree) → AreNumbered tests (of_plans ps) (of_list xs) → AreNumbered tests (of_plans qs) (of_list ys) → AreNumbered tests (of_plans (ps ++ qs)) (of_list (xs ++ ys))
numbered-append tests [] qs [] ys h k = k
numbered-append tests [] qs (x ∷ xs) ys h k = elim h [ ]
numbered-append tests (p ∷ ps) qs [] ys h k = elim h [ ]
numbered-append tests (p ∷ ps) qs (x ∷ xs) ys (numbered_more h hs) k = numbered_more h (numbered-append tests ps qs xs ys hs k)

tests-append : (ps qs : List Plan) → tests_in_each (of_plans (ps ++ qs)) ≡ tests_in_each (of_plans ps) ++ tests_in_each (of_plans qs)
tests-append [] qs = refl
tests-append (p ∷ ps) qs =
    ap (λ (xs : List Test). tests_in p ++ xs) (tests-append ps qs) ∙ sym (append_assoc (tests_in p) (tests_in_each (of_plans ps)) (tests_in_each (of_plans qs)))

pub asked-none : (a : List Test) (ts : List Tree) → AreAsked a a [] ts ts
asked-none a ts = record { collects = nothing; more = []; is = sym (append-nil ts); numbered = numbered_none }

pub asked-append : (a b c : List Test) (ps qs : List Plan) (before mid after : List Tree) → AreAsked a b ps before mid → AreAsked b c qs mid after → AreAsked a c (ps ++ qs) before after
asked-append a b c ps qs before mid after first second = record {
  collects = subst (λ (xs : List Test). Collects a xs c) (sym (tests-append ps qs)) (reads-append a (tests_in_each (of_plans ps)) b (tests_in_each (of_plans qs)) c first.collects second.collects);
  more = first.more ++ second.more;
  is = second.is ∙ ap (λ (xs : List Tree). xs ++ second.more) first.is ∙ append_assoc before first.more second.more;
  numbered = numbered-append c ps qs first.more second.more (numbered-after b (tests_in_each (of_plans qs)) c (of_plans ps) (of_list first.more) second.collects first.numbered) second.numbered;
}

pub asked-one : (a b : List Test) (p : Plan) (t : Tree) (before : List Tree) → IsAsked a b p t → AreAsked a b (p ∷ []) before (before ++ t ∷ [])
asked-one a b p t before h = record {
  collects = subst (λ (xs : List Test). Collects a xs b) (sym (append-nil (tests_in p))) h.collects;
  more = t ∷ [];
  is = refl;
  numbered = numbered_more h.numbered numbered_none;
}

pub asked-next : (a b c : List Test) (ps : List Plan) (p : Plan) (before mid after : List Tree) (t : Tree) → AreAsked a b ps before mid → IsAsked b c p t → after ≡ mid ++ t ∷ [] → AreAsked a c (ps ++ p ∷ []) before after
asked-next a b c ps p before mid after t first second grows =
    subst (λ (xs : List Tree). AreAsked a c (ps ++ p ∷ []) before xs) (sym grows) (asked-append a b c ps (p ∷ []) before mid (mid ++ t ∷ []) first (asked-one b c p t mid second))

-- ---- the base

mutual
  renumber-numbered : (old new tests : List Test) (numbers : List ℕ) → AreNumbersOf old new tests numbers → (p : Plan) (t : Tree) → IsNumbered tests p t → IsNumbered new p (renumbered_tree numbers t)
  renumber-numbered old new tests numbers is yes tree.yes numbered_yes = numbered_yes
  renumber-numbered old new tests numbers is (ask u) (tree.test n) (numbered_ask at) = numbered_ask (is.each n u at)
  renumber-numbered old new tests numbers is (not p) (tree.not t) (numbered_not h) = numbered_not (renumber-numbered old new tests numbers is p t h)
  renumber-numbered old new tests numbers is (all ps) (tree.all ts) (numbered_all h) = numbered_all (renumber-all old new tests numbers is ps ts h)
  renumber-numbered old new tests numbers is (one_of ps) (tree.one_of ts) (numbered_one_of h) = numbered_one_of (renumber-all old new tests numbers is ps ts h)
  renumber-numbered old new tests numbers is yes tree.no x = elim x [ ]
  renumber-numbered old new tests numbers is yes (tree.test n) x = elim x [ ]
  renumber-numbered old new tests numbers is yes (tree.not t) x = elim x [ ]
  renumber-numbered old new tests numbers is yes (tree.all ts) x = elim x [ ]
  renumber-numbered old new tests numbers is yes (tree.one_of ts) x = elim x [ ]
  renumber-numbered old new tests numbers is (ask u) tree.yes x = elim x [ ]
  renumber-numbered old new tests numbers is (ask u) tree.no x = elim x [ ]
  renumber-numbered old new tests numbers is (ask u) (tree.not t) x = elim x [ ]
  renumber-numbered old new tests numbers is (ask u) (tree.all ts) x = elim x [ ]
  renumber-numbered old new tests numbers is (ask u) (tree.one_of ts) x = elim x [ ]
  renumber-numbered old new tests numbers is (not p) tree.yes x = elim x [ ]
  renumber-numbered old new tests numbers is (not p) tree.no x = elim x [ ]
  renumber-numbered old new tests numbers is (not p) (tree.test n) x = elim x [ ]
  renumber-numbered old new tests numbers is (not p) (tree.all ts) x = elim x [ ]
  renumber-numbered old new tests numbers is (not p) (tree.one_of ts) x = elim x [ ]
  renumber-numbered old new tests numbers is (all ps) tree.yes x = elim x [ ]
  renumber-numbered old new tests numbers is (all ps) tree.no x = elim x [ ]
  renumber-numbered old new tests numbers is (all ps) (tree.test n) x = elim x [ ]
  renumber-numbered old new tests numbers is (all ps) (tree.not t) x = elim x [ ]
  renumber-numbered old new tests numbers is (all ps) (tree.one_of ts) x = elim x [ ]
  renumber-numbered old new tests numbers is (one_of ps) tree.yes x = elim x [ ]
  renumber-numbered old new tests numbers is (one_of ps) tree.no x = elim x [ ]
  renumber-numbered old new tests numbers is (one_of ps) (tree.test n) x = elim x [ ]
  renumber-numbered old new tests numbers is (one_of ps) (tree.not t) x = elim x [ ]
  renumber-numbered old new tests numbers is (one_of ps) (tree.all ts) x = elim x [ ]

  renumber-all : (old new tests : List Test) (numbers : List ℕ) → AreNumbersOf old new tests numbers → (ps : Plans) (ts : Trees) → AreNumbered tests ps ts → AreNumbered new ps (renumbered_each numbers ts)
  renumber-all old new tests numbers is none tree.none numbered_none = numbered_none
  renumber-all old new tests numbers is (more p ps) (tree.more t ts) (numbered_more h hs) = numbered_more (renumber-numbered old new tests numbers is p t h) (renumber-all old new tests numbers is ps ts hs)
  renumber-all old new tests numbers is none (tree.more t ts) x = elim x [ ]
  renumber-all old new tests numbers is (more p ps) tree.none x = elim x [ ]

pub base-asked : (old new : List Test) (base : Query) (f : Rc Formula Global) → IsRenumbered old new base (tree_of f.value) → AsksBase old new base f
base-asked old new base f is allowed query = record {
  collects = reads-again (tests_in allowed) base.tests old new query.tests is.are.collects;
  numbered = subst (IsNumbered new allowed) (sym is.tree) (renumber-numbered old new base.tests is.numbers is.are allowed (tree_of base.formula.value) query.tree);
}

-- ---- the answers of the steps

tree-Yes : tree_of Yes ≡ tree.yes
tree-Yes = search (rules, the_lemmas)

tree-Test : (n : ℕ) → tree_of (TestNode n) ≡ tree.test n
tree-Test n = search (rules, the_lemmas)

tree-Not : (r : Rc Formula Global) → tree_of (Not r) ≡ tree.not (tree_of r.value)
tree-Not r = search (rules, the_lemmas)

tree-OneOf : (b : Branches) → tree_of (OneOf b) ≡ tree.one_of (of_list (trees_of b))
tree-OneOf b = search (rules, the_lemmas)

pub nothing-asked : (o : Option Test) (a : List Test) (f : Formula) → ((t : Test) → ¬ (o ≡ Some t)) → f ≡ Yes → IsAsked a a (plan_or_yes o) (tree_of f)
nothing-asked None a f never is = record { collects = nothing; numbered = subst (IsNumbered a yes) (sym (ap tree_of is ∙ tree-Yes)) numbered_yes }
nothing-asked (Some t) a f never is = absurd (never t refl)

pub test-asked : (o : Option Test) (t : Test) (n : ℕ) (a b : List Test) (f : Formula) → o ≡ Some t → HasTestNumber a b t n → f ≡ TestNode n → IsAsked a b (plan_or_yes o) (tree_of f)
test-asked o t n a b f is had same =
    subst (λ (x : Option Test). IsAsked a b (plan_or_yes x) (tree_of f)) (sym is) (record {
      collects = had.collects;
      numbered = subst (IsNumbered b (ask t)) (sym (ap tree_of same ∙ tree-Test n)) (numbered_ask had.at);
    })

pub some-of-asked : (a b : List Test) (ps : List Plan) (before : List Tree) (branches : Branches) (f : Formula) → before ≡ [] → AreAsked a b ps before (trees_of branches) → f ≡ OneOf branches → IsAsked a b (one_of (of_plans ps)) (tree_of f)
some-of-asked a b ps before branches f empty asked is =
    let more_is : trees_of branches ≡ asked.more = asked.is ∙ ap (λ (xs : List Tree). xs ++ asked.more) empty in
    let tree_is : tree_of f ≡ tree.one_of (of_list asked.more) = ap tree_of is ∙ tree-OneOf branches ∙ ap (λ (xs : List Tree). tree.one_of (of_list xs)) more_is in
    record { collects = asked.collects; numbered = subst (IsNumbered b (one_of (of_plans ps))) (sym tree_is) (numbered_one_of asked.numbered) }

pub not-asked : (a b : List Test) (p : Plan) (inner : Rc Formula Global) (f : Formula) → IsAsked a b p (tree_of inner.value) → f ≡ Not inner → IsAsked a b (not p) (tree_of f)
not-asked a b p inner f asked is =
    record { collects = asked.collects; numbered = subst (IsNumbered b (not p)) (sym (ap tree_of is ∙ tree-Not inner)) (numbered_not asked.numbered) }

pub none-of-asked : (a b : List Test) (ps : List Plan) (before : List Tree) (branches : Branches) (some : Rc Formula Global) (f : Formula) → before ≡ [] → AreAsked a b ps before (trees_of branches) → some.value ≡ OneOf branches → f ≡ Not some → IsAsked a b (not (one_of (of_plans ps))) (tree_of f)
none-of-asked a b ps before branches some f empty asked is same = not-asked a b (one_of (of_plans ps)) some f (some-of-asked a b ps before branches some.value empty asked is) same

-- ---- the numbers

pub numbers-none : (a : List Test) (numbers : List ℕ) → numbers ≡ [] → AreNumbersOf a a [] numbers
numbers-none a numbers empty = record { collects = nothing; count = ap length empty; each = λ i t at. absurd (cc) }

pub at-last : (tests : List Test) (t : Test) (i : ℕ) (u : Test) → slice_get (tests ++ t ∷ []) i ≡ Some u → (slice_get tests i ≡ Some u) ⊎ ((i ≡ length tests) × (t ≡ u))
at-last [] t zero u e = inr (refl, cc)
at-last [] t (suc i) u e = absurd (cc)
at-last (x ∷ xs) t zero u e = inl e
at-last (x ∷ xs) t (suc i) u e = elim (at-last xs t i u e) [ inl at ↦ inl at | inr last ↦ inr (ap suc last.0, last.1) ]

index-before : (numbers : List ℕ) (n i : ℕ) → i < length numbers → slice_index (numbers ++ n ∷ []) i ≡ slice_index numbers i
index-before [] n i within = absurd (omega (arith, within))
index-before (m ∷ numbers) n zero within = refl
index-before (m ∷ numbers) n (suc i) within = index-before numbers n i (omega (arith, within))

index-last : (numbers : List ℕ) (n : ℕ) → slice_index (numbers ++ n ∷ []) (length numbers) ≡ n
index-last [] n = refl
index-last (m ∷ numbers) n = index-last numbers n

numbers-more : (a b c : List Test) (tests : List Test) (t : Test) (numbers : List ℕ) (n : ℕ) → AreNumbersOf a b tests numbers → HasTestNumber b c t n → AreNumbersOf a c (tests ++ t ∷ []) (numbers ++ n ∷ [])
numbers-more a b c tests t numbers n before had =
    let longer = reads-front b (t ∷ []) c had.collects in
    record {
      collects = reads-append a tests b (t ∷ []) c before.collects had.collects;
      count = (let one = length-append numbers (n ∷ []) in let other = length-append tests (t ∷ []) in omega (arith, one, other, before.count));
      each = λ i u at. elim (at-last tests t i u at) [
        | inl old ↦ (
            let room = slice_get_within tests i u old in
            let same = index-before numbers n i (omega (arith, room, before.count)) in
            subst (λ (k : ℕ). slice_get c k ≡ Some u) (sym same) (subst (λ (xs : List Test). slice_get xs (slice_index numbers i) ≡ Some u) (sym longer.is) (at-longer b longer.rest (slice_index numbers i) u (before.each i u old))))
        | inr last ↦ (
            let at_end : i ≡ length numbers = omega (arith, last.0, before.count) in
            let same : slice_index (numbers ++ n ∷ []) i ≡ n = ap (slice_index (numbers ++ n ∷ [])) at_end ∙ index-last numbers n in
            subst (λ (k : ℕ). slice_get c k ≡ Some u) (sym same) (subst (λ (x : Test). slice_get c n ≡ Some x) last.1 had.at))
      ];
    }

pub numbers-next : (a b c : List Test) (tests : List Test) (i : ℕ) (t copy : Test) (numbers longer : List ℕ) (n : ℕ) → i < length tests → t ≡ get_or tests i t → copy ≡ t → AreNumbersOf a b (take i tests) numbers → HasTestNumber b c copy n → longer ≡ numbers ++ n ∷ [] → AreNumbersOf a c (take (i + 1) tests) longer
numbers-next a b c tests i t copy numbers longer n within is same before had grows =
    let one : take (i + 1) tests ≡ take i tests ++ copy ∷ [] = take_more tests i t within ∙ ap (λ (x : Test). take i tests ++ x ∷ []) (sym is ∙ sym same) in
    subst (λ (xs : List Test). AreNumbersOf a c xs longer) (sym one) (subst (AreNumbersOf a c (take i tests ++ copy ∷ [])) (sym grows) (numbers-more a b c (take i tests) copy numbers n before had))
