-- The steps of making a query, one after the other.
use Rattle.std.proofs.Common.{◌≡◌, ◌≤◌, ◌<◌, ◌+◌, ℕ, List, [], ◌∷◌, ◌++◌, length, take, drop, get_or, Bool, true, false, All, refl, ap, sym, ◌∙◌, subst}
use mathlib.Core.Bool.{beq}
use mathlib.Core.Bool.{not as opposite}
use Rattle.std.specs.List.{flat_map}
use Rattle.std.proofs.lemmas.List.{append_assoc, append-nil, take_more, take_all, take-append-drop}
use Rattle.std.proofs.lemmas.List.Elements.{All-cons, All-nil}
use Rattle.std.proofs.lemmas.Option.{slice_get_within}
use Rattle.policy_model.specs.declared.operator.Condition.{Condition}
use Rattle.policy_model.specs.declared.operator.Operand.{Operand}
use Rattle.policy_model.specs.declared.operator.Operand.TheVariants as operand
use Rattle.policy_model.specs.declared.test.Test.{Test}
use Rattle.policy_compile.specs.declared.builder.Builder.{Builder}
use Rattle.policy_compile.specs.declared.nodes.Node.{Node}
use Rattle.policy_compile.specs.declared.nodes.Node.TheVariants as node
use Rattle.policy_compile.specs.declared.outcome.QueryFault.{QueryFault}
use Rattle.policy_compile.specs.declared.outcome.QueryFault.TheVariants.{TooManyTests, TooManyPieces, NoMemory}
use Rattle.policy_compile.specs.Conditions.{null_plans}
use Rattle.policy_compile.specs.Plans.{Plan, Plans, yes, ask, not, all, one_of, none, more, of_plans, tests_in, tests_in_each}
use Rattle.policy_compile.specs.Sets.{some_or_none, where_same}
use Rattle.policy_compile.specs.Nodes.{IsPlanAt, ArePlansAt, plan_yes, plan_ask, plan_not, plan_all, plan_one_of, plans_none, plans_more}
use Rattle.policy_compile.specs.Numbering.{Collects, nothing}
use Rattle.std.specs.Prelude.{Result, Ok, Err}
use Rattle.std.specs.Result.{IsErrAnd}
use Rattle.policy_compile.specs.Building.{Added, IsBeginningOf, Built, Fails, HasNode, IsAdded, IsBuilt}
use Rattle.policy_compile.proofs.Collecting.{Collects-append, Collects-begins, HasTooMany-behind, HasTooMany-more, slice_get-longer, tests_in_each-append}

-- ---- lists that grow

begins-same : {T : Type 0} (a : List T) → IsBeginningOf a a
begins-same a = record { rest = []; is = sym (append-nil a) }

begins-then : {T : Type 0} (a b c : List T) → IsBeginningOf a b → IsBeginningOf b c → IsBeginningOf a c
begins-then a b c one two = record { rest = one.rest ++ two.rest; is = two.is ∙ ap (λ xs. xs ++ two.rest) one.is ∙ append_assoc a one.rest two.rest }

-- a node stays the plan
mutual
  plan-longer : (a b : List Test) (m n : List Node) (p : Plan) (i : ℕ) → IsPlanAt a m p i → IsPlanAt (a ++ b) (m ++ n) p i
  plan-longer a b m n yes i (plan_yes at) = plan_yes (slice_get-longer m n i node.Yes at)
  plan-longer a b m n (ask t) i (plan_ask {n = k} at number) = plan_ask (slice_get-longer m n i (node.Test k) at) (slice_get-longer a b k t number)
  plan-longer a b m n (not p) i (plan_not {c} at inside) = plan_not (slice_get-longer m n i (node.Not c) at) (plan-longer a b m n p c inside)
  plan-longer a b m n (all ps) i (plan_all {cs} at inside) = plan_all (slice_get-longer m n i (node.All cs) at) (plans-longer a b m n ps cs inside)
  plan-longer a b m n (one_of ps) i (plan_one_of {cs} at inside) = plan_one_of (slice_get-longer m n i (node.OneOf cs) at) (plans-longer a b m n ps cs inside)

  plans-longer : (a b : List Test) (m n : List Node) (ps : Plans) (is : List ℕ) → ArePlansAt a m ps is → ArePlansAt (a ++ b) (m ++ n) ps is
  plans-longer a b m n none [] plans_none = plans_none
  plans-longer a b m n (more p ps) (i ∷ is) (plans_more first rest) = plans_more (plan-longer a b m n p i first) (plans-longer a b m n ps is rest)
  plans-longer a b m n none (i ∷ is) h = elim h [ ]
  plans-longer a b m n (more p ps) [] h = elim h [ ]

plan-along : (a b : List Test) (m n : List Node) (p : Plan) (i : ℕ) → IsBeginningOf a b → IsBeginningOf m n → IsPlanAt a m p i → IsPlanAt b n p i
plan-along a b m n p i tests nodes h =
    subst (λ (xs : List Test). IsPlanAt xs n p i) (sym tests.is) (subst (λ (ys : List Node). IsPlanAt (a ++ tests.rest) ys p i) (sym nodes.is) (plan-longer a tests.rest m nodes.rest p i h))

plans-along : (a b : List Test) (m n : List Node) (ps : Plans) (is : List ℕ) → IsBeginningOf a b → IsBeginningOf m n → ArePlansAt a m ps is → ArePlansAt b n ps is
plans-along a b m n ps is tests nodes h =
    subst (λ (xs : List Test). ArePlansAt xs n ps is) (sym tests.is) (subst (λ (ys : List Node). ArePlansAt (a ++ tests.rest) ys ps is) (sym nodes.is) (plans-longer a tests.rest m nodes.rest ps is h))

-- a plan's node is among the nodes
plan-within : (a : List Test) (m : List Node) (p : Plan) (i : ℕ) → IsPlanAt a m p i → i < length m
plan-within a m yes i (plan_yes at) = slice_get_within m i node.Yes at
plan-within a m (ask t) i (plan_ask {n} at number) = slice_get_within m i (node.Test n) at
plan-within a m (not p) i (plan_not {c} at inside) = slice_get_within m i (node.Not c) at
plan-within a m (all ps) i (plan_all {cs} at inside) = slice_get_within m i (node.All cs) at
plan-within a m (one_of ps) i (plan_one_of {cs} at inside) = slice_get_within m i (node.OneOf cs) at

plans-within : (a : List Test) (m : List Node) (ps : Plans) (is : List ℕ) → ArePlansAt a m ps is → All (λ i. i < length m) is
plans-within a m none [] plans_none = All-nil (λ i. i < length m)
plans-within a m (more p ps) (i ∷ is) (plans_more first rest) = All-cons (λ i. i < length m) i is (plan-within a m p i first) (plans-within a m ps is rest)
plans-within a m none (i ∷ is) h = elim h [ ]
plans-within a m (more p ps) [] h = elim h [ ]

-- nodes after nodes
plans-append : (a : List Test) (m : List Node) (ps qs : List Plan) (is js : List ℕ) → ArePlansAt a m (of_plans ps) is → ArePlansAt a m (of_plans qs) js → ArePlansAt a m (of_plans (ps ++ qs)) (is ++ js)
plans-append a m [] qs [] js plans_none second = second
plans-append a m (p ∷ ps) qs (i ∷ is) js (plans_more first rest) second = plans_more first (plans-append a m ps qs is js rest second)
plans-append a m [] qs (i ∷ is) js h second = elim h [ ]
plans-append a m (p ∷ ps) qs [] js h second = elim h [ ]

-- ---- one plan

pub Built-within : (old new : Builder) (p : Plan) (i : ℕ) → Built old new p i → i < length new.nodes.keys
Built-within old new p i h = plan-within new.tests.keys new.nodes.keys p i h.node

-- the node that always holds
pub yes-built : (old new : Builder) (i : ℕ) → HasNode old new node.Yes i → Built old new yes i
yes-built old new i h = record { collects = subst (λ (xs : List Test). Collects old.tests.keys [] xs) (sym h.tests) nothing; grows = h.grows; node = plan_yes h.at }

pub not-built : (old mid new : Builder) (p : Plan) (c i : ℕ) → Built old mid p c → HasNode mid new (node.Not c) i → Built old new (not p) i
not-built old mid new p c i inside h = record {
  collects = subst (λ (xs : List Test). Collects old.tests.keys (tests_in p) xs) (sym h.tests) inside.collects;
  grows = begins-then old.nodes.keys mid.nodes.keys new.nodes.keys inside.grows h.grows;
  node = plan_not h.at (subst (λ (xs : List Test). IsPlanAt xs new.nodes.keys p c) (sym h.tests) (plan-along mid.tests.keys mid.tests.keys mid.nodes.keys new.nodes.keys p c (begins-same mid.tests.keys) h.grows inside.node));
}

-- a node is among the nodes
pub child-within : (old new : Builder) (n : Node) (i : ℕ) → HasNode old new n i → All (λ c. c < length new.nodes.keys) (i ∷ [])
child-within old new n i h = All-cons (λ c. c < length new.nodes.keys) i [] (slice_get_within new.nodes.keys i n h.at) (All-nil (λ c. c < length new.nodes.keys))

-- a Not element, and one that isn't
pub some-built : (old new : Builder) (ps : List Plan) (n : Bool) (i : ℕ) → n ≡ false → Built old new (one_of (of_plans ps)) i → Built old new (some_or_none n ps) i
some-built old new ps true i e h = absurd (cc)
some-built old new ps false i e h = h

pub none-built : (old new : Builder) (ps : List Plan) (n : Bool) (i : ℕ) → n ≡ true → Built old new (not (one_of (of_plans ps))) i → Built old new (some_or_none n ps) i
none-built old new ps true i e h = h
none-built old new ps false i e h = absurd (cc)

-- the same plan under another name
pub at-plan : (old new : Builder) (p q : Plan) (i : ℕ) → p ≡ q → Built old new p i → Built old new q i
at-plan old new p q i e h = subst (λ (x : Plan). Built old new x i) e h

pub at-plans : (old new : Builder) (ps qs : List Plan) (s t : List ℕ) → ps ≡ qs → Added old new ps s t → Added old new qs s t
at-plans old new ps qs s t e h = subst (λ (xs : List Plan). Added old new xs s t) e h

-- plans that were added to no others
pub from-empty : (old new : Builder) (ps qs : List Plan) (s t : List ℕ) → s ≡ [] → ps ≡ qs → Added old new ps s t → Added old new qs [] t
from-empty old new ps qs s t e f h = at-plans old new ps qs [] t f (subst (λ (xs : List ℕ). Added old new ps xs t) e h)

-- ---- plans that were added

pub Added-nothing : (b : Builder) (is : List ℕ) → Added b b [] is is
Added-nothing b is = record { collects = nothing; grows = begins-same b.nodes.keys; more = []; is = sym (append-nil is); nodes = plans_none }

pub Added-one : (old new : Builder) (p : Plan) (i : ℕ) (before after : List ℕ) → Built old new p i → after ≡ before ++ i ∷ [] → Added old new (p ∷ []) before after
Added-one old new p i before after h is = record {
  collects = subst (λ (xs : List Test). Collects old.tests.keys xs new.tests.keys) (sym (append-nil (tests_in p))) h.collects;
  grows = h.grows;
  more = i ∷ [];
  is = is;
  nodes = plans_more h.node plans_none;
}

pub Added-then : (old mid new : Builder) (ps qs : List Plan) (s t u : List ℕ) → Added old mid ps s t → Added mid new qs t u → Added old new (ps ++ qs) s u
Added-then old mid new ps qs s t u one two = record {
  collects = subst (λ (xs : List Test). Collects old.tests.keys xs new.tests.keys) (sym (tests_in_each-append ps qs))
      (Collects-append old.tests.keys (tests_in_each (of_plans ps)) mid.tests.keys (tests_in_each (of_plans qs)) new.tests.keys one.collects two.collects);
  grows = begins-then old.nodes.keys mid.nodes.keys new.nodes.keys one.grows two.grows;
  more = one.more ++ two.more;
  is = two.is ∙ ap (λ xs. xs ++ two.more) one.is ∙ append_assoc s one.more two.more;
  nodes = plans-append new.tests.keys new.nodes.keys ps qs one.more two.more
      (plans-along mid.tests.keys new.tests.keys mid.nodes.keys new.nodes.keys (of_plans ps) one.more (Collects-begins mid.tests.keys (tests_in_each (of_plans qs)) new.tests.keys two.collects) two.grows one.nodes) two.nodes;
}

-- one more plan was added
pub Added-push : (old mid new : Builder) (ps : List Plan) (p : Plan) (i : ℕ) (s t u : List ℕ) → Added old mid ps s t → Built mid new p i → u ≡ t ++ i ∷ [] → Added old new (ps ++ p ∷ []) s u
Added-push old mid new ps p i s t u one last is = Added-then old mid new ps (p ∷ []) s t u one (Added-one mid new p i t u last is)

pub Added-within : (old new : Builder) (ps : List Plan) (is : List ℕ) → Added old new ps [] is → All (λ i. i < length new.nodes.keys) is
Added-within old new ps is h = subst (λ (xs : List ℕ). All (λ i. i < length new.nodes.keys) xs) (sym h.is) (plans-within new.tests.keys new.nodes.keys (of_plans ps) h.more h.nodes)

inside-along : (mid new : Builder) (ps : List Plan) (is : List ℕ) (n : Node) (i : ℕ) → HasNode mid new n i → ArePlansAt mid.tests.keys mid.nodes.keys (of_plans ps) is → ArePlansAt new.tests.keys new.nodes.keys (of_plans ps) is
inside-along mid new ps is n i h inside =
    subst (λ (xs : List Test). ArePlansAt xs new.nodes.keys (of_plans ps) is) (sym h.tests)
    (plans-along mid.tests.keys mid.tests.keys mid.nodes.keys new.nodes.keys (of_plans ps) is (begins-same mid.tests.keys) h.grows inside)

-- all of them together, and some of them
pub all-built : (old mid new : Builder) (ps : List Plan) (is : List ℕ) (i : ℕ) → Added old mid ps [] is → HasNode mid new (node.All is) i → Built old new (all (of_plans ps)) i
all-built old mid new ps is i added h = record {
  collects = subst (λ (xs : List Test). Collects old.tests.keys (tests_in_each (of_plans ps)) xs) (sym h.tests) added.collects;
  grows = begins-then old.nodes.keys mid.nodes.keys new.nodes.keys added.grows h.grows;
  node = plan_all h.at (inside-along mid new ps is (node.All is) i h (subst (λ (xs : List ℕ). ArePlansAt mid.tests.keys mid.nodes.keys (of_plans ps) xs) (sym added.is) added.nodes));
}

pub one_of-built : (old mid new : Builder) (ps : List Plan) (is : List ℕ) (i : ℕ) → Added old mid ps [] is → HasNode mid new (node.OneOf is) i → Built old new (one_of (of_plans ps)) i
one_of-built old mid new ps is i added h = record {
  collects = subst (λ (xs : List Test). Collects old.tests.keys (tests_in_each (of_plans ps)) xs) (sym h.tests) added.collects;
  grows = begins-then old.nodes.keys mid.nodes.keys new.nodes.keys added.grows h.grows;
  node = plan_one_of h.at (inside-along mid new ps is (node.OneOf is) i h (subst (λ (xs : List ℕ). ArePlansAt mid.tests.keys mid.nodes.keys (of_plans ps) xs) (sym added.is) added.nodes));
}

-- ---- plans that fail

pub fails-more : (a xs ys : List Test) (e : QueryFault) → Fails a xs e → Fails a (xs ++ ys) e
fails-more a xs ys TooManyTests h = HasTooMany-more a xs ys h
fails-more a xs ys TooManyPieces h = h
fails-more a xs ys NoMemory h = tt

pub fails-behind : (a xs b ys : List Test) (e : QueryFault) → Collects a xs b → Fails b ys e → Fails a (xs ++ ys) e
fails-behind a xs b ys TooManyTests first h = HasTooMany-behind a xs b ys first h
fails-behind a xs b ys TooManyPieces first h = h
fails-behind a xs b ys NoMemory first h = tt

-- the first plan fails, and plans behind those that were added
pub first-fails : (a : List Test) (p : Plan) (ps : List Plan) (e : QueryFault) → Fails a (tests_in p) e → Fails a (tests_in_each (of_plans (p ∷ ps))) e
first-fails a p ps e h = fails-more a (tests_in p) (tests_in_each (of_plans ps)) e h

pub next-fails : (old mid : Builder) (ps qs : List Plan) (s t : List ℕ) (e : QueryFault) → Added old mid ps s t → Fails mid.tests.keys (tests_in_each (of_plans qs)) e → Fails old.tests.keys (tests_in_each (of_plans (ps ++ qs))) e
next-fails old mid ps qs s t e added h =
    subst (λ (xs : List Test). Fails old.tests.keys xs e) (sym (tests_in_each-append ps qs)) (fails-behind old.tests.keys (tests_in_each (of_plans ps)) mid.tests.keys (tests_in_each (of_plans qs)) e added.collects h)

pub front-fails : (a : List Test) (ps qs : List Plan) (e : QueryFault) → Fails a (tests_in_each (of_plans ps)) e → Fails a (tests_in_each (of_plans (ps ++ qs))) e
front-fails a ps qs e h =
    subst (λ (xs : List Test). Fails a xs e) (sym (tests_in_each-append ps qs)) (fails-more a (tests_in_each (of_plans ps)) (tests_in_each (of_plans qs)) e h)

pub fails-at : (a : List Test) (ps qs : List Plan) (e : QueryFault) → ps ≡ qs → Fails a (tests_in_each (of_plans ps)) e → Fails a (tests_in_each (of_plans qs)) e
fails-at a ps qs e same h = subst (λ (xs : List Plan). Fails a (tests_in_each (of_plans xs)) e) same h

pub plan-fails-at : (a : List Test) (p q : Plan) (e : QueryFault) → p ≡ q → Fails a (tests_in p) e → Fails a (tests_in q) e
plan-fails-at a p q e same h = subst (λ (x : Plan). Fails a (tests_in x) e) same h

-- what a `?` hands out
pub plan-fault : (old new : Builder) (p : Plan) (r : Result ℕ QueryFault) (e : QueryFault) → IsErrAnd r (λ f. f ≡ e) → Fails old.tests.keys (tests_in p) e → IsBuilt old new p r
plan-fault old new p (Ok i) e is h = absurd is
plan-fault old new p (Err f) e is h = subst (λ (x : QueryFault). Fails old.tests.keys (tests_in p) x) (sym is) h

pub plans-fault : {T : Type 0} (old new : Builder) (ps : List Plan) (s t : List ℕ) (r : Result T QueryFault) (e : QueryFault) → IsErrAnd r (λ f. f ≡ e) → Fails old.tests.keys (tests_in_each (of_plans ps)) e → IsAdded old new ps s t r
plans-fault old new ps s t (Ok x) e is h = absurd is
plans-fault old new ps s t (Err f) e is h = subst (λ (x : QueryFault). Fails old.tests.keys (tests_in_each (of_plans ps)) x) (sym is) h

-- ---- the plans of items

flat_map-append : {X A : Type 0} (k : X → List A) (xs ys : List X) → flat_map k (xs ++ ys) ≡ flat_map k xs ++ flat_map k ys
flat_map-append k [] ys = refl
flat_map-append k (x ∷ xs) ys = ap (λ zs. k x ++ zs) (flat_map-append k xs ys) ∙ sym (append_assoc (k x) (flat_map k xs) (flat_map k ys))

flat_map-more : {X A : Type 0} (k : X → List A) (xs : List X) (i : ℕ) (x : X) → i < length xs → x ≡ get_or xs i x → flat_map k (take (i + 1) xs) ≡ flat_map k (take i xs) ++ k x
flat_map-more {X} k xs i x h is =
    ap (flat_map k) (take_more xs i x h) ∙ flat_map-append k (take i xs) (get_or xs i x ∷ [])
    ∙ ap (λ zs. flat_map k (take i xs) ++ zs) (append-nil (k (get_or xs i x)) ∙ ap k (sym is))

flat_map-split : {X A : Type 0} (k : X → List A) (xs : List X) (i : ℕ) (x : X) → i < length xs → x ≡ get_or xs i x → flat_map k xs ≡ (flat_map k (take i xs) ++ k x) ++ flat_map k (drop (i + 1) xs)
flat_map-split k xs i x h is =
    ap (flat_map k) (sym (take-append-drop (i + 1) xs)) ∙ flat_map-append k (take (i + 1) xs) (drop (i + 1) xs) ∙ ap (λ zs. zs ++ flat_map k (drop (i + 1) xs)) (flat_map-more k xs i x h is)

-- one more item was added, all items were, and one failed
pub item-added : {X : Type 0} (k : X → List Plan) (xs : List X) (i : ℕ) (x : X) → i < length xs → x ≡ get_or xs i x → (old mid new : Builder) (s t u : List ℕ) →
    Added old mid (flat_map k (take i xs)) s t → Added mid new (k x) t u → Added old new (flat_map k (take (i + 1) xs)) s u
item-added k xs i x within is old mid new s t u first last =
    subst (λ (ps : List Plan). Added old new ps s u) (sym (flat_map-more k xs i x within is)) (Added-then old mid new (flat_map k (take i xs)) (k x) s t u first last)

pub items-added : {X : Type 0} (k : X → List Plan) (xs : List X) (i : ℕ) → length xs ≤ i → (old new : Builder) (s t : List ℕ) → Added old new (flat_map k (take i xs)) s t → Added old new (flat_map k xs) s t
items-added {X} k xs i end old new s t h = subst (λ (ys : List X). Added old new (flat_map k ys) s t) (take_all i xs end) h

pub item-fails : {X : Type 0} (k : X → List Plan) (xs : List X) (i : ℕ) (x : X) → i < length xs → x ≡ get_or xs i x → (old mid : Builder) (s t : List ℕ) (e : QueryFault) →
    Added old mid (flat_map k (take i xs)) s t → Fails mid.tests.keys (tests_in_each (of_plans (k x))) e → Fails old.tests.keys (tests_in_each (of_plans (flat_map k xs))) e
item-fails k xs i x within is old mid s t e first h =
    subst (λ (ps : List Plan). Fails old.tests.keys (tests_in_each (of_plans ps)) e) (sym (flat_map-split k xs i x within is))
    (front-fails old.tests.keys (flat_map k (take i xs) ++ k x) (flat_map k (drop (i + 1) xs)) e (next-fails old mid (flat_map k (take i xs)) (k x) s t e first h))

-- the same behind items that are done, of a list that goes on with an item
pub behind-added : {X : Type 0} (k : X → List Plan) (done : List X) (x : X) → (old mid new : Builder) (s t u : List ℕ) →
    Added old mid (flat_map k done) s t → Added mid new (k x) t u → Added old new (flat_map k (done ++ x ∷ [])) s u
behind-added k done x old mid new s t u first last =
    subst (λ (ps : List Plan). Added old new ps s u) (sym (flat_map-append k done (x ∷ []) ∙ ap (λ zs. flat_map k done ++ zs) (append-nil (k x))))
    (Added-then old mid new (flat_map k done) (k x) s t u first last)

pub behind-fails : {X : Type 0} (k : X → List Plan) (xs done : List X) (x : X) (left : List X) → xs ≡ done ++ x ∷ left → (old mid : Builder) (s t : List ℕ) (e : QueryFault) →
    Added old mid (flat_map k done) s t → Fails mid.tests.keys (tests_in_each (of_plans (k x))) e → Fails old.tests.keys (tests_in_each (of_plans (flat_map k xs))) e
behind-fails k xs done x left split old mid s t e first h =
    subst (λ (ps : List Plan). Fails old.tests.keys (tests_in_each (of_plans ps)) e) (sym (ap (flat_map k) split ∙ flat_map-append k done (x ∷ left)))
    (next-fails old mid (flat_map k done) (flat_map k (x ∷ left)) s t e first (front-fails mid.tests.keys (k x) (flat_map k left) e h))

-- ---- effects

pub where_same-other : (allow own : Bool) (ps : List Plan) → opposite (beq own allow) ≡ true → where_same allow own ps ≡ []
where_same-other true true ps h = absurd (cc)
where_same-other true false ps h = refl
where_same-other false true ps h = refl
where_same-other false false ps h = absurd (cc)

pub where_same-same : (allow own : Bool) (ps : List Plan) → opposite (beq own allow) ≡ false → where_same allow own ps ≡ ps
where_same-same true true ps h = refl
where_same-same true false ps h = absurd (cc)
where_same-same false true ps h = absurd (cc)
where_same-same false false ps h = refl

-- ---- values of a `Null`

-- values that aren't truth values ask nothing
pub nothing-asked : (c : Condition) (o : Operand) → ((b : Bool) → ¬ (o ≡ operand.Truth b)) → null_plans c o ≡ []
nothing-asked c (operand.Truth b) other = absurd (other b refl)
nothing-asked c (operand.Pattern p) other = refl
nothing-asked c (operand.Number n) other = refl
nothing-asked c (operand.Block block) other = refl
nothing-asked c (operand.Bytes bytes) other = refl
