-- What holds of each test of a list of plans.
use Rattle.std.proofs.Common.{List, [], ◌∷◌, ◌++◌, sym, subst}
use Rattle.std.specs.Prelude.{All}
use Rattle.std.specs.List.{flat_map}
use Rattle.std.proofs.lemmas.List.Elements.{All-append, All-cons, All-head, All-nil, All-tail}
use Rattle.policy_model.specs.declared.test.Test.{Test}
use Rattle.policy_compile.specs.Plans.{Plan, ask, of_plans, tests_in, tests_in_each}
use Rattle.policy_compile.proofs.Collecting.{tests_in_each-append}

-- P holds of each test of the plans
abbrev pub Each : (Test → Type 0) → List Plan → Type 0
Each P ps = All P (tests_in_each (of_plans ps))

pub each-none : (P : Test → Type 0) → Each P []
each-none P = All-nil P

pub each-more : (P : Test → Type 0) (p : Plan) (ps : List Plan) → All P (tests_in p) → Each P ps → Each P (p ∷ ps)
each-more P p ps h k = All-append P (tests_in p) (tests_in_each (of_plans ps)) h k

pub each-append : (P : Test → Type 0) (ps qs : List Plan) → Each P ps → Each P qs → Each P (ps ++ qs)
each-append P ps qs h k =
    subst (λ (ts : List Test). All P ts) (sym (tests_in_each-append ps qs)) (All-append P (tests_in_each (of_plans ps)) (tests_in_each (of_plans qs)) h k)

-- the plans that a function gives of items, where Q holds of each item
pub each-items : {T : Type 0} (P : Test → Type 0) (k : T → List Plan) (Q : T → Type 0) → ((x : T) → Q x → Each P (k x)) → (xs : List T) → All Q xs → Each P (flat_map k xs)
each-items P k Q each [] h = each-none P
each-items P k Q each (x ∷ xs) h = each-append P (k x) (flat_map k xs) (each x (All-head Q x xs h)) (each-items P k Q each xs (All-tail Q x xs h))

pub each-one : (P : Test → Type 0) (t : Test) → P t → Each P (ask t ∷ [])
each-one P t h = All-cons P t [] h (All-nil P)
