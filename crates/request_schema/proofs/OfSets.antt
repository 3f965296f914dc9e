-- What holds of each use of a set holds of each condition of its statements, and the other way round.
use Rattle.std.proofs.Common.{◌≡◌, ◌<◌, ◌+◌, ℕ, Bool, false, true, List, [], ◌∷◌, ◌++◌, length, get_or, map, Option, Some, None, IfSome, All, sym, subst}
use Rattle.std.proofs.lemmas.Grind.{flat_map-append}
use Rattle.std.proofs.lemmas.List.Elements.{All-append, All-cons, All-head, All-map, All-nil, All-tail}
use Rattle.policy_model.specs.declared.operator.Condition.{Condition}
use Rattle.policy_model.specs.declared.set.Statement.{Statement}
use Rattle.policy_model.specs.declared.set.Document.{Document}
use Rattle.policy_model.specs.declared.set.PolicySet.{PolicySet}
use Rattle.policy_model.specs.declared.schema.Schema.{Schema}
use Rattle.policy_model.specs.Keys.{IsFolded}
use Rattle.policy_model.specs.Soundness.{ConditionFits, DocumentIsSound, IsSound, SchemaFits, StatementIsSound}
use Rattle.policy_model.specs.StatementNames.{Named, name_of, named_documents, named_grants, named_guards, named_statements}
use Rattle.request_schema.specs.declared.found.FoundUse.{FoundUse}
use Rattle.request_schema.specs.Uses.{Use, use_found, use_of, uses_found, uses_in, uses_of, uses_of_statement, uses_of_statements}

pub all-front : {X : Type 0} (Q : X → Type 0) (xs ys : List X) → All Q (xs ++ ys) → All Q xs
all-front Q [] ys all = All-nil Q
all-front Q (x ∷ xs) ys all = All-cons Q x xs (All-head Q x (xs ++ ys) all) (all-front Q xs ys (All-tail Q x (xs ++ ys) all))

pub all-behind : {X : Type 0} (Q : X → Type 0) (xs ys : List X) → All Q (xs ++ ys) → All Q ys
all-behind Q [] ys all = all
all-behind Q (x ∷ xs) ys all = all-behind Q xs ys (All-tail Q x (xs ++ ys) all)

unmap : {X Y : Type 0} (Q : Y → Type 0) (f : X → Y) (xs : List X) → All Q (map f xs) → All (λ x. Q (f x)) xs
unmap Q f [] all = All-nil (λ x. Q (f x))
unmap Q f (x ∷ xs) all = All-cons (λ y. Q (f y)) x xs (All-head Q (f x) (map f xs) all) (unmap Q f xs (All-tail Q (f x) (map f xs) all))

module _ (P : Condition → Type 0) (second : Bool) where
  abbrev Of : Use → Type 0
  Of u = P u.condition

  -- of each condition of statements
  abbrev pub InStatements : List Statement → Type 0
  InStatements xs = All (λ s. All P s.conditions) xs

  abbrev pub InDocuments : List Document → Type 0
  InDocuments xs = All (λ d. InStatements d.statements) xs

  abbrev pub InGuards : List (List Document) → Type 0
  InGuards xs = All InDocuments xs

  of-statements : (d s : ℕ) (xs : List Statement) → All Of (uses_of_statements second (named_statements d s xs)) → InStatements xs
  of-statements d s [] all = All-nil (λ (x : Statement). All P x.conditions)
  of-statements d s (x ∷ xs) all =
      let own = map (use_of second (name_of d s)) x.conditions in
      let rest = uses_of_statements second (named_statements d (s + 1) xs) in
      All-cons (λ (y : Statement). All P y.conditions) x xs (unmap Of (use_of second (name_of d s)) x.conditions (all-front Of own rest all)) (of-statements d (s + 1) xs (all-behind Of own rest all))

  to-statements : (d s : ℕ) (xs : List Statement) → InStatements xs → All Of (uses_of_statements second (named_statements d s xs))
  to-statements d s [] all = All-nil Of
  to-statements d s (x ∷ xs) all =
      All-append Of (map (use_of second (name_of d s)) x.conditions) (uses_of_statements second (named_statements d (s + 1) xs))
      (All-map Of (use_of second (name_of d s)) x.conditions (All-head (λ (y : Statement). All P y.conditions) x xs all)) (to-statements d (s + 1) xs (All-tail (λ (y : Statement). All P y.conditions) x xs all))

  -- the uses of lists one behind the other
  split : (xs ys : List Named) → All Of (uses_of_statements second (xs ++ ys)) → All Of (uses_of_statements second xs ++ uses_of_statements second ys)
  split xs ys all = subst (All Of) (flat_map-append (uses_of_statement second) xs ys) all

  join : (xs ys : List Named) → All Of (uses_of_statements second xs) → All Of (uses_of_statements second ys) → All Of (uses_of_statements second (xs ++ ys))
  join xs ys front behind = subst (All Of) (sym (flat_map-append (uses_of_statement second) xs ys)) (All-append Of (uses_of_statements second xs) (uses_of_statements second ys) front behind)

  of-documents : (d : ℕ) (xs : List Document) → All Of (uses_of_statements second (named_documents d xs)) → InDocuments xs
  of-documents d [] all = All-nil (λ (x : Document). InStatements x.statements)
  of-documents d (x ∷ xs) all =
      let own = named_statements d 1 x.statements in
      let rest = named_documents (d + 1) xs in
      let parts = split own rest all in
      All-cons (λ (y : Document). InStatements y.statements) x xs (of-statements d 1 x.statements (all-front Of (uses_of_statements second own) (uses_of_statements second rest) parts)) (of-documents (d + 1) xs (all-behind Of (uses_of_statements second own) (uses_of_statements second rest) parts))

  pub to-documents : (d : ℕ) (xs : List Document) → InDocuments xs → All Of (uses_of_statements second (named_documents d xs))
  to-documents d [] all = All-nil Of
  to-documents d (x ∷ xs) all =
      join (named_statements d 1 x.statements) (named_documents (d + 1) xs) (to-statements d 1 x.statements (All-head (λ (y : Document). InStatements y.statements) x xs all)) (to-documents (d + 1) xs (All-tail (λ (y : Document). InStatements y.statements) x xs all))

  of-guards : (d : ℕ) (xs : List (List Document)) → All Of (uses_of_statements second (named_guards d xs)) → InGuards xs
  of-guards d [] all = All-nil InDocuments
  of-guards d (x ∷ xs) all =
      let own = named_documents d x in
      let rest = named_guards (d + length x) xs in
      let parts = split own rest all in
      All-cons InDocuments x xs (of-documents d x (all-front Of (uses_of_statements second own) (uses_of_statements second rest) parts)) (of-guards (d + length x) xs (all-behind Of (uses_of_statements second own) (uses_of_statements second rest) parts))

  to-guards : (d : ℕ) (xs : List (List Document)) → InGuards xs → All Of (uses_of_statements second (named_guards d xs))
  to-guards d [] all = All-nil Of
  to-guards d (x ∷ xs) all = join (named_documents d x) (named_guards (d + length x) xs) (to-documents d x (All-head InDocuments x xs all)) (to-guards (d + length x) xs (All-tail InDocuments x xs all))

  of-set : (set : PolicySet) → All Of (uses_in second set) → InDocuments set.grants × InGuards set.guards
  of-set set all =
      let guards = named_guards (1 + length set.grants) set.guards in
      let parts = split (named_grants set) guards all in
      (of-documents 1 set.grants (all-front Of (uses_of_statements second (named_grants set)) (uses_of_statements second guards) parts), of-guards (1 + length set.grants) set.guards (all-behind Of (uses_of_statements second (named_grants set)) (uses_of_statements second guards) parts))

  pub to-set : (set : PolicySet) → InDocuments set.grants → InGuards set.guards → All Of (uses_in second set)
  to-set set grants guards = join (named_grants set) (named_guards (1 + length set.grants) set.guards) (to-documents 1 set.grants grants) (to-guards (1 + length set.grants) set.guards guards)

-- the keys of a sound set are folded
folded-statement : (s : Statement) → StatementIsSound s → All (λ (c : Condition). IsFolded c.key) s.conditions
folded-statement s sound = λ i c within. (sound.conditions i c within).key

folded-document : (d : Document) → DocumentIsSound d → All (λ (s : Statement). All (λ (c : Condition). IsFolded c.key) s.conditions) d.statements
folded-document d sound = λ i s within. folded-statement _ (sound.each i s within)

folded-set : (second : Bool) (set : PolicySet) → IsSound set → All (λ (u : Use). IsFolded u.condition.key) (uses_in second set)
folded-set second set sound =
    to-set (λ (c : Condition). IsFolded c.key) second set (λ i d within. folded-document _ (sound.granting i d within)) (λ i g within. λ j d inside. folded-document _ (sound.guarding i g within j d inside))

pub folded-run : (first : PolicySet) (second : Option PolicySet) → IsSound first → IfSome second IsSound → All (λ (u : Use). IsFolded u.condition.key) (uses_of first second)
unfolding uses_of
folded-run first None sound others = folded-set false first sound
folded-run first (Some second) sound others = All-append (λ (u : Use). IsFolded u.condition.key) (uses_in false first) (uses_in true second) (folded-set false first sound) (folded-set true second others)

-- a schema that fits each use fits the sets
fits-set : (schema : Schema) (second : Bool) (set : PolicySet) → IsSound set → All (λ (u : Use). ConditionFits schema u.condition) (uses_in second set) → SchemaFits schema set
fits-set schema second set sound all =
    let parts = of-set (ConditionFits schema) second set all in
    record { sound = sound; granting = parts.0; guarding = parts.1 }

pub fits-first : (schema : Schema) (first : PolicySet) (second : Option PolicySet) → IsSound first → All (λ (u : Use). ConditionFits schema u.condition) (uses_of first second) → SchemaFits schema first
unfolding uses_of
fits-first schema first None sound all = fits-set schema false first sound all
fits-first schema first (Some second) sound all = fits-set schema false first sound (all-front (λ (u : Use). ConditionFits schema u.condition) (uses_in false first) (uses_in true second) all)

pub fits-other : (schema : Schema) (first : PolicySet) (second : Option PolicySet) → IfSome second IsSound → All (λ (u : Use). ConditionFits schema u.condition) (uses_of first second) → IfSome second (SchemaFits schema)
unfolding uses_of
fits-other schema first None sound all = tt
fits-other schema first (Some second) sound all = fits-set schema true second sound (all-behind (λ (u : Use). ConditionFits schema u.condition) (uses_in false first) (uses_in true second) all)

-- the key of the use at an index is folded, where all are
pub folded-at : (found : List FoundUse) (i : ℕ) (x : FoundUse) → All (λ (u : Use). IsFolded u.condition.key) (uses_found found) → i < length found → x ≡ get_or found i x → IsFolded x.condition.now.key
folded-at found i x all within is =
    let at = unmap (λ (u : Use). IsFolded u.condition.key) use_found found all i x within in
    subst (λ (y : FoundUse). IsFolded y.condition.now.key) (sym is) at
