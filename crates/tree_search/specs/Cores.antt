-- Cores that a search keeps.
use Rattle.std.specs.Prelude.{◌≡◌, ◌⊎◌, ◌++◌, ◌∷◌, [], ℕ, List, length, Option, Some, None, slice_get}
use Rattle.std.specs.declared.rc.Rc.{Rc}
use Rattle.std.specs.Global.{Global}
use Rattle.formula_tree.specs.Answers.{Answers, Contained}
use Rattle.policy_model.specs.declared.schema.Schema.{Schema}
use Rattle.policy_model.specs.declared.test.Test.{Test}
use Rattle.refute_check.specs.declared.refutation.Refutation.{Refutation}
use Rattle.refute_check.specs.Proofs.{proof_of}
use Rattle.search_parts.specs.declared.part.Needs.{Needs}
use Rattle.search_parts.specs.declared.part.Needs.TheVariants.{Just, Open, Unknown}
use Rattle.search_parts.specs.declared.part.Part.{Part}
use Rattle.search_parts.specs.Making.{IsKeptCore, IsPartOf}
use Rattle.tree_search.specs.declared.cores.Cores.{Cores}

-- each kept refutation is by a core, with the answers to the core's tests
pub record AreKeptCores (schema : Schema) (tests : List Test) (cores : Cores) : Type 0 where
  pub count : length cores.parts.items ≡ length cores.lists.lists
  pub each : (i : ℕ) (answers : Answers) (r : Rc Refutation Global) → slice_get cores.lists.lists i ≡ Some answers →
      slice_get cores.parts.items i ≡ Some r → IsKeptCore schema tests answers (proof_of r.value)

-- none is kept, and nothing is answered
pub record IsNoCore (cores : Cores) : Type 0 where
  pub lists : cores.lists.lists ≡ []
  pub parts : cores.parts.items ≡ []
  pub path : cores.lists.path ≡ []

-- the part is the kept one of a number, whose answers the path has
pub record IsKeptPart (cores : Cores) (part : Part) : Type 0 where
  pub number : ℕ
  pub answers : Answers
  pub refutation : Rc Refutation Global
  pub list : slice_get cores.lists.lists number ≡ Some answers
  pub kept : slice_get cores.parts.items number ≡ Some refutation
  pub is : IsPartOf (proof_of refutation.value) (Just answers) part
  pub there : Contained answers cores.lists.path

abbrev pub IsCoreHit : Cores → Option Part → Type 0
IsCoreHit cores None = Unit {0}
IsCoreHit cores (Some part) = IsKeptPart cores part

-- what a part is known to need, the path has
abbrev pub AreNeedsWithin : Needs → Answers → Type 0
AreNeedsWithin (Just answers) path = Contained answers path
AreNeedsWithin Open path = Unit {0}
AreNeedsWithin Unknown path = Unit {0}

-- the part is the last that is kept
pub record IsKeptMore (old : Cores) (part : Part) (new : Cores) : Type 0 where
  pub answers : Answers
  pub own : part.needs ≡ Just answers
  pub lists : new.lists.lists ≡ old.lists.lists ++ answers ∷ []
  pub kept : Rc Refutation Global
  pub same : kept.value ≡ part.refutation.value
  pub parts : new.parts.items ≡ old.parts.items ++ kept ∷ []

-- the part is kept, or nothing has changed; the path is as before
pub record IsKeptWith (old : Cores) (part : Part) (new : Cores) : Type 0 where
  pub path : new.lists.path ≡ old.lists.path
  pub kept : (new ≡ old) ⊎ IsKeptMore old part new
