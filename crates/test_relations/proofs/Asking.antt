-- What is asked of a value, where what is asked of its text, number or address leads to it or excludes it.
use Rattle.std.proofs.Common.{◌≡◌, ℤ, List, sym, subst}
use Rattle.intervals.specs.declared.compare.Compare.{Compare}
use Rattle.cidr_bits.specs.declared.block.Block.{Block}
use Rattle.wildcard_lang.specs.declared.piece.Piece.{Piece}
use Rattle.wildcard_lang.specs.Covering.{CoversPattern}
use Rattle.wildcard_lang.proofs.Laws.{covering-includes}
use Rattle.policy_model.specs.declared.cond.Cond.{Cond}
use Rattle.policy_model.specs.declared.cond.Cond.TheVariants as cond
use Rattle.policy_model.specs.declared.value.Value.TheVariants as value
use Rattle.policy_model.specs.Conds.{SharesNoValue}
use Rattle.test_relations.specs.Parts.{BlockLeads, BoundExcludes, BoundLeads, CondLeads}

pub patterns-lead : (p q : List Piece) → CoversPattern q p → CondLeads (cond.Matches p) (cond.Matches q)
patterns-lead p q covers (value.Word t) meets = covering-includes q p t covers meets
patterns-lead p q covers (value.Truth b) meets = absurd meets
patterns-lead p q covers (value.Number n) meets = absurd meets
patterns-lead p q covers (value.Address a) meets = absurd meets
patterns-lead p q covers (value.Bytes bs) meets = absurd meets

pub bounds-lead : (one other : Compare) (bound limit : ℤ) → BoundLeads one bound other limit → CondLeads (cond.Compares one bound) (cond.Compares other limit)
bounds-lead one other bound limit each (value.Word t) meets = absurd meets
bounds-lead one other bound limit each (value.Truth b) meets = absurd meets
bounds-lead one other bound limit each (value.Number n) meets = each n meets
bounds-lead one other bound limit each (value.Address a) meets = absurd meets
bounds-lead one other bound limit each (value.Bytes bs) meets = absurd meets

pub blocks-lead : (one other : Block) → BlockLeads one other → CondLeads (cond.Inside one) (cond.Inside other)
blocks-lead one other each (value.Word t) meets = absurd meets
blocks-lead one other each (value.Truth b) meets = absurd meets
blocks-lead one other each (value.Number n) meets = absurd meets
blocks-lead one other each (value.Address a) meets = each a meets
blocks-lead one other each (value.Bytes bs) meets = absurd meets

pub bounds-exclude : (one other : Compare) (bound limit : ℤ) → BoundExcludes one bound other limit → SharesNoValue (cond.Compares one bound) (cond.Compares other limit)
bounds-exclude one other bound limit none (value.Word t) meets = absurd meets
bounds-exclude one other bound limit none (value.Truth b) meets = absurd meets
bounds-exclude one other bound limit none (value.Number n) meets = none n meets
bounds-exclude one other bound limit none (value.Address a) meets = absurd meets
bounds-exclude one other bound limit none (value.Bytes bs) meets = absurd meets

-- the same of what is equal to these
pub leads-equal : (one other first second : Cond) → one ≡ first → other ≡ second → CondLeads first second → CondLeads one other
leads-equal one other first second is has each =
    subst (λ (c : Cond). CondLeads c other) (sym is) (subst (λ (c : Cond). CondLeads first c) (sym has) each)

pub excludes-equal : (one other first second : Cond) → one ≡ first → other ≡ second → SharesNoValue first second → SharesNoValue one other
excludes-equal one other first second is has none =
    subst (λ (c : Cond). SharesNoValue c other) (sym is) (subst (λ (c : Cond). SharesNoValue first c) (sym has) none)
