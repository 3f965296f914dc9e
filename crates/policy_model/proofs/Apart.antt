-- Patterns that clash are met by no value both.
use Rattle.std.proofs.Common.{◌≡◌, List, sym, subst}
use Rattle.wildcard_lang.specs.declared.piece.Piece.{Piece}
use Rattle.wildcard_lang.specs.Covering.{Clash}
use Rattle.wildcard_lang.proofs.Laws.{clashing-apart}
use Rattle.policy_model.specs.declared.cond.Cond.{Cond}
use Rattle.policy_model.specs.declared.cond.Cond.TheVariants as cond
use Rattle.policy_model.specs.declared.value.Value.TheVariants as value
use Rattle.policy_model.specs.Conds.{SharesNoValue}

clashing-share-none : (first second : List Piece) → Clash first second → SharesNoValue (cond.Matches first) (cond.Matches second)
clashing-share-none first second clash (value.Word t) meets also = clashing-apart first second t clash meets also
clashing-share-none first second clash (value.Truth b) meets also = absurd meets
clashing-share-none first second clash (value.Number n) meets also = absurd meets
clashing-share-none first second clash (value.Address a) meets also = absurd meets
clashing-share-none first second clash (value.Bytes bs) meets also = absurd meets

pub patterns-apart : (one other : Cond) (first second : List Piece) → one ≡ cond.Matches first → other ≡ cond.Matches second → Clash first second → SharesNoValue one other
patterns-apart one other first second is also clash =
    subst (λ (c : Cond). SharesNoValue c other) (sym is) (subst (λ (c : Cond). SharesNoValue (cond.Matches first) c) (sym also) (clashing-share-none first second clash))
