use Rattle.std.proofs.Common.{◌≡◌, ◌∙◌, ◌+◌, ◌++◌, ◌∷◌, [], ℕ, List, append_assoc, arith, refl, sym}
use Rattle.std.proofs.lemmas.Result.{IfOk-from_err}
use Rattle.formula_tree.specs.Answers.{Answers}
use Rattle.refute_check.specs.Proofs.{Proof, label, labels, split}
use Rattle.search_parts.specs.Renaming.{line_names, renamed_proof}
use Rattle.search_parts.proofs.Fewer.{of-label, of-split}
use Rattle.search_parts.proofs.renumbering.+renumbered.Goals as goal

-- what is numbered anew, the number of labels that begin before its end, and the names of those that end before that
record IsRenumbered (names : List ℕ) (begun : ℕ) (whole r : Proof) (end : ℕ) (all : List ℕ) : Type 0 where
  part : r ≡ renamed_proof names begun whole
  count : end ≡ begun + labels whole
  names_are : all ≡ names ++ line_names begun whole

renumbered-split : (names after all : List ℕ) (begun middle end n : ℕ) (whole y z r one two : Proof) → whole ≡ split n y z → r ≡ split n one two → IsRenumbered names begun y one middle after → IsRenumbered after middle z two end all → IsRenumbered names begun whole r end all
renumbered-split names after all begun middle end n whole y z r one two is made first second = record {
  part = rw (is, made, first.part, second.part, first.names_are, first.count) refl;
  count = let one = first.count in let two = second.count in rw is (omega arith);
  names_are = rw (is, second.names_are, first.names_are, first.count, append_assoc) refl;
}

renumbered-label : (names after all : List ℕ) (begun end n : ℕ) (answers : Answers) (whole p r inner : Proof) → whole ≡ label n answers p → r ≡ label begun answers inner → IsRenumbered names (begun + 1) p inner end after → all ≡ after ++ begun ∷ [] → IsRenumbered names begun whole r end all
renumbered-label names after all begun end n answers whole p r inner is made first last = record {
  part = rw (is, made, first.part) refl;
  count = let one = first.count in rw is (omega arith);
  names_are = rw (is, last, first.names_are, append_assoc) refl;
}

pub returns-in_ok-split_of-in-Split : goal.returns-in_ok-split_of-in-Split
returns-in_ok-split_of-in-Split t c =
    let y = c.in_ok-yes-in-Split in
    let z = c.in_ok-no-in-Split in
    let whole = of-split c.in-Split.test c.in-Split.yes c.in-Split.no c.args.part.now.value (sym c.deref.ensures ∙ c.in-Split.is) in
    let is = renumbered-split c.args.names.now.items c.renumbered.new.names.items c.renumbered-in-Split.new.names.items c.args.begun y.middle z.end c.in-Split.test _ _ _ _ _ _ whole c.in_ok-split_of-in-Split.ensures
    (record { part = y.ensures.part; count = y.ensures.count; names_are = y.ensures.names }) (record { part = z.ensures.part; count = z.ensures.count; names_are = z.ensures.names }) in
    record { part = is.part; count = is.count; names = is.names_are }

pub returns-in_ok-label_of-in-Label : goal.returns-in_ok-label_of-in-Label
returns-in_ok-label_of-in-Label t c =
    let p = c.in_ok-inner-in-Label in
    let whole = of-label c.in-Label.number c.in-Label.answers c.in-Label.inner c.args.part.now.value (sym c.deref.ensures ∙ c.in-Label.is) in
    let is = renumbered-label c.args.names.now.items c.renumbered-in-Label.new.names.items c.push.new.self.items c.args.begun p.end c.in-Label.number c.in-Label.answers _ _ _ _ whole c.in_ok-label_of-in-Label.ensures
    (record { part = p.ensures.part; count = p.ensures.count; names_are = p.ensures.names }) c.in_ok-push-in-Label.ensures.items in
    record { part = is.part; count = is.count; names = is.names_are }

-- ---- want of memory, of which nothing is said

pub returns-in_err-yes-in-Split-clause-part : goal.returns-in_err-yes-in-Split-clause-part
returns-in_err-yes-in-Split-clause-part t c = IfOk-from_err _ _ c.from_residual.ensures.0

pub returns-in_err-yes-in-Split-clause-count : goal.returns-in_err-yes-in-Split-clause-count
returns-in_err-yes-in-Split-clause-count t c = IfOk-from_err _ _ c.from_residual.ensures.0

pub returns-in_err-no-in-Split-clause-part : goal.returns-in_err-no-in-Split-clause-part
returns-in_err-no-in-Split-clause-part t c = IfOk-from_err _ _ c.from_residual-in_err-no-in-Split.ensures.0

pub returns-in_err-no-in-Split-clause-count : goal.returns-in_err-no-in-Split-clause-count
returns-in_err-no-in-Split-clause-count t c = IfOk-from_err _ _ c.from_residual-in_err-no-in-Split.ensures.0

pub returns-in_err-split_of-in-Split-clause-part : goal.returns-in_err-split_of-in-Split-clause-part
returns-in_err-split_of-in-Split-clause-part t c = IfOk-from_err _ _ c.from_residual-in_err-split_of-in-Split.ensures.0

pub returns-in_err-split_of-in-Split-clause-count : goal.returns-in_err-split_of-in-Split-clause-count
returns-in_err-split_of-in-Split-clause-count t c = IfOk-from_err _ _ c.from_residual-in_err-split_of-in-Split.ensures.0

pub returns-in_err-inner-in-Label-clause-part : goal.returns-in_err-inner-in-Label-clause-part
returns-in_err-inner-in-Label-clause-part t c = IfOk-from_err _ _ c.from_residual-in_err-inner-in-Label.ensures.0

pub returns-in_err-inner-in-Label-clause-count : goal.returns-in_err-inner-in-Label-clause-count
returns-in_err-inner-in-Label-clause-count t c = IfOk-from_err _ _ c.from_residual-in_err-inner-in-Label.ensures.0

pub returns-in_err-push-in-Label-clause-part : goal.returns-in_err-push-in-Label-clause-part
returns-in_err-push-in-Label-clause-part t c = IfOk-from_err _ _ c.from_residual-in_err-push-in-Label.ensures.0

pub returns-in_err-push-in-Label-clause-count : goal.returns-in_err-push-in-Label-clause-count
returns-in_err-push-in-Label-clause-count t c = IfOk-from_err _ _ c.from_residual-in_err-push-in-Label.ensures.0

pub returns-in_err-label_of-in-Label-clause-part : goal.returns-in_err-label_of-in-Label-clause-part
returns-in_err-label_of-in-Label-clause-part t c = IfOk-from_err _ _ c.from_residual-in_err-label_of-in-Label.ensures.0

pub returns-in_err-label_of-in-Label-clause-count : goal.returns-in_err-label_of-in-Label-clause-count
returns-in_err-label_of-in-Label-clause-count t c = IfOk-from_err _ _ c.from_residual-in_err-label_of-in-Label.ensures.0

pub returns-in_err-new-in-Reuse-clause-part : goal.returns-in_err-new-in-Reuse-clause-part
returns-in_err-new-in-Reuse-clause-part t c = IfOk-from_err _ _ c.from_residual-in_err-new-in-Reuse.ensures.0

pub returns-in_err-new-in-Reuse-clause-count : goal.returns-in_err-new-in-Reuse-clause-count
returns-in_err-new-in-Reuse-clause-count t c = IfOk-from_err _ _ c.from_residual-in_err-new-in-Reuse.ensures.0

pub returns-in_err-clone-in-ByValue-clause-part : goal.returns-in_err-clone-in-ByValue-clause-part
returns-in_err-clone-in-ByValue-clause-part t c = IfOk-from_err _ _ c.from_residual-in_err-clone-in-ByValue.ensures.0

pub returns-in_err-clone-in-ByValue-clause-count : goal.returns-in_err-clone-in-ByValue-clause-count
returns-in_err-clone-in-ByValue-clause-count t c = IfOk-from_err _ _ c.from_residual-in_err-clone-in-ByValue.ensures.0

pub returns-in_err-clone-in-BySlot-clause-part : goal.returns-in_err-clone-in-BySlot-clause-part
returns-in_err-clone-in-BySlot-clause-part t c = IfOk-from_err _ _ c.from_residual-in_err-clone-in-BySlot.ensures.0

pub returns-in_err-clone-in-BySlot-clause-count : goal.returns-in_err-clone-in-BySlot-clause-count
returns-in_err-clone-in-BySlot-clause-count t c = IfOk-from_err _ _ c.from_residual-in_err-clone-in-BySlot.ensures.0

pub returns-in_err-clone-in-ByClauses-clause-part : goal.returns-in_err-clone-in-ByClauses-clause-part
returns-in_err-clone-in-ByClauses-clause-part t c = IfOk-from_err _ _ c.from_residual-in_err-clone-in-ByClauses.ensures.0

pub returns-in_err-clone-in-ByClauses-clause-count : goal.returns-in_err-clone-in-ByClauses-clause-count
returns-in_err-clone-in-ByClauses-clause-count t c = IfOk-from_err _ _ c.from_residual-in_err-clone-in-ByClauses.ensures.0
