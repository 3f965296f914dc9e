use Rattle.std.proofs.Common.{List, ℕ, arith, get_or, subst}
use Rattle.policy_model.specs.declared.request.Request.{Request}
use Rattle.findings.specs.Judging.{DecidesComparable}
use Rattle.std.proofs.lemmas.Option.{slice_get-get_or}
use Rattle.findings.specs.Findings.{IsFinding}
use Rattle.findings.proofs.Compared.{apart-behind, apart-next, compared-behind, finding-of, same-at}
use Rattle.findings.proofs.order.is_compared_behind.Goals as goal

pub behind-init : goal.behind-init
behind-init c = λ p here schema tests are j q later less at compared. absurd (omega (arith, later, less))

pub are_comparable-requires-clause-one : goal.are_comparable-requires-clause-one
are_comparable-requires-clause-one c =
    let at = slice_get-get_or c.args.pairs.now c.args.i c.index-pairs-i.result c.requires.within in
    finding-of (IsFinding c.args.strata.now.dimensions) c.args.pairs.now c.args.i (get_or c.args.pairs.now c.args.i c.index-pairs-i.result) c.requires.findings at

pub are_comparable-requires-clause-other : goal.are_comparable-requires-clause-other
are_comparable-requires-clause-other c =
    let at = slice_get-get_or c.args.pairs.now c.behind.j c.index-pairs-j.result (omega arith) in
    finding-of (IsFinding c.args.strata.now.dimensions) c.args.pairs.now c.behind.j (get_or c.args.pairs.now c.behind.j c.index-pairs-j.result) c.requires.findings at

pub returns-then-are_comparable : goal.returns-then-are_comparable
returns-then-are_comparable c =
    let here = slice_get-get_or c.args.pairs.now c.args.i c.index-pairs-i.result c.requires.within in
    let at = slice_get-get_or c.args.pairs.now c.behind.j c.index-pairs-j.result (omega arith) in
    compared-behind c.args.strata.now c.args.pairs.now c.args.i (get_or c.args.pairs.now c.args.i c.index-pairs-i.result) here c.behind.j (get_or c.args.pairs.now c.behind.j c.index-pairs-j.result) c.are_comparable.result at c.are_comparable.ensures (cc)

pub behind-preserved : goal.behind-preserved
behind-preserved c = λ p own.
    let here = slice_get-get_or c.args.pairs.now c.args.i c.index-pairs-i.result c.requires.within in
    let at = slice_get-get_or c.args.pairs.now c.behind.j c.index-pairs-j.result (omega arith) in
    let same = same-at c.args.pairs.now c.args.i (get_or c.args.pairs.now c.args.i c.index-pairs-i.result) p here own in
    let told = subst (λ (x : List ℕ × Request). DecidesComparable c.args.strata.now x.0 (get_or c.args.pairs.now c.behind.j c.index-pairs-j.result).0 c.are_comparable.result) same c.are_comparable.ensures in
    apart-next c.args.strata.now c.args.pairs.now c.args.i p own c.behind.j (get_or c.args.pairs.now c.behind.j c.index-pairs-j.result) c.are_comparable.result at told (cc) (c.behind.invariant p own)

pub returns : goal.returns
returns c = λ schema tests are p here. apart-behind c.args.strata.now c.args.pairs.now c.args.i p here c.behind.j (omega arith) (c.behind.invariant p here) schema tests are p here
