use Rattle.std.proofs.Common.{get_or}
use Rattle.std.proofs.lemmas.Option.{slice_get-get_or}
use Rattle.findings.specs.Findings.{IsFinding}
use Rattle.findings.proofs.Compared.{finding-of}
use Rattle.findings.proofs.Standings.{alone-falls, alone-own}
use Rattle.findings.proofs.standing.stands_alone.Goals as goal

pub returns-then-not-rises : goal.returns-then-not-rises
returns-then-not-rises c = alone-falls c.args.validity.now c.args.base.now c.args.strata.now c.args.pairs.now c.args.i c.rises.result (cc) c.rises.ensures

pub is_own-requires-clause-finding : goal.is_own-requires-clause-finding
is_own-requires-clause-finding c =
    let at = slice_get-get_or c.args.pairs.now c.args.i c.index-pairs-i.result c.requires.within in
    finding-of (IsFinding c.args.strata.now.dimensions) c.args.pairs.now c.args.i (get_or c.args.pairs.now c.args.i c.index-pairs-i.result) c.requires.findings at

pub returns : goal.returns
returns c =
    let at = slice_get-get_or c.args.pairs.now c.args.i c.index-pairs-i.result c.requires.within in
    let again = slice_get-get_or c.args.pairs.now c.args.i c.index-pairs-i-2.result c.requires.within in
    alone-own c.args.validity.now c.args.base.now c.args.strata.now c.args.pairs.now c.args.i c.rises.result c.in_ok-own.own (get_or c.args.pairs.now c.args.i c.index-pairs-i.result) (get_or c.args.pairs.now c.args.i c.index-pairs-i-2.result) (cc) c.rises.ensures at again c.in_ok-own.ensures
