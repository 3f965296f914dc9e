use Rattle.std.proofs.Common.{ℕ, List, Option, subst, sym}
use Rattle.certified_summaries.specs.Reading.{IsFindingOf}
use Rattle.certified_summaries.proofs.Heading.{finding-answer, finding-fails, finding-is, finding-open, finding-other}
use Rattle.certified_summaries.proofs.head.read_finding.Goals as goal

pub returns-in_default-content_of : goal.returns-in_default-content_of
returns-in_default-content_of c =
    let ds = c.args.strata.now.dimensions in
    finding-answer ds c.args.number c.args.bytes.now c.fault_at-in_default-content_of.result _ c.fault_at-in_default-content_of.ensures
    (finding-fails c.args.bytes.now c.in-Some.line.now c.in-Some.behind.now c.in-Some.ensures ds c.args.number (finding-open ds c.in-Some.line.now (sym c.in_default-content_of.ensures)))

pub returns-in-Some-2 : goal.returns-in-Some-2
returns-in-Some-2 c =
    let ds = c.args.strata.now.dimensions in
    let read = subst (λ (o : Option (List ℕ)). IsFindingOf ds c.in-Some-content_of.content.now o) c.in-Some-2.is c.in_ok-finding.ensures in
    record {
      line = c.in-Some.line.now;
      is = c.in-Some.ensures;
      holds = finding-is ds c.in-Some.line.now c.in-Some-content_of.content.now c.in-Some-2.finding (sym c.in-Some-content_of.ensures) read;
    }

pub returns-in-None : goal.returns-in-None
returns-in-None c =
    let ds = c.args.strata.now.dimensions in
    let read = subst (λ (o : Option (List ℕ)). IsFindingOf ds c.in-Some-content_of.content.now o) c.in-None.is c.in_ok-finding.ensures in
    finding-answer ds c.args.number c.args.bytes.now c.fault_at-in-None.result _ c.fault_at-in-None.ensures
    (finding-fails c.args.bytes.now c.in-Some.line.now c.in-Some.behind.now c.in-Some.ensures ds c.args.number
    (finding-other ds c.in-Some.line.now c.in-Some-content_of.content.now (sym c.in-Some-content_of.ensures) read))
