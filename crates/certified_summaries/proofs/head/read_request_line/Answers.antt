use Rattle.std.proofs.Common.{Option, subst, sym}
use Rattle.policy_model.specs.declared.request.Request.{Request}
use Rattle.certified_summaries.specs.Reading.{IsRequestOf}
use Rattle.certified_summaries.proofs.Heading.{request-answer, request-fails, request-is, request-open, request-other}
use Rattle.certified_summaries.proofs.head.read_request_line.Goals as goal

pub returns-in_default-content_of : goal.returns-in_default-content_of
returns-in_default-content_of c =
    let schema = c.args.reader.now in
    request-answer schema c.args.number c.args.bytes.now c.fault_at-in_default-content_of.result _ c.fault_at-in_default-content_of.ensures
    (request-fails c.args.bytes.now c.in-Some.line.now c.in-Some.behind.now c.in-Some.ensures schema c.args.number (request-open schema c.in-Some.line.now (sym c.in_default-content_of.ensures)))

pub returns-in-Some-2 : goal.returns-in-Some-2
returns-in-Some-2 c =
    let schema = c.args.reader.now in
    let read = subst (λ (o : Option Request). IsRequestOf schema c.in-Some-content_of.content.now o) c.in-Some-2.is c.in_ok-request.ensures in
    record {
      line = c.in-Some.line.now;
      is = c.in-Some.ensures;
      holds = request-is schema c.in-Some.line.now c.in-Some-content_of.content.now c.in-Some-2.request (sym c.in-Some-content_of.ensures) read;
    }

pub returns-in-None : goal.returns-in-None
returns-in-None c =
    let schema = c.args.reader.now in
    let read = subst (λ (o : Option Request). IsRequestOf schema c.in-Some-content_of.content.now o) c.in-None.is c.in_ok-request.ensures in
    request-answer schema c.args.number c.args.bytes.now c.fault_at-in-None.result _ c.fault_at-in-None.ensures
    (request-fails c.args.bytes.now c.in-Some.line.now c.in-Some.behind.now c.in-Some.ensures schema c.args.number
    (request-other schema c.in-Some.line.now c.in-Some-content_of.content.now (sym c.in-Some-content_of.ensures) read))
