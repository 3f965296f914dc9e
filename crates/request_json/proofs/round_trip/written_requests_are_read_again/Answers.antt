use Rattle.std.proofs.Common.{ap, ◌∙◌}
use Rattle.request_json.specs.RequestFiles.{request_read}
use Rattle.request_json.proofs.WrittenRequests.{data-again, keys-written}
use Rattle.request_json.proofs.WrittenTexts.{json-again}
use Rattle.request_json.proofs.round_trip.written_requests_are_read_again.Goals as goal

pub returns : goal.returns
returns c = λ schema r kept valid.
    let text = json-again r valid.words.id.text valid.words.action.text valid.words.resource.text (keys-written schema r kept valid) in
    let request = data-again schema r kept valid in record {
      alone = ap (request_read schema) text.alone ∙ request;
      ended = ap (request_read schema) text.ended ∙ request;
    }
