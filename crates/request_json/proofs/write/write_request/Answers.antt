use Rattle.std.proofs.Common.{arith}
use Rattle.request_json.proofs.Flat.{request-depth, request-no_float}
use Rattle.request_json.proofs.write.write_request.Goals as goal

pub returns-clause-text : goal.returns-clause-text
returns-clause-text c = grind (arith, c.to_string.ensures.text, c.in_ok-request_json.ensures, request-no_float c.args.request.now)

pub returns-clause-read_again : goal.returns-clause-read_again
returns-clause-read_again c = grind (arith, c.to_string.ensures.reads_back, c.in_ok-request_json.ensures, request-depth c.args.request.now)
