use Rattle.request_build.proofs.Existing.{requests_exist}
use Rattle.request_build.proofs.existence.sound_schemas_have_requests.Goals as goal

pub returns : goal.returns
returns c = requests_exist
