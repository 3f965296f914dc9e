use Rattle.serde_json.specs.View.{view}
use Rattle.trust_zones.proofs.Listing.{sound-of, takes-of}
use Rattle.trust_zones.proofs.file.read_zone.Goals as goal

pub returns-clause-takes : goal.returns-clause-takes
returns-clause-takes c = takes-of c.args.schema.now (view c.in-Some.file) c.read_file.result c.read_file.ensures

pub returns-clause-sound : goal.returns-clause-sound
returns-clause-sound c = sound-of c.args.schema.now (view c.in-Some.file) c.read_file.result c.read_file.ensures
