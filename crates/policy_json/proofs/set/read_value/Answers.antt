use Rattle.std.proofs.Common.{sym, ap, ◌∙◌, option_map}
use Rattle.serde_json.specs.View.{view}
use Rattle.policy_json.proofs.Files.{refused_file}
use Rattle.policy_json.proofs.set.read_value.Goals as goal

pub returns-in-None-clause-err : goal.returns-in-None-clause-err
returns-in-None-clause-err c = refused_file c.args.bytes.now _ (sym c.in_ok-value.ensures ∙ ap (option_map view) c.in-None.is) c.refusal.ensures
