use Rattle.std.proofs.Common.{Bool, List, Option, Some, Result, Ok, Err, IfOk, All, sym, subst}
use Rattle.serde_json.specs.Data.{Data}
use Rattle.serde_json.specs.View.{view}
use Rattle.policy_model.specs.declared.operator.Condition.{Condition}
use Rattle.policy_model.specs.Soundness.{ConditionIsSound}
use Rattle.policy_json.specs.declared.location.Location.{Location}
use Rattle.policy_json.specs.Conditions.{IsConditionElementRead}
use Rattle.policy_json.proofs.SoundConditions.{conditions_sound}
use Rattle.policy_json.specs.Checks.{PolicyAnswer}
use Rattle.policy_json.proofs.conditions.read_conditions.Goals as goal

-- what is read is sound
sound : (location : Location) (escapes : Bool) (element : Option Data) (r : Result (List Condition) PolicyAnswer) → IsConditionElementRead location escapes element r → IfOk r (All ConditionIsSound)
sound location escapes element (Ok cs) read = subst (All ConditionIsSound) (sym read.1) (conditions_sound location escapes element read.0)
sound location escapes element (Err e) read = tt

pub returns-in-Some-clause-sound : goal.returns-in-Some-clause-sound
returns-in-Some-clause-sound c = sound c.args.location c.args.escapes (Some (view c.in-Some.element.now)) c.read_element.result c.read_element.ensures
