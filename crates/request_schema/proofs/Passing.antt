-- Uses that are checked one after another: a fault of the next one is the first of all.
use Rattle.std.proofs.Common.{◌≡◌, List, ◌++◌, Result, Ok, Err, subst, sym, ◌∙◌}
use Rattle.std.specs.Result.{IsErrAnd}
use Rattle.json_shapes.specs.Checks.{first_fault}
use Rattle.json_shapes.proofs.Laws.{first_fault-front}
use Rattle.request_schema.specs.KeyUses.{AreUsesPassed}
use Rattle.request_schema.specs.RunSchemas.{UseCheck}
use Rattle.request_schema.specs.declared.infer_fault.InferAnswer.{InferAnswer}
use Rattle.request_schema.specs.declared.infer_fault.InferAnswer.TheVariants.{Refused, NoMemory}

at_err : (all next rest : List UseCheck) (e : InferAnswer) → first_fault all ≡ first_fault (next ++ rest) → AreUsesPassed next (Err e) → AreUsesPassed all (Err e)
at_err all next rest (Refused fault) same is = same ∙ first_fault-front next rest fault is
at_err all next rest NoMemory same is = tt

pub use-refused : (all next rest : List UseCheck) (e : InferAnswer) (answer : Result (Unit {0}) InferAnswer) → first_fault all ≡ first_fault (next ++ rest) → AreUsesPassed next (Err e) → IsErrAnd answer (λ given. given ≡ e) → AreUsesPassed all answer
use-refused all next rest e (Ok x) same is given = absurd given
use-refused all next rest e (Err given) same is as_given = subst (λ (a : InferAnswer). AreUsesPassed all (Err a)) (sym as_given) (at_err all next rest e same is)
