-- Lists read value by value: what is left of the checks, and what is left of the meanings.
use Rattle.std.proofs.Common.{◌≡◌, List, [], ◌∷◌, ◌++◌, None, Result, ap, sym, ◌∙◌}
use Rattle.std.proofs.lemmas.List.{append_assoc}
use Rattle.std.specs.Result.{IsErrAnd}
use Rattle.json_shapes.specs.Checks.{first_fault, IsReadOf}
use Rattle.policy_json.specs.Checks.{PolicyCheck, PolicyAnswer}
use Rattle.json_shapes.proofs.Laws.{first_fault-rest, Refuses, refused}

-- so far no check has failed, and these meanings are read
pub record Reading {X : Type 0} (all rest : List PolicyCheck) (whole done left : List X) : Type 0 where
  pub faults : first_fault all ≡ first_fault rest
  pub values : whole ≡ done ++ left

-- the next value has these checks and this meaning
pub record Next {X : Type 0} (all next rest : List PolicyCheck) (whole done : List X) (x : X) (left : List X) : Type 0 where
  pub faults : first_fault all ≡ first_fault (next ++ rest)
  pub values : whole ≡ done ++ x ∷ left

-- it has no fault
pub reads-next : {X : Type 0} {all next rest : List PolicyCheck} {whole done left : List X} {x : X} (y : X) (pushed : List X) → Next all next rest whole done x left → first_fault next ≡ None → y ≡ x → pushed ≡ done ++ y ∷ [] → Reading all rest whole pushed left
reads-next {X} {all} {next} {rest} {whole} {done} {left} {x} y pushed here passed is grown = record {
  faults = here.faults ∙ first_fault-rest next rest passed;
  values = here.values ∙ sym (append_assoc done (x ∷ []) left) ∙ ap (λ (front : List X). front ++ left) (sym (grown ∙ ap (λ (z : X). done ++ z ∷ []) is));
}

-- it has one
pub refuses-next : {X : Type 0} {all next rest : List PolicyCheck} {whole done left : List X} {x : X} (e : PolicyAnswer) (answer : Result (List X) PolicyAnswer) → Next all next rest whole done x left → Refuses next e → IsErrAnd answer (λ given. given ≡ e) → IsReadOf all whole answer
refuses-next {X} {all} {next} {rest} {whole} e answer here is given = refused all next rest whole e answer here.faults is given
