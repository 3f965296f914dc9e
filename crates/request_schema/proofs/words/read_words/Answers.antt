use Rattle.std.proofs.Common.{◌≡◌, ◌∙◌, ℕ, List, [], ◌++◌, Option, codes}
use Rattle.json_shapes.proofs.Laws.{first_fault-rest, passed_two, passed_three, passed_four, passed_five, refused}
use Rattle.serde_json.specs.View.{view}
use Rattle.std.specs.List.{flat_map}
use Rattle.wildcard_lang.specs.declared.piece.Piece.{Piece}
use Rattle.policy_model.specs.declared.schema.Shapes.{Shapes}
use Rattle.request_schema.specs.SchemaHeads.{word_names}
use Rattle.request_schema.specs.SchemaWords.{shapes_in, word_checks}
use Rattle.request_schema.specs.SchemaChecks.{SchemaCheck}
use Rattle.request_schema.proofs.words.read_words.Goals as goal

-- shapes of these words
abbrev Shape : Type 0
Shape = Option (List Piece)

abbrev shapes_with : Shape → Shape → Shape → Shape → Shape → Shape → Shapes
shapes_with action resource aws service federated canonical_user =
    record { action = action; resource = resource; aws = aws; service = service; federated = federated; canonical_user = canonical_user }

stands_for : (a b c d e f g h i j k l : Shape) → a ≡ b → c ≡ d → e ≡ f → g ≡ h → i ≡ j → k ≡ l → shapes_with a c e g i k ≡ shapes_with b d f h j l
stands_for a b c d e f g h i j k l p q r s t u = cc

pub returns-in_err-action-clause-read : goal.returns-in_err-action-clause-read
returns-in_err-action-clause-read c =
    let d = view c.args.file.now in
    let checks : List ℕ → List SchemaCheck = word_checks d in
    let same = first_fault-rest (checks (codes "AWS")) (checks (codes "Action") ++ (checks (codes "CanonicalUser") ++ (checks (codes "Federated") ++ (checks (codes "Resource") ++ (checks (codes "Service") ++ []))))) c.in_ok-aws.ensures.read.0 in
    refused (flat_map checks word_names) (checks (codes "Action")) (checks (codes "CanonicalUser") ++ (checks (codes "Federated") ++ (checks (codes "Resource") ++ (checks (codes "Service") ++ [])))) (shapes_in d) _ _ same c.in_err-action.ensures.read c.from_residual-in_err-action.ensures.1

pub returns-in_err-canonical_user-clause-read : goal.returns-in_err-canonical_user-clause-read
returns-in_err-canonical_user-clause-read c =
    let d = view c.args.file.now in
    let checks : List ℕ → List SchemaCheck = word_checks d in
    let same = passed_two (checks (codes "AWS")) (checks (codes "Action")) (checks (codes "CanonicalUser") ++ (checks (codes "Federated") ++ (checks (codes "Resource") ++ (checks (codes "Service") ++ [])))) c.in_ok-aws.ensures.read.0 c.in_ok-action.ensures.read.0 in
    refused (flat_map checks word_names) (checks (codes "CanonicalUser")) (checks (codes "Federated") ++ (checks (codes "Resource") ++ (checks (codes "Service") ++ []))) (shapes_in d) _ _ same c.in_err-canonical_user.ensures.read c.from_residual-in_err-canonical_user.ensures.1

pub returns-in_err-federated-clause-read : goal.returns-in_err-federated-clause-read
returns-in_err-federated-clause-read c =
    let d = view c.args.file.now in
    let checks : List ℕ → List SchemaCheck = word_checks d in
    let same = passed_three (checks (codes "AWS")) (checks (codes "Action")) (checks (codes "CanonicalUser")) (checks (codes "Federated") ++ (checks (codes "Resource") ++ (checks (codes "Service") ++ []))) c.in_ok-aws.ensures.read.0 c.in_ok-action.ensures.read.0 c.in_ok-canonical_user.ensures.read.0 in
    refused (flat_map checks word_names) (checks (codes "Federated")) (checks (codes "Resource") ++ (checks (codes "Service") ++ [])) (shapes_in d) _ _ same c.in_err-federated.ensures.read c.from_residual-in_err-federated.ensures.1

pub returns-in_err-resource-clause-read : goal.returns-in_err-resource-clause-read
returns-in_err-resource-clause-read c =
    let d = view c.args.file.now in
    let checks : List ℕ → List SchemaCheck = word_checks d in
    let same = passed_four (checks (codes "AWS")) (checks (codes "Action")) (checks (codes "CanonicalUser")) (checks (codes "Federated")) (checks (codes "Resource") ++ (checks (codes "Service") ++ [])) c.in_ok-aws.ensures.read.0 c.in_ok-action.ensures.read.0 c.in_ok-canonical_user.ensures.read.0 c.in_ok-federated.ensures.read.0 in
    refused (flat_map checks word_names) (checks (codes "Resource")) (checks (codes "Service") ++ []) (shapes_in d) _ _ same c.in_err-resource.ensures.read c.from_residual-in_err-resource.ensures.1

pub returns-in_err-service-clause-read : goal.returns-in_err-service-clause-read
returns-in_err-service-clause-read c =
    let d = view c.args.file.now in
    let checks : List ℕ → List SchemaCheck = word_checks d in
    let same = passed_five (checks (codes "AWS")) (checks (codes "Action")) (checks (codes "CanonicalUser")) (checks (codes "Federated")) (checks (codes "Resource")) (checks (codes "Service") ++ []) c.in_ok-aws.ensures.read.0 c.in_ok-action.ensures.read.0 c.in_ok-canonical_user.ensures.read.0 c.in_ok-federated.ensures.read.0 c.in_ok-resource.ensures.read.0 in
    refused (flat_map checks word_names) (checks (codes "Service")) [] (shapes_in d) _ _ same c.in_err-service.ensures.read c.from_residual-in_err-service.ensures.1

pub returns-clause-read : goal.returns-clause-read
returns-clause-read c =
    let d = view c.args.file.now in
    let checks : List ℕ → List SchemaCheck = word_checks d in
    let same = passed_five (checks (codes "AWS")) (checks (codes "Action")) (checks (codes "CanonicalUser")) (checks (codes "Federated")) (checks (codes "Resource")) (checks (codes "Service") ++ []) c.in_ok-aws.ensures.read.0 c.in_ok-action.ensures.read.0 c.in_ok-canonical_user.ensures.read.0 c.in_ok-federated.ensures.read.0 c.in_ok-resource.ensures.read.0 in (
      same ∙ first_fault-rest (checks (codes "Service")) [] c.in_ok-service.ensures.read.0,
      stands_for _ _ _ _ _ _ _ _ _ _ _ _ c.in_ok-action.ensures.read.1 c.in_ok-resource.ensures.read.1 c.in_ok-aws.ensures.read.1 c.in_ok-service.ensures.read.1 c.in_ok-federated.ensures.read.1 c.in_ok-canonical_user.ensures.read.1,
    )
