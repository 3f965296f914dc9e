-- What the writer and the reader of requests say of one another.
use Rattle.std.specs.Prelude.{◌≡◌, ◌++◌, [], ◌∷◌, Ok}
use Rattle.policy_model.specs.Requests.{IsValid, IsWellKept}
use Rattle.policy_model.specs.declared.request.Request.{Request}
use Rattle.policy_model.specs.declared.schema.Schema.{Schema}
use Rattle.request_json.specs.RequestFiles.{request_from}
use Rattle.request_json.specs.RequestTexts.{request_text}

-- the text of the request, alone and with a line feed behind it, is read as the request
pub record RequestIsReadAgain (schema : Schema) (r : Request) : Type 0 where
  pub alone : request_from schema (request_text r) ≡ Ok r
  pub ended : request_from schema (request_text r ++ 10 ∷ []) ≡ Ok r

-- a valid request, as it is written, is read again as that request
abbrev pub WrittenRequestsAreReadAgain : Type 0
WrittenRequestsAreReadAgain = (schema : Schema) (r : Request) → IsWellKept r → IsValid schema r → RequestIsReadAgain schema r
