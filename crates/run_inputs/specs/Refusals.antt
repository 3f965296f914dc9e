-- The lines of refusals.
use Rattle.std.specs.Prelude.{ℕ, List, ◌++◌, codes, decimal, if◌then◌else◌}
use Rattle.policy_model.specs.declared.set.StatementName.{StatementName}
use Rattle.request_schema.specs.declared.infer_fault.InferFault.{InferFault}
use Rattle.request_schema.specs.declared.schema_fault.SchemaCode.{SchemaCode}
use Rattle.request_schema.specs.declared.schema_fault.SchemaCode.TheVariants.{S1NotJson, S2Shape, S3UnknownKind, S4KeyTwice}
use Rattle.request_schema.specs.declared.schema_fault.SchemaCode.TheVariants.{S5UnknownDimension, S6EmptyShape, S7EmptyValues}
use Rattle.request_schema.specs.declared.schema_fault.SchemaCode.TheVariants.{S8BadValue, S9Limit}
use Rattle.request_schema.specs.declared.schema_fault.SchemaFault.{SchemaFault}
use Rattle.policy_json.specs.declared.fault.PolicyFault.{PolicyFault}
use Rattle.policy_json.specs.declared.fault.PolicyCode.{PolicyCode}
use Rattle.policy_json.specs.declared.fault.PolicyCode.TheVariants.{P1NotJson, P2SetShape, P3UnknownElement}
use Rattle.policy_json.specs.declared.fault.PolicyCode.TheVariants.{P4WrongShape, P5MissingElement, P6BothElements, P7BadVersion}
use Rattle.policy_json.specs.declared.fault.PolicyCode.TheVariants.{P8BadEffect, P9PrincipalKind, P10PrincipalWildcard}
use Rattle.policy_json.specs.declared.fault.PolicyCode.TheVariants.{P11PolicyVariable, P12UnknownOperator}
use Rattle.policy_json.specs.declared.fault.PolicyCode.TheVariants.{P13BadValue, P14ArnParts, P17Limit}
use Rattle.run_inputs.specs.declared.printed.Printed.{Printed}
use Rattle.run_inputs.specs.declared.status.Status.TheVariants.{Refused}
use Rattle.run_inputs.specs.FileLines.{role_word}
use Rattle.run_inputs.specs.Printing.{PrintsText}
use Rattle.run_inputs.specs.declared.refusal.Refusal.{Refusal}
use Rattle.run_inputs.specs.declared.refusal.Refusal.TheVariants.{BadSchema, BadSet, BadCondition, TooManyTests, TooManyPieces}
use Rattle.run_inputs.specs.Parts.{element_text}

abbrev pub code_word : PolicyCode → List ℕ
code_word P1NotJson = codes "P1 NotJson"
code_word P2SetShape = codes "P2 SetShape"
code_word P3UnknownElement = codes "P3 UnknownElement"
code_word P4WrongShape = codes "P4 WrongShape"
code_word P5MissingElement = codes "P5 MissingElement"
code_word P6BothElements = codes "P6 BothElements"
code_word P7BadVersion = codes "P7 BadVersion"
code_word P8BadEffect = codes "P8 BadEffect"
code_word P9PrincipalKind = codes "P9 PrincipalKind"
code_word P10PrincipalWildcard = codes "P10 PrincipalWildcard"
code_word P11PolicyVariable = codes "P11 PolicyVariable"
code_word P12UnknownOperator = codes "P12 UnknownOperator"
code_word P13BadValue = codes "P13 BadValue"
code_word P14ArnParts = codes "P14 ArnParts"
code_word P17Limit = codes "P17 Limit"

-- the statement of a fault, and its element
unfoldable pub statement_end : StatementName → List ℕ → List ℕ
statement_end name element = codes ", statement " ++ decimal name.statement ++ codes ", " ++ element_text element

-- the document of a fault, and what is behind it
unfoldable pub document_end : StatementName → List ℕ → List ℕ
document_end name element = codes ": document " ++ decimal name.document ++ statement_end name element

-- the location of a fault of a set
abbrev pub location_of : PolicyFault → StatementName
location_of fault = record { document = fault.document; statement = fault.statement }

-- a fault of a set with its location
abbrev pub fault_text : PolicyFault → List ℕ
fault_text fault = code_word fault.code ++ document_end (location_of fault) fault.element

-- a condition that the run has no schema for: why, and its location
abbrev pub infer_word : InferFault → List ℕ
infer_word fault = (if fault.plural then codes "P16 PluralKey" else codes "P15 KindClash")

abbrev pub infer_text : InferFault → List ℕ
infer_text fault = infer_word fault ++ document_end fault.name fault.key

abbrev pub schema_word : SchemaCode → List ℕ
schema_word S1NotJson = codes "S1 NotJson"
schema_word S2Shape = codes "S2 Shape"
schema_word S3UnknownKind = codes "S3 UnknownKind"
schema_word S4KeyTwice = codes "S4 KeyTwice"
schema_word S5UnknownDimension = codes "S5 UnknownDimension"
schema_word S6EmptyShape = codes "S6 EmptyShape"
schema_word S7EmptyValues = codes "S7 EmptyValues"
schema_word S8BadValue = codes "S8 BadValue"
schema_word S9Limit = codes "S9 Limit"

-- a fault of a schema file with its element
abbrev pub schema_text : SchemaFault → List ℕ
schema_text fault = schema_word fault.code ++ codes ": " ++ element_text fault.element

-- the line of a refusal
unfoldable pub refusal_text : Refusal → List ℕ
refusal_text (BadSet role fault) = codes "refused: " ++ role_word role ++ codes ": " ++ fault_text fault ++ codes "\n"
refusal_text (BadSchema fault) = codes "refused: schema: " ++ schema_text fault ++ codes "\n"
refusal_text (BadCondition role fault) = codes "refused: " ++ role_word role ++ codes ": " ++ infer_text fault ++ codes "\n"
refusal_text TooManyTests = codes "refused: query: P17 Limit: document 0, statement 0, \"tests\"\n"
refusal_text TooManyPieces = codes "refused: query: P17 Limit: document 0, statement 0, \"pieces\"\n"

-- the line of the refusal is printed
abbrev pub PrintsRefusal : Refusal → Printed → Type 0
PrintsRefusal refusal p = PrintsText (refusal_text refusal) Refused p

-- the line of a refusal that satisfies Q is printed
abbrev pub IsRefusedBy : (Refusal → Type 0) → Printed → Type 0
IsRefusedBy Q p = (refusal : Refusal) × Q refusal × PrintsRefusal refusal p
