-- A statement as it is written is read as that statement, without a fault.
use Rattle.std.proofs.Common.{◌≡◌, ◌≤◌, ℕ, List, [], ◌∷◌, ◌++◌, map, Bool, true, false, nat_le, is_some, Option, Some, None, unwrap_or, length, codes, chars, refl, ap, ◌∙◌, arith}
use Rattle.std.specs.Str.{IsUtf8, encode_utf8_all}
use Rattle.std.proofs.lemmas.Bool.{le-leb}
use Rattle.std.proofs.lemmas.List.{length-map}
use Rattle.json.proofs.Printed.Utf8.{IsUtf8-are_ascii}
use Rattle.serde_json.specs.Data.{Data, depth}
use Rattle.serde_json.specs.Find.{get}
use Rattle.json_shapes.specs.Checks.{first_fault}
use Rattle.json_shapes.specs.Spelled.{IsSpelled}
use Rattle.json_shapes.proofs.Laws.{first_fault-rest}
use Rattle.wildcard_lang.specs.declared.pattern.TheConstants.{MOST_PIECES}
use Rattle.wildcard_lang.specs.declared.piece.Piece.{Piece}
use Rattle.wildcard_lang.specs.declared.symbol.Symbol.TheVariants.{Written}
use Rattle.wildcard_lang.specs.Patterns.{IsPattern}
use Rattle.wildcard_lang.specs.Reading.{glob_pieces, wildcard_of}
use Rattle.wildcard_lang.specs.WrittenAgain.{IsGlobOf}
use Rattle.wildcard_lang.specs.Writing.{action_form, piece_character, written_form}
use Rattle.wildcard_lang.proofs.Laws.{IsText-action, IsText-written, actions-again, globs-again}
use Rattle.policy_model.specs.declared.matcher.Matcher.{Matcher}
use Rattle.policy_model.specs.declared.operator.Condition.{Condition}
use Rattle.policy_model.specs.declared.principal.Entry.{Entry}
use Rattle.policy_model.specs.declared.set.Statement.{Statement}
use Rattle.policy_json.specs.declared.statement.TheConstants.{MOST_STATEMENTS}
use Rattle.policy_json.specs.Conditions.{condition_checks, conditions_of}
use Rattle.policy_json.specs.Principals.{entries_of, principal_checks}
use Rattle.policy_json.specs.ReadForms.{IsReadAction, IsReadEntry, IsReadResource}
use Rattle.policy_json.specs.Statements.{action_checks, actions_of, has_effect_allow, effect_checks, form_checks, resource_checks, resources_of, statement_checks, statement_of, who_checks, who_of}
use Rattle.policy_json.specs.Texts.{glob_of, globs_of, matcher_of, patterns_checks}
use Rattle.policy_emit.specs.Kept.{EntryIsKept}
use Rattle.policy_emit.specs.Written.{action_data, allow_data, block_data, block_members, entry_data, entry_element, in_file_order, one_item, resource_data}
use Rattle.policy_emit.proofs.Blocks.{AllAgain, IsShallowIf, IsSpelledIf, conditions-pass, conditions-shallow, conditions-spelled, conditions-stand}
use Rattle.policy_emit.proofs.Operands.{chars-encoded, encoded-utf8, if-passes}
use Rattle.policy_emit.proofs.Principals.{principal-passes, principal-shallow, principal-spelled, principal-stands}

-- ---- actions and resources

module _ (p : List Piece) (pattern : IsPattern p) where
  action-text : chars (encode_utf8_all (action_form p)) ≡ action_form p
  action-text = chars-encoded (action_form p) (IsText-action p pattern.scalars)

  resource-text : chars (encode_utf8_all (written_form p)) ≡ written_form p
  resource-text = chars-encoded (written_form p) (IsText-written p pattern.scalars)

  fits : nat_le (length p) MOST_PIECES ≡ true
  fits = le-leb (length p) MOST_PIECES pattern.fits

  pub action-stands : IsReadAction p → globs_of true false (action_data p) ≡ p ∷ []
  action-stands is = ap (λ (o : Option (List Piece)). unwrap_or o [] ∷ []) (ap (glob_pieces true false) action-text ∙ actions-again p is.glob)

  action-length : length (glob_of false false (action_data p)) ≡ length p
  action-length =
      length-map (map Written (chars (encode_utf8_all (action_form p)))) (wildcard_of false) ∙ length-map (chars (encode_utf8_all (action_form p))) Written
      ∙ ap length action-text ∙ length-map p piece_character

  pub action-pattern-passes : (location : _) (name : List ℕ) → first_fault (patterns_checks location name false (Some (action_data p))) ≡ None
  action-pattern-passes location name = if-passes _ _ _ (ap (λ (n : ℕ). nat_le n MOST_PIECES) action-length ∙ fits) refl

  resource-read : (fold : Bool) → IsGlobOf fold true p → glob_pieces fold true (chars (encode_utf8_all (written_form p))) ≡ Some p
  resource-read fold glob = ap (glob_pieces fold true) resource-text ∙ globs-again fold true p glob

  pub resource-stands : IsReadResource p → globs_of false true (resource_data p) ≡ p ∷ []
  resource-stands is = ap (λ (o : Option (List Piece)). unwrap_or o [] ∷ []) (resource-read false is.glob)

  pub resource-pattern-passes : IsReadResource p → (location : _) (name : List ℕ) → first_fault (patterns_checks location name true (Some (resource_data p))) ≡ None
  resource-pattern-passes is location name =
      let read = resource-read false is.glob in
      if-passes _ _ _ (ap is_some read) (if-passes _ _ _ (ap (λ (o : Option (List Piece)). nat_le (length (unwrap_or o [])) MOST_PIECES) read ∙ fits) refl)

action-name : IsUtf8 (codes "Action")
action-name = IsUtf8-are_ascii (codes "Action") refl

condition-name : IsUtf8 (codes "Condition")
condition-name = IsUtf8-are_ascii (codes "Condition") refl

effect-name : IsUtf8 (codes "Effect")
effect-name = IsUtf8-are_ascii (codes "Effect") refl

allow-word : IsUtf8 (codes "Allow")
allow-word = IsUtf8-are_ascii (codes "Allow") refl

principal-name : IsUtf8 (codes "Principal")
principal-name = IsUtf8-are_ascii (codes "Principal") refl

resource-name : IsUtf8 (codes "Resource")
resource-name = IsUtf8-are_ascii (codes "Resource") refl

-- ---- the elements of a statement, whatever they are

module _ (location : _) (a r : Data) where
  effect-passes : (c p : Option Data) → first_fault (effect_checks location (allow_data a c p r)) ≡ None
  effect-passes None None = refl
  effect-passes None (Some p) = refl
  effect-passes (Some c) None = refl
  effect-passes (Some c) (Some p) = refl

  names-pass : (in_set : ℕ) (c p : Option Data) → nat_le in_set MOST_STATEMENTS ≡ true → first_fault (form_checks location in_set (allow_data a c p r)) ≡ None
  names-pass in_set None None few = if-passes (nat_le in_set MOST_STATEMENTS) _ _ few refl
  names-pass in_set None (Some p) few = if-passes (nat_le in_set MOST_STATEMENTS) _ _ few refl
  names-pass in_set (Some c) None few = if-passes (nat_le in_set MOST_STATEMENTS) _ _ few refl
  names-pass in_set (Some c) (Some p) few = if-passes (nat_le in_set MOST_STATEMENTS) _ _ few refl

  who-passes : (c p : Option Data) → first_fault (principal_checks location (codes "Principal") p) ≡ None → first_fault (who_checks location (allow_data a c p r)) ≡ None
  who-passes None None own = refl
  who-passes None (Some p) own = first_fault-rest (principal_checks location (codes "Principal") (Some p)) [] own
  who-passes (Some c) None own = refl
  who-passes (Some c) (Some p) own = first_fault-rest (principal_checks location (codes "Principal") (Some p)) [] own

  actions-pass : (c p : Option Data) → first_fault (patterns_checks location (codes "Action") false (Some a)) ≡ None → first_fault (action_checks location (allow_data a c p r)) ≡ None
  actions-pass None None own = first_fault-rest (patterns_checks location (codes "Action") false (Some a)) [] own
  actions-pass None (Some p) own = first_fault-rest (patterns_checks location (codes "Action") false (Some a)) [] own
  actions-pass (Some c) None own = first_fault-rest (patterns_checks location (codes "Action") false (Some a)) [] own
  actions-pass (Some c) (Some p) own = first_fault-rest (patterns_checks location (codes "Action") false (Some a)) [] own

  resources-pass : (c p : Option Data) → first_fault (patterns_checks location (codes "Resource") true (Some r)) ≡ None → first_fault (resource_checks location true (allow_data a c p r)) ≡ None
  resources-pass None None own = first_fault-rest (patterns_checks location (codes "Resource") true (Some r)) [] own
  resources-pass None (Some p) own = first_fault-rest (patterns_checks location (codes "Resource") true (Some r)) [] own
  resources-pass (Some c) None own = first_fault-rest (patterns_checks location (codes "Resource") true (Some r)) [] own
  resources-pass (Some c) (Some p) own = first_fault-rest (patterns_checks location (codes "Resource") true (Some r)) [] own

module _ (a r : Data) where
  got-condition : (c p : Option Data) → get (codes "Condition") (allow_data a c p r) ≡ c
  got-condition None None = refl
  got-condition None (Some p) = refl
  got-condition (Some c) None = refl
  got-condition (Some c) (Some p) = refl

  allowing : (c p : Option Data) → has_effect_allow (allow_data a c p r) ≡ true
  allowing None None = refl
  allowing None (Some p) = refl
  allowing (Some c) None = refl
  allowing (Some c) (Some p) = refl

  who-is : (c p : Option Data) → who_of (allow_data a c p r) ≡ matcher_of entries_of p None
  who-is None None = refl
  who-is None (Some p) = refl
  who-is (Some c) None = refl
  who-is (Some c) (Some p) = refl

  abbrev with_items : List (List Piece) → Matcher (List Piece)
  with_items items = record { not = false; items = items }

  actions-are : (c p : Option Data) → actions_of (allow_data a c p r) ≡ with_items (globs_of true false a)
  actions-are None None = refl
  actions-are None (Some p) = refl
  actions-are (Some c) None = refl
  actions-are (Some c) (Some p) = refl

  resources-are : (c p : Option Data) → resources_of true (allow_data a c p r) ≡ Some (with_items (globs_of false true r))
  resources-are None None = refl
  resources-are None (Some p) = refl
  resources-are (Some c) None = refl
  resources-are (Some c) (Some p) = refl

  elements-spelled : (c p : Option Data) → IsSpelled a → IsSpelled r → IsSpelledIf c → IsSpelledIf p → IsSpelled (allow_data a c p r)
  elements-spelled None None own other condition principal = (
    ((refl, (refl, tt)), ((refl, tt), (tt, tt))),
    ((action-name, own), ((effect-name, allow-word), ((resource-name, other), tt))),
  )
  elements-spelled None (Some p) own other condition principal = (
    ((refl, (refl, (refl, tt))), ((refl, (refl, tt)), ((refl, tt), (tt, tt)))),
    ((action-name, own), ((effect-name, allow-word), ((principal-name, principal), ((resource-name, other), tt)))),
  )
  elements-spelled (Some c) None own other condition principal = (
    ((refl, (refl, (refl, tt))), ((refl, (refl, tt)), ((refl, tt), (tt, tt)))),
    ((action-name, own), ((condition-name, condition), ((effect-name, allow-word), ((resource-name, other), tt)))),
  )
  elements-spelled (Some c) (Some p) own other condition principal = (
    ((refl, (refl, (refl, (refl, tt)))), ((refl, (refl, (refl, tt))), ((refl, (refl, tt)), ((refl, tt), (tt, tt))))),
    ((action-name, own), ((condition-name, condition), ((effect-name, allow-word), ((principal-name, principal), ((resource-name, other), tt))))),
  )

  elements-shallow : (c p : Option Data) → depth a ≤ 3 → depth r ≤ 3 → IsShallowIf c → IsShallowIf p → depth (allow_data a c p r) ≤ 4
  elements-shallow None None own other condition principal = omega (arith, own, other)
  elements-shallow None (Some p) own other condition principal = omega (arith, own, other, principal)
  elements-shallow (Some c) None own other condition principal = omega (arith, own, other, condition)
  elements-shallow (Some c) (Some p) own other condition principal = omega (arith, own, other, condition, principal)

-- ---- the whole statement

-- each of its elements is read again
pub record IsStatementAgain (action resource : List Piece) (e : Entry) (cs : List Condition) : Type 0 where
  pub action_read : IsReadAction action
  pub action_kept : IsPattern action
  pub resource_read : IsReadResource resource
  pub resource_kept : IsPattern resource
  pub entry_read : IsReadEntry e
  pub entry_kept : EntryIsKept e
  pub conditions : AllAgain cs

module _ (action resource : List Piece) (e : Entry) (cs : List Condition) (again : IsStatementAgain action resource e cs) where
  abbrev data_of : Data
  data_of = allow_data (action_data action) (block_data (block_members cs)) (entry_data e) (resource_data resource)

  abbrev with_elements : Bool → Option (Matcher Entry) → Matcher (List Piece) → Option (Matcher (List Piece)) → List Condition → Statement
  with_elements allow principal actions resources conditions = record { allow = allow; principal = principal; action = actions; resource = resources; conditions = conditions }

  pub statement-stands : statement_of true data_of ≡ with_elements true (entry_element e) (one_item action) (Some (one_item resource)) (in_file_order cs)
  statement-stands =
      let a = action_data action in
      let r = resource_data resource in
      let c = block_data (block_members cs) in
      let p = entry_data e in
      let actions : actions_of data_of ≡ one_item action = actions-are a r c p ∙ ap (λ (items : List (List Piece)). with_items a r items) (action-stands action again.action_kept again.action_read) in
      let resources : resources_of true data_of ≡ Some (one_item resource) = resources-are a r c p ∙ ap (λ (items : List (List Piece)). Some (with_items a r items)) (resource-stands resource again.resource_kept again.resource_read) in
      let principal : who_of data_of ≡ entry_element e = who-is a r c p ∙ principal-stands e again.entry_read again.entry_kept in
      let conditions : conditions_of true (get (codes "Condition") data_of) ≡ in_file_order cs = ap (conditions_of true) (got-condition a r c p) ∙ conditions-stand cs again.conditions in
      ap (λ (b : Bool). with_elements b (who_of data_of) (actions_of data_of) (resources_of true data_of) (conditions_of true (get (codes "Condition") data_of))) (allowing a r c p)
      ∙ ap (λ (m : Option (Matcher Entry)). with_elements true m (actions_of data_of) (resources_of true data_of) (conditions_of true (get (codes "Condition") data_of))) principal
      ∙ ap (λ (m : Matcher (List Piece)). with_elements true (entry_element e) m (resources_of true data_of) (conditions_of true (get (codes "Condition") data_of))) actions
      ∙ ap (λ (m : Option (Matcher (List Piece))). with_elements true (entry_element e) (one_item action) m (conditions_of true (get (codes "Condition") data_of))) resources
      ∙ ap (with_elements true (entry_element e) (one_item action) (Some (one_item resource))) conditions

  pub statement-passes : (location : _) (in_set : ℕ) → in_set ≤ MOST_STATEMENTS → first_fault (statement_checks location in_set true data_of) ≡ None
  statement-passes location in_set few =
      let a = action_data action in
      let r = resource_data resource in
      let c = block_data (block_members cs) in
      let p = entry_data e in
      let conditions : first_fault (condition_checks location true (get (codes "Condition") data_of)) ≡ None =
      ap (λ (o : Option Data). first_fault (condition_checks location true o)) (got-condition a r c p) ∙ conditions-pass cs again.conditions location in
      let by_resources = first_fault-rest (resource_checks location true data_of) (condition_checks location true (get (codes "Condition") data_of)) (resources-pass location a r c p (resource-pattern-passes resource again.resource_kept again.resource_read location (codes "Resource"))) in
      let by_actions = first_fault-rest (action_checks location data_of) (resource_checks location true data_of ++ condition_checks location true (get (codes "Condition") data_of)) (actions-pass location a r c p (action-pattern-passes action again.action_kept location (codes "Action"))) in
      let by_who = first_fault-rest (who_checks location data_of) (action_checks location data_of ++ (resource_checks location true data_of ++ condition_checks location true (get (codes "Condition") data_of))) (who-passes location a r c p (principal-passes e again.entry_read again.entry_kept location (codes "Principal"))) in
      let by_effect = first_fault-rest (effect_checks location data_of) (who_checks location data_of ++ (action_checks location data_of ++ (resource_checks location true data_of ++ condition_checks location true (get (codes "Condition") data_of)))) (effect-passes location a r c p) in
      let by_form = first_fault-rest (form_checks location in_set data_of) (effect_checks location data_of ++ (who_checks location data_of ++ (action_checks location data_of ++ (resource_checks location true data_of ++ condition_checks location true (get (codes "Condition") data_of))))) (names-pass location a r in_set c p (le-leb in_set MOST_STATEMENTS few)) in
      by_form ∙ by_effect ∙ by_who ∙ by_actions ∙ by_resources ∙ conditions

  pub statement-spelled : IsSpelled data_of
  statement-spelled =
      elements-spelled (action_data action) (resource_data resource) (block_data (block_members cs)) (entry_data e)
      (encoded-utf8 (action_form action) (IsText-action action again.action_kept.scalars)) (encoded-utf8 (written_form resource) (IsText-written resource again.resource_kept.scalars))
      (conditions-spelled cs again.conditions) (principal-spelled e again.entry_read again.entry_kept)

  pub statement-shallow : depth data_of ≤ 4
  statement-shallow = elements-shallow (action_data action) (resource_data resource) (block_data (block_members cs)) (entry_data e) (omega arith) (omega arith) (conditions-shallow cs again.conditions) (principal-shallow e)
