-- What is put together from kept parts is kept, and how members are written.
use Rattle.std.proofs.Common.{◌≡◌, ◌≢◌, ◌<◌, ◌+◌, ℕ, List, [], ◌∷◌, ◌++◌, length, map, take, get_or, ap, ap₂, sym, subst, ◌∙◌, All as Each, Some, Result, Ok, Err, String, Global, refl, ◌≤◌, ◌↔◌, Bool, false, inl, inr, arith}
use Rattle.std.specs.Prelude.{IsTrue, IfOk, IfSome}
use Rattle.std.proofs.lemmas.List.Elements.{All-cons, All-nil, All-push}
use Rattle.std.proofs.lemmas.List.{length-map, map_more, map_push}
use Rattle.std.proofs.lemmas.Bool.{cases_lt}
use Rattle.serde_json.specs.Data.{Data, object}
use Rattle.serde_json.specs.View.{members_view, view}
use Rattle.serde_json.specs.declared.value.Value.{Value}
use Rattle.wildcard_lang.specs.Patterns.{IsPattern}
use Rattle.policy_model.specs.declared.principal.Entry.{Entry}
use Rattle.policy_model.specs.declared.principal.Entry.TheVariants.{All, Kind, Account, Exact}
use Rattle.policy_model.specs.declared.request.Request.{Request}
use Rattle.policy_model.specs.declared.schema.Schema.{Schema}
use Rattle.strata.specs.declared.stratum.Stratum.{Stratum}
use Rattle.policy_json.specs.declared.statement.TheConstants.{MOST_STATEMENTS}
use Rattle.findings.specs.Summaries.{findings_of}
use Rattle.policy_emit.specs.Emitted.{StatementsAreKept, action_of_finding, conditions_in, emitted_statement, entry_of_finding, resource_of_finding, statement_data}
use Rattle.policy_emit.specs.Kept.{ConditionIsKept, EntryIsKept, StatementIsKept}
use Rattle.policy_emit.specs.Written.{block_data, entry_element}
use Rattle.policy_emit.proofs.Placing.{ordered-all}

element-kept : (e : Entry) → EntryIsKept e → IfSome (entry_element e) (λ m. Each EntryIsKept m.items)
element-kept All kept = tt
element-kept (Kind kind) kept = All-cons EntryIsKept (Kind kind) [] kept (All-nil EntryIsKept)
element-kept (Account account) kept = All-cons EntryIsKept (Account account) [] kept (All-nil EntryIsKept)
element-kept (Exact kind id) kept = All-cons EntryIsKept (Exact kind id) [] kept (All-nil EntryIsKept)

pub statement-kept : (schema : Schema) (ds : List Stratum) (f : List ℕ) → EntryIsKept (entry_of_finding ds f) → IsPattern (action_of_finding ds f) → IsPattern (resource_of_finding ds f) → Each ConditionIsKept (conditions_in schema ds f) → StatementIsKept (emitted_statement schema ds f)
statement-kept schema ds f entry action resource conditions = record {
  principal = element-kept (entry_of_finding ds f) entry;
  action = All-cons IsPattern (action_of_finding ds f) [] action (All-nil IsPattern);
  resource = All-cons IsPattern (resource_of_finding ds f) [] resource (All-nil IsPattern);
  conditions = ordered-all ConditionIsKept (conditions_in schema ds f) conditions;
}

pub if-ok : {T E : Type 0} (r : Result T E) (P : Type 0) → P → IfOk r (λ x. P)
if-ok (Ok x) P p = p
if-ok (Err e) P p = tt

pub block-some : (es : List (String Global × Value)) → length es ≢ 0 → Some (object (members_view es)) ≡ block_data (members_view es)
block-some [] some = absurd (some refl)
block-some (e ∷ es) some = refl

-- ---- findings, one after another

abbrev pub Found : Type 0
Found = List ℕ × Request

pub findings-next : (xs : List Found) (i : ℕ) (x : Found) → i < length xs → x ≡ get_or xs i x → findings_of (take (i + 1) xs) ≡ findings_of (take i xs) ++ x.0 ∷ []
findings-next xs i x within is =
    map_more (λ (p : Found). p.0) xs i x within ∙ ap (λ (p : Found). findings_of (take i xs) ++ p.0 ∷ []) (sym is)

pub statements-next : (schema : Schema) (ds : List Stratum) (xs : List Found) (i : ℕ) (x : Found) → i < length xs → x ≡ get_or xs i x → StatementIsKept (emitted_statement schema ds x.0) → StatementsAreKept schema ds (findings_of (take i xs)) → StatementsAreKept schema ds (findings_of (take (i + 1) xs))
statements-next schema ds xs i x within is own kept =
    subst (StatementsAreKept schema ds) (sym (findings-next xs i x within is)) (All-push (λ f. StatementIsKept (emitted_statement schema ds f)) (findings_of (take i xs)) x.0 kept own)

pub views-next : (schema : Schema) (ds : List Stratum) (xs : List Found) (i : ℕ) (x : Found) (made : List Value) (v : Value) → i < length xs → x ≡ get_or xs i x → view v ≡ statement_data schema ds x.0 → map view made ≡ map (statement_data schema ds) (findings_of (take i xs)) → map view (made ++ v ∷ []) ≡ map (statement_data schema ds) (findings_of (take (i + 1) xs))
views-next schema ds xs i x made v within is own so_far =
    map_push view made v ∙ ap₂ (λ (a : List Data) (b : Data). a ++ b ∷ []) so_far own ∙ sym (map_push (statement_data schema ds) (findings_of (take i xs)) x.0) ∙ ap (map (statement_data schema ds)) (sym (findings-next xs i x within is))

-- where they aren't too many, they are few enough
pub few-found : (xs : List Found) (many : Bool) → (IsTrue many ↔ (MOST_STATEMENTS < length xs)) → many ≡ false → length (findings_of xs) ≤ MOST_STATEMENTS
few-found xs many tells none = elim (cases_lt MOST_STATEMENTS (length xs)) [
  | inl more ↦ (let is = tells.1 more in absurd (cc))
  | inr few ↦ omega (arith, few, length-map xs (λ (p : Found). p.0))
]
