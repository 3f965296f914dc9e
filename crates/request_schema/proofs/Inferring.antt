-- What the inference answers, by the uses of the sets and what they come to.
use Rattle.std.proofs.Common.{◌≡◌, List, [], ◌∷◌, Option, Some, None, IfSome, Result, Ok, Err, option_map, filter, map, All, ap, sym, ◌∙◌, subst}
use Rattle.std.specs.Borrow.{Bor}
use Rattle.std.specs.Result.{IsErrAnd}
use Rattle.std.specs.List.{flat_map}
use Rattle.std.proofs.lemmas.List.Elements.{All-cons, All-nil}
use Rattle.text_table.specs.Table.{Entries}
use Rattle.json_shapes.specs.Checks.{first_fault}
use Rattle.policy_model.specs.declared.schema.Schema.{Schema}
use Rattle.policy_model.specs.declared.set.PolicySet.{PolicySet}
use Rattle.policy_model.specs.Soundness.{ConditionFits, IsSound, RuleIsSound, SchemaFits, SchemaIsSound}
use Rattle.request_schema.specs.BuiltIn.{NamedRule, with_rules}
use Rattle.request_schema.specs.KeyUses.{AreUsesPassed, Summarises, checks_by, rules_by}
use Rattle.request_schema.specs.RunSchemas.{IsInferred, further_rules, infer_checks, infer_fault, is_further, kind_from, many_from, schema_for, schema_of_run}
use Rattle.request_schema.specs.Uses.{Use, comparing_uses, uses_of}
use Rattle.request_schema.specs.declared.infer_fault.InferAnswer.{InferAnswer}
use Rattle.request_schema.specs.declared.infer_fault.InferAnswer.TheVariants.{Refused, NoMemory}
use Rattle.request_schema.specs.declared.key_use.KeyUse.{KeyUse}
use Rattle.request_schema.proofs.Comparing.{checks-same, made_from, rules-same}
use Rattle.request_schema.proofs.Fitting.{run-fits}
use Rattle.request_schema.proofs.OfSets.{fits-first, fits-other}
use Rattle.request_schema.proofs.Putting.{All-with_rules, plain-sound}

-- the rules of further keys are sound
further-sound : (us list : List Use) → All (λ (e : NamedRule). RuleIsSound e.1) (map (made_from us) list)
further-sound us [] = All-nil (λ (e : NamedRule). RuleIsSound e.1)
further-sound us (u ∷ list) =
    let cs = comparing_uses u.condition.key us in
    All-cons (λ (e : NamedRule). RuleIsSound e.1) (made_from us u) (map (made_from us) list) (plain-sound (kind_from cs) (many_from cs)) (further-sound us list)

schema-sound : (named : Schema) (us : List Use) → SchemaIsSound named → SchemaIsSound (schema_for named us)
schema-sound named us sound = record {
  rules = All-with_rules RuleIsSound named.keys (further_rules named.keys us) sound.rules (further-sound us (filter (is_further named.keys) us));
  shapes = sound.shapes;
}

refused-err : (named : Schema) (first : PolicySet) (second : Option PolicySet) (e : InferAnswer) → AreUsesPassed (infer_checks named (uses_of first second)) (Err e) → IsInferred named first second (Err e)
unfolding infer_fault
refused-err named first second (Refused fault) is = is
refused-err named first second NoMemory is = tt

refused-at : (named : Schema) (first : PolicySet) (second : Option PolicySet) (e : InferAnswer) (answer : Result Schema InferAnswer) → IsErrAnd answer (λ given. given ≡ e) → IsInferred named first second (Err e) → IsInferred named first second answer
refused-at named first second e (Ok schema) given is = absurd given
refused-at named first second e (Err a) given is = subst (λ (x : InferAnswer). IsInferred named first second (Err x)) (sym given) is

module _ (named : Schema) (first : PolicySet) (second : Option PolicySet) (us : List Use) (table : Entries KeyUse) (found : us ≡ uses_of first second) (summed : Summarises us table) where
  -- the checks are those of the run
  run-checks : flat_map (checks_by named table) us ≡ infer_checks named (uses_of first second)
  run-checks = checks-same named us us table summed ∙ ap (infer_checks named) found

  -- the first fault of the uses is that of the run
  pub infer-refused : (e : InferAnswer) (answer : Result Schema InferAnswer) → AreUsesPassed (flat_map (checks_by named table) us) (Err e) → IsErrAnd answer (λ given. given ≡ e) → IsInferred named first second answer
  infer-refused e answer is given =
      refused-at named first second e answer given (refused-err named first second e (subst (λ cs. AreUsesPassed cs (Err e)) run-checks is))

  module _ (schema : Schema) (passed : first_fault (flat_map (checks_by named table) us) ≡ None) (made : schema ≡ record { version = named.version; keys = with_rules named.keys (rules_by named.keys table us); shapes = named.shapes }) where
    run-schema : schema ≡ schema_for named (uses_of first second)
    run-schema =
        made ∙ ap (λ (rs : List NamedRule). let s : Schema = record { version = named.version; keys = with_rules named.keys rs; shapes = named.shapes } in s) (rules-same named us table summed) ∙ ap (schema_for named) found

    no-fault : first_fault (infer_checks named (uses_of first second)) ≡ None
    no-fault = subst (λ cs. first_fault cs ≡ None) run-checks passed

    all-fit : All (λ (u : Use). ConditionFits schema u.condition) (uses_of first second)
    all-fit = subst (λ (s : Schema). All (λ (u : Use). ConditionFits s u.condition) (uses_of first second)) (sym run-schema) (run-fits named (uses_of first second) no-fault)

    pub infer-value : IsInferred named first second (Ok schema)
    unfolding infer_fault schema_of_run
    infer-value = (no-fault, run-schema)

    pub infer-fits : IsSound first → SchemaFits schema first
    infer-fits sound = fits-first schema first second sound all-fit

    pub infer-fits-other : IfSome second IsSound → IfSome second (SchemaFits schema)
    infer-fits-other sound = fits-other schema first second sound all-fit

    pub infer-sound : SchemaIsSound named → SchemaIsSound schema
    infer-sound sound = subst SchemaIsSound (sym run-schema) (schema-sound named (uses_of first second) sound)

-- what is said of a set that is lent
pub sound-now : (o : Option (Bor PolicySet)) → IfSome o (λ set. IsSound set.now) → IfSome (option_map (λ set. set.now) o) IsSound
sound-now None sound = tt
sound-now (Some set) sound = sound

pub fits-now : (schema : Schema) (o : Option (Bor PolicySet)) → IfSome (option_map (λ set. set.now) o) (SchemaFits schema) → IfSome o (λ set. SchemaFits schema set.now)
fits-now schema None fits = tt
fits-now schema (Some set) fits = fits
