use Rattle.std.proofs.Common.{true, false, sym, subst}
use Rattle.std.proofs.lemmas.List.Elements.{All-nil}
use Rattle.policy_model.specs.Soundness.{RuleIsSound}
use Rattle.policy_model.specs.declared.value.Kind.TheVariants as kind
use Rattle.request_schema.specs.BuiltIn.{NamedRule, RulesAreSound, address_keys, built_in_keys, built_in_rules, keys_of_kind, list_keys, number_keys, text_keys, truth_keys}
use Rattle.request_schema.proofs.Putting.{five-lists}
use Rattle.request_schema.proofs.global_keys.built_in_rules.Goals as goal

pub returns-clause-value : goal.returns-clause-value
unfolding built_in_keys built_in_rules
returns-clause-value c =
    five-lists _ _ _ _ _ _ (keys_of_kind kind.Text false text_keys) (keys_of_kind kind.Truth false truth_keys) (keys_of_kind kind.Number false number_keys) (keys_of_kind kind.Address false address_keys) (keys_of_kind kind.Text true list_keys)
    c.new-rules.ensures c.in_ok-add_keys.ensures.value c.in_ok-add_keys-2.ensures.value c.in_ok-add_keys-3.ensures.value c.in_ok-add_keys-4.ensures.value c.in_ok-add_keys-5.ensures.value

pub returns-clause-sound : goal.returns-clause-sound
returns-clause-sound c =
    let none : RulesAreSound c.new-rules.result = subst RulesAreSound (sym c.new-rules.ensures) (All-nil (λ (e : NamedRule). RuleIsSound e.1)) in
    c.in_ok-add_keys-5.ensures.sound (c.in_ok-add_keys-4.ensures.sound (c.in_ok-add_keys-3.ensures.sound (c.in_ok-add_keys-2.ensures.sound (c.in_ok-add_keys.ensures.sound none))))
