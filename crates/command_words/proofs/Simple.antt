-- The commands are simple, and none of their arguments has a rule on another.
use Rattle.std.proofs.Common.{◌≡◌, ◌&&◌, Bool, true, false, refl, sym, subst}
use Rattle.std.specs.List.{list_all}
use Rattle.clap.specs.Words.{App, is_simple, is_simple_and_free}
use Rattle.clap.specs.Faults.{is_free_app}
use Rattle.clap.specs.Simple.{built}
use Rattle.command_words.specs.Forms.{check_form, check_new_access_form, check_summary_form, compare_form, emit_form, eval_form}
use Rattle.command_words.specs.Forms.{idle_form, load_form, new_access_form, reach_form, summary_form}
use Rattle.command_words.specs.Named.{named_command}
use Rattle.command_words.specs.declared.names.CommandName.{CommandName}
use Rattle.command_words.specs.declared.names.CommandName.TheVariants.{Compare, Check, Summary, Eval, Load, Idle, Reach, Emit, CheckSummary, NewAccess, CheckNewAccess}

pub simple_named : (name : CommandName) → is_simple_and_free (named_command name).form ≡ true
unfolding check_form check_new_access_form check_summary_form compare_form emit_form eval_form idle_form load_form new_access_form reach_form summary_form
simple_named Compare = refl
simple_named Check = refl
simple_named Summary = refl
simple_named Eval = refl
simple_named Load = refl
simple_named Idle = refl
simple_named Reach = refl
simple_named Emit = refl
simple_named CheckSummary = refl
simple_named NewAccess = refl
simple_named CheckNewAccess = refl

pub simple_if_named : (name : CommandName) (a : App) → a ≡ (named_command name).form → is_simple_and_free a ≡ true
simple_if_named name a is = subst (λ (x : App). is_simple_and_free x ≡ true) (sym is) (simple_named name)

first_of_both : (a b : Bool) → (a && b) ≡ true → a ≡ true
first_of_both true b e = refl
first_of_both false b e = e

second_of_both : (a b : Bool) → (a && b) ≡ true → b ≡ true
second_of_both true b e = e
second_of_both false b e = cc

pub simple_if_free : (a : App) → is_simple_and_free a ≡ true → is_simple a ≡ true
simple_if_free a free = first_of_both (is_simple a) (is_free_app (built a)) free

-- its rules are simple, and it is plain
pub plain_if_free : (a : App) → is_simple_and_free a ≡ true → (a.top.is_plain ≡ true) × (list_all (λ r. r.is_simple) a.top.rules ≡ true)
plain_if_free a free =
    let rules = first_of_both _ _ (first_of_both _ _ (simple_if_free a free)) in
    (first_of_both _ _ rules, second_of_both _ _ rules)
