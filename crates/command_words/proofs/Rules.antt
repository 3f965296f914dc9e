-- The rules of the commands' forms: each rule of an option of numbers takes its numbers.
use Rattle.std.proofs.Common.{◌≡◌, ℕ, zero, suc, true, false, arith, refl, List, [], ◌∷◌, codes}
use Rattle.std.specs.Prelude.{⊤, pos}
use Rattle.std.specs.List.{All}
use Rattle.clap.specs.Walk.{Rule}
use Rattle.clap.specs.declared.builder.value_parser.ValueParser.TheVariants.{Signed}
use Rattle.command_words.proofs.Numbers.{HasParser}
use Rattle.command_words.specs.Forms.{amount_rule, file_rule, flag_rule, name_rule, names_rule, number_rule}
use Rattle.command_words.specs.Forms.{check_form, check_new_access_form, check_summary_form, compare_form, emit_form, eval_form}
use Rattle.command_words.specs.Forms.{idle_form, load_form, new_access_form, reach_form, summary_form}
use Rattle.command_words.specs.Named.{named_command}
use Rattle.command_words.specs.declared.limits.TheConstants.{MOST_FINDINGS, MOST_KEYS, MOST_SPLITS, MOST_STATES}
use Rattle.command_words.specs.declared.names.CommandName.{CommandName}
use Rattle.command_words.specs.declared.names.CommandName.TheVariants.{Compare, Check, Summary, Eval, Load, Idle, Reach, Emit, CheckSummary, NewAccess, CheckNewAccess}

-- where the rule is of the id of an option of numbers, it takes that option's
pub record TakesNumbers (r : Rule) : Type 0 where
  pub splits : HasParser (codes "splits") (Signed (pos 1) (pos MOST_SPLITS)) r
  pub states : HasParser (codes "states") (Signed (pos 1) (pos MOST_STATES)) r
  pub findings : HasParser (codes "findings") (Signed (pos 1) (pos MOST_FINDINGS)) r
  pub keys : HasParser (codes "keys") (Signed (pos 1) (pos MOST_KEYS)) r

abbrev pub TakeNumbers : List Rule → Type 0
TakeNumbers [] = ⊤
TakeNumbers (r ∷ rs) = TakesNumbers r × TakeNumbers rs

pub all_take : (P : Rule → Type 0) → ((r : Rule) → TakesNumbers r → P r) → (rs : List Rule) → TakeNumbers rs → All P rs
all_take P of [] each k d lt = absurd (omega arith)
all_take P of (r ∷ rs) each zero d lt = of r each.0
all_take P of (r ∷ rs) each (suc k) d lt = all_take P of rs each.1 k d (omega arith)

pub other : {P : Type 0} → false ≡ true → P
other e = cc

first : TakesNumbers (name_rule (codes "first"))
first = record { splits = other; states = other; findings = other; keys = other }

second : TakesNumbers (name_rule (codes "second"))
second = record { splits = other; states = other; findings = other; keys = other }

set : TakesNumbers (name_rule (codes "set"))
set = record { splits = other; states = other; findings = other; keys = other }

request : TakesNumbers (name_rule (codes "request"))
request = record { splits = other; states = other; findings = other; keys = other }

zone : TakesNumbers (name_rule (codes "zone"))
zone = record { splits = other; states = other; findings = other; keys = other }

proof : TakesNumbers (name_rule (codes "proof"))
proof = record { splits = other; states = other; findings = other; keys = other }

dimension : TakesNumbers (names_rule (codes "dimension"))
dimension = record { splits = other; states = other; findings = other; keys = other }

schema : TakesNumbers (file_rule (codes "schema"))
schema = record { splits = other; states = other; findings = other; keys = other }

flag : TakesNumbers (flag_rule (codes "proof"))
flag = record { splits = other; states = other; findings = other; keys = other }

splits : TakesNumbers (number_rule (codes "splits") MOST_SPLITS)
splits = record { splits = λ e. (refl, refl); states = other; findings = other; keys = other }

states : TakesNumbers (number_rule (codes "states") MOST_STATES)
states = record { splits = other; states = λ e. (refl, refl); findings = other; keys = other }

findings : TakesNumbers (number_rule (codes "findings") MOST_FINDINGS)
findings = record { splits = other; states = other; findings = λ e. (refl, refl); keys = other }

keys : TakesNumbers (amount_rule (codes "keys") MOST_KEYS)
keys = record { splits = other; states = other; findings = other; keys = λ e. (refl, refl) }

pub take_named : (name : CommandName) → TakeNumbers (named_command name).form.top.rules
unfolding check_form check_new_access_form check_summary_form compare_form emit_form eval_form idle_form load_form new_access_form reach_form summary_form
take_named Compare = (first, (second, (schema, (splits, (states, (flag, tt))))))
take_named Check = (first, (second, (proof, (schema, tt))))
take_named Summary = (set, (dimension, (schema, (splits, (states, (findings, (flag, tt)))))))
take_named Eval = (set, (request, (schema, tt)))
take_named Load = (keys, tt)
take_named Idle = (set, (schema, (splits, (states, (flag, tt)))))
take_named Reach = (set, (zone, (dimension, (schema, (splits, (states, (findings, tt)))))))
take_named Emit = (set, (dimension, (schema, (splits, (states, (findings, tt))))))
take_named CheckSummary = (set, (proof, (dimension, (schema, (states, tt)))))
take_named NewAccess = (set, (second, (dimension, (schema, (splits, (states, (findings, (flag, tt))))))))
take_named CheckNewAccess = (set, (second, (proof, (dimension, (schema, (states, tt))))))
