-- A form that all arguments were added to.
use Rattle.std.proofs.Common.{◌≡◌, ◌∙◌, ◌≤◌, ℕ, List, length, drop, fold, map, ap, sym}
use Rattle.std.proofs.lemmas.List.{drop_all}
use Rattle.clap.specs.Words.{App, with_rule}
use Rattle.command_words.specs.Arguments.{argument_rule}
use Rattle.command_words.specs.declared.forms.Argument.{Argument}

pub all_added : (arguments : List Argument) (i : ℕ) (start filled : App) → length arguments ≤ i
    → fold with_rule filled (map argument_rule (drop i arguments)) ≡ fold with_rule start (map argument_rule arguments)
    → filled ≡ fold with_rule start (map argument_rule arguments)
all_added arguments i start filled past same =
    sym (ap (λ (l : List Argument). fold with_rule filled (map argument_rule l)) (drop_all i arguments past)) ∙ same
