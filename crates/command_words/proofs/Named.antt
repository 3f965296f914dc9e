-- The numbers that are asked for of a command are in their ranges.
use Rattle.std.proofs.Common.{◌≡◌, ◌∙◌, ℕ, List, [], true, false, ap, codes, refl, sym}
use Rattle.std.specs.Prelude.{pos}
use Rattle.std.specs.Str.{bytes_eq}
use Rattle.clap.specs.Words.{App, IsParsedFrom, app_of, found_of, is_simple_and_free}
use Rattle.clap.specs.Walk.{Rule}
use Rattle.clap.specs.declared.builder.command.Command.{Command}
use Rattle.clap.specs.declared.builder.value_parser.ValueParser.TheVariants.{Signed}
use Rattle.clap.specs.declared.parser.matches.ArgMatches.{ArgMatches}
use Rattle.command_words.proofs.Numbers.{HasParser, has_number}
use Rattle.command_words.proofs.Rules.{TakeNumbers, TakesNumbers, all_take, other, take_named}
use Rattle.command_words.proofs.Simple.{plain_if_free, simple_named}
use Rattle.command_words.specs.Named.{named_command}
use Rattle.command_words.specs.Parsing.{HasNumberUpTo, HasNumbers}
use Rattle.command_words.specs.declared.limits.TheConstants.{MOST_FINDINGS, MOST_KEYS, MOST_SPLITS, MOST_STATES}
use Rattle.command_words.specs.declared.names.CommandName.{CommandName}

unlike : (id text : List ℕ) → bytes_eq id id ≡ true → bytes_eq text id ≡ false → id ≡ text → ⊥
unlike id text same differ e = other (sym differ ∙ (ap (λ t. bytes_eq t id) (sym e) ∙ same))

module _ (form : App) (free : is_simple_and_free form ≡ true) (takes : TakeNumbers form.top.rules) (c : Command) (m : ArgMatches) (p : IsParsedFrom c m) (is : app_of c ≡ form) where
  number : (id : List ℕ) (most : ℕ) → bytes_eq id id ≡ true → bytes_eq [] id ≡ false → bytes_eq (codes "help") id ≡ false → bytes_eq (codes "version") id ≡ false
      → ((r : Rule) → TakesNumbers r → HasParser id (Signed (pos 1) (pos most)) r) → HasNumberUpTo (found_of m) id most
  number id most same named help version of =
      let plain = plain_if_free form free in
      has_number c m form id most p is plain.0 plain.1 (unlike id [] same named) (unlike id (codes "help") same help) (unlike id (codes "version") same version)
      (all_take (HasParser id (Signed (pos 1) (pos most))) of form.top.rules takes)

  numbers : HasNumbers (found_of m)
  numbers = record {
    splits = number (codes "splits") MOST_SPLITS refl refl refl refl (λ r t. t.splits);
    states = number (codes "states") MOST_STATES refl refl refl refl (λ r t. t.states);
    findings = number (codes "findings") MOST_FINDINGS refl refl refl refl (λ r t. t.findings);
    keys = number (codes "keys") MOST_KEYS refl refl refl refl (λ r t. t.keys);
  }

pub has_numbers : (name : CommandName) (c : Command) (m : ArgMatches) → IsParsedFrom c m → app_of c ≡ (named_command name).form → HasNumbers (found_of m)
has_numbers name c m p is = numbers (named_command name).form (simple_named name) (take_named name) c m p is
