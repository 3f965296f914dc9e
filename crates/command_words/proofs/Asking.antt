-- What is asked by words that `clap` refuses, and of which command.
use Rattle.std.proofs.Common.{◌≡◌, ◌∙◌, List, [], ◌∷◌, None, Option, Some, Result, Ok, Err, ap, refl, subst, sym, codes}
use Rattle.std.specs.Prelude.{⊤, IfOk, find, map, option_and_then, option_map}
use Rattle.std.specs.Str.{bytes_eq}
use Rattle.std.specs.declared.alloc.AllocError.{AllocError}
use Rattle.clap.specs.Words.{App, Kinds, Text, fault_of, found_of, matches_of, rows_of}
use Rattle.clap.specs.declared.parser.matches.ArgMatches.{ArgMatches}
use Rattle.command_words.proofs.Readings.{other_text}
use Rattle.command_words.specs.Asked.{Asked, NamedCommand, asked_by_form, asked_in, asked_of, asked_unless, command_of, commands}
use Rattle.command_words.specs.Named.{named_command}
use Rattle.command_words.specs.Parsing.{Parses}
use Rattle.command_words.specs.declared.asked.Command.{Command}
use Rattle.command_words.specs.declared.names.CommandName.{CommandName}
use Rattle.command_words.specs.declared.names.CommandName.TheVariants.{Compare, Check, Summary, Eval, Load, Idle, Reach, Emit, CheckSummary, NewAccess, CheckNewAccess}
use Rattle.command_words.specs.Forms.{check_form, check_new_access_form, check_summary_form, compare_form, emit_form, eval_form}
use Rattle.command_words.specs.Forms.{idle_form, load_form, new_access_form, reach_form, summary_form}

unless_none : (kinds : Kinds) (asked : Option Asked) → ¬ (kinds ≡ []) → None ≡ asked_unless kinds asked
unless_none [] asked bad = absurd (bad refl)
unless_none (k ∷ ks) asked bad = refl

some_asked : (e : NamedCommand) (words : List Text) (m : ArgMatches) → Parses e.form words (Some m) → e.asks (rows_of (found_of m)) ≡ asked_by_form e words
some_asked e words m p = ap e.asks p.1 ∙ sym (ap (λ kinds. asked_unless kinds (e.asks (matches_of e.form words))) p.0)

-- what the matches of the words ask is asked of the command
pub asked_some : (e : NamedCommand) (a : App) (words : List Text) (m : ArgMatches) (r : Result (Option Command) AllocError) → a ≡ e.form
    → Parses a words (Some m) → IfOk r (λ c. option_map asked_in c ≡ e.asks (rows_of (found_of m)))
    → IfOk r (λ c. option_map asked_in c ≡ asked_by_form e words)
asked_some e a words m (Err x) is parsed asked = tt
asked_some e a words m (Ok c) is parsed asked = asked ∙ some_asked e words m (subst (λ (x : App). Parses x words (Some m)) is parsed)

pub asked_none : (e : NamedCommand) (a : App) (words : List Text) → a ≡ e.form → ¬ (fault_of a words ≡ []) → None ≡ asked_by_form e words
asked_none e a words is bad =
    unless_none (fault_of e.form words) (e.asks (matches_of e.form words)) (λ none. bad (ap (λ (x : App). fault_of x words) is ∙ none))

-- the word that names a command
abbrev pub word_of : CommandName → Text
word_of Compare = codes "compare"
word_of Check = codes "check"
word_of Summary = codes "summary"
word_of Eval = codes "eval"
word_of Load = codes "load"
word_of Idle = codes "idle"
word_of Reach = codes "reach"
word_of Emit = codes "emit"
word_of CheckSummary = codes "check-summary"
word_of NewAccess = codes "new-access"
word_of CheckNewAccess = codes "check-new-access"

command_by : (name : CommandName) → command_of (word_of name) ≡ Some (named_command name)
unfolding check_form check_new_access_form check_summary_form compare_form emit_form eval_form idle_form load_form new_access_form reach_form summary_form
command_by Compare = refl
command_by Check = refl
command_by Summary = refl
command_by Eval = refl
command_by Load = refl
command_by Idle = refl
command_by Reach = refl
command_by Emit = refl
command_by CheckSummary = refl
command_by NewAccess = refl
command_by CheckNewAccess = refl

pub named_by : (name : CommandName) (word : Text) → word ≡ word_of name → Some (named_command name) ≡ command_of word
named_by name word is = sym (ap command_of is ∙ command_by name)

-- the word is none of the texts
abbrev IsNoneOf : Text → List Text → Type 0
IsNoneOf word [] = ⊤
IsNoneOf word (text ∷ texts) = ¬ (word ≡ text) × IsNoneOf word texts

none_found : (word : Text) (es : List NamedCommand) → IsNoneOf word (map (λ e. e.form.top.name) es) → find (λ e. bytes_eq e.form.top.name word) es ≡ None
none_found word [] none = refl
none_found word (e ∷ es) none = rw (other_text e.form.top.name word (λ same. none.0 (sym same))) (none_found word es none.1)

abbrev pub words : List Text
words = codes "compare" ∷ codes "check" ∷ codes "summary" ∷ codes "eval" ∷ codes "load" ∷ codes "idle" ∷ codes "reach"
    ∷ codes "emit" ∷ codes "check-summary" ∷ codes "new-access" ∷ codes "check-new-access" ∷ []

names_are : map (λ e. e.form.top.name) commands ≡ words
unfolding check_form check_new_access_form check_summary_form compare_form emit_form eval_form idle_form load_form new_access_form reach_form summary_form
names_are = refl

pub no_command : (word : Text) → IsNoneOf word words → None ≡ command_of word
no_command word none = sym (none_found word commands (subst (IsNoneOf word) (sym names_are) none))

-- what is asked of a command is asked of the one that the word names
pub answered_by : (word : Text) (words : List Text) (e : NamedCommand) (r : Result (Option Command) AllocError) → command_of word ≡ Some e
    → IfOk r (λ c. option_map asked_in c ≡ asked_of e words)
    → IfOk r (λ c. option_map asked_in c ≡ option_and_then (λ f. asked_of f words) (command_of word))
answered_by word words e (Err x) is asked = tt
answered_by word words e (Ok c) is asked = rw is asked
