-- The forms of the predicates in the strata of a file's set. A predicate's text distinguishes it from others, and the predicate can be
-- read again from it.
use Rattle.std.specs.Prelude.{◌≡◌, ◌≢◌, ◌≤◌, ◌<◌, ⊤, ℕ, List, length, true, false, ◌||◌, MatchBool, All as Each}
use Rattle.std.specs.List.{list_any}
use Rattle.wildcard_lang.specs.declared.pattern.TheConstants.{MOST_PIECES}
use Rattle.wildcard_lang.specs.declared.piece.Piece.{Piece}
use Rattle.wildcard_lang.specs.WrittenAgain.{IsArnOf, IsGlobOf, IsLiteralOf}
use Rattle.intervals.specs.Scaled.{IsScaled}
use Rattle.cidr_bits.specs.Numbers.{IsAddress}
use Rattle.policy_model.specs.Keys.{IsFolded}
use Rattle.policy_model.specs.declared.cond.Cond.{Cond}
use Rattle.policy_model.specs.declared.cond.Cond.TheVariants.{Matches, Compares, Inside, Flag, Equals}
use Rattle.policy_model.specs.declared.principal.Entry.{Entry}
use Rattle.policy_model.specs.declared.principal.Entry.TheVariants.{All}
use Rattle.policy_model.specs.declared.test.Slot.{Slot}
use Rattle.policy_model.specs.declared.test.Slot.TheVariants as slot
use Rattle.policy_json.specs.ReadForms.{IsReadAction, IsReadEntry, IsReadResource}
use Rattle.strata.specs.declared.predicate.Predicate.{Predicate}
use Rattle.strata.specs.declared.predicate.Predicate.TheVariants.{Every, Principal, Word, Meets}
use Rattle.strata.specs.declared.stratum.Stratum.{Stratum}
use Rattle.findings.specs.Texts.{is_narrow_wildcard, takes_either_case}

-- an entry that a file gives, other than that of every principal
pub record IsWrittenEntry (e : Entry) : Type 0 where
  pub not_all : e ≢ All
  pub read : IsReadEntry e

-- some text with escapes stands for the pattern: as that of an ARN where a wildcard takes no colon, else as a literal pattern without
-- regard to case where a letter is taken in either case, else as a pattern with wildcards
abbrev pub IsClassed : List Piece → Type 0
IsClassed p =
    MatchBool (list_any is_narrow_wildcard p) (IsArnOf true p)
    (MatchBool (list_any takes_either_case p) (IsLiteralOf true true p) (IsGlobOf false true p))

-- a pattern of the values of a key
pub record IsWrittenPattern (p : List Piece) : Type 0 where
  pub classed : IsClassed p
  pub few : length p ≤ MOST_PIECES

-- what is asked of a value: a number in range, a block of addresses, a flag that true or false meets, and bytes
abbrev pub IsWrittenCond : Cond → Type 0
IsWrittenCond (Matches p) = IsWrittenPattern p
IsWrittenCond (Compares how bound) = IsScaled bound
IsWrittenCond (Inside block) = IsAddress block.first
IsWrittenCond (Flag at_true at_false) = (at_true || at_false) ≡ true
IsWrittenCond (Equals bytes) = Each (λ b. b < 256) bytes

-- the same of a value of a key, whose letters are lowered
pub record IsWrittenOf (key : List ℕ) (c : Cond) : Type 0 where
  pub folded : IsFolded key
  pub cond : IsWrittenCond c

-- a predicate of the slot: `any`, or one of the slot's own form
abbrev pub IsWrittenForm : Slot → Predicate → Type 0
IsWrittenForm s Every = ⊤
IsWrittenForm slot.Principal (Principal entry) = IsWrittenEntry entry
IsWrittenForm slot.Action (Word pattern) = IsReadAction pattern
IsWrittenForm slot.Resource (Word pattern) = IsReadResource pattern
IsWrittenForm (slot.Key key) (Meets c) = IsWrittenOf key c
IsWrittenForm s p = ⊥

-- each predicate of each dimension is of a written form
abbrev pub AreOfWrittenForms : List Stratum → Type 0
AreOfWrittenForms ds = Each (λ x. Each (IsWrittenForm x.slot) x.predicates) ds
