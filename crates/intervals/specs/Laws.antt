-- What relations, what is computed of them and what is written say of one another.
use Rattle.std.specs.Prelude.{◌≡◌, ◌↔◌, ℕ, ℤ, List, Some}
use Rattle.std.specs.Bool.{Decides}
use Rattle.intervals.specs.declared.compare.Compare.{Compare}
use Rattle.intervals.specs.Compare.{StandsTo, stands_to}
use Rattle.intervals.specs.Scaled.{IsScaled}
use Rattle.intervals.specs.Decimals.{WritesDecimal}
use Rattle.intervals.specs.DecimalTexts.{decimal_of, written_decimal}
use Rattle.intervals.specs.Moments.{WritesMoment}
use Rattle.intervals.specs.MomentTexts.{moment_of}

-- what is computed is what the forms say
abbrev pub DecimalOfIsTheForm : Type 0
DecimalOfIsTheForm = (text : List ℕ) (units : ℤ) → (decimal_of text ≡ Some units) ↔ WritesDecimal text units

abbrev pub MomentOfIsTheForms : Type 0
MomentOfIsTheForms = (text : List ℕ) (units : ℤ) → (moment_of text ≡ Some units) ↔ WritesMoment text units

-- the text that a number is written as is read as that number
abbrev pub WrittenIsReadAgain : Type 0
WrittenIsReadAgain = (units : ℤ) → IsScaled units → decimal_of (written_decimal units) ≡ Some units

-- what is computed of a value and a bound is how they stand
abbrev pub StandsToIsComputed : Type 0
StandsToIsComputed = (how : Compare) (bound value : ℤ) → Decides (stands_to how bound value) (StandsTo how bound value)
