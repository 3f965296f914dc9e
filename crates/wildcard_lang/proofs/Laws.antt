-- Lemmas that crates above cite.

-- the test `accepts` answers whether pieces match a text
pub use Rattle.wildcard_lang.proofs.Accept.{Decides-accepts}
-- the marks of the places of a text: one more than there are pieces, each by its own pieces
pub use Rattle.wildcard_lang.proofs.Accept.{length-tests, get_or-tests, length-marks_of, get_or-marks_of}
-- the marks to which a character leads
pub use Rattle.wildcard_lang.proofs.Accept.{length-marks_reached, get_or-marks_reached}
-- which numbers are in a list of those that pass a test, and tests that agree in its range
pub use Rattle.wildcard_lang.proofs.Stepping.{has-rising, rising-same}
-- which numbers are places of a text
pub use Rattle.wildcard_lang.proofs.Stepping.{has-places}
-- the step from the places of a text gives those of the text with one more character
pub use Rattle.wildcard_lang.proofs.Stepping.{step_lists-of}
-- texts that show some patterns wider than a number show so of any that have those among them
pub use Rattle.wildcard_lang.proofs.Stepping.{widths-grow}
-- what a match says of its first piece
pub use Rattle.wildcard_lang.proofs.Inversions.{OneTaken, one_left, RunTaken, many_left, many_right}
-- what a match says of patterns one behind the other
pub use Rattle.wildcard_lang.proofs.Inversions.{Apart, append_left, append_right}
-- a literal pattern without folding matches its text, and no other
pub use Rattle.wildcard_lang.proofs.Literals.{exact-matched, exact-matches}
-- the literals of a text are a pattern, in which no wildcard takes colons
pub use Rattle.wildcard_lang.proofs.PatternRules.{IsPattern-literals, narrow-literals}
-- two patterns one behind the other are one, where the first has no wildcard that takes colons
pub use Rattle.wildcard_lang.proofs.PatternRules.{IsPattern-append}
-- what a pattern matches is matched by each pattern that covers it; each covers itself, and a star alone covers all
pub use Rattle.wildcard_lang.proofs.Including.{covering-includes, covers-itself, star-covers}
-- no text is matched by patterns that clash
pub use Rattle.wildcard_lang.proofs.Including.{clashing-apart}
-- the patterns that cover the literals of a text are those that match it
pub use Rattle.wildcard_lang.proofs.Including.{literals-covered}
-- the tests whether a pattern covers another, and whether it clashes with it, answer that
pub use Rattle.wildcard_lang.proofs.Covered.{Decides-covers}
pub use Rattle.wildcard_lang.proofs.Including.{Decides-clashes}
-- equality of pieces, as it is computed, is equality
pub use Rattle.wildcard_lang.proofs.Covered.{pieces-Decides}
-- what is written of a pattern is a text
pub use Rattle.wildcard_lang.proofs.Written.{IsText-written, IsText-action}
-- a pattern that was read is what its written form is read as
pub use Rattle.wildcard_lang.proofs.ReadAgain.{globs-again, literals-again, arns-again, actions-again}
-- what is read without escapes is read of some text with escapes too
pub use Rattle.wildcard_lang.proofs.ReadAgain.{globs-with_escapes, literals-with_escapes, arns-with_escapes}
-- the patterns with wildcards are all lists of plain characters and of wildcards that take colons
pub use Rattle.wildcard_lang.proofs.ReadAgain.{globs-pieces, literals-globs, arns-globs}
-- two patterns that one reader made are equal where their written forms are
pub use Rattle.wildcard_lang.proofs.ReadAgain.{globs-apart, literals-apart, arns-apart, actions-apart}
