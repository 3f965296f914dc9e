-- Lemmas that crates above cite.

-- `==` of comparisons, of numbers and of byte strings decides whether they are the same
pub use Rattle.intervals.proofs.Equal.{compares-Decides, scaled-Decides, bytes-Decides}
-- the test `stands_to` answers how a value stands to a bound
pub use Rattle.intervals.proofs.Standing.{Decides-stands_to}
-- the text that a number is written as is read as that number
pub use Rattle.intervals.proofs.RoundTrip.{read_again}
