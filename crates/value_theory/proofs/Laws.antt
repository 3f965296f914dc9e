-- Lemmas that crates above cite.

-- the test `plain_meets` answers whether a value meets a condition
pub use Rattle.value_theory.proofs.Meets.{Decides-plain_meets}
