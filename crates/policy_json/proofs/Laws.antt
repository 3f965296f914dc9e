-- The lemmas that crates above may cite.

-- the set of a file is of the forms that files give
pub use Rattle.policy_json.proofs.FormsOfSets.{read-form}
-- an id is read as an account exactly where it stands for it
pub use Rattle.policy_json.proofs.Naming.{read-stands, stands-read}
