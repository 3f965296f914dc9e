-- The lemmas that crates above may cite.

-- names of keys that are the same text
pub use Rattle.request_schema.proofs.Entries.{is_key-same}
-- what holds of each condition of documents, or of a set, holds of each of their uses
pub use Rattle.request_schema.proofs.OfSets.{to-documents, to-set}
-- a run on more uses, all of which are known, has the same schema, and so has one on the same uses by other names
pub use Rattle.request_schema.proofs.KnownRuns.{IsKnownUse, IsRunOf, run-among, run-renamed}
pub use Rattle.request_schema.proofs.SameRules.{renamed}
