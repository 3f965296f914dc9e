-- What the check of a clausal proof is of.
use Rattle.std.specs.Prelude.{◌<◌, ◌^◌, All, length}
use Rattle.policy_model.specs.Soundness.{SchemaIsSound, TestSuits}
use Rattle.clause_proofs.specs.declared.checking.Subject.{Subject}

-- the schema is sound, and the tests suit it and are numbered by 32 bits
pub record IsSoundSubject (s : Subject) : Type 0 where
  pub sound : SchemaIsSound s.schema.now
  pub suit : All (TestSuits s.schema.now) s.query.now.tests
  pub count : length s.query.now.tests < 2 ^ 32
