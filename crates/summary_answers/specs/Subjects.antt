-- What findings are asked of: a region of the requests under a schema.
use Rattle.findings.specs.declared.region.Region.TheVariants.{AllowedBy, NewlyAllowed}
use Rattle.findings.specs.Regions.{RegionFits, region_plan}
use Rattle.policy_compile.specs.Plans.{Plan}
use Rattle.policy_model.specs.Soundness.{SchemaIsSound}
use Rattle.run_inputs.specs.declared.one_set.OneSet.{OneSet}
use Rattle.run_inputs.specs.declared.pair.Pair.{Pair}
use Rattle.summary_answers.specs.declared.subject.Subject.{Subject}

-- the schema is sound, and fits each set of the region
pub record SubjectFits (subject : Subject) : Type 0 where
  pub sound : SchemaIsSound subject.schema
  pub fits : RegionFits subject.schema subject.region

-- the requests that a set allows
abbrev pub subject_of_set : OneSet → Subject
subject_of_set one = record { schema = one.schema; region = AllowedBy one.set }

-- those that the first set of a pair allows and the second doesn't
abbrev pub subject_of_pair : Pair → Subject
subject_of_pair pair = record { schema = pair.schema; region = NewlyAllowed pair.first pair.second }

-- what holds on a valid request where it lies in the region
abbrev pub subject_plan : Subject → Plan
subject_plan subject = region_plan subject.schema subject.region
