use Rattle.findings.specs.declared.region.Region.TheVariants.{AllowedBy}
use Rattle.findings.specs.Summaries.{findings_of}
use Rattle.policy_emit.proofs.meaning.emitted_sets_allow_the_set.Goals as goal

pub returns : goal.returns
returns c = λ schema set strata summary has r valid allowed.
    let lies = c.summaries_cover.ensures schema (AllowedBy set) strata summary has r valid allowed in
    (c.emitted_sets_allow_findings.ensures schema set has.base strata (findings_of summary) has.made r valid).1 lies
