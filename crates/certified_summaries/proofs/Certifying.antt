-- What a search decides of the query of a summary's cover.
use Rattle.std.proofs.Common.{[], refl, ◌∙◌, arith}
use Rattle.std.specs.Prelude.{String, string_bytes}
use Rattle.std.specs.declared.alloc.Global.{Global}
use Rattle.policy_compile.specs.declared.outcome.Query.{Query}
use Rattle.policy_model.specs.declared.request.Request.{Request}
use Rattle.proof_text.specs.Spelling.{certificate_text}
use Rattle.refute_check.specs.Closing.{at_first}
use Rattle.refute_check.specs.Proofs.{Proof}
use Rattle.findings.specs.Answers.{StatesFail}
use Rattle.findings.specs.CoverQueries.{IsCoverOf}
use Rattle.findings.specs.Laws.{SummariesCover}
use Rattle.findings.specs.Queries.{AreMadeFor}
use Rattle.findings.specs.Summaries.{IsSummary, findings_of}
use Rattle.findings.specs.declared.decide.Wide as asked
use Rattle.summary_search.specs.declared.outcome.Limits.{Limits}
use Rattle.tree_search.specs.Decisions.{IsRefutation, IsWide, MeetsQuery, NeedMore}
use Rattle.tree_search.specs.declared.outcome.Wide as search_wide
use Rattle.run_inputs.specs.declared.printed.Printed.{Printed}
use Rattle.run_inputs.specs.declared.status.Status.TheVariants.{Undecided}
use Rattle.run_inputs.specs.Printing.{PrintsText}
use Rattle.run_inputs.specs.declared.status.Status.{Status}
use Rattle.summary_answers.specs.declared.answer.Found.{Found}
use Rattle.summary_answers.specs.declared.subject.Subject.{Subject}
use Rattle.summary_answers.specs.Subjects.{subject_plan}
use Rattle.certified_summaries.specs.Certified.{IsCertifiedText, IsCoverSaid, large_query, short_of_splits, short_of_states, with_certificate}
use Rattle.certified_summaries.specs.CoverProofs.{CertifiesCover, IsLargePrinted}
use Rattle.certified_summaries.specs.CoverTexts.{cover_splits_line, cover_states_line}
use Rattle.certified_summaries.proofs.Judging.{cover-of}

module _ (status : Status) (limits : Limits) (subject : Subject) (base : Query) (found : Found) (q : Query) (made : AreMadeFor subject.schema subject.region base found.strata) (cover : IsCoverOf base found.strata (findings_of found.summary) q) where
  -- each request of the region lies in a finding of its summary
  pub met-never : SummariesCover → IsSummary subject.schema subject.region found.strata.dimensions found.summary → (r : Request) → MeetsQuery subject.schema q r → ⊥
  met-never law is r met =
      let out = (cover.left_out subject.schema subject.region made r met.meets.0 met.valid met.meets.1).0 met.meets.2 in
      out.outside (law subject.schema subject.region found.strata found.summary (record { base = base; made = made; is = is }) r met.valid out.allowed)

  pub splits-said : NeedMore subject.schema q [] limits.splits → (p : Printed) → PrintsText (cover_splits_line limits.splits) Undecided p → IsCoverSaid status limits subject found p
  splits-said more p told = short_of_splits (cover-of subject base found.strata (findings_of found.summary) q (λ r. NeedMore subject.schema r [] limits.splits) made cover more) told

  pub states-said : (w : search_wide.Wide) → IsWide subject.schema q at_first limits.splits limits.states [] w → (p : Printed) → PrintsText (cover_states_line limits.states w.slot) Undecided p → IsCoverSaid status limits subject found p
  states-said w is p told =
      let v : asked.Wide = record { path = w.path; slot = w.slot; texts = w.texts } in
      short_of_states {w = v}
      (cover-of subject base found.strata (findings_of found.summary) q (λ r. StatesFail subject.schema r limits.states v) made cover
      (record { node = is.node; not_no = is.not_no; asked = is.asked; texts = is.texts }))
      told

  pub certified-said : (proof : Proof) → IsRefutation subject.schema q limits.splits proof → (text : String Global) → IsCertifiedText found subject.schema.version proof text → (p : Printed) → PrintsText (string_bytes text) status p → IsCoverSaid status limits subject found p
  certified-said proof is text written p told =
      let asks = cover.plan (subject_plan subject) made.query in
      let few = asks.few in
      let nests = is.nests in
      with_certificate {text = certificate_text subject.schema.version proof}
      (cover-of subject base found.strata (findings_of found.summary) q (λ r. CertifiesCover subject.schema r (certificate_text subject.schema.version proof)) made cover
      (record {
        proof = proof;
        spelled = refl;
        closes = is.closes;
        trimmed = is.trimmed;
        nests = omega (arith, nests, few);
        small = written.small;
        version = written.version_small;
      }))
      (told.0 ∙ written.is, told.1)

  pub large-said : (p : Printed) → IsLargePrinted base found.strata (findings_of found.summary) p → IsCoverSaid status limits subject found p
  large-said p large = large_query (large.large (subject_plan subject) made.query) large.prints
