-- The whole walk: how it starts, goes on and ends.
use Rattle.std.proofs.Common.{◌≡◌, ℕ, ◌+◌, List, [], ◌∷◌, ◌++◌, length, Ok, Some, sym, ap, subst, arith}
use Rattle.std.specs.Cmp.Lexicographic.{slice_cmp}
use Rattle.std.specs.List.Sorted.{IsStrictlySortedBy}
use Rattle.std.specs.Ordering.{nat_cmp}
use Rattle.std.proofs.lemmas.List.{length-append}
use Rattle.policy_model.specs.declared.request.Request.{Request}
use Rattle.policy_model.specs.declared.schema.Schema.{Schema}
use Rattle.policy_compile.specs.declared.outcome.Query.{Query}
use Rattle.strata.specs.declared.stratum.Strata.{Strata}
use Rattle.findings.specs.declared.outcome.SummaryFault.{SummaryFault}
use Rattle.findings.specs.declared.outcome.SummaryFault.TheVariants as fault
use Rattle.findings.specs.declared.region.Region.{Region}
use Rattle.findings.specs.declared.walk.Walk.{Walk}
use Rattle.findings.specs.Answers.{IsSummarised}
use Rattle.findings.specs.Ending.{HasEnded, SummaryFails}
use Rattle.findings.specs.Queries.{AreMadeFor, AreMadeUnder}
use Rattle.findings.specs.Steps.{AreNumberedBelow}
use Rattle.findings.specs.Summaries.{IsSummary, VisitsAtLeast, findings_of}
use Rattle.findings.specs.Walked.{AreFindings, HasLookedAt, IsNextFinding, IsTaken, LookFails, SameBesides, StandsAt, StartsAt, found_by}
use Rattle.findings.proofs.Looking.{ends, one-more, stands-start, takes}
use Rattle.findings.proofs.Made.{made-numbered, made-steps}

module _ (schema : Schema) (base : Query) (strata : Strata) where
  -- the start
  pub looked-start : (w : Walk) → StartsAt strata.dimensions w → HasLookedAt schema base strata w 0
  looked-start w starts = record {
    stands = λ region made. stands-start schema region strata.dimensions (made-steps schema region base strata made) w starts;
    count = ap length starts.looked;
  }

  -- what is asked of the next step
  pub next-findings : AreMadeUnder schema base strata → (w : Walk) → StandsAt schema base strata w → AreFindings strata.dimensions w.coming.items
  next-findings made w stands f h = (stands made.0 made.1).next f h

  pub next-numbered : AreMadeUnder schema base strata → AreNumberedBelow strata.dimensions
  next-numbered made = made-numbered schema made.0 base strata made.1

  -- the next finding is taken
  pub next-taken : (old new : Walk) (f : List ℕ) → StandsAt schema base strata old → IsNextFinding strata.dimensions old new (Some f) → SameBesides old new → IsTaken schema base strata new f
  next-taken old new f stands next same = λ region made. takes schema region strata.dimensions (made-steps schema region base strata made) old new f (stands region made) next.0 next.1 same

  -- after it was looked at
  pub looked-more : (old next new : Walk) (f : List ℕ) (n : ℕ) → HasLookedAt schema base strata old n → SameBesides old next → new.looked.keys ≡ next.looked.keys ++ f ∷ [] → StandsAt schema base strata new → HasLookedAt schema base strata new (n + 1)
  looked-more old next new f n before same grows stands = record {
    stands = stands;
    count = (let one = length-append next.looked.keys (f ∷ []) in let long = ap length grows in let was = ap length same.looked in omega (arith, one, long, was, before.count));
  }

  -- at the end
  pub all-summarised : (w : Walk) (splits states findings : ℕ) (summary : List (List ℕ × Request)) → HasEnded schema base strata w → summary ≡ found_by w → IsStrictlySortedBy (slice_cmp nat_cmp) (findings_of summary) →
      (region : Region) → AreMadeFor schema region base strata → IsSummarised schema region strata.dimensions splits states findings (Ok summary)
  all-summarised w splits states findings summary ended is order region made =
      let sorted = subst (λ (xs : List (List ℕ × Request)). IsStrictlySortedBy (slice_cmp nat_cmp) (findings_of xs)) is order in
      subst (IsSummary schema region strata.dimensions) (sym is) (ends schema region strata.dimensions (made-steps schema region base strata made) ended.before w (ended.stands region made) ended.next.0 ended.same sorted)

  -- where one more would be needed
  pub one-too-many : (old new : Walk) (f : List ℕ) (n findings splits states : ℕ) → HasLookedAt schema base strata old n → n ≡ findings → IsNextFinding strata.dimensions old new (Some f) → SameBesides old new →
      SummaryFails schema base strata splits states findings fault.OutOfFindings
  one-too-many old new f n findings splits states looked all next same region made =
      let taken = next-taken old new f looked.stands next same region made in
      let more = one-more schema region strata.dimensions (made-steps schema region base strata made) new f taken in
      let count : length new.looked.keys + 1 ≡ findings + 1 = (let was = ap length same.looked in omega (arith, was, looked.count, all)) in
      subst (VisitsAtLeast schema region strata.dimensions) count more

  -- why one couldn't be looked at
  pub fails-summarised : (splits states findings : ℕ) (e : SummaryFault) → LookFails schema base strata splits states e → SummaryFails schema base strata splits states findings e
  fails-summarised splits states findings fault.OutOfFindings fails region made = absurd (fails region made)
  fails-summarised splits states findings (fault.OutOfSplits f) fails region made = fails region made
  fails-summarised splits states findings (fault.OutOfStates f w) fails region made = fails region made
  fails-summarised splits states findings fault.NoMemory fails region made = tt
