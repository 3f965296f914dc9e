use Rattle.std.proofs.Common.{List, [], ℕ, subst, sym}
use Rattle.std.proofs.lemmas.Result.{on_ok_weaker}
use Rattle.findings.specs.Steps.{AddUnder}
use Rattle.findings.proofs.Barring.{both-kept, kept-findings}
use Rattle.findings.proofs.Inside.{under-findings}
use Rattle.findings.proofs.walk.Walk.go_below.Goals as goal

pub inhabited-requires-clause-under : goal.inhabited-requires-clause-under
inhabited-requires-clause-under g c =
    let ds = c.args.strata.now.dimensions in
    let added = subst (λ (xs : List (List ℕ)). AddUnder ds c.args.finding xs c.add_under.new.coming.items) c.new-under.ensures.items c.in_ok-add_under.ensures in
    let under = subst (λ (xs : List (List ℕ)). AddUnder ds c.args.finding [] xs) (sym c.from_vec-under.ensures) added in
    let are = under-findings (g.D.Decide.schema c.args.asks.now) c.args.known.now.less.query c.args.strata.now c.requires.made c.args.finding c.requires.finding c.from_vec-under.result under in
    kept-findings ds c.args.known.now c.from_vec-under.result c.in_ok-likely.likely are c.in_ok-likely.ensures

pub returns-clause-below : goal.returns-clause-below
returns-clause-below g c =
    let ds = c.args.strata.now.dimensions in
    let added = subst (λ (xs : List (List ℕ)). AddUnder ds c.args.finding xs c.add_under.new.coming.items) c.new-under.ensures.items c.in_ok-add_under.ensures in
    let under = subst (λ (xs : List (List ℕ)). AddUnder ds c.args.finding [] xs) (sym c.from_vec-under.ensures) added in
    let are = under-findings (g.D.Decide.schema c.args.asks.now) c.args.known.now.less.query c.args.strata.now c.requires.made c.args.finding c.requires.finding c.from_vec-under.result under in
    on_ok_weaker c.add_reducible.result (λ adds. λ region asks. record {
      under = c.from_vec-under.result;
      are = under;
      kept = c.in_ok-inhabited.inhabited;
      inhabited = both-kept (g.D.Decide.schema c.args.asks.now) region c.args.strata.now c.args.known.now c.from_vec-under.result c.in_ok-likely.likely c.in_ok-inhabited.inhabited asks c.requires.known are c.in_ok-likely.ensures c.in_ok-inhabited.ensures.kept;
      adds = record { coming = adds.coming; looked = adds.looked; reducible = adds.reducible; found = adds.found };
    }) c.add_reducible.ensures
