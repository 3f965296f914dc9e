use Rattle.std.proofs.Common.{◌≡◌, [], ◌∷◌, arith, ap, get_or, length, subst, sym}
use Rattle.std.proofs.lemmas.List.{length-append}
use Rattle.std.proofs.lemmas.Option.{get_or_from_slice_get}
use Rattle.strata.specs.declared.predicate.Predicate.{Predicate}
use Rattle.strata.specs.declared.predicate.Predicate.TheVariants.{Every}
use Rattle.findings.specs.KnownAnswers.{AreGivenByEach}
use Rattle.findings.proofs.Saying.{none-say, paths-say}
use Rattle.findings.proofs.Stepping.{read-at}
use Rattle.findings.proofs.known.paths_in.Goals as goal

pub numbers-init : goal.numbers-init
numbers-init c = record { count = ap length c.new-paths.ensures; each = none-say c.args.schema.now c.args.met c.args.stratum.now c.args.less.now.query.tests c.new-paths.result c.new-paths.ensures }

pub numbers-preserved : goal.numbers-preserved
numbers-preserved c =
    let d = c.args.stratum.now in
    let one = c.index-as_slice-number.result in
    let read = read-at d.predicates c.as_slice.result.now c.numbers.number one c.as_slice.ensures c.index-as_slice-number.is (omega arith) in
    let own : one ≡ get_or d.predicates c.numbers.number Every = sym (get_or_from_slice_get d.predicates c.numbers.number one Every read) in
    let schema = c.args.schema.now in
    let says = subst (λ (p : Predicate). AreGivenByEach schema c.args.met d.slot p c.args.less.now.query.tests c.in_ok-path.path) own c.in_ok-path.ensures in
    record {
      count = (let grown = ap length c.in_ok-push.ensures.ok in let long = length-append c.numbers.paths (c.in_ok-path.path ∷ []) in omega (arith, grown, long, c.numbers.invariant.count));
      each = paths-say schema c.args.met d c.args.less.now.query.tests c.numbers.paths c.push.new.self c.in_ok-path.path c.numbers.number c.numbers.invariant.count c.in_ok-push.ensures.ok c.numbers.invariant.each says;
    }
