use Rattle.std.proofs.Common.{◌≡◌, ◌≤◌, ℕ, List, Ok, Err, length, arith, rules, subst, sym}
use Rattle.std.specs.Prelude.{IfOk, Result}
use Rattle.policy_model.specs.declared.request.Request.{Request}
use Rattle.policy_model.specs.declared.schema.Schema.{Schema}
use Rattle.findings.specs.declared.outcome.SummaryFault.{SummaryFault}
use Rattle.findings.specs.declared.outcome.SummaryFault.TheVariants as fault
use Rattle.findings.specs.Queries.{AreMadeFor}
use Rattle.summary_search.proofs.Coming.{come, come-to, made-for}
use Rattle.summary_search.proofs.finding.summary_of.Goals as goal

abbrev Came : Type 0
Came = Result (List (List ℕ × Request)) SummaryFault

pub summarise-requires : goal.summarise-requires
summarise-requires c =
    let schema = c.args.schema.now in
    let region = c.requires.region.0 in
    let made : AreMadeFor schema region c.args.query.now c.args.made =
    made-for c.args.limits.predicates schema region c.args.query.now c.args.slots.now c.args.made (omega arith) (c.sound_schemas_have_requests.ensures schema c.requires.askable.sound) c.requires.askable c.requires.region.1 c.requires.made in
    record { made = (region, subst (λ (s : Schema). AreMadeFor s region c.args.query.now c.args.made) (sym c.new-asks.ensures.schema) made) }

pub returns-in-Ok : goal.returns-in-Ok
returns-in-Ok c = λ region of.
    let schema = c.args.schema.now in
    let made : AreMadeFor schema region c.args.query.now c.args.made =
    made-for c.args.limits.predicates schema region c.args.query.now c.args.slots.now c.args.made (omega arith) (c.sound_schemas_have_requests.ensures schema c.requires.askable.sound) c.requires.askable of c.requires.made in
    let told = come schema c.new-asks.result.schema.now region c.args.query.now c.args.made c.args.limits c.new-asks.result.splits c.new-asks.result.states c.summarise.result
    c.new-asks.ensures.schema c.new-asks.ensures.splits c.new-asks.ensures.states made (c.summarise.ensures.summary region) in
    let known : Came = Ok c.in-Ok.summary in
    let is : c.summarise.result ≡ known = search rules in
    let few = subst (λ (r : Came). IfOk r (λ summary. length summary ≤ c.args.limits.findings)) is c.summarise.ensures.few in
    (c.requires.made, come-to schema region c.args.made c.args.limits c.summarise.result known is told, few)

pub returns-in-Err-OutOfFindings : goal.returns-in-Err-OutOfFindings
returns-in-Err-OutOfFindings c = λ region of.
    let schema = c.args.schema.now in
    let made : AreMadeFor schema region c.args.query.now c.args.made =
    made-for c.args.limits.predicates schema region c.args.query.now c.args.slots.now c.args.made (omega arith) (c.sound_schemas_have_requests.ensures schema c.requires.askable.sound) c.requires.askable of c.requires.made in
    let told = come schema c.new-asks.result.schema.now region c.args.query.now c.args.made c.args.limits c.new-asks.result.splits c.new-asks.result.states c.summarise.result
    c.new-asks.ensures.schema c.new-asks.ensures.splits c.new-asks.ensures.states made (c.summarise.ensures.summary region) in
    let known : Came = Err fault.OutOfFindings in
    let is : c.summarise.result ≡ known = search rules in
    record { strata = c.args.made; are = c.requires.made; holds = come-to schema region c.args.made c.args.limits c.summarise.result known is told }

pub returns-in-Err-OutOfSplits : goal.returns-in-Err-OutOfSplits
returns-in-Err-OutOfSplits c = λ region of.
    let schema = c.args.schema.now in
    let made : AreMadeFor schema region c.args.query.now c.args.made =
    made-for c.args.limits.predicates schema region c.args.query.now c.args.slots.now c.args.made (omega arith) (c.sound_schemas_have_requests.ensures schema c.requires.askable.sound) c.requires.askable of c.requires.made in
    let told = come schema c.new-asks.result.schema.now region c.args.query.now c.args.made c.args.limits c.new-asks.result.splits c.new-asks.result.states c.summarise.result
    c.new-asks.ensures.schema c.new-asks.ensures.splits c.new-asks.ensures.states made (c.summarise.ensures.summary region) in
    let known : Came = Err (fault.OutOfSplits c.in-Err-OutOfSplits.finding) in
    let is : c.summarise.result ≡ known = search rules in
    (c.requires.made, come-to schema region c.args.made c.args.limits c.summarise.result known is told)

pub returns-in-Err-OutOfStates : goal.returns-in-Err-OutOfStates
returns-in-Err-OutOfStates c = λ region of.
    let schema = c.args.schema.now in
    let made : AreMadeFor schema region c.args.query.now c.args.made =
    made-for c.args.limits.predicates schema region c.args.query.now c.args.slots.now c.args.made (omega arith) (c.sound_schemas_have_requests.ensures schema c.requires.askable.sound) c.requires.askable of c.requires.made in
    let told = come schema c.new-asks.result.schema.now region c.args.query.now c.args.made c.args.limits c.new-asks.result.splits c.new-asks.result.states c.summarise.result
    c.new-asks.ensures.schema c.new-asks.ensures.splits c.new-asks.ensures.states made (c.summarise.ensures.summary region) in
    let known : Came = Err (fault.OutOfStates c.in-Err-OutOfStates.finding c.in-Err-OutOfStates.wide) in
    let is : c.summarise.result ≡ known = search rules in
    (c.requires.made, come-to schema region c.args.made c.args.limits c.summarise.result known is told)
