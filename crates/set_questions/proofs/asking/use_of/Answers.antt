use Rattle.std.proofs.Common.{subst, sym}
use Rattle.policy_model.specs.declared.schema.Schema.{Schema}
use Rattle.findings.specs.Answers.{QueryIsAskable}
use Rattle.set_questions.specs.declared.outcome.Use.{Use}
use Rattle.set_questions.specs.Settling.{SettlesQuery}
use Rattle.set_questions.specs.Uses.{IsUseOf}
use Rattle.set_questions.proofs.Placing.{named-there}
use Rattle.set_questions.proofs.Using.{change-askable, use-settled}
use Rattle.set_questions.proofs.asking.use_of.Goals as goal

pub settle-requires : goal.settle-requires
settle-requires g c =
    let there = named-there c.args.set.now c.args.name c.requires.named in
    record {
      askable = subst (λ (s : Schema). QueryIsAskable s c.in_ok-query.query) (sym c.requires.own)
          (change-askable c.args.schema.now c.args.set.now c.args.name there.0 c.in_ok-query.query c.requires.fits c.requires.sound there.1 (c.in_ok-query.ensures there.0 there.1));
    }

pub returns-clause-found : goal.returns-clause-found
returns-clause-found g c =
    let splits = g.S.Settle.splits c.args.by.now in
    let states = g.S.Settle.states c.args.by.now in
    let settled = subst (λ (s : Schema). SettlesQuery s splits states c.in_ok-query.query c.in_ok-settled.settled) c.requires.own c.in_ok-settled.ensures.answer in
    λ s at. subst (λ (u : Use). IsUseOf c.args.schema.now splits states c.args.set.now (c.args.name, s) u) (sym c.use_told.ensures)
    (use-settled c.args.schema.now splits states c.args.set.now c.args.name s c.in_ok-query.query c.requires.fits at (c.in_ok-query.ensures s at) c.in_ok-settled.settled settled)
