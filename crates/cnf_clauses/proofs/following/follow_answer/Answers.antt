use Rattle.std.proofs.Common.{sym, ◌∙◌}
use Rattle.std.proofs.lemmas.Option.{MatchOption-at_none, MatchOption-at_some}
use Rattle.cnf_clauses.proofs.Answering.{answer-all, answer-quiet, answer-reasons, contained-agrees, contained-refuted}
use Rattle.cnf_clauses.proofs.LevelSteps.{extends-then}
use Rattle.cnf_clauses.proofs.following.follow_answer.Goals as goal

pub propagate-requires : goal.propagate-requires
propagate-requires c =
    answer-quiet c.args.clauses.now c.args.trail.now.decided c.decide.new.trail.decided c.len-from.result c.args.test c.args.answer c.requires.quiet c.len-from.ensures c.in_ok-decide.ensures.decided

pub returns-in_default-2-clause-none : goal.returns-in_default-2-clause-none
returns-in_default-2-clause-none c = record {
  answers = answer-all c.args.path.now c.args.trail.now.decided c.decide.new.trail.decided c.propagate.new.trail.decided c.args.test c.args.answer
      c.requires.others c.requires.answered (sym c.value.ensures ∙ c.in_default.is) c.in_ok-decide.ensures.decided c.propagate.ensures.kept.decided;
  explained = c.in_ok-number.ensures.reasons c.args.path.now
      (answer-reasons c.args.clauses.now c.args.path.now c.args.trail.now.decided c.decide.new.trail.decided c.args.trail.now.reasons.items c.decide.new.trail.reasons.items c.args.test c.args.answer
      c.requires.reasons c.requires.answered c.in_ok-decide.ensures.decided c.in_ok-decide.ensures.reasons);
  quiet = MatchOption-at_none _ _ c.in_default-2.is c.in_ok-number.ensures.none;
}

pub explain-requires-clause-reasons : goal.explain-requires-clause-reasons
explain-requires-clause-reasons c =
    c.in_ok-number.ensures.reasons c.args.path.now
    (answer-reasons c.args.clauses.now c.args.path.now c.args.trail.now.decided c.decide.new.trail.decided c.args.trail.now.reasons.items c.decide.new.trail.reasons.items c.args.test c.args.answer
    c.requires.reasons c.requires.answered c.in_ok-decide.ensures.decided c.in_ok-decide.ensures.reasons)

pub explain-requires-clause-agree : goal.explain-requires-clause-agree
explain-requires-clause-agree c =
    contained-agrees c.args.path.now c.propagate.new.trail.decided c.len-upto.result c.len-upto.ensures
    (answer-all c.args.path.now c.args.trail.now.decided c.decide.new.trail.decided c.propagate.new.trail.decided c.args.test c.args.answer
    c.requires.others c.requires.answered (sym c.value.ensures ∙ c.in_default.is) c.in_ok-decide.ensures.decided c.propagate.ensures.kept.decided)

pub explain-requires-clause-refuted : goal.explain-requires-clause-refuted
explain-requires-clause-refuted c =
    contained-refuted c.args.clauses.now c.args.path.now c.propagate.new.trail.decided c.len-upto.result c.in-Some-2.number c.len-upto.ensures
    (answer-all c.args.path.now c.args.trail.now.decided c.decide.new.trail.decided c.propagate.new.trail.decided c.args.test c.args.answer
    c.requires.others c.requires.answered (sym c.value.ensures ∙ c.in_default.is) c.in_ok-decide.ensures.decided c.propagate.ensures.kept.decided)
    (MatchOption-at_some _ _ _ c.in-Some-2.is c.in_ok-number.ensures.met)

pub returns-in_err-number-clause-kept : goal.returns-in_err-number-clause-kept
returns-in_err-number-clause-kept c = extends-then c.args.trail.now c.decide.new.trail c.propagate.new.trail c.decide.ensures.kept c.propagate.ensures.kept

pub returns-in_default-2-clause-kept : goal.returns-in_default-2-clause-kept
returns-in_default-2-clause-kept c = extends-then c.args.trail.now c.decide.new.trail c.propagate.new.trail c.decide.ensures.kept c.propagate.ensures.kept

pub returns-in_err-explain-clause-kept : goal.returns-in_err-explain-clause-kept
returns-in_err-explain-clause-kept c = extends-then c.args.trail.now c.decide.new.trail c.propagate.new.trail c.decide.ensures.kept c.propagate.ensures.kept

pub returns-clause-kept : goal.returns-clause-kept
returns-clause-kept c = extends-then c.args.trail.now c.decide.new.trail c.propagate.new.trail c.decide.ensures.kept c.propagate.ensures.kept
