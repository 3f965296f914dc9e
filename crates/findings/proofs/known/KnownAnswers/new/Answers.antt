use Rattle.findings.proofs.known.KnownAnswers.new.Goals as goal

pub returns : goal.returns
returns c = record { less = c.in_ok-less.ensures; met = c.in_ok-met.ensures; missed = c.in_ok-missed.ensures }
