use Rattle.refute_check.proofs.Accepting.{accepted-more}
use Rattle.refute_check.proofs.accepted.AcceptedCores.keep.Goals as goal

pub returns : goal.returns
returns c =
    accepted-more c.args.path.now c.args.core.now c.args.proof.now.value c.args.self.now c.push.new.self.items c.in_ok-accepted.accepted c.in_ok-push.ensures.items c.in_ok-accepted.ensures
