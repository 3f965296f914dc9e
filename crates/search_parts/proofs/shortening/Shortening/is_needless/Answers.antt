use Rattle.std.proofs.Common.{IfOk, false, refl, subst}
use Rattle.refute_check.specs.declared.refutation.Refutation.{Refutation}
use Rattle.refute_check.specs.Proofs.{proof_of}
use Rattle.search_parts.specs.Shortening.{IsStillClosed}
use Rattle.search_parts.proofs.Fewer.{needless-just, needless-open, needless-where}
use Rattle.search_parts.proofs.shortening.Shortening.is_needless.Goals as goal

pub returns-in-Just : goal.returns-in-Just
returns-in-Just c =
    needless-just c.args.self.now c.args.part.now c.args.path.now c.args.test c.requires.free c.leaves_open.result c.in-Just.answers c.in-Just.is c.leaves_open.ensures

pub returns-in_ok-own-in-Unknown : goal.returns-in_ok-own-in-Unknown
returns-in_ok-own-in-Unknown c =
    let at : IfOk c.still_closes.result (IsStillClosed c.args.self.now (proof_of c.deref.result.now) c.args.path.now) = rw c.in_ok-own-in-Unknown.ensures at c.still_closes.ensures.still in
    let still = subst (λ (r : Refutation). IfOk c.still_closes.result (IsStillClosed c.args.self.now (proof_of r) c.args.path.now)) c.deref.ensures at in
    needless-where c.args.self.now c.args.part.now c.args.path.now c.args.test c.requires.free c.still_closes.result still

pub returns-in-Open : goal.returns-in-Open
returns-in-Open c = needless-open c.args.self.now c.args.part.now c.args.path.now c.args.test c.requires.free false c.in-Open.is refl
