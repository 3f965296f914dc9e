use Rattle.slot_theory.proofs.Accepting.{if-ok}
use Rattle.slot_theory.proofs.Keyed.{member-at, no-member}
use Rattle.slot_theory.proofs.keys.member_shows.Goals as goal

pub returns-in-Some : goal.returns-in-Some
returns-in-Some c =
    let index = c.in-Some.index in
    if-ok c.shows_member.result _ _ (λ yes says. (
      λ t. (index, c.in-Some.ensures, says.0 t),
      λ m. says.1 (member-at c.args.rule.now c.args.asks.now c.args.core.now c.args.n index c.args.closed.now c.requires.rises c.in-Some.ensures m),
    )) c.shows_member.ensures

pub returns-in-None : goal.returns-in-None
returns-in-None c = (
  λ e. absurd (cc),
  λ m. absurd (no-member c.args.rule.now c.args.asks.now c.args.core.now c.args.n c.args.closed.now c.in-None.ensures m),
)
