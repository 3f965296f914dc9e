use Rattle.std.proofs.Common.{◌^◌, ◌≤◌, arith, lit≤}
use Rattle.std.proofs.Math.Nat.{pow-le-pow_right}
use Rattle.cidr_bits.proofs.Runs.{room}
use Rattle.cidr_bits.proofs.bits.last_number.Goals as goal

pub overflow_add-result : goal.overflow_add-result
overflow_add-result c =
    let most : 2 ^ c.args.bits ≤ 2 ^ 128 = pow-le-pow_right (lit≤ tt) c.requires.bits in
    omega (arith, most, room _ _ _ c.requires.free c.requires.fits c.requires.clear)

pub returns-clause-fits : goal.returns-clause-fits
returns-clause-fits c = omega (arith, room _ _ _ c.requires.free c.requires.fits c.requires.clear)
