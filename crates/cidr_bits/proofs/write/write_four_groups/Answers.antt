use Rattle.std.proofs.Common.{false, ◌∙◌}
use Rattle.std.proofs.lemmas.Result.{IfOk-weaker}
use Rattle.std.specs.Fmt.{digits}
use Rattle.cidr_bits.proofs.Hex.{hex_is_digits, four_groups}
use Rattle.cidr_bits.proofs.write.write_four_groups.Goals as goal

pub returns : goal.returns
returns c =
    let h = rw (c.in_radix.ensures, c.in_radix-2.ensures, c.in_radix-3.ensures, c.in_radix-4.ensures) at c.format.ensures.ok in
    rw (hex_is_digits c.args.a c.ranges.a.fits, hex_is_digits c.args.b c.ranges.b.fits, hex_is_digits c.args.c c.ranges.c.fits, hex_is_digits c.args.d c.ranges.d.fits)
    (IfOk-weaker c.format.result _ _ (λ s e. e ∙ four_groups (digits 16 false c.args.a) (digits 16 false c.args.b) (digits 16 false c.args.c) (digits 16 false c.args.d)) h)
