use Rattle.std.proofs.Common.{sym, ◌∙◌, subst, true≢false, arith}
use Rattle.cidr_bits.specs.Forms.{IsPlain}
use Rattle.cidr_bits.proofs.Reading.{IsPlain-decimal, length_is, length_read, one_ok, ok_not_err}
use Rattle.cidr_bits.proofs.read.read_length.Goals as goal

pub returns-then-not-is_plain : goal.returns-then-not-is_plain
returns-then-not-is_plain c = λ p small e.
    let plain = subst IsPlain (sym (c.as_bytes.ensures.value ∙ e)) (IsPlain-decimal p (omega arith)) in
    true≢false (sym (c.is_plain.ensures.1 plain) ∙ c.if-not-is_plain.true)

pub returns-in-Ok : goal.returns-in-Ok
returns-in-Ok c =
    let plain = subst IsPlain c.as_bytes.ensures.value (c.is_plain.ensures.0 c.if-not-is_plain.false) in
    (length_is _ c.parse.result _ plain c.parse.ensures.value.0 c.in-Ok.is, omega arith)

pub returns-in_default : goal.returns-in_default
returns-in_default c = λ p small e.
    let read = length_read _ c.parse.result p (omega arith) c.parse.ensures.value.0 e in
    omega (arith, one_ok _ _ _ c.in-Ok.is read)

pub returns-in_default-2 : goal.returns-in_default-2
returns-in_default-2 c = λ p small e.
    let read = length_read _ c.parse.result p (omega arith) c.parse.ensures.value.0 e in
    ok_not_err _ _ _ read c.in_default.is
