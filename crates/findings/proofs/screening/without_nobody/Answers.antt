use Rattle.std.proofs.Common.{◌<◌, ◌+◌, arith, length, refl, take}
use Rattle.findings.proofs.Barring.{plainly-kept, plainly-left, plainly-none}
use Rattle.findings.proofs.Inside.{take-next}
use Rattle.findings.proofs.screening.without_nobody.Goals as goal

pub under-init : goal.under-init
under-init c = plainly-none c.args.known.now (take 0 c.args.under) c.new-kept.result refl c.new-kept.ensures

pub under-preserved-then-branch : goal.under-preserved-then-branch
under-preserved-then-branch c =
    let fs = c.args.under in
    let within : c.under.i < length fs = omega arith in
    let f = c.index-as_slice-i.result in
    let next = take-next fs c.as_slice.result.now c.under.i f f c.as_slice.ensures c.index-as_slice-i.is refl within in
    plainly-left c.args.known.now (take c.under.i fs) (take (c.under.i + 1) fs) c.under.kept f c.under.invariant (c.in_ok-has_plainly_nobody.ensures c.if-branch.true) next

pub under-preserved : goal.under-preserved
under-preserved c =
    let fs = c.args.under in
    let within : c.under.i < length fs = omega arith in
    let f = c.in_ok-copy_of.field-0 in
    let next = take-next fs c.as_slice.result.now c.under.i c.index-as_slice-i.result f c.as_slice.ensures c.index-as_slice-i.is c.in_ok-copy_of.ensures within in
    plainly-kept c.args.known.now (take c.under.i fs) (take (c.under.i + 1) fs) c.under.kept c.push.new.self f c.under.invariant next c.in_ok-push.ensures.ok
