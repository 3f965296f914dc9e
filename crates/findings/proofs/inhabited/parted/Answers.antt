use Rattle.std.proofs.Common.{◌<◌, ◌+◌, ◌∙◌, arith, length, take}
use Rattle.findings.proofs.Inside.{first-parted, second-parted, take-next}
use Rattle.findings.proofs.inhabited.parted.Goals as goal
use Rattle.findings.proofs.inhabited.parted.Goals.{else-is_marked+in_ok-push-2, then-is_marked+in_ok-push}

pub findings-preserved : goal.findings-preserved
findings-preserved c =
    let fs = c.args.findings.now in
    let within : c.findings.i < length fs = omega arith in
    let next = take-next fs c.as_slice.result.now c.findings.i c.index-as_slice-i.result c.in_ok-finding.finding c.as_slice.ensures c.index-as_slice-i.is c.in_ok-finding.ensures within in
    elim c.if-is_marked.branch [
      | then-is_marked+in_ok-push w ↦
          second-parted (take c.findings.i fs) (take (c.findings.i + 1) fs) c.findings.open c.findings.marked c.if-is_marked.open c.if-is_marked.marked c.in_ok-finding.finding c.findings.invariant next w.open-is (w.marked-is ∙ w.in_ok-push.ensures.ok)
      | else-is_marked+in_ok-push-2 w ↦
          first-parted (take c.findings.i fs) (take (c.findings.i + 1) fs) c.findings.open c.findings.marked c.if-is_marked.open c.if-is_marked.marked c.in_ok-finding.finding c.findings.invariant next (w.open-is ∙ w.in_ok-push-2.ensures.ok) w.marked-is
    ]
