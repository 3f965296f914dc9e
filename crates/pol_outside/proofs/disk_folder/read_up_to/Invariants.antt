use Rattle.std.proofs.Common.{◌≡◌, ℕ, ◌+◌, List, ◌++◌, length}
use Rattle.std.specs.Io.KnownBytes.{Consumes}
use Rattle.pol_outside.proofs.disk_folder.read_up_to.Given as goal

-- the disk gave the bytes by which the buffer has grown, without a fault
abbrev pub invariant-loop-left : goal.invariant-loop-left
invariant-loop-left g l = record {
  held : g.D.Disk.held l.disk ≡ g.D.Disk.held l.initial.disk;
  asked : g.D.Disk.asked l.disk ≡ g.D.Disk.asked l.initial.disk;
  last_fault : g.D.Disk.last_fault l.disk ≡ g.D.Disk.last_fault l.initial.disk;
  named : g.D.Disk.opened_by l.file ≡ g.D.Disk.opened_by l.initial.file;
  counts : g.D.Disk.faults l.disk ≡ g.D.Disk.faults l.initial.disk;
  given : (given : List ℕ) × (l.into.items ≡ l.initial.into.items ++ given) × (length given + l.left ≡ l.limit + 1) ×
      Consumes (g.D.Disk.left l.initial.file) (g.D.Disk.left l.file) given;
}

abbrev pub decreases-loop-left : goal.decreases-loop-left
decreases-loop-left g l = l.left
