use Rattle.std.proofs.Common.{◌≡◌, Some, refl, rules}
use Rattle.pol_outside.specs.MemoryFolder.{files_of}
use Rattle.pol_outside.proofs.Reading.{takes-named}
use Rattle.pol_outside.proofs.memory_folder.MemoryFolderFolder.take.Goals as goal

pub returns-in-Some-clause-given : goal.returns-in-Some-clause-given
returns-in-Some-clause-given c =
    let is : files_of c.args.self.now c.args.name.now ≡ Some c.as_slice.result.now = search rules in
    takes-named (Some (files_of c.args.self.now)) c.args.name.now (Some c.as_slice.result.now) c.args.limit c.give.result _ _ (c.as_slice.result.now, is, refl) c.give.ensures.given
