-- What a folder that never fails stands for.
use Rattle.std.specs.Prelude.{[], Some, option_map, unwrap_or}
use Rattle.std.specs.BTreeMap.{get_by_text}
use Rattle.pol_outside.specs.Folder.{Files}
use Rattle.pol_outside.specs.declared.safe_folder.SafeFolder.{SafeFolder}

-- it holds every name: one that was not put in stands for an empty file
abbrev pub every_file : SafeFolder → Files
every_file folder = λ name. Some (unwrap_or (option_map (λ v. v.items) (get_by_text folder.files name)) [])
