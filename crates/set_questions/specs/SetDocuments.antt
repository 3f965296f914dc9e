-- The documents of a set in reading order.
use Rattle.std.specs.Prelude.{List, ◌++◌}
use Rattle.std.specs.List.{flat_map}
use Rattle.policy_model.specs.declared.set.Document.{Document}
use Rattle.policy_model.specs.declared.set.PolicySet.{PolicySet}

-- the documents of the guards, one guard after another
abbrev pub guard_documents : List (List Document) → List Document
guard_documents guards = flat_map (λ g. g) guards

-- those of the grants and then those of the guards
abbrev pub set_documents : PolicySet → List Document
set_documents set = set.grants ++ guard_documents set.guards
