-- The keys that a schema requires, by their names.
use Rattle.std.specs.Prelude.{ℕ, List, map}
use Rattle.std.specs.List.{filter}
use Rattle.text_table.specs.Table.{Entries}
use Rattle.policy_model.specs.declared.schema.KeyRule.{KeyRule}

-- the names of the keys that are required, in the order of these
abbrev pub required_keys : Entries KeyRule → List (List ℕ)
required_keys keys = map (λ entry. entry.0) (filter (λ entry. entry.1.required) keys)
