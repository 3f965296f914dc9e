-- A zone file as a whole: its lists one after another.
use Rattle.std.proofs.Common.{◌≡◌, ℕ, List, [], ◌++◌, None, refl, ◌∙◌}
use Rattle.std.specs.List.{filter_map}
use Rattle.serde_json.specs.Data.{Data}
use Rattle.cidr_bits.specs.Readings.{block_spelled}
use Rattle.cidr_bits.specs.declared.block.Block.{Block}
use Rattle.policy_model.specs.declared.schema.Schema.{Schema}
use Rattle.json_shapes.specs.Checks.{first_fault}
use Rattle.json_shapes.proofs.Laws.{first_fault-rest}
use Rattle.trust_zones.specs.declared.list.ZoneList.{ZoneList}
use Rattle.trust_zones.specs.declared.list.ZoneList.TheVariants.{Accounts, Blocks, Organizations, Vpcs}
use Rattle.trust_zones.specs.ZoneChecks.{ZoneCheck}
use Rattle.trust_zones.specs.ZoneFiles.{list_checks_in, members_of, texts_of, zone_checks, zone_form_checks, zone_of}

module _ (schema : Schema) (d : Data) where
  abbrev of : ZoneList → List ZoneCheck
  of l = list_checks_in schema d l

  abbrev first : List ZoneCheck → Type 0
  first rest = first_fault (zone_checks schema d) ≡ first_fault rest

  -- what stands behind the accounts, the blocks and the organisations
  abbrev pub other-lists : List ZoneCheck
  other-lists = of Blocks ++ (of Organizations ++ (of Vpcs ++ []))

  abbrev pub text-lists : List ZoneCheck
  text-lists = of Organizations ++ (of Vpcs ++ [])

  abbrev pub last-list : List ZoneCheck
  last-list = of Vpcs ++ []

  pub behind-form : first_fault (zone_form_checks d) ≡ None → first (of Accounts ++ other-lists)
  behind-form form = first_fault-rest (zone_form_checks d) (of Accounts ++ other-lists) form

  pub behind-accounts : first_fault (zone_form_checks d) ≡ None → first_fault (of Accounts) ≡ None → first other-lists
  behind-accounts form a = behind-form form ∙ first_fault-rest (of Accounts) other-lists a

  pub behind-blocks : first_fault (zone_form_checks d) ≡ None → first_fault (of Accounts) ≡ None → first_fault (of Blocks) ≡ None → first text-lists
  behind-blocks form a b = behind-accounts form a ∙ first_fault-rest (of Blocks) text-lists b

  pub behind-organizations : first_fault (zone_form_checks d) ≡ None → first_fault (of Accounts) ≡ None → first_fault (of Blocks) ≡ None → first_fault (of Organizations) ≡ None → first last-list
  behind-organizations form a b o = behind-blocks form a b ∙ first_fault-rest (of Organizations) last-list o

pub whole-zone : (d : Data) (a o v : List (List ℕ)) (b : List Block) → a ≡ texts_of (members_of Accounts d) → o ≡ texts_of (members_of Organizations d) → v ≡ texts_of (members_of Vpcs d) → b ≡ filter_map block_spelled (members_of Blocks d) →
    record { accounts = a; organizations = o; vpcs = v; blocks = b } ≡ zone_of d
whole-zone d a o v b is_a is_o is_v is_b = rw (is_a, is_o, is_v, is_b) refl
