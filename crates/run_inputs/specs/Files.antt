-- Files within their limit, and above it.
use Rattle.std.specs.Prelude.{ℕ, ◌<◌, ◌≤◌, List, length, Option}
use Rattle.pol_outside.specs.Folder.{Files, IsFile}
use Rattle.proof_text.specs.declared.limits.TheConstants.{MOST_PROOF_BYTES}
use Rattle.run_inputs.specs.declared.role.Role.{Role}
use Rattle.run_inputs.specs.declared.role.Role.TheVariants.{First, Second, Set, Schema, Request, Proof, Zone}
use Rattle.run_inputs.specs.declared.files.TheConstants.{MOST_BYTES}

-- the most bytes that a role's file has
abbrev pub limit_of : Role → ℕ
limit_of Proof = MOST_PROOF_BYTES
limit_of First = MOST_BYTES
limit_of Second = MOST_BYTES
limit_of Set = MOST_BYTES
limit_of Schema = MOST_BYTES
limit_of Request = MOST_BYTES
limit_of Zone = MOST_BYTES

-- the file's bytes, within the limit of its role
abbrev pub IsShort : Option Files → Role → List ℕ → List ℕ → Type 0
IsShort held role name bytes = IsFile held name bytes × (length bytes ≤ limit_of role)

-- the file has more bytes than the limit of its role
abbrev pub IsLong : Option Files → Role → List ℕ → Type 0
IsLong held role name = (bytes : List ℕ) × IsFile held name bytes × (limit_of role < length bytes)
