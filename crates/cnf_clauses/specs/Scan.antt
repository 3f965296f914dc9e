-- One step of a look at a clause.
use Rattle.std.specs.Prelude.{◌&&◌, Bool, true, false, Option, Some, None, if◌then◌else◌, nat_eq}
use Rattle.cnf_clauses.specs.declared.clause.Found.{Found}
use Rattle.cnf_clauses.specs.declared.clause.Found.TheVariants.{Refuted, Unit, Open}
use Rattle.cnf_clauses.specs.Literals.{Literal}

abbrev pub same_value : Bool → Bool → Bool
same_value true b = b
same_value false true = false
same_value false false = true

-- one more undecided literal
abbrev pub found_after_undecided : Found → Literal → Found
found_after_undecided Refuted l = Unit l.0 l.1
found_after_undecided (Unit v b) l = if nat_eq v l.0 && same_value b l.1 then Unit v b else Open
found_after_undecided Open l = Open

abbrev pub found_after : Found → Literal → Option Bool → Found
found_after found l None = found_after_undecided found l
found_after found l (Some value) = if same_value value l.1 then Open else found
