-- Files stand for one schema and for the same sets, and what is refused isn't answered.
use Rattle.std.proofs.Common.{◌≡◌, ℕ, List, Option, Some, None, subst, sym}
use Rattle.policy_model.specs.declared.schema.Schema.{Schema}
use Rattle.policy_model.specs.declared.set.PolicySet.{PolicySet}
use Rattle.request_schema.specs.declared.schema_fault.SchemaFault.{SchemaFault}
use Rattle.run_inputs.specs.declared.printed.EarlyEnd.{EarlyEnd}
use Rattle.run_inputs.specs.declared.printed.EarlyEnd.TheVariants.{Answered, NoMemory}
use Rattle.run_inputs.specs.declared.printed.Printed.{Printed}
use Rattle.run_inputs.specs.declared.role.Role.TheVariants as role
use Rattle.run_inputs.specs.declared.status.Status.{Status}
use Rattle.run_inputs.specs.declared.status.Status.TheVariants as status
use Rattle.run_inputs.specs.Printing.{IfAnswered, IsOfText}
use Rattle.run_inputs.specs.declared.one_set.OneSet.{OneSet}
use Rattle.run_inputs.specs.declared.pair.Pair.{Pair}
use Rattle.run_inputs.specs.declared.refusal.Refusal.{Refusal}
use Rattle.run_inputs.specs.declared.refusal.Refusal.TheVariants as refusal
use Rattle.run_inputs.specs.OneSets.{IsOneSetRefusal, IsOneSetOf, SomeOneSet, SomeReadSet}
use Rattle.run_inputs.specs.Pairs.{Contents, IsPairRefusal, IsPairOf, SomeReadSets, SomePair}
use Rattle.run_inputs.specs.Refusals.{PrintsRefusal, IsRefusedBy}
use Rattle.run_inputs.specs.Standing.{NamesSchema, SchemaFails}

-- what is refused, for a weaker reason
pub refused_weaker : (Q R : Refusal → Type 0) → ((r : Refusal) → Q r → R r) → (p : Printed) → IsRefusedBy Q p → IsRefusedBy R p
refused_weaker Q R weaker p (r, is, told) = (r, weaker r is, told)

-- what is refused for a reason
pub refused_by : (e : EarlyEnd) (r : Refusal) (Q : Refusal → Type 0) → Q r → IfAnswered e (PrintsRefusal r) → IfAnswered e (IsRefusedBy Q)
refused_by (Answered p) r Q is told = (r, is, told)
refused_by NoMemory r Q is told = tt

-- the status of a text that was written whole, where that one is printed
pub with_status : (p : Printed) (s : Status) → IsOfText s → p.status ≡ s → IsOfText p.status
with_status p s of is = subst IsOfText (sym is) of

-- a refusal is such a text
pub refusal_with : (Q : Refusal → Type 0) (p : Printed) → IsRefusedBy Q p → IsOfText p.status
refusal_with Q p (r, is, told) = with_status p status.Refused tt told.1

-- what holds of the sets that files stand for, under the schema of their run
pub of_pair : (c : Contents) (pair : Pair) (P : Pair → Type 0) → IsPairOf c pair → P pair → SomePair c P
of_pair c pair P of here = record {
  named = of.named;
  one = of.one;
  two = of.two;
  schema_stands = of.schema_stands;
  first_stands = of.first_stands;
  second_stands = of.second_stands;
  holds = record { answered = of.holds.answered; holds = subst P (sym of.holds.holds) here };
}

pub of_one : (set : List ℕ) (schema : Option (List ℕ)) (one : OneSet) (P : OneSet → Type 0) → IsOneSetOf set schema one → P one → SomeOneSet set schema P
of_one set schema one P of here = record {
  named = of.named;
  set = of.set;
  schema_stands = of.schema_stands;
  set_stands = of.set_stands;
  holds = record { answered = of.holds.answered; holds = subst P (sym of.holds.holds) here };
}

-- ---- files stand for one schema and for the same sets

same_schema : (file : Option (List ℕ)) (a b : Schema) → NamesSchema file a → NamesSchema file b → a ≡ b
same_schema None a b one other = cc
same_schema (Some bytes) a b one other = cc

no_schema_fault : (file : Option (List ℕ)) (named : Schema) (fault : SchemaFault) → NamesSchema file named → SchemaFails file fault → ⊥
no_schema_fault None named fault stands refused = absurd refused
no_schema_fault (Some bytes) named fault stands refused = cc

-- what holds of the schema and the sets that files stand for holds of those that they stand for too
pub of_same : (c : Contents) (P Q : Schema → PolicySet → PolicySet → Type 0) (f : SomeReadSets c P) (g : SomeReadSets c Q) → Q f.named f.one f.two
of_same c P Q f g =
    let named : g.named ≡ f.named = same_schema c.schema g.named f.named g.schema_stands f.schema_stands in
    let f1 = f.first_stands in
    let g1 = g.first_stands in
    let one : g.one ≡ f.one = cc in
    let f2 = f.second_stands in
    let g2 = g.second_stands in
    let two : g.two ≡ f.two = cc in
    subst (λ (s : Schema). Q s f.one f.two) named
    (subst (λ (a : PolicySet). Q g.named a f.two) one (subst (λ (b : PolicySet). Q g.named g.one b) two g.holds))

-- the same of one set
pub of_same_set : (set_bytes : List ℕ) (schema_bytes : Option (List ℕ)) (P Q : Schema → PolicySet → Type 0) (f : SomeReadSet set_bytes schema_bytes P) (g : SomeReadSet set_bytes schema_bytes Q) → Q f.named f.set
of_same_set set_bytes schema_bytes P Q f g =
    let named : g.named ≡ f.named = same_schema schema_bytes g.named f.named g.schema_stands f.schema_stands in
    let f1 = f.set_stands in
    let g1 = g.set_stands in
    let set : g.set ≡ f.set = cc in
    subst (λ (s : Schema). Q s f.set) named (subst (λ (a : PolicySet). Q g.named a) set g.holds)

-- ---- what stands for sets isn't refused for standing for none

pub no_pair_fails : (c : Contents) (P : Pair → Type 0) → SomePair c P → (r : Refusal) → IsPairRefusal c r → ⊥
no_pair_fails c P d (refusal.BadSchema fault) v = no_schema_fault c.schema d.named fault d.schema_stands v
no_pair_fails c P d (refusal.BadSet role.First fault) (schema, refused) = let stands = d.first_stands in cc
no_pair_fails c P d (refusal.BadSet role.Second fault) (schema, set, refused) = let stands = d.second_stands in cc
no_pair_fails c P d (refusal.BadSet role.Set fault) v = v
no_pair_fails c P d (refusal.BadSet role.Schema fault) v = v
no_pair_fails c P d (refusal.BadSet role.Request fault) v = v
no_pair_fails c P d (refusal.BadSet role.Proof fault) v = v
no_pair_fails c P d (refusal.BadSet role.Zone fault) v = v
no_pair_fails c P d (refusal.BadCondition file fault) v =
    let refused = (of_same c _ _ d v).1 in
    let answered = d.holds.answered in
    cc
no_pair_fails c P d refusal.TooManyTests v = v
no_pair_fails c P d refusal.TooManyPieces v = v

pub no_one_fails : (set : List ℕ) (schema : Option (List ℕ)) (P : OneSet → Type 0) → SomeOneSet set schema P → (r : Refusal) → IsOneSetRefusal set schema r → ⊥
no_one_fails set schema P d (refusal.BadSchema fault) v = no_schema_fault schema d.named fault d.schema_stands v
no_one_fails set schema P d (refusal.BadSet file fault) (is, has, refused) = let stands = d.set_stands in cc
no_one_fails set schema P d (refusal.BadCondition file fault) v =
    let refused = (of_same_set set schema _ _ d v).1 in
    let answered = d.holds.answered in
    cc
no_one_fails set schema P d refusal.TooManyTests v = v
no_one_fails set schema P d refusal.TooManyPieces v = v
