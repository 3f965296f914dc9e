use Rattle.std.proofs.Common.{arith, inl, inr, sym, ◌∙◌}
use Rattle.std.proofs.lemmas.Bool.{cases_Bool}
use Rattle.cidr_bits.proofs.Nested.{first-inside, sharing-nested}
use Rattle.cidr_bits.proofs.bits.are_disjoint.Goals as goal

pub returns-then-not-contains : goal.returns-then-not-contains
returns-then-not-contains c =
    let one = c.args.one.now in
    let other = c.args.other.now in (
      λ yes a first second. elim (sharing-nested one.first other.first a one.prefix other.prefix first second) [
        | inl e ↦ absurd (cc (c.contains.ensures, c.if-not-contains.true, e))
        | inr e ↦ absurd (grind (arith, c.contains-then-not-contains.ensures, yes, e))
      ],
      λ none. elim (cases_Bool c.contains-then-not-contains.result) [
        | inl has ↦ absurd (none one.first (first-inside one.first one.prefix) (sym c.contains-then-not-contains.ensures ∙ has))
        | inr has ↦ grind (arith, has)
      ],
    )
