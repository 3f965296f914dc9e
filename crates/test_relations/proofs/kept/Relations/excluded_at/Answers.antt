use Rattle.std.proofs.Common.{◌∙◌, List, ap, subst, sym}
use Rattle.std.specs.Prelude.{Option, Bool, None, slice_index_or}
use Rattle.test_relations.specs.Kept.{AreKnown}
use Rattle.test_relations.specs.Relations.{ExcludesAt, SchemaTests}
use Rattle.test_relations.proofs.Known.{known-at}
use Rattle.test_relations.proofs.kept.Relations.excluded_at.Goals as goal

pub returns-in-Some : goal.returns-in-Some
returns-in-Some c =
    let at = sym (c.in-Some.ensures.lookup.3.1 None) in
    known-at (ExcludesAt c.args.self.now) c.self.inside.excluded.items c.args.place c.in-Some.known.now (subst (λ (of : SchemaTests). AreKnown (ExcludesAt of) c.self.inside.excluded.items) c.self.view_is c.self.invariant.1)
    (ap (λ (kept : List (Option Bool)). slice_index_or kept c.args.place None) (sym c.deref.ensures.value) ∙ at)
