use Rattle.std.proofs.Common.{◌≡◌, ℕ, ◌+◌, List, [], ◌∷◌, ◌++◌, All, map, length, sum_by, refl, ap, sym, subst, ◌∙◌, arith}
use Rattle.std.proofs.lemmas.List.{length-map}
use Rattle.std.proofs.lemmas.List.Elements.{All-push}
use Rattle.std.proofs.lemmas.List.Sums.{sum_by_push}
use Rattle.std.specs.List.{flat_map}
use Rattle.serde_json.specs.Data.{Data}
use Rattle.serde_json.specs.View.{view}
use Rattle.policy_model.specs.Soundness.{DocumentIsSound}
use Rattle.policy_model.specs.declared.set.Document.{Document}
use Rattle.json_shapes.specs.Checks.{first_fault}
use Rattle.policy_json.specs.Checks.{PolicyCheck}
use Rattle.policy_json.specs.Documents.{document_of}
use Rattle.json_shapes.specs.Json.{values_in}
use Rattle.policy_json.specs.Sets.{documents_checks, statement_count}
use Rattle.json_shapes.proofs.Laws.{from_here}
use Rattle.policy_json.proofs.Lists.{Next, Reading, reads-next, refuses-next}
use Rattle.policy_json.proofs.Numbering.{documents_checks-append}
use Rattle.policy_json.proofs.set.read_guards.Goals as goal

-- what a guard stands for
abbrev guard_of : Data → List Document
guard_of g = map document_of (values_in g)

-- the next of the guards that are left, whose documents are these
next_of : (number before m b : ℕ) (all : List PolicyCheck) (whole done : List (List Document)) (left : List Data) (g : Data) (gs ds : List Data) → left ≡ g ∷ gs → ds ≡ values_in g → m ≡ number + length ds → b ≡ before + statement_count ds
    → Reading all (documents_checks number before (flat_map values_in left)) whole done (map guard_of left)
    → Next all (documents_checks number before ds) (documents_checks m b (flat_map values_in gs)) whole done (map document_of ds) (map guard_of gs)
next_of number before m b all whole done left g gs ds is same same_m same_b here =
    let split : Reading all (documents_checks number before (values_in g ++ flat_map values_in gs)) whole done (guard_of g ∷ map guard_of gs) = subst (λ (some : List Data). Reading all (documents_checks number before (flat_map values_in some)) whole done (map guard_of some)) is here in
    let own : Reading all (documents_checks number before (ds ++ flat_map values_in gs)) whole done (map document_of ds ∷ map guard_of gs) = subst (λ (some : List Data). Reading all (documents_checks number before (some ++ flat_map values_in gs)) whole done (map document_of some ∷ map guard_of gs)) (sym same) split in
    record {
      faults = own.faults ∙ ap first_fault (documents_checks-append number before m b ds (flat_map values_in gs) same_m same_b);
      values = own.values;
    }

pub returns-in_err-documents-clause-read : goal.returns-in_err-documents-clause-read
returns-in_err-documents-clause-read c =
    let i = c.loop-value.value-index in
    let left = from_here view c.args.values.now i _ c.loop-value-test.true c.value-item.is in
    let here = next_of _ _ _ _ _ _ _ _ _ _ _ left c.values_in.ensures refl refl c.loop-value.invariant.reading in
    refuses-next _ _ here c.in_err-documents.ensures.read c.from_residual.ensures.1

pub loop-value-preserved : goal.loop-value-preserved
loop-value-preserved c =
    let i = c.loop-value.value-index in
    let ds = map view c.values_in.result.now in
    let left = from_here view c.args.values.now i _ c.loop-value-test.true c.value-item.is in
    let count : length c.in_ok-documents.documents ≡ length ds = ap length c.in_ok-documents.ensures.read.1 ∙ length-map ds document_of in
    let number : c.read_documents.new.counts.documents + 1 ≡ c.loop-value.counts.documents + 1 + length ds = omega (arith, count, c.in_ok-documents.ensures.documents) in
    let here = next_of _ _ (c.read_documents.new.counts.documents + 1) c.read_documents.new.counts.statements _ _ _ _ _ _ _ left c.values_in.ensures number c.in_ok-documents.ensures.statements c.loop-value.invariant.reading in
    let pushed : c.push.new.self ≡ c.loop-value.guards ++ c.in_ok-documents.documents ∷ [] = c.in_ok-push.ensures.ok in
    let read = reads-next _ _ here c.in_ok-documents.ensures.read.0 c.in_ok-documents.ensures.read.1 pushed in
    record {
      reading = read;
      documents = omega (arith, ap (λ gs. sum_by (λ g. length g) gs) pushed ∙ sum_by_push (λ g. length g) c.loop-value.guards c.in_ok-documents.documents, c.loop-value.invariant.documents, c.in_ok-documents.ensures.documents);
      sound = subst (All (λ g. All DocumentIsSound g)) (sym pushed) (All-push (λ g. All DocumentIsSound g) _ _ c.loop-value.invariant.sound c.in_ok-documents.ensures.sound);
    }
