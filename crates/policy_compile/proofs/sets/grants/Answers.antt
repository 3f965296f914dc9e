use Rattle.std.proofs.Common.{refl, true}
use Rattle.policy_compile.specs.Sets.{document_plans}
use Rattle.policy_compile.proofs.Steps.{Added-within, from-empty, one_of-built}
use Rattle.policy_compile.proofs.sets.grants.Goals as goal

pub insert-requires : goal.insert-requires
insert-requires c =
    let plans = document_plans c.args.schema.now true c.args.documents.now in
    Added-within c.args.builder.now c.add_documents.new.builder plans c.add_documents.new.indices
    (from-empty c.args.builder.now c.add_documents.new.builder plans plans c.new-indices.result c.add_documents.new.indices c.new-indices.ensures refl c.in_ok-add_documents.ensures)

pub returns : goal.returns
returns c =
    let plans = document_plans c.args.schema.now true c.args.documents.now in
    one_of-built c.args.builder.now c.add_documents.new.builder c.insert.new.self plans c.add_documents.new.indices c.in_ok-index.index
    (from-empty c.args.builder.now c.add_documents.new.builder plans plans c.new-indices.result c.add_documents.new.indices c.new-indices.ensures refl c.in_ok-add_documents.ensures)
    c.in_ok-index.ensures
