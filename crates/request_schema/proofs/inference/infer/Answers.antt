use Rattle.std.proofs.Common.{◌≡◌, List, All, option_map, ap, sym, ◌∙◌, subst}
use Rattle.policy_model.specs.Keys.{IsFolded}
use Rattle.request_schema.specs.Uses.{Use, uses_found, uses_of}
use Rattle.request_schema.proofs.Inferring.{fits-now, infer-fits, infer-fits-other, infer-refused, infer-sound, infer-value, sound-now}
use Rattle.request_schema.proofs.OfSets.{folded-run}
use Rattle.request_schema.proofs.inference.infer.Goals as goal

pub returns-in_err-check_uses-clause-value : goal.returns-in_err-check_uses-clause-value
returns-in_err-check_uses-clause-value c =
    let other = option_map (λ set. set.now) c.args.second in
    let us = uses_found c.as_slice-found.result.now in
    let found : us ≡ uses_of c.args.first.now other = ap uses_found c.as_slice-found.ensures.value ∙ c.in_ok-uses.ensures in
    infer-refused c.args.named.now c.args.first.now other us c.in_ok-table.table found c.in_ok-table.ensures _ _ c.in_err-check_uses.ensures c.from_residual-in_err-check_uses.ensures.1

pub with_further-requires : goal.with_further-requires
with_further-requires c =
    let other = option_map (λ set. set.now) c.args.second in
    let us = uses_found c.as_slice-found.result.now in
    let found : us ≡ uses_of c.args.first.now other = ap uses_found c.as_slice-found.ensures.value ∙ c.in_ok-uses.ensures in
    subst (λ (some : List Use). All (λ (u : Use). IsFolded u.condition.key) some) (sym found) (folded-run c.args.first.now other c.requires.first (sound-now c.args.second c.requires.second))

pub returns-clause-value : goal.returns-clause-value
returns-clause-value c =
    let other = option_map (λ set. set.now) c.args.second in
    let us = uses_found c.as_slice-found.result.now in
    let found : us ≡ uses_of c.args.first.now other = ap uses_found c.as_slice-found.ensures.value ∙ c.in_ok-uses.ensures in
    infer-value c.args.named.now c.args.first.now other us c.in_ok-table.table found c.in_ok-table.ensures c.in_ok-schema.schema c.in_ok-check_uses.ensures c.in_ok-schema.ensures

pub returns-clause-fits : goal.returns-clause-fits
returns-clause-fits c =
    let other = option_map (λ set. set.now) c.args.second in
    let us = uses_found c.as_slice-found.result.now in
    let found : us ≡ uses_of c.args.first.now other = ap uses_found c.as_slice-found.ensures.value ∙ c.in_ok-uses.ensures in
    infer-fits c.args.named.now c.args.first.now other us c.in_ok-table.table found c.in_ok-table.ensures c.in_ok-schema.schema c.in_ok-check_uses.ensures c.in_ok-schema.ensures c.requires.first

pub returns-clause-fits_second : goal.returns-clause-fits_second
returns-clause-fits_second c =
    let other = option_map (λ set. set.now) c.args.second in
    let us = uses_found c.as_slice-found.result.now in
    let found : us ≡ uses_of c.args.first.now other = ap uses_found c.as_slice-found.ensures.value ∙ c.in_ok-uses.ensures in
    fits-now c.in_ok-schema.schema c.args.second
    (infer-fits-other c.args.named.now c.args.first.now other us c.in_ok-table.table found c.in_ok-table.ensures c.in_ok-schema.schema c.in_ok-check_uses.ensures c.in_ok-schema.ensures (sound-now c.args.second c.requires.second))

pub returns-clause-sound : goal.returns-clause-sound
returns-clause-sound c =
    let other = option_map (λ set. set.now) c.args.second in
    let us = uses_found c.as_slice-found.result.now in
    let found : us ≡ uses_of c.args.first.now other = ap uses_found c.as_slice-found.ensures.value ∙ c.in_ok-uses.ensures in
    infer-sound c.args.named.now c.args.first.now other us c.in_ok-table.table found c.in_ok-table.ensures c.in_ok-schema.schema c.in_ok-check_uses.ensures c.in_ok-schema.ensures
