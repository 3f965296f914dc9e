use Rattle.std.proofs.Common.{[], ◌++◌, refl, ◌∙◌}
use Rattle.json_shapes.proofs.Laws.{first_fault-rest, refused}
use Rattle.serde_json.specs.View.{view}
use Rattle.trust_zones.specs.declared.list.ZoneList.TheVariants.{Accounts, Blocks, Organizations, Vpcs}
use Rattle.trust_zones.specs.ZoneFiles.{list_checks_in, zone_checks, zone_form_checks, zone_of}
use Rattle.trust_zones.proofs.Files.{behind-accounts, behind-blocks, behind-form, behind-organizations, last-list, other-lists, text-lists, whole-zone}
use Rattle.trust_zones.proofs.file.read_file.Goals as goal

pub returns-in_err-check_form : goal.returns-in_err-check_form
returns-in_err-check_form c =
    let d = view c.args.file.now in
    refused (zone_checks c.args.schema.now d) (zone_form_checks d) (list_checks_in c.args.schema.now d Accounts ++ other-lists c.args.schema.now d) (zone_of d) _ _ refl c.in_err-check_form.ensures c.from_residual.ensures.1

pub returns-in_err-accounts : goal.returns-in_err-accounts
returns-in_err-accounts c =
    let d = view c.args.file.now in
    refused (zone_checks c.args.schema.now d) (list_checks_in c.args.schema.now d Accounts) (other-lists c.args.schema.now d) (zone_of d) _ _ (behind-form c.args.schema.now d c.in_ok-check_form.ensures.0) c.in_err-accounts.ensures c.from_residual-in_err-accounts.ensures.1

pub returns-in_err-blocks : goal.returns-in_err-blocks
returns-in_err-blocks c =
    let d = view c.args.file.now in
    refused (zone_checks c.args.schema.now d) (list_checks_in c.args.schema.now d Blocks) (text-lists c.args.schema.now d) (zone_of d) _ _ (behind-accounts c.args.schema.now d c.in_ok-check_form.ensures.0 c.in_ok-accounts.ensures.0) c.in_err-blocks.ensures c.from_residual-in_err-blocks.ensures.1

pub returns-in_err-organizations : goal.returns-in_err-organizations
returns-in_err-organizations c =
    let d = view c.args.file.now in
    refused (zone_checks c.args.schema.now d) (list_checks_in c.args.schema.now d Organizations) (last-list c.args.schema.now d) (zone_of d) _ _ (behind-blocks c.args.schema.now d c.in_ok-check_form.ensures.0 c.in_ok-accounts.ensures.0 c.in_ok-blocks.ensures.0) c.in_err-organizations.ensures c.from_residual-in_err-organizations.ensures.1

pub returns-in_err-vpcs : goal.returns-in_err-vpcs
returns-in_err-vpcs c =
    let d = view c.args.file.now in
    refused (zone_checks c.args.schema.now d) (list_checks_in c.args.schema.now d Vpcs) [] (zone_of d) _ _ (behind-organizations c.args.schema.now d c.in_ok-check_form.ensures.0 c.in_ok-accounts.ensures.0 c.in_ok-blocks.ensures.0 c.in_ok-organizations.ensures.0) c.in_err-vpcs.ensures c.from_residual-in_err-vpcs.ensures.1

pub returns : goal.returns
returns c =
    let d = view c.args.file.now in
    let front = behind-organizations c.args.schema.now d c.in_ok-check_form.ensures.0 c.in_ok-accounts.ensures.0 c.in_ok-blocks.ensures.0 c.in_ok-organizations.ensures.0 in (
      front ∙ first_fault-rest (list_checks_in c.args.schema.now d Vpcs) [] c.in_ok-vpcs.ensures.0,
      whole-zone d _ _ _ _ c.in_ok-accounts.ensures.1 c.in_ok-organizations.ensures.1 c.in_ok-vpcs.ensures.1 c.in_ok-blocks.ensures.1,
    )
