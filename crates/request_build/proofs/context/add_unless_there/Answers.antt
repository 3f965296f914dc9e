use Rattle.std.proofs.Common.{◌≡◌, false, is_some, sym, ◌∙◌}
use Rattle.text_table.specs.Table.{item_at, with_item}
use Rattle.request_build.proofs.First.{none-copied, put-first}
use Rattle.request_build.proofs.context.add_unless_there.Goals as goal

pub returns : goal.returns
returns c =
    let none : is_some c.get.result ≡ false = sym c.is_some.ensures ∙ c.if-is_some.false in
    let grown : c.insert.new.self ≡ with_item c.args.found.now c.args.key.now c.args.values.now = cc (c.in_ok-insert.ensures.ok, c.in_ok-copy.ensures, c.in_ok-copy-2.ensures) in
    put-first c.args.found.now c.insert.new.self c.args.key.now c.args.values.now (none-copied c.get.result (item_at c.args.key.now c.args.found.now) c.get.ensures none) grown
