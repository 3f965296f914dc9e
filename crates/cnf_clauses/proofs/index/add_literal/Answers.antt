use Rattle.std.proofs.Common.{true, false}
use Rattle.cnf_clauses.proofs.Indexing.{literal-yes, literal-no, named-at}
use Rattle.cnf_clauses.proofs.index.add_literal.Goals as goal

pub returns-then-literal-clause-named : goal.returns-then-literal-clause-named
returns-then-literal-clause-named c = named-at c.add_number.result c.add_number.new.lists.items c.args.index.now.no.items c.args.literal true _ c.if-literal.true c.add_number.ensures.named

pub returns-then-literal-clause-kept : goal.returns-then-literal-clause-kept
returns-then-literal-clause-kept c = literal-yes c.add_number.result c.args.index.now.yes.items c.args.index.now.no.items c.add_number.new.lists.items c.add_number.ensures.kept

pub returns-else-literal-clause-named : goal.returns-else-literal-clause-named
returns-else-literal-clause-named c = named-at c.add_number-else-literal.result c.args.index.now.yes.items c.add_number-else-literal.new.lists.items c.args.literal false _ c.if-literal.false c.add_number-else-literal.ensures.named

pub returns-else-literal-clause-kept : goal.returns-else-literal-clause-kept
returns-else-literal-clause-kept c = literal-no c.add_number-else-literal.result c.args.index.now.yes.items c.args.index.now.no.items c.add_number-else-literal.new.lists.items c.add_number-else-literal.ensures.kept
