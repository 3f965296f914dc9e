use Rattle.std.proofs.Common.{◌∙◌, ap, take, ◌+◌, rules}
use Rattle.std.specs.Option.{option_to_list}
use Rattle.nogoods.proofs.Learning.{tracking-shorter}
use Rattle.nogoods.proofs.tracking.Tracking.pop.Goals as goal

pub invariant_of-self : goal.invariant_of-self
invariant_of-self c =
    tracking-shorter c.self.inside.lists c.pop-last.new.self (option_to_list c.pop-last.result) c.self.inside.path c.self.inside.watching.items c.self.inside.hits.items c.truncate.new.self.items
    c.pop-last.ensures.last (c.truncate.ensures.items ∙ ap (λ n. take (n + 1) c.self.inside.hits.items) c.len.ensures.value) c.self.invariant

pub returns-clause-last : goal.returns-clause-last
returns-clause-last c = search rules

pub returns-clause-nonempty : goal.returns-clause-nonempty
returns-clause-nonempty c = search rules
