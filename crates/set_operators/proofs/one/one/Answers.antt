use Rattle.set_operators.proofs.one.one.Goals as goal

pub returns-in-None : goal.returns-in-None
returns-in-None c = c.one_text.ensures

pub returns-in-Some : goal.returns-in-Some
returns-in-Some c = c.one_plain.ensures
