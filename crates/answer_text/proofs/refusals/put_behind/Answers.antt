use Rattle.answer_text.proofs.refusals.put_behind.Goals as goal

pub returns-in-NoHandle : goal.returns-in-NoHandle
returns-in-NoHandle g c = rw c.in-NoHandle.is c.put_all-in-NoHandle.ensures
