use Rattle.lg_params.proofs.writing.written.Goals as goal

pub returns-in-Texts : goal.returns-in-Texts
returns-in-Texts c = rw c.in-Texts.is (rw c.texts.ensures at c.list_text.ensures)
