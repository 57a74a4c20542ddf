use Rattle.lg_params.proofs.ListLemmas.{texts_answer}
use Rattle.lg_params.proofs.lists.read_texts.Goals as goal

pub returns-in-Some : goal.returns-in-Some
returns-in-Some c =
    let found = rw c.in-Some.is at c.in_ok-texts-in-Ok.ensures in
    texts_answer _ _ _ c.in-Ok.ensures.ok found
