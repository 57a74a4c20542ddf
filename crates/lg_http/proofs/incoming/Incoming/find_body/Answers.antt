use Rattle.lg_http.proofs.IncomingLemmas.{body_found}
use Rattle.lg_http.proofs.incoming.Incoming.find_body.Goals as goal

pub returns-then-is_whole-clause-found : goal.returns-then-is_whole-clause-found
returns-then-is_whole-clause-found c =
    let told = c.into_message.ensures in
    rw c.requires.none (body_found _ _ c.args.arriving c.requires.kept.0 _ c.requires.kept.1 (c.is_whole.ensures.0 c.if-is_whole.true)
    (record { verb_is = told.verb; target_is = told.target; body_is = told.body; sized_is = told.sized; last_is = told.last })
    c.keep.ensures)
