use Rattle.lg_plain.proofs.SettlingLemmas.{done-told}
use Rattle.lg_plain.proofs.requests.settling.mark_as_done.Goals as goal

pub set_and_tell-requires-clause-has_it : goal.set_and_tell-requires-clause-has_it
set_and_tell-requires-clause-has_it c =
    done-told c.args.state.now c.args.id.now c.as_slice.result.now c.status_of.result _ c.as_slice.ensures c.status_of.ensures c.in-Some-Running.is
