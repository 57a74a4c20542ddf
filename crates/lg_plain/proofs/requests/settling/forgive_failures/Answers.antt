use Rattle.std.proofs.Common.{Some, ap, sym, ◌∙◌}
use Rattle.lg_plain.proofs.SettlingLemmas.{forgiven-told}
use Rattle.lg_plain.proofs.requests.settling.forgive_failures.Goals as goal

pub set_and_tell-requires-clause-has_it : goal.set_and_tell-requires-clause-has_it
set_and_tell-requires-clause-has_it c =
    forgiven-told c.args.state.now c.args.id.now c.as_slice.result.now c.status_of.result c.as_slice.ensures c.status_of.ensures
    (c.in-Some-Failed.is ∙ ap Some c.in-Some-Failed.field-0-is) c.requires
