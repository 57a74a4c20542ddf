use Rattle.lg_target.proofs.NamingLemmas.{named}
use Rattle.lg_target.proofs.aside.name_of.Goals as goal

pub returns : goal.returns
returns c =
    let written = rw c.laid_out.ensures at c.in_ok-name.ensures.ok in
    named c.from_string.result _ c.args.path.now c.args.number c.from_string.ensures.same written
