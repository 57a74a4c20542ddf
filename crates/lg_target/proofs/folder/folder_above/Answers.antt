use Rattle.std.proofs.Common.{arith}
use Rattle.lg_target.proofs.NamingLemmas.{folder_at, folder_none}
use Rattle.lg_target.proofs.folder.folder_above.Goals as goal

pub returns-in-Some : goal.returns-in-Some
returns-in-Some c =
    let cut = c.in-Some.ensures.cases in
    folder_at c.args.path.now c.in-Some.folder.now cut.0 cut.1 cut.2 cut.3 (omega (arith, cut.7))

pub returns-in-None : goal.returns-in-None
returns-in-None c = folder_none c.args.path.now c.in-None.ensures.cases
