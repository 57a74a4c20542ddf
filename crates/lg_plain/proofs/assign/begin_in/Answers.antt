use Rattle.std.proofs.Common.{None, refl, sym}
use Rattle.lg_calls.specs.Running.{run_by}
use Rattle.lg_plain.proofs.AssignLemmas.{unchanged, changed_there}
use Rattle.lg_plain.proofs.assign.begin_in.Goals as goal

pub returns-in-Some : goal.returns-in-Some
returns-in-Some c =
    let begun = run_by c.args.worker c.args.now None in
    changed_there c.args.id.now begun c.args.tasks.now _ c.in-Some.place c.index-tasks-place.result _ c.requires (sym c.in-Some.ensures)
    c.begin_alone.ensures refl

pub returns-in-None : goal.returns-in-None
returns-in-None c = sym (unchanged c.args.id.now (run_by c.args.worker c.args.now None) c.args.tasks.now (sym c.in-None.ensures))
