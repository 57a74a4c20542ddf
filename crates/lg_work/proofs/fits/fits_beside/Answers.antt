use Rattle.std.proofs.Common.{ap, ◌∙◌}
use Rattle.lg_calls.specs.Task.{Task}
use Rattle.lg_calls.specs.Work.Fits.{fits}
use Rattle.lg_work.specs.Sums.{sum_of}
use Rattle.lg_work.proofs.fits.fits_beside.Goals as goal

pub returns : goal.returns
returns c = c.fits.ensures ∙ ap (λ (task : Task). fits c.args.state.now.limits (sum_of c.args.taken.now) task.resources) c.task.view_is
