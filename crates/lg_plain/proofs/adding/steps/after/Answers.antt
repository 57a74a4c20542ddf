use Rattle.std.proofs.Common.{ap, ◌∙◌}
use Rattle.lg_calls.specs.AddTask.Adding.{added}
use Rattle.lg_plain.proofs.adding.steps.after.Goals as goal

pub returns : goal.returns
returns c = c.in_ok-add.ensures ∙ ap (added c.args.ask.now) c.in_ok-next.ensures
