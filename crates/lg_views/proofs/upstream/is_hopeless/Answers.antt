use Rattle.std.proofs.Common.{ap, ◌∙◌}
use Rattle.lg_views.specs.Upstream.{is_worst_of_all}
use Rattle.lg_views.proofs.UpstreamLemmas.{hopeless_is}
use Rattle.lg_views.proofs.upstream.is_hopeless.Goals as goal

pub returns : goal.returns
returns g c =
    c.is_disabled.ensures ∙ (ap is_worst_of_all c.in_ok-worst.ensures ∙ hopeless_is (g.K.Look.state c.args.state.now).tasks c.args.task.now)
