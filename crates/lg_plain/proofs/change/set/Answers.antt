use Rattle.std.proofs.Common.{◌≡◌, OnOk, ap, subst, ◌∙◌}
use Rattle.lg_calls.specs.Status.{set_alone, is_meant, along_with}
use Rattle.lg_calls.specs.Tasks.{change_meant}
use Rattle.lg_plain.proofs.change.set.Goals as goal

pub returns-clause-ok : goal.returns-clause-ok
returns-clause-ok c =
    let s = c.args.state.now in
    let id = c.args.id.now in
    subst (λ along. OnOk c.make.result (c.make.new.state ≡ record s { tasks = change_meant (is_meant id along) (set_alone s.settings.retry_delay s.moment c.args.status) s.tasks }))
    (c.in_ok-along.ensures.ok ∙ ap (along_with c.args.status id) c.as_slice.ensures) c.make.ensures.ok
