use Rattle.std.proofs.Common.{◌≡◌, ℕ, None, IsTrue, List, sym, ap, subst, ◌∙◌}
use Rattle.lg_calls.specs.declared.state.State.{State}
use Rattle.lg_calls.specs.declared.status.Status.TheVariants.{Running}
use Rattle.lg_calls.specs.Running.{run_by}
use Rattle.lg_calls.specs.Status.{along_with, is_meant, set_alone, set_status}
use Rattle.lg_calls.specs.Tasks.{have_distinct_ids}
use Rattle.lg_calls.specs.Work.Assigning.{with_changed}
use Rattle.lg_plain.proofs.KeptLemmas.{place-set_alone}
use Rattle.lg_plain.proofs.assign.assign.Goals as goal

pub begin-requires : goal.begin-requires
begin-requires c =
    let s = c.args.state.now in
    let id = c.args.id.now in
    let delay = s.settings.retry_delay in
    subst (λ (after : State). IsTrue (have_distinct_ids after.tasks)) (sym c.in_ok-set.ensures.ok)
    ((c.ids_stay_distinct.ensures s.tasks c.requires.ids_differ).changed (is_meant id (along_with Running id s.tasks)) (set_alone delay s.moment Running)
    (place-set_alone delay s.moment Running).id)

pub returns : goal.returns
returns c =
    let s = c.args.state.now in
    let id = c.args.id.now in
    record {
      ok =
          c.begin.ensures
          ∙ ap (λ (worker : List ℕ). with_changed id (run_by worker c.set.new.state.moment None) c.set.new.state) c.in_ok-worker.ensures.cases
          ∙ ap (λ (after : State). with_changed id (run_by c.args.worker.now after.moment None) after) c.in_ok-set.ensures.ok;
      err = tt;
    }
