-- The copy is the record of the copied fields, each of which is its own.
use Rattle.std.proofs.Common.{◌≡◌, ap, ◌∙◌, to_z, of_z, w64, rules}
use Rattle.std.proofs.lemmas.Result.{MatchResult-from_err}
use Rattle.std.proofs.lemmas.Int.{to_z-of_z}
use Rattle.lg_calls.specs.Task.{Task}
use Rattle.lg_calls.proofs.task.TaskRecClone.clone.Goals as goal

pub returns-in_err-id : goal.returns-in_err-id
returns-in_err-id c =
    record { cases = MatchResult-from_err _ _ _ c.from_residual.ensures.0 (λ _ none. none) }

pub returns-in_err-deps : goal.returns-in_err-deps
returns-in_err-deps c =
    record { cases = MatchResult-from_err _ _ _ c.from_residual-in_err-deps.ensures.0 (λ _ none. none) }

pub returns-in_err-worker_running : goal.returns-in_err-worker_running
returns-in_err-worker_running c =
    record { cases = MatchResult-from_err _ _ _ c.from_residual-in_err-worker_running.ensures.0 (λ _ none. none) }

pub returns-in_err-expl : goal.returns-in_err-expl
returns-in_err-expl c =
    record { cases = MatchResult-from_err _ _ _ c.from_residual-in_err-expl.ensures.0 (λ _ none. none) }

pub returns : goal.returns
returns c =
    let same = c.self.view_is in
    let names = c.in_ok-id.ensures in
    let needs = c.in_ok-deps.ensures in
    let runs = c.in_ok-worker_running.ensures in
    let texts = c.in_ok-expl.ensures in
    let priority : to_z w64 (of_z w64 c.self.inside.priority) ≡ c.args.self.now.priority =
    to_z-of_z w64 _ (search rules) ∙ ap (λ (t : Task). t.priority) same in
    record {
      cases = λ i. record {
        id = names.id i;
        number = (same i).number;
        family = names.family i;
        «module» = names.of_module i;
        params = names.params i;
        status = (same i).status;
        deps = needs.deps i;
        workers = needs.workers i;
        stakeholders = needs.stakeholders i;
        priority = priority i;
        resources = needs.resources i;
        added = (same i).added;
        updated = (same i).updated;
        runnable = (same i).runnable;
        batchable = (same i).batchable;
        accepts_messages = (same i).accepts_messages;
        worker_running = runs.worker i;
        time_running = (same i).time_running;
        batch = runs.batch i;
        failures = runs.failures i;
        policy = (same i).policy;
        retry = (same i).retry;
        disabled_at = (same i).disabled_at;
        remove = (same i).remove;
        expl = texts.expl i;
        tracking_url = texts.tracking_url i;
        status_message = texts.status_message i;
        progress = (same i).progress;
      };
    }
