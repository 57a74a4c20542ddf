-- What a worker gets that asks, step by step.
use Rattle.std.proofs.Common.{◌≡◌, Bool, true, false, cond, Result, Ok, Err, List, refl, sym, ap, ◌∙◌}
use Rattle.lg_base.specs.declared.faults.NoMemory.{NoMemory}
use Rattle.lg_json.specs.Tree.{Tree}
use Rattle.lg_calls.specs.declared.engine.Reply.{Reply}
use Rattle.lg_calls.specs.declared.methods.get_work.GetWork.{GetWork}
use Rattle.lg_calls.specs.declared.state.State.{State}
use Rattle.lg_calls.specs.declared.worker.WorkerRec.{WorkerRec}
use Rattle.lg_calls.specs.Methods.GetWork.{assistant_marked, given_to, heard_asking, nothing_to_do, work_given}
use Rattle.lg_calls.specs.Outcome.{Outcome, replied}
use Rattle.lg_calls.specs.Workers.{is_disabled, put_worker}
use Rattle.lg_plain.specs.Requests.{Comes, ComesButForWorkers}

-- what a worker that was heard of gets, disabled or not
abbrev got : GetWork → State → Bool → State × Outcome
got ask here disabled = cond {A = State × Outcome} disabled (here, replied (nothing_to_do ask.worker here)) (given_to ask (assistant_marked ask here))

given-got : (ask : GetWork) (s heard : State) (disabled : Bool) → heard ≡ heard_asking ask s → is_disabled ask.worker heard.workers ≡ disabled
    → work_given ask s ≡ got ask heard disabled
unfolding work_given
given-got ask s heard disabled is_heard is =
    ap (λ (here : State). got ask here (is_disabled ask.worker here.workers)) (sym is_heard) ∙ ap (got ask heard) is

-- a disabled one is told that there is nothing to do
pub nothing-given : (ask : GetWork) (s heard : State) (told : Tree) → heard ≡ heard_asking ask s → is_disabled ask.worker heard.workers ≡ true
    → told ≡ nothing_to_do ask.worker heard → work_given ask s ≡ (heard, replied told)
nothing-given ask s heard told is_heard disabled is_told =
    given-got ask s heard true is_heard disabled ∙ ap (λ tree. (heard, replied tree)) (sym is_told)

-- to mark a worker changes the workers alone
but_workers : (b : Bool) (worker : WorkerRec) (heard : State) (workers : List WorkerRec)
    → record (cond b (put_worker worker heard) heard) { workers = workers } ≡ record heard { workers = workers }
but_workers true worker heard workers = refl
but_workers false worker heard workers = refl

-- every other one gets what it gets once it is marked
pub marked-given : (ask : GetWork) (s heard marked new : State) (r : Result Reply NoMemory) → heard ≡ heard_asking ask s
    → is_disabled ask.worker heard.workers ≡ false → marked ≡ assistant_marked ask heard → Comes marked (given_to ask marked) new r
    → ComesButForWorkers s (work_given ask s) new r
marked-given ask s heard marked new (Ok reply) is_heard enabled is_marked comes =
    given-got ask s heard false is_heard enabled ∙ (ap (given_to ask) (sym is_marked) ∙ comes)
marked-given ask s heard marked new (Err out_of_memory) is_heard enabled is_marked same =
    ap (λ (here : State). record here { workers = s.workers }) (same ∙ is_marked)
    ∙ (but_workers ask.assistant _ heard s.workers ∙ ap (λ (here : State). record here { workers = s.workers }) is_heard)
