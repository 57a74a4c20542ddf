-- What is written of a state is read as that state, so that a text has one state at most.
use Rattle.std.proofs.Common.{◌≡◌, ℕ, List, Option, Some, None, option_map, option_and_then, codes, refl, sym, ap, ◌∙◌}
use Rattle.std.specs.FinMap.{entries, entries_sorted}
use Rattle.serde_json.specs.Find.{as_bool}
use Rattle.serde_json.specs.Read.{max_depth, read}
use Rattle.lg_calls.specs.declared.settings.Settings.{Settings}
use Rattle.lg_calls.specs.declared.state.State.{State}
use Rattle.lg_calls.specs.Valid.{IsValidState, IsValidTask, IsValidWorker}
use Rattle.lg_snapshot.specs.Fitting.{TaskFits, WorkerFits}
use Rattle.lg_snapshot.specs.Kinds.{number_in, moment_in, list_in, amounts_in}
use Rattle.lg_snapshot.specs.Reading.{record_in, done}
use Rattle.lg_snapshot.specs.RecordReadings.{batcher, worker}
use Rattle.lg_snapshot.specs.Records.{tree_of_state, tree_of_batcher, tree_of_worker, tree_of_task}
use Rattle.lg_snapshot.specs.Snapshot.{snapshot_text, IsHeldState, IsSnapshotOf}
use Rattle.lg_snapshot.specs.StateReading.{state}
use Rattle.lg_snapshot.specs.TaskReading.{task}
use Rattle.lg_snapshot.specs.Trees.{number}
use Rattle.lg_snapshot.proofs.KindBack.{Holds, no_more, list_back, amounts_back, list_order, named_order}
use Rattle.lg_snapshot.proofs.ReadBack.{data_of, IsInOrder, read-text_of}
use Rattle.lg_snapshot.proofs.RecordBack.{step, batcher_back, worker_back, task_back, batcher_order, worker_order, task_order}

-- the value of a state's tree is read as the state, but for its settings and pruning
tree_back : (settings : Settings) (s : State) → IsHeldState s → record_in (state settings) (data_of (tree_of_state s)) ≡ Some (record s { pruned = None; settings = settings })
unfolding state done
tree_back settings s held =
    ap (option_map (λ read. read.0))
    (step (codes "batchers") (list_in (record_in batcher)) _ _ _ s.batchers _ (list_back tree_of_batcher (record_in batcher) Holds (λ b held _. batcher_back b held) s.batchers held.tree.1 (no_more s.batchers))
    (step (codes "limits") amounts_in _ _ _ s.limits _ (amounts_back s.limits held.tree.2.1 held.limits)
    (step (codes "moment") moment_in _ _ _ s.moment _ refl
    (step (codes "next") number_in _ _ _ s.next _ refl
    (step (codes "paused") as_bool _ _ _ s.paused _ refl
    (step (codes "tasks") (list_in (record_in task)) _ _ _ s.tasks _ (list_back tree_of_task (record_in task) TaskFits (λ t held fits. task_back t held fits) s.tasks held.tree.2.2.2.2.2.1 held.tasks)
    (step (codes "version") number_in _ _ _ 1 _ refl
    (step (codes "workers") (list_in (record_in worker)) _ _ _ s.workers _ (list_back tree_of_worker (record_in worker) WorkerFits (λ w held fits. worker_back w held fits) s.workers held.tree.2.2.2.2.2.2.2.1 held.workers)
    refl))))))))

-- the names of a valid state's tree rise
tree_order : (s : State) → IsValidState s → IsInOrder max_depth (tree_of_state s)
tree_order s valid = (
  refl,
  list_order 125 tree_of_batcher Holds (λ b _. batcher_order 123 b) s.batchers (no_more s.batchers),
  (
    refl,
    named_order 125 number (λ n. tt) (entries s.limits) (entries_sorted s.limits),
    (
      refl,
      tt,
      (
        refl,
        tt,
        (
          refl,
          tt,
          (
            refl,
            list_order 125 tree_of_task (IsValidTask s.moment) (λ t ok. task_order 122 t ok.params) s.tasks valid.tasks,
            (
              refl,
              tt,
              (
                tt,
                list_order 125 tree_of_worker (IsValidWorker s.moment) (λ w ok. worker_order 123 w ok.info) s.workers valid.workers,
                tt,
              ),
            ),
          ),
        ),
      ),
    ),
  ),
)

-- the text of a valid state is read as the value of its tree
pub read-snapshot_text : (s : State) → IsValidState s → IsHeldState s → read (snapshot_text s) ≡ Some (data_of (tree_of_state s))
unfolding snapshot_text
read-snapshot_text s valid held = read-text_of (tree_of_state s) held.tree (tree_order s valid)

same_state : (settings : Settings) (s : State) → s.settings ≡ settings → s.pruned ≡ None → record s { pruned = None; settings = settings } ≡ s
same_state settings s set unpruned = λ i. record s { pruned = sym unpruned i; settings = sym set i }

-- the reading of a snapshot gives its state
pub snapshot_back : (settings : Settings) (s : State) (bytes : List ℕ) → IsHeldState s → IsSnapshotOf settings s bytes
    → option_and_then (record_in (state settings)) (read bytes) ≡ Some s
snapshot_back settings s bytes held is =
    ap (λ text. option_and_then (record_in (state settings)) (read text)) (sym is.text)
    ∙ (ap (option_and_then (record_in (state settings))) (read-snapshot_text s is.valid held)
    ∙ (tree_back settings s held ∙ ap (λ (x : State). Some x) (same_state settings s is.has_settings is.unpruned)))

some_is : (s t : State) → ◌≡◌ {A = Option State} (Some s) (Some t) → s ≡ t
some_is s t is = cc

-- two states with one text are one
pub one_state : (settings : Settings) (s t : State) (bytes : List ℕ) → IsHeldState s → IsHeldState t → IsSnapshotOf settings s bytes → IsSnapshotOf settings t bytes → s ≡ t
one_state settings s t bytes held also is too = some_is s t (sym (snapshot_back settings s bytes held is) ∙ snapshot_back settings t bytes also too)
