use Rattle.std.proofs.Common.{codes, drop}
use Rattle.std.proofs.lemmas.Result.{on_ok_weaker}
use Rattle.lg_base.specs.declared.faults.NoMemory.{NoMemory}
use Rattle.lg_json.specs.Tree.{truth}
use Rattle.lg_snapshot.specs.Trees.{number, moment, listed, amounts}
use Rattle.lg_snapshot.specs.Records.{state_fields, tree_of_worker, tree_of_batcher, tree_of_task}
use Rattle.lg_snapshot.proofs.FieldLemmas.{record_step, more_step}
use Rattle.lg_snapshot.proofs.HoldingLemmas.{OnOk-anyway}
use Rattle.lg_snapshot.proofs.encoding.write_state.Goals as goal

pub returns-clause-written : goal.returns-clause-written
returns-clause-written c =
    let state = c.args.state.now in
    on_ok_weaker {T = Unit {0}} {E = NoMemory} c.end.result
    (λ last.
    record_step _ _ _ (codes "batchers") (listed tree_of_batcher state.batchers) (drop 1 (state_fields state)) c.in_ok-first.ensures.written
    (more_step _ _ _ (codes "limits") (amounts state.limits) (drop 2 (state_fields state)) _ c.in_ok-next.ensures.written
    (more_step _ _ _ (codes "moment") (moment state.moment) (drop 3 (state_fields state)) _ c.in_ok-next-2.ensures.written
    (more_step _ _ _ (codes "next") (number state.next) (drop 4 (state_fields state)) _ c.in_ok-next-3.ensures.written
    (more_step _ _ _ (codes "paused") (truth state.paused) (drop 5 (state_fields state)) _ c.in_ok-next-4.ensures.written
    (more_step _ _ _ (codes "tasks") (listed tree_of_task state.tasks) (drop 6 (state_fields state)) _ c.in_ok-next-5.ensures.written
    (more_step _ _ _ (codes "version") (number 1) (drop 7 (state_fields state)) _ c.in_ok-next-6.ensures.written
    (more_step _ _ _ (codes "workers") (listed tree_of_worker state.workers) (drop 8 (state_fields state)) _ c.in_ok-next-7.ensures.written
    last))))))))
    c.end.ensures

pub returns-clause-held : goal.returns-clause-held
returns-clause-held c =
    OnOk-anyway c.end.result
    (record {
      tree = (c.in_ok-first.ensures.held.0, c.in_ok-first.ensures.held.1, (c.in_ok-next.ensures.held.0, c.in_ok-next.ensures.held.1, (c.in_ok-next-2.ensures.held.0, c.in_ok-next-2.ensures.held.1, (c.in_ok-next-3.ensures.held.0, c.in_ok-next-3.ensures.held.1, (c.in_ok-next-4.ensures.held.0, c.in_ok-next-4.ensures.held.1, (c.in_ok-next-5.ensures.held.0, c.in_ok-next-5.ensures.held.1, (c.in_ok-next-6.ensures.held.0, c.in_ok-next-6.ensures.held.1, (c.in_ok-next-7.ensures.held.0, c.in_ok-next-7.ensures.held.1, tt))))))));
      limits = c.in_ok-next.ensures.held.2;
      tasks = c.in_ok-next-5.ensures.held.2;
      workers = c.in_ok-next-7.ensures.held.2;
    })
