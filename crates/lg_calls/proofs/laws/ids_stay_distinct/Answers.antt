use Rattle.lg_calls.proofs.TaskLemmas.{have_distinct_ids-change_meant, have_distinct_ids-add_task, have_distinct_ids-keep_tasks}
use Rattle.lg_calls.proofs.laws.ids_stay_distinct.Goals as goal

pub returns : goal.returns
returns c tasks apart = record {
  changed = λ is_meant change keeps. have_distinct_ids-change_meant is_meant change keeps tasks apart;
  added = λ task new. have_distinct_ids-add_task task tasks apart new;
  kept = λ stays. have_distinct_ids-keep_tasks stays tasks apart;
}
