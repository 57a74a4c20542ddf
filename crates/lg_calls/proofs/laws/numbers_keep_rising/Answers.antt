use Rattle.lg_calls.proofs.TaskLemmas.{have_rising_numbers-change_meant, have_rising_numbers-add_task, have_rising_numbers-keep_tasks}
use Rattle.lg_calls.proofs.laws.numbers_keep_rising.Goals as goal

pub returns : goal.returns
returns c tasks rise = record {
  changed = λ is_meant change keeps. have_rising_numbers-change_meant is_meant change keeps tasks rise;
  added = λ task below. have_rising_numbers-add_task task tasks rise below;
  kept = λ stays. have_rising_numbers-keep_tasks stays tasks rise;
}
