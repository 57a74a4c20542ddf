use Rattle.std.proofs.Common.{◌≡◌, ℕ, ◌+◌, ◌<◌, ◌^◌, List, OnOk, subst}
use Rattle.lg_base.specs.Amounts.{amount_of}
use Rattle.lg_calls.specs.Task.{Task}
use Rattle.lg_work.specs.Sums.{sum_of}
use Rattle.lg_work.proofs.sums.Sums.add_task.Goals as goal

pub returns : goal.returns
returns c = record {
  added = subst (λ (task : Task). OnOk c.add.result (sum_of c.add.new.self ≡ (λ name. sum_of c.args.self.now name + amount_of task.resources name))) c.task.view_is c.add.ensures.added;
  small = subst (λ (task : Task). OnOk c.add.result ((name : List ℕ) → amount_of task.resources name < 2 ^ 32)) c.task.view_is c.add.ensures.small;
}
