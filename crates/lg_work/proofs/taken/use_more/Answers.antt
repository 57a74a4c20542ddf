use Rattle.std.proofs.Common.{◌≡◌, ◌+◌, true, false, sym, ◌∙◌, arith}
use Rattle.std.proofs.lemmas.Result.{on_ok_weaker}
use Rattle.lg_base.specs.Amounts.{amount_of}
use Rattle.lg_calls.specs.declared.status.Status.TheVariants.{Running}
use Rattle.lg_calls.specs.Status.{is_status}
use Rattle.lg_work.specs.Sums.{sum_of}
use Rattle.lg_work.proofs.UseLemmas.{use-one, use-none, on_both}
use Rattle.lg_work.proofs.taken.use_more.Goals as goal

pub returns-then-is_running : goal.returns-then-is_running
returns-then-is_running c =
    let task = c.args.task.now in
    let before = sum_of c.args.used.now in
    let running : is_status Running task.status ≡ true = sym c.is_running.ensures ∙ c.if-is_running.true in
    record {
      used = on_ok_weaker c.add_task.result (λ added name. (λ i. added i name) ∙ use-one name task running (before name)) c.add_task.ensures.added;
      small = on_both c.add_task.result
          (λ added small name.
          let grown : sum_of c.add_task.new.self name ≡ before name + amount_of task.resources name = (λ i. added i name) in
          omega (arith, grown, small name))
          c.add_task.ensures.added c.add_task.ensures.small;
    }

pub returns-else-is_running : goal.returns-else-is_running
returns-else-is_running c =
    let task = c.args.task.now in
    let rests : is_status Running task.status ≡ false = sym c.is_running.ensures ∙ c.if-is_running.false in
    record { used = λ name. use-none name task rests (sum_of c.args.used.now name); small = λ name. omega arith }
