use Rattle.std.proofs.Common.{w64, SFits, rules, refl}
use Rattle.std.proofs.lemmas.Int.{to_z-of_z}
use Rattle.lg_calls.proofs.ReadingLemmas.{then_reads, stopped_reads, done_reads}
use Rattle.lg_calls.proofs.methods.add_task.read_demands.Goals as goal

pub returns-in_err-deps : goal.returns-in_err-deps
returns-in_err-deps c =
    stopped_reads _ _ _ _ _ _ _ c.in_err-deps.ensures c.from_residual.ensures.1

pub returns-in_err-new_deps : goal.returns-in_err-new_deps
returns-in_err-new_deps c =
    then_reads _ _ _ _ _ _ _ c.in_ok-deps.ensures (stopped_reads _ _ _ _ _ _ _ c.in_err-new_deps.ensures c.from_residual-in_err-new_deps.ensures.1)

pub returns-in_err-expl : goal.returns-in_err-expl
returns-in_err-expl c =
    then_reads _ _ _ _ _ _ _ c.in_ok-deps.ensures (then_reads _ _ _ _ _ _ _ c.in_ok-new_deps.ensures (stopped_reads _ _ _ _ _ _ _ c.in_err-expl.ensures c.from_residual-in_err-expl.ensures.1))

pub returns-in_err-resources : goal.returns-in_err-resources
returns-in_err-resources c =
    then_reads _ _ _ _ _ _ _ c.in_ok-deps.ensures (then_reads _ _ _ _ _ _ _ c.in_ok-new_deps.ensures (then_reads _ _ _ _ _ _ _ c.in_ok-expl.ensures (stopped_reads _ _ _ _ _ _ _ c.in_err-resources.ensures c.from_residual-in_err-resources.ensures.1)))

pub returns-in_err-priority : goal.returns-in_err-priority
returns-in_err-priority c =
    then_reads _ _ _ _ _ _ _ c.in_ok-deps.ensures (then_reads _ _ _ _ _ _ _ c.in_ok-new_deps.ensures (then_reads _ _ _ _ _ _ _ c.in_ok-expl.ensures (then_reads _ _ _ _ _ _ _ c.in_ok-resources.ensures (stopped_reads _ _ _ _ _ _ _ c.in_err-priority.ensures c.from_residual-in_err-priority.ensures.1))))

pub returns : goal.returns
returns c =
    let fits : SFits w64 c.unwrap_or-3.result = search rules in
    then_reads _ _ _ _ _ _ _ c.in_ok-deps.ensures (then_reads _ _ _ _ _ _ _ c.in_ok-new_deps.ensures (then_reads _ _ _ _ _ _ _ c.in_ok-expl.ensures (then_reads _ _ _ _ _ _ _ c.in_ok-resources.ensures (then_reads _ _ _ _ _ _ _ c.in_ok-priority.ensures (done_reads _ _ _ (rw (to_z-of_z w64 c.unwrap_or-3.result fits, c.unwrap_or.ensures, c.new.ensures, c.unwrap_or-2.ensures, c.new-2.ensures, c.unwrap_or-3.ensures) refl))))))
