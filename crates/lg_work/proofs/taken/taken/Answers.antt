use Rattle.std.proofs.Common.{◌≡◌, ℕ, true, false, cond, IfOk, List, sym, ap, subst, ◌∙◌}
use Rattle.lg_calls.specs.declared.status.Status.TheVariants.{Running}
use Rattle.lg_calls.specs.Use.{use_by, used, with_status}
use Rattle.lg_calls.specs.Work.Walk.{is_trivial}
use Rattle.lg_work.specs.Sums.{sum_of}
use Rattle.lg_work.proofs.taken.taken.Goals as goal

pub returns-then-is_trivial : goal.returns-then-is_trivial
returns-then-is_trivial c =
    let s = c.args.state.now in
    let trivial : true ≡ is_trivial c.args.worker.now s = sym c.if-is_trivial.true ∙ c.is_trivial.ensures in
    c.new.ensures ∙ (λ i name. cond (trivial i) 0 (used s name))

pub returns-else-is_trivial : goal.returns-else-is_trivial
returns-else-is_trivial c =
    let s = c.args.state.now in
    let trivial : false ≡ is_trivial c.args.worker.now s = sym c.if-is_trivial.false ∙ c.is_trivial.ensures in
    let of_state : use_by (with_status Running c.as_slice.result.now) ≡ used s = ap (λ tasks. use_by (with_status Running tasks)) c.as_slice.ensures in
    let seen : used s ≡ (λ name. cond (is_trivial c.args.worker.now s) 0 (used s name)) = λ i name. cond (trivial i) 0 (used s name) in
    subst (λ (taken : List ℕ → ℕ). IfOk c.used.result (λ sums. sum_of sums ≡ taken)) (of_state ∙ seen) c.used.ensures
