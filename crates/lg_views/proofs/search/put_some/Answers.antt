use Rattle.std.proofs.Common.{◌≡◌, ℕ, ◌==◌, true, false, length, sym, subst, ◌∙◌, arith}
use Rattle.std.proofs.lemmas.Result.{on_ok_weaker}
use Rattle.std.specs.Borrow.{Bor}
use Rattle.std.specs.Prelude.{All, vec_len}
use Rattle.lg_base.specs.declared.faults.NoMemory.{NoMemory}
use Rattle.lg_calls.specs.Task.{Task}
use Rattle.lg_calls.specs.Valid.{IsValidTask}
use Rattle.lg_views.specs.Listed.{last_moment}
use Rattle.lg_views.proofs.GroupLemmas.{no_group, group_put}
use Rattle.lg_views.proofs.search.put_some.Goals as goal

pub put-requires : goal.put-requires
put-requires c =
    subst (All (λ (task : Bor Task). IsValidTask last_moment task.now)) (sym c.as_slice.ensures.value) c.in_ok-sorted.ensures.valid

pub returns : goal.returns
returns c =
    let tasks = c.args.tasks in
    let count : vec_len tasks ≡ length tasks.items = omega (arith, tasks.ok.0) in
    let some : (length tasks.items == 0) ≡ false = subst (λ (n : ℕ). (n == 0) ≡ false) count (sym c.is_empty.ensures ∙ c.if-is_empty.false) in
    on_ok_weaker {T = Unit {0}} {E = NoMemory} c.put.result
    (λ put. group_put c.args.status tasks.items c.in_ok-sorted.sorted.items c.as_slice.result.now c.word.result.now _ _ some c.word.ensures c.in_ok-sorted.ensures.same c.as_slice.ensures.value put)
    c.put.ensures

pub returns-then-is_empty : goal.returns-then-is_empty
returns-then-is_empty c =
    let tasks = c.args.tasks in
    let count : vec_len tasks ≡ length tasks.items = omega (arith, tasks.ok.0) in
    no_group c.args.status tasks.items _ (subst (λ (n : ℕ). (n == 0) ≡ true) count (sym c.is_empty.ensures ∙ c.if-is_empty.true))
