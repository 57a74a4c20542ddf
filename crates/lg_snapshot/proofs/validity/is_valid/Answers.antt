use Rattle.std.proofs.Common.{◌≡◌, true, false, sym, ap, subst, ◌∙◌}
use Rattle.std.specs.Prelude.{IfOk}
use Rattle.std.specs.List.{list_all}
use Rattle.lg_calls.specs.Order.{are_distinct}
use Rattle.lg_calls.specs.Tasks.{ids_of}
use Rattle.lg_snapshot.specs.Validity.{passes_in}
use Rattle.lg_snapshot.proofs.ValidityLemmas.{fails_outside, fails_twice, tasks_decide}
use Rattle.lg_snapshot.proofs.validity.is_valid.Goals as goal

pub returns-then-not-outside_passes : goal.returns-then-not-outside_passes
returns-then-not-outside_passes c = fails_outside c.args.state.now (sym c.outside_passes.ensures ∙ c.if-not-outside_passes.true)

pub returns-then-not-branch : goal.returns-then-not-branch
returns-then-not-branch c =
    let twice : are_distinct (ids_of c.args.state.now.tasks) ≡ false = ap (λ ts. are_distinct (ids_of ts)) (sym c.as_slice.ensures) ∙ (sym c.in_ok-are_distinct.ensures ∙ c.if-not-branch.true) in
    fails_twice c.args.state.now (sym c.outside_passes.ensures ∙ c.if-not-outside_passes.false) twice

pub returns : goal.returns
returns c =
    let s = c.args.state.now in
    let once : are_distinct (ids_of s.tasks) ≡ true = ap (λ ts. are_distinct (ids_of ts)) (sym c.as_slice.ensures) ∙ (sym c.in_ok-are_distinct.ensures ∙ c.if-not-branch.false) in
    tasks_decide s _ (sym c.outside_passes.ensures ∙ c.if-not-outside_passes.false) once
    (subst (λ ts. IfOk c.tasks_pass.result (λ b. b ≡ list_all (passes_in s.moment s.next) ts)) c.as_slice-2.ensures c.tasks_pass.ensures)
