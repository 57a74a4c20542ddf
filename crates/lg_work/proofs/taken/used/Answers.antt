use Rattle.std.proofs.Common.{◌≡◌, ◌+◌, ◌≤◌, [], ◌∷◌, length, ap, ◌∙◌, arith}
use Rattle.std.proofs.lemmas.List.{take_all}
use Rattle.lg_calls.specs.declared.status.Status.TheVariants.{Running}
use Rattle.lg_calls.specs.Use.{use_by, with_status}
use Rattle.lg_work.specs.Sums.{sum_of}
use Rattle.lg_work.proofs.UseLemmas.{use-more}
use Rattle.lg_work.proofs.taken.used.Goals as goal

pub loop-task-init : goal.loop-task-init
loop-task-init c = record {
  so_far = λ name i. c.new-used.ensures i name;
  small = λ name. let none : sum_of c.new-used.result name ≡ 0 = (λ i. c.new-used.ensures i name) in omega (arith, none);
}

pub use_more-requires : goal.use_more-requires
use_more-requires c = λ name. let few : c.loop-task.task-index ≤ 1000000 = omega (arith, c.requires) in omega (arith, few, c.loop-task.invariant.small name)

pub loop-task-preserved : goal.loop-task-preserved
loop-task-preserved c = record {
  so_far = λ name.
      c.in_ok-use_more.ensures.used name
      ∙ ap (λ n. n + use_by (with_status Running (c.task-item.result ∷ [])) name) (c.loop-task.invariant.so_far name)
      ∙ use-more name c.args.tasks.now c.loop-task.task-index c.task-item.result (omega arith) c.task-item.is;
  small = λ name. omega (arith, c.in_ok-use_more.ensures.small name, c.loop-task.invariant.small name);
}

pub returns : goal.returns
returns c =
    let tasks = c.args.tasks.now in
    let past : length tasks ≤ c.loop-task.task-index = omega arith in
    λ i name. (c.loop-task.invariant.so_far name ∙ ap (λ ts. use_by (with_status Running ts) name) (take_all c.loop-task.task-index tasks past)) i
