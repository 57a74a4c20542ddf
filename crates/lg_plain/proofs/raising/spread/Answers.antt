use Rattle.std.proofs.Common.{◌≡◌, ◌∷◌, [], ◌++◌, ◌+◌, length, take, sym, ap, ◌∙◌, subst, arith, to_z, of_z, w64}
use Rattle.std.proofs.lemmas.Int.{to_z-of_z}
use Rattle.std.proofs.lemmas.List.{take_more}
use Rattle.std.proofs.Math.Seq.{take-length}
use Rattle.lg_calls.specs.Task.{Task}
use Rattle.lg_calls.specs.Raising.{goes_to}
use Rattle.lg_plain.specs.Walking.{Marks}
use Rattle.lg_plain.proofs.WalkLemmas.{Marks-none, Marks-append}
use Rattle.lg_plain.proofs.raising.spread.Goals as goal

pub loop-dep-init : goal.loop-dep-init
loop-dep-init c = Marks-none (to_z w64 (of_z w64 c.args.priority)) c.args.tasks.now c.args.walk.now

pub loop-dep-preserved : goal.loop-dep-preserved
loop-dep-preserved c =
    let deps = c.as_slice-dep-items.result.now in
    let i = c.loop-dep.dep-index in
    let dep = c.dep-item.result in
    let more : take (i + 1) deps ≡ take i deps ++ dep ∷ [] = take_more deps i dep (omega arith) ∙ ap (λ d. take i deps ++ d ∷ []) (sym c.dep-item.is) in
    subst (λ l. Marks c.args.tasks.now (goes_to (to_z w64 (of_z w64 c.args.priority)) l) c.args.walk.now c.reach.new.walk) (sym more)
    (Marks-append (to_z w64 (of_z w64 c.args.priority)) c.args.tasks.now (take i deps) (dep ∷ []) c.args.walk.now c.loop-dep.walk c.reach.new.walk c.loop-dep.invariant c.reach.ensures)

pub returns : goal.returns
returns c =
    let tasks = c.args.tasks.now in
    let deps = c.as_slice-dep-items.result.now in
    let same = to_z-of_z w64 c.args.priority c.ranges.priority in
    let all : take c.loop-dep.dep-index deps ≡ c.args.task.now.deps =
    (let end : c.loop-dep.dep-index ≡ length deps = omega arith in ap (λ i. take i deps) end)
    ∙ take-length deps ∙ c.as_slice-dep-items.ensures ∙ ap (λ (t : Task). t.deps) c.task.view_is
    in
    subst (λ p. Marks tasks (goes_to p c.args.task.now.deps) c.args.walk.now c.loop-dep.walk) same
    (subst (λ l. Marks tasks (goes_to (to_z w64 (of_z w64 c.args.priority)) l) c.args.walk.now c.loop-dep.walk) all c.loop-dep.invariant)
