use Rattle.std.proofs.Common.{◌≡◌, ℤ, ◌<◌, ◌++◌, true, false, Some, length, take, drop, cond, refl, sym, ap, ◌∙◌, subst, arith, to_z, of_z, w64}
use Rattle.std.specs.List.{slice_get}
use Rattle.std.proofs.lemmas.Int.{to_z-of_z}
use Rattle.std.proofs.lemmas.List.{get_or_read, append-nil}
use Rattle.std.proofs.lemmas.Option.{slice_get_read}
use Rattle.std.proofs.Math.Seq.{take-length, drop-length}
use Rattle.lg_calls.specs.Raising.{is_raised, with_priority, raised}
use Rattle.lg_calls.specs.Tasks.{change_meant}
use Rattle.lg_plain.specs.Walking.{is_marked}
use Rattle.lg_plain.proofs.PreparedLemmas.{read-initially, set-change_meant}
use Rattle.lg_plain.proofs.raising.raise_along.Goals as goal
use Rattle.lg_plain.proofs.raising.raise_along.Goals.{then-index, else-index}

pub loop-place-preserved : goal.loop-place-preserved
loop-place-preserved c =
    let p : ℤ = to_z w64 (of_z w64 c.args.priority) in
    let tasks = c.args.tasks.now in
    let meant = is_raised p c.args.id.now tasks in
    let walk = c.mark_raised.new.walk in
    let ys = c.loop-place.tasks in
    let i = c.loop-place.place in
    let task = c.index-tasks-place.result in
    let inside : i < length tasks = omega arith in
    let initially = read-initially (λ t. cond (meant t) (with_priority p t) t) tasks ys i task inside c.loop-place.invariant c.index-tasks-place.is in
    let at : slice_get tasks i ≡ Some task = slice_get_read tasks (length tasks) i task refl inside initially in
    let mark : is_marked walk i ≡ c.index.result.now = sym (get_or_read walk.marks.items i c.index.result.now (omega (arith, c.mark_raised.ensures.count)) c.index.ensures false) in
    elim c.if-index.branch [
      | then-index w ↦
          (w.tasks-is
          ∙ set-change_meant meant (with_priority p) tasks ys i task _ true inside c.loop-place.invariant c.index-tasks-place.is
          (sym (c.mark_raised.ensures.marked i task at) ∙ mark ∙ w.if-index.true) (ap (with_priority p) (c.task.view_is ∙ sym c.index-tasks-place.is)))
      | else-index w ↦
          (w.tasks-is
          ∙ set-change_meant meant (with_priority p) tasks ys i task _ false inside c.loop-place.invariant c.index-tasks-place.is
          (sym (c.mark_raised.ensures.marked i task at) ∙ mark ∙ w.if-index.false) (sym c.index-tasks-place.is))
    ]

pub returns : goal.returns
returns c =
    let p : ℤ = to_z w64 (of_z w64 c.args.priority) in
    let tasks = c.args.tasks.now in
    let end : c.loop-place.place ≡ length tasks = omega arith in
    let meant = is_raised p c.args.id.now tasks in
    let front = ap (λ i. change_meant meant (with_priority p) (take i tasks)) end ∙ ap (change_meant meant (with_priority p)) (take-length tasks) in
    let behind = ap (λ i. drop i tasks) end ∙ drop-length tasks in
    subst (λ q. c.loop-place.tasks ≡ raised q c.args.id.now tasks) (to_z-of_z w64 c.args.priority c.ranges.priority)
    (c.loop-place.invariant ∙ (λ i. front i ++ behind i) ∙ append-nil (change_meant meant (with_priority p) tasks))
