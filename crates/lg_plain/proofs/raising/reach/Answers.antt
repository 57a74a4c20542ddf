use Rattle.std.proofs.Common.{◌≡◌, int_lt, length, Some, None, false, refl, sym, ap, ◌∙◌, arith, w64}
use Rattle.std.proofs.lemmas.Int.{to_z-of_z}
use Rattle.std.specs.List.{slice_get}
use Rattle.std.proofs.lemmas.List.{get_or_read}
use Rattle.std.proofs.lemmas.Option.{slice_get_read}
use Rattle.lg_plain.proofs.WalkLemmas.{place-position, reached-more, reached-same, reached-nobody, not-true}
use Rattle.lg_plain.proofs.raising.reach.Goals as goal
use Rattle.lg_plain.proofs.raising.reach.Goals.{else-is_below-via-then-is_below+else-not-index, else-is_below-via-else-is_below}

pub returns-then-not-index : goal.returns-then-not-index
returns-then-not-index c =
    let tasks = c.args.tasks.now in
    let place = c.in-Some.place in
    let task = c.index-tasks-place.result in
    let placed = place-position c.args.id.now tasks (Some place) c.in-Some.ensures in
    let at : slice_get tasks place ≡ Some task = slice_get_read tasks (length tasks) place task refl placed.1 c.index-tasks-place.is in
    reached-more c.args.priority c.args.id.now tasks c.args.walk.now c.mark.new.self place task c.requires.distinct placed.0 at
    (ap (int_lt task.priority) (sym (to_z-of_z w64 c.args.priority c.ranges.priority)) ∙ sym c.is_below.ensures ∙ c.if-is_below.true) (omega arith) c.mark.ensures.marks c.mark.ensures.places c.mark.ensures.rest

pub returns-else-is_below : goal.returns-else-is_below
returns-else-is_below c =
    let tasks = c.args.tasks.now in
    let place = c.in-Some.place in
    let task = c.index-tasks-place.result in
    let placed = place-position c.args.id.now tasks (Some place) c.in-Some.ensures in
    let at : slice_get tasks place ≡ Some task = slice_get_read tasks (length tasks) place task refl placed.1 c.index-tasks-place.is in
    reached-same c.args.priority c.args.id.now tasks c.args.walk.now place task c.requires.distinct placed.0 at
    (elim c.else-is_below.branch [
      | else-is_below-via-then-is_below+else-not-index w ↦
          (λ lower. sym (get_or_read c.args.walk.now.marks.items place w.index.result.now (omega arith) w.index.ensures false) ∙ w.if-not-index.false)
      | else-is_below-via-else-is_below w ↦
          (λ lower. absurd (not-true (int_lt task.priority c.args.priority) (ap (int_lt task.priority) (sym (to_z-of_z w64 c.args.priority c.ranges.priority)) ∙ sym c.is_below.ensures ∙ w.if-is_below.false) lower))
    ])

pub returns-in_default : goal.returns-in_default
returns-in_default c =
    reached-nobody c.args.priority c.args.id.now c.args.tasks.now c.args.walk.now
    (place-position c.args.id.now c.args.tasks.now None (sym c.in_default.is ∙ c.place_of.ensures))
