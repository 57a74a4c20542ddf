use Rattle.std.proofs.Common.{◌≡◌, length, Some, refl, ◌∙◌, subst, rules, to_z, of_z, w64}
use Rattle.std.specs.List.{slice_get}
use Rattle.std.proofs.lemmas.Int.{to_z-of_z}
use Rattle.std.proofs.lemmas.List.{append-nil}
use Rattle.std.proofs.lemmas.Option.{slice_get_read}
use Rattle.lg_plain.proofs.WalkLemmas.{IsWalked, IsWalked-begin, IsWalked-more, ahead-known, IsMarkedBy-empty}
use Rattle.lg_plain.proofs.raising.walk_from.Goals as goal

pub loop-place-init : goal.loop-place-init
loop-place-init c =
    IsWalked-begin (to_z w64 (of_z w64 c.args.priority)) c.args.tasks.now c.args.root c.args.walk.now c.begin.new.self c.requires.fresh c.begin.ensures.marks c.begin.ensures.places

pub bounds-tasks-place : goal.bounds-tasks-place
bounds-tasks-place c =
    ahead-known _ c.args.tasks.now c.args.root c.loop-place.walk c.take.new.self.places.items c.in-Some.place c.loop-place.invariant c.requires.known c.in-Some.ensures.places

pub offset_bounds-tasks-place : goal.offset_bounds-tasks-place
offset_bounds-tasks-place c =
    let inside = ahead-known _ c.args.tasks.now c.args.root c.loop-place.walk c.take.new.self.places.items c.in-Some.place c.loop-place.invariant c.requires.known c.in-Some.ensures.places in
    search rules

pub loop-place-preserved : goal.loop-place-preserved
loop-place-preserved c =
    let tasks = c.args.tasks.now in
    let place = c.in-Some.place in
    let task = c.index-tasks-place.result in
    let inside = ahead-known _ tasks c.args.root c.loop-place.walk c.take.new.self.places.items place c.loop-place.invariant c.requires.known c.in-Some.ensures.places in
    let at : slice_get tasks place ≡ Some task = slice_get_read tasks (length tasks) place task refl inside c.index-tasks-place.is in
    IsWalked-more (to_z w64 (of_z w64 c.args.priority)) tasks c.args.root c.loop-place.walk c.take.new.self c.spread.new.walk place task c.loop-place.invariant c.in-Some.ensures.places
    c.in-Some.ensures.marks at c.spread.ensures

pub returns-clause-marked : goal.returns-clause-marked
returns-clause-marked c =
    let tasks = c.args.tasks.now in
    let h = c.in_default.ensures in
    let same = to_z-of_z w64 c.args.priority c.ranges.priority in
    IsMarkedBy-empty c.args.priority tasks c.args.root c.loop-place.walk c.take.new.self c.requires.known
    (subst (λ p. IsWalked p tasks c.args.root c.loop-place.walk) same c.loop-place.invariant)
    h.marks (h.places ∙ append-nil _) h.over
