use Rattle.std.proofs.Common.{Some, None, sym, ◌∙◌, subst}
use Rattle.std.proofs.lemmas.List.{append-nil}
use Rattle.lg_calls.specs.Paths.{is_path_through}
use Rattle.lg_calls.specs.Upstream.{waits_for}
use Rattle.lg_views.specs.Walking.{IsMarkedBy}
use Rattle.lg_views.proofs.WalkLemmas.{IsWalked-begin, IsWalked-more, IsWalked-end, ahead-known}
use Rattle.lg_views.proofs.upstream.walk_from.Goals as goal

pub loop-place-init : goal.loop-place-init
loop-place-init g c =
    IsWalked-begin waits_for (g.K.Look.shelf c.args.state.now) c.args.task.now c.args.walk.now c.spread.new.walk c.requires.fresh c.spread.ensures

pub loop-place-preserved-in-None : goal.loop-place-preserved-in-None
loop-place-preserved-in-None g c =
    absurd
    (ahead-known waits_for (g.K.Look.shelf c.args.state.now) c.args.task.now c.loop-place.walk c.take.new.self.places.items c.in-Some.place c.loop-place.invariant c.in-Some.ensures.places
    (sym c.in-None.ensures))

pub loop-place-preserved : goal.loop-place-preserved
loop-place-preserved g c =
    IsWalked-more waits_for (g.K.Look.shelf c.args.state.now) c.args.task.now c.loop-place.walk c.take.new.self c.spread-in-Some-at.new.walk c.in-Some.place c.in-Some-at.next.now c.loop-place.invariant
    c.in-Some.ensures.places c.in-Some.ensures.marks (sym c.in-Some-at.ensures) c.spread-in-Some-at.ensures

pub returns : goal.returns
returns g c =
    let shelf = g.K.Look.shelf c.args.state.now in
    let h = c.in_default.ensures in
    subst (λ tasks. IsMarkedBy shelf (is_path_through waits_for tasks c.args.task.now) c.take.new.self) (g.met.K.Look.holds_the_tasks c.args.state.now)
    (IsWalked-end waits_for shelf c.args.task.now c.loop-place.walk c.take.new.self c.loop-place.invariant h.marks (h.places ∙ append-nil _) h.over)
