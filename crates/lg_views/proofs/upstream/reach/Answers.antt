use Rattle.std.proofs.Common.{◌≡◌, true, false, None, sym, ap, ◌∙◌, subst, arith}
use Rattle.std.proofs.lemmas.List.{get_or_read}
use Rattle.std.specs.Option.{option_and_then}
use Rattle.lg_calls.specs.Look.{task_at, place_of}
use Rattle.lg_calls.specs.Tasks.{have_distinct_ids}
use Rattle.lg_views.proofs.ShelfLemmas.{place-is}
use Rattle.lg_views.proofs.WalkLemmas.{reached-more, reached-same, reached-nobody}
use Rattle.lg_views.proofs.upstream.reach.Goals as goal

pub returns-then-not-index : goal.returns-then-not-index
returns-then-not-index g c =
    let shelf = g.K.Look.shelf c.args.state.now in
    let distinct = subst (λ tasks. have_distinct_ids tasks ≡ true) (sym (g.met.K.Look.holds_the_tasks c.args.state.now)) c.requires.look.ids_differ in
    reached-more c.args.id.now shelf c.args.walk.now c.mark.new.self c.in-Some.place distinct (place-is c.args.id.now shelf c.in-Some.place (sym c.in-Some.ensures)) c.requires.count
    c.mark.ensures.marks c.mark.ensures.places c.mark.ensures.rest

pub returns-else-not-index : goal.returns-else-not-index
returns-else-not-index g c =
    let shelf = g.K.Look.shelf c.args.state.now in
    let distinct = subst (λ tasks. have_distinct_ids tasks ≡ true) (sym (g.met.K.Look.holds_the_tasks c.args.state.now)) c.requires.look.ids_differ in
    let is = place-is c.args.id.now shelf c.in-Some.place (sym c.in-Some.ensures) in
    reached-same c.args.id.now shelf c.args.walk.now c.in-Some.place distinct is
    (sym (get_or_read c.args.walk.now.marks.items c.in-Some.place c.index.result.now (omega (arith, is.inside, c.requires.count)) c.index.ensures false) ∙ c.if-not-index.false)

pub returns-in_default : goal.returns-in_default
returns-in_default g c =
    let shelf = g.K.Look.shelf c.args.state.now in
    let none : None ≡ place_of c.args.id.now shelf = sym c.in_default.is ∙ c.find.ensures in
    reached-nobody c.args.id.now shelf c.args.walk.now
    (sym (c.who_is_found_stands_at_its_place.ensures c.args.id.now shelf) ∙ ap (option_and_then (task_at shelf)) (sym none))
