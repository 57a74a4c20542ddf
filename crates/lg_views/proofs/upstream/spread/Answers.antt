use Rattle.std.proofs.Common.{◌≡◌, Bool, true, false, ◌&&◌, refl, sym, ap, ◌∙◌, subst}
use Rattle.lg_calls.specs.Task.{Task}
use Rattle.lg_calls.specs.Upstream.{is_open}
use Rattle.lg_views.specs.Walking.{Marks, has_one_of}
use Rattle.lg_views.proofs.WalkLemmas.{Marks-none}
use Rattle.lg_views.proofs.upstream.spread.Goals as goal

pub returns-then-is_open : goal.returns-then-is_open
returns-then-is_open g c =
    let shelf = g.K.Look.shelf c.args.state.now in
    let task = c.args.task.now in
    let open_is : is_open task ≡ true = sym c.is_open.ensures ∙ c.if-is_open.true in
    subst (λ (b : Bool). Marks shelf (λ other. b && has_one_of task.deps other) c.args.walk.now c.spread_to.new.walk) (sym open_is)
    (subst (λ ids. Marks shelf (has_one_of ids) c.args.walk.now c.spread_to.new.walk) (c.as_slice.ensures ∙ ap (λ (t : Task). t.deps) c.task.view_is) c.spread_to.ensures)

pub returns-else-is_open : goal.returns-else-is_open
returns-else-is_open g c =
    let shelf = g.K.Look.shelf c.args.state.now in
    let task = c.args.task.now in
    let open_is : is_open task ≡ false = sym c.is_open.ensures ∙ c.if-is_open.false in
    subst (λ (b : Bool). Marks shelf (λ other. b && has_one_of task.deps other) c.args.walk.now c.args.walk.now) (sym open_is)
    (Marks-none shelf (λ other. false && has_one_of task.deps other) c.args.walk.now (λ t. refl))
