use Rattle.std.proofs.Common.{Some, None, sym, ap, ◌∙◌, w64}
use Rattle.std.proofs.lemmas.Int.{to_z-of_z}
use Rattle.lg_calls.specs.Raising.{leads_from}
use Rattle.lg_plain.specs.Walking.{leads_at}
use Rattle.lg_plain.proofs.WalkLemmas.{place-position}
use Rattle.lg_plain.proofs.raising.mark_raised.Goals as goal

pub returns-in-Some-clause-marked : goal.returns-in-Some-clause-marked
returns-in-Some-clause-marked c = λ place task at.
    let placed = place-position c.args.id.now c.args.tasks.now (Some c.in-Some.root) c.in-Some.ensures in
    c.walk_from.ensures.marked place task at
    ∙ ap (λ p. leads_at p c.args.tasks.now c.in-Some.root task) (to_z-of_z w64 c.args.priority c.ranges.priority)
    ∙ ap (λ o. leads_from c.args.priority c.args.tasks.now o task) (sym placed.0)

pub returns-in_default-clause-marked : goal.returns-in_default-clause-marked
returns-in_default-clause-marked c = λ place task at.
    let none = place-position c.args.id.now c.args.tasks.now None (sym c.in_default.is ∙ c.place_of.ensures) in
    c.requires.fresh.unmarked place ∙ ap (λ o. leads_from c.args.priority c.args.tasks.now o task) (sym none)
