use Rattle.std.proofs.Common.{ap, ◌∙◌}
use Rattle.std.specs.Cmp.Lexicographic.{slice_cmp}
use Rattle.std.specs.Ordering.{nat_cmp}
use Rattle.lg_plain.specs.Index.{id_at}
use Rattle.lg_plain.proofs.IndexLemmas.{index-found, index-missing, searchable}
use Rattle.lg_plain.proofs.index.Index.place_of.Goals as goal

pub returns-in-Ok : goal.returns-in-Ok
returns-in-Ok c =
    let place = c.index.result.now in
    let tasks = c.args.tasks.now in
    index-found c.args.id.now tasks c.args.self.now c.in-Ok.at place c.requires.index c.requires.distinct c.in-Ok.ensures.bound c.index.ensures
    (ap (λ p. slice_cmp nat_cmp (id_at tasks p) c.args.id.now) c.index.ensures ∙ c.in-Ok.ensures.position place)

pub returns-in-Err : goal.returns-in-Err
returns-in-Err c =
    index-missing c.args.id.now c.args.tasks.now c.args.self.now c.in-Err.field-0 c.requires.index
    (c.in-Err.ensures.position (searchable c.args.tasks.now c.args.self.now c.args.id.now c.requires.index))
