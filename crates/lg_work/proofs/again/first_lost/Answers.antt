use Rattle.std.proofs.Common.{IsTrue, List, sym, ap, subst, ◌∙◌}
use Rattle.std.specs.List.{filter}
use Rattle.std.specs.Prelude.{slice_get}
use Rattle.lg_calls.specs.Task.{Task}
use Rattle.lg_calls.specs.Tasks.{have_rising_numbers}
use Rattle.lg_calls.specs.Work.Again.{was_lost}
use Rattle.lg_calls.specs.Work.Rank.{by_rank}
use Rattle.lg_views.specs.Lent.{lent}
use Rattle.lg_work.proofs.RankLemmas.{first_by_rank}
use Rattle.lg_work.proofs.again.first_lost.Goals as goal

pub by_rank-requires : goal.by_rank-requires
by_rank-requires c =
    subst (λ tasks. IsTrue (have_rising_numbers tasks)) (sym c.in_ok-lost.ensures)
    ((c.numbers_keep_rising.ensures c.args.state.now.tasks c.requires.numbers_rise).kept (was_lost c.args.worker.now c.args.known.now))

pub returns : goal.returns
returns c =
    let tasks = c.args.state.now.tasks in
    let lost = was_lost c.args.worker.now c.args.known.now in
    c.first_of.ensures
    ∙ ap (λ ranked. slice_get (lent ranked) 0) c.as_slice.ensures.value
    ∙ ap (λ (ranked : List Task). slice_get ranked 0) (c.in_ok-ranked.ensures ∙ ap by_rank c.in_ok-lost.ensures)
    ∙ first_by_rank lost tasks (c.who_walks_by_rank.ensures tasks c.requires.numbers_rise)
    (c.who_walks_by_rank.ensures (filter lost tasks) ((c.numbers_keep_rising.ensures tasks c.requires.numbers_rise).kept lost))
