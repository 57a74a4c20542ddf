use Rattle.std.proofs.Common.{◌≡◌, IsTrue, IfOk, List, sym, ap, subst, ◌∙◌}
use Rattle.std.specs.List.{filter}
use Rattle.lg_calls.specs.Task.{Task}
use Rattle.lg_calls.specs.Tasks.{have_rising_numbers}
use Rattle.lg_calls.specs.Work.Rank.{by_rank}
use Rattle.lg_calls.specs.Work.Walk.{goes_over, is_trivial, walk}
use Rattle.lg_views.specs.Lent.{lent}
use Rattle.lg_work.proofs.walk.walk.Goals as goal

pub by_rank-requires : goal.by_rank-requires
by_rank-requires c =
    let s = c.args.state.now in
    let worker = c.args.worker.now in
    let over : lent c.in_ok-over.over.items ≡ filter (goes_over c.is_trivial-trivial.result worker) s.tasks =
    c.in_ok-over.ensures in
    subst (λ tasks. IsTrue (have_rising_numbers tasks)) (sym over)
    ((c.numbers_keep_rising.ensures s.tasks c.requires.numbers_rise).kept (goes_over c.is_trivial-trivial.result worker))

pub returns : goal.returns
unfolding walk
returns c =
    let s = c.args.state.now in
    let worker = c.args.worker.now in
    let over : lent c.in_ok-over.over.items ≡ filter (goes_over (is_trivial worker s) worker) s.tasks =
    c.in_ok-over.ensures ∙ ap (λ trivial. filter (goes_over trivial worker) s.tasks) c.is_trivial-trivial.ensures in
    subst (λ (tasks : List Task). IfOk c.by_rank.result (λ ranked. lent ranked.items ≡ by_rank tasks)) over c.by_rank.ensures
