use Rattle.std.proofs.Common.{◌≡◌, IfOk, length, ap, subst, ◌∙◌, arith}
use Rattle.std.specs.Borrow.{Bor}
use Rattle.std.specs.List.{filter}
use Rattle.std.specs.Option.{option_copied}
use Rattle.std.proofs.lemmas.List.{length-map}
use Rattle.lg_calls.specs.Task.{Task}
use Rattle.lg_calls.specs.Work.Walk.{goes_over, is_trivial, walk}
use Rattle.lg_views.specs.Lent.{lent}
use Rattle.lg_work.specs.Reserving.{reserved_in}
use Rattle.lg_work.proofs.ChooseLemmas.{first_of_walk, few_walked}
use Rattle.lg_work.proofs.ReserveLemmas.{IsWithin-nothing}
use Rattle.lg_work.proofs.choose.first_candidate.Goals as goal

pub first_from-requires : goal.first_from-requires
first_from-requires c =
    let s = c.args.state.now in
    let worker = c.args.ask.now.worker in
    let over = goes_over (is_trivial worker s) worker in
    let walked : lent c.as_slice.result.now ≡ walk worker s = ap lent c.as_slice.ensures.value ∙ c.in_ok-walk.ensures in
    let stand = c.who_walks_by_rank.ensures (filter over s.tasks) ((c.numbers_keep_rising.ensures s.tasks c.requires.numbers_rise).kept over) in
    record {
      looked_at = record { few_tasks = omega (arith, c.requires.few_tasks); ids_differ = c.requires.ids_differ };
      taken = c.in_ok-taken.ensures;
      within = IsWithin-nothing c.args.ask.now s (reserved_in c.in_ok-reserved.reserved) c.in_ok-reserved.ensures;
      few = omega (arith, length-map c.as_slice.result.now (λ (t : Bor Task). t.now), ap length walked, few_walked worker s stand, c.requires.few_tasks);
    }

pub returns : goal.returns
returns c =
    let s = c.args.state.now in
    let ask = c.args.ask.now in
    let walked : lent c.as_slice.result.now ≡ walk ask.worker s = ap lent c.as_slice.ensures.value ∙ c.in_ok-walk.ensures in
    subst (λ found. IfOk c.first_from.result (λ task. option_copied task ≡ found))
    (first_of_walk ask s (reserved_in c.in_ok-reserved.reserved) (lent c.as_slice.result.now) c.in_ok-reserved.ensures walked)
    c.first_from.ensures
