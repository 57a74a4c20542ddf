use Rattle.std.proofs.Common.{rules, ◌≡◌, ◌∙◌, to_z, of_z, w64}
use Rattle.std.proofs.lemmas.Int.{to_z-of_z}
use Rattle.std.proofs.lemmas.List.{with_items_is, places}
use Rattle.lg_plain.proofs.UrgingLemmas.{raised_back}
use Rattle.lg_plain.proofs.adding.urging.raise_tasks.Goals as goal

pub returns : goal.returns
returns c =
    let before : c.as_mut_slice.result.now ≡ c.args.state.now.tasks = search rules in
    let back : c.from_vec.result ≡ c.raise-outcome.new.tasks =
    c.from_vec.ensures ∙ with_items_is c.into_vec-tasks.result c.raise-outcome.new.tasks (search (rules, places)) in
    raised_back c.raise-outcome.result c.args.state.now c.args.id.now c.args.priority (to_z w64 (of_z w64 c.args.priority))
    c.as_mut_slice.result.now c.raise-outcome.new.tasks c.from_vec.result
    (to_z-of_z w64 c.args.priority c.ranges.priority) before back c.raise-outcome.ensures.ok
