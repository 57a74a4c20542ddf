use Rattle.std.proofs.Common.{◌≡◌, ◌∷◌, [], ◌++◌, ap, sym, ◌∙◌, map, codes, length, subst, refl, arith}
use Rattle.std.proofs.lemmas.List.{length-map}
use Rattle.std.specs.Borrow.{Bor}
use Rattle.std.specs.Prelude.{All, filter}
use Rattle.lg_calls.specs.Task.{Task}
use Rattle.lg_calls.specs.Valid.{IsValidTask}
use Rattle.lg_json.specs.Tree.{Tree, str}
use Rattle.lg_views.specs.Fields.{fields_in}
use Rattle.lg_views.specs.Lent.{lent}
use Rattle.lg_views.specs.Listed.{last_moment}
use Rattle.lg_calls.specs.Views.ResourceList.{limit_record}
use Rattle.lg_calls.specs.Views.Trees.{record_of, number}
use Rattle.lg_calls.specs.Use.{takes, use_by}
use Rattle.lg_views.proofs.BuildLemmas.{all_put, put_step, put_step_as}
use Rattle.lg_views.proofs.PickLemmas.{CanBeShown-filter}
use Rattle.lg_views.proofs.RecordLemmas.{lent_few, lent_shown, shown_as_records}
use Rattle.lg_views.proofs.consumers.limit_record.Goals as goal

pub in_order_of_ids-requires : goal.in_order_of_ids-requires
in_order_of_ids-requires c =
    let running = lent c.args.running.now in
    lent_shown c.in_ok-takers.takers.items (filter (takes c.args.name.now) running) c.in_ok-takers.ensures (CanBeShown-filter _ running c.requires)

pub put-requires-2 : goal.put-requires-2
put-requires-2 c =
    let running = lent c.args.running.now in
    omega (arith, c.len-count.ensures, c.in_ok-takers.takers.ok.0, lent_few c.in_ok-takers.takers.items (filter (takes c.args.name.now) running) c.in_ok-takers.ensures (CanBeShown-filter _ running c.requires))

pub used_by-requires : goal.used_by-requires
used_by-requires c = lent_few c.args.running.now (lent c.args.running.now) refl c.requires

pub put-requires-5 : goal.put-requires-5
put-requires-5 c =
    subst (All (λ (task : Bor Task). IsValidTask last_moment task.now)) (sym c.as_slice.ensures.value) c.in_ok-sorted.ensures.valid

pub returns : goal.returns
unfolding limit_record
returns c =
    let running = lent c.args.running.now in
    let name = c.args.name.now in
    let takers = filter (takes name) running in
    let found = c.in_ok-takers.takers.items in
    let seen : lent found ≡ takers = c.in_ok-takers.ensures in
    let many : c.len-count.result ≡ length takers = omega (arith, c.len-count.ensures, c.in_ok-takers.takers.ok.0, ap length seen, length-map found (λ (task : Bor Task). task.now)) in
    c.into_out.ensures
    ∙ ap record_of
    (all_put _ _ _ c.new-object.ensures
    (put_step _ _ _ _ (codes "name") (str name) c.in_ok-put.ensures
    (put_step_as _ _ _ _ (codes "num_consumer") _ (number (length takers)) (ap number many) c.in_ok-put-2.ensures
    (put_step _ _ _ _ (codes "num_total") (number c.args.total) c.in_ok-put-3.ensures
    (put_step_as _ _ _ _ (codes "num_used") _ (number (use_by running name)) (ap number c.used_by.ensures.sum) c.in_ok-put-4.ensures
    (c.in_ok-put-5.ensures
    ∙ ap (λ (tree : Tree). fields_in c.put-4.new.self ++ (codes "running", tree) ∷ [])
    (shown_as_records found c.in_ok-sorted.sorted.items c.as_slice.result.now takers seen c.in_ok-sorted.ensures.same c.as_slice.ensures.value)))))))
