use Rattle.std.proofs.Common.{ap, ◌∙◌}
use Rattle.std.specs.Ordering.{nat_cmp}
use Rattle.std.specs.Cmp.Lexicographic.{slice_cmp, nat_list_cmp_total}
use Rattle.std.specs.FinMap.{insert}
use Rattle.std.specs.Vec.{with_item}
use Rattle.lg_base.proofs.Places.{IsPut, put_found, put_absent, is_sorted-after_put, from_sorted-after_put}
use Rattle.lg_base.proofs.amounts.Amounts.put.Goals as goal

-- the pair of a name that was found is written over
written : (c : goal.After-drop-name-inside) → IsPut (slice_cmp nat_cmp) c.self.inside.pairs.items c.args.name c.args.amount (with_item c.self.inside.pairs c.in-Ok.at (c.index_mut.result.now.0, c.args.amount)).items
written c = put_found nat_list_cmp_total _ _ _ c.self.invariant (rw (← c.deref.ensures.value) (c.in-Ok.ensures.bound, c.in-Ok.ensures.position)) _ _ c.index_mut.ensures.value

pub invariant_of-self : goal.invariant_of-self
invariant_of-self c = is_sorted-after_put nat_list_cmp_total (written c)

pub returns-in-Ok-clause-ok : goal.returns-in-Ok-clause-ok
returns-in-Ok-clause-ok c = from_sorted-after_put nat_list_cmp_total (written c) ∙ ap (λ m. insert m c.args.name c.args.amount) c.self.view_is

-- the pair of another name is added in the gap
added : (c : goal.In_ok-insert-in-Err) → IsPut (slice_cmp nat_cmp) c.self.inside.pairs.items c.args.name c.args.amount c.insert.new.self.items
added c = put_absent nat_list_cmp_total _ _ _ c.self.invariant (rw (← c.deref.ensures.value) (c.in-Err.ensures.bound, c.in-Err.ensures.position)) _ _ c.in_ok-insert-in-Err.ensures.items

pub invariant_of-self-in-Err : goal.invariant_of-self-in-Err
invariant_of-self-in-Err c = is_sorted-after_put nat_list_cmp_total (added c)

pub returns-in_ok-insert-in-Err-clause-ok : goal.returns-in_ok-insert-in-Err-clause-ok
returns-in_ok-insert-in-Err-clause-ok c = from_sorted-after_put nat_list_cmp_total (added c) ∙ ap (λ m. insert m c.args.name c.args.amount) c.self.view_is
