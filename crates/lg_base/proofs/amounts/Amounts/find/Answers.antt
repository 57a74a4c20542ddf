use Rattle.std.proofs.Common.{Some, ap, sym, ◌∙◌}
use Rattle.std.specs.Cmp.Lexicographic.{nat_list_cmp_total}
use Rattle.std.specs.FinMap.{get}
use Rattle.lg_base.proofs.Places.{get_found, get_absent}
use Rattle.lg_base.proofs.amounts.Amounts.find.Goals as goal

-- the name is at its place, and the pair there is the one that was read
pub returns-in-Ok : goal.returns-in-Ok
returns-in-Ok c =
    let found = get_found nat_list_cmp_total c.args.name.now c.self.inside.pairs.items c.in-Ok.at c.self.invariant (rw (← c.deref.ensures.value) (c.in-Ok.ensures.bound, c.in-Ok.ensures.position)) c.index.result.now in
    ap (λ pair. Some pair.1) c.index.ensures ∙ sym found ∙ ap (λ m. get m c.args.name.now) c.self.view_is

pub returns-in-Err : goal.returns-in-Err
returns-in-Err c =
    let absent = get_absent nat_list_cmp_total c.args.name.now c.self.inside.pairs.items c.in-Err.field-0 c.self.invariant (rw (← c.deref.ensures.value) (c.in-Err.ensures.bound, c.in-Err.ensures.position)) in
    sym absent ∙ ap (λ m. get m c.args.name.now) c.self.view_is
