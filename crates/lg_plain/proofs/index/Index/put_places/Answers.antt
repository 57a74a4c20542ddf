use Rattle.std.proofs.Common.{◌≡◌, ◌+◌, ◌≤◌, length, vec_capacity, sym, subst, rules}
use Rattle.lg_plain.specs.Index.{HasEach}
use Rattle.lg_plain.proofs.IndexLemmas.{has_each_more}
use Rattle.lg_plain.proofs.index.Index.put_places.Goals as goal

pub loop-place-preserved : goal.loop-place-preserved
loop-place-preserved c =
    let is = c.loop-place.invariant in
    let one_more : length c.push_reserved.new.self.items ≡ c.loop-place.place + 1 = search rules in
    let room : c.args.count ≤ vec_capacity c.push_reserved.new.self = search rules in
    (subst (HasEach (c.loop-place.place + 1)) (sym c.push_reserved.ensures.items) (has_each_more c.loop-place.place c.loop-place.self.places.items is.0), one_more, room)
