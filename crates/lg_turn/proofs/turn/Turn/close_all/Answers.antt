use Rattle.std.proofs.Common.{Option, subst}
use Rattle.atomic_table.specs.Table.{Me}
use Rattle.lg_turn.specs.declared.view.View.{View}
use Rattle.lg_turn.specs.Closings.{Ends}
use Rattle.lg_turn.proofs.Gathering.{all_places, ended}
use Rattle.lg_turn.proofs.turn.Turn.close_all.Goals as goal

pub value_of-requires-clause-all : goal.value_of-requires-clause-all
value_of-requires-clause-all g c =
    let k = g.V.Keeps in
    let shared = c.args.self.table.shared in
    (all_places k.items k.number k.base shared.key.callers (k.base shared.key.first.value) c.collect-seat.result.me c.args.passes.items c.requires.all c.collect-seat.ensures.all).0

pub value_of-requires-clause-without : goal.value_of-requires-clause-without
value_of-requires-clause-without g c =
    let k = g.V.Keeps in
    let shared = c.args.self.table.shared in
    (all_places k.items k.number k.base shared.key.callers (k.base shared.key.first.value) c.collect-seat.result.me c.args.passes.items c.requires.all c.collect-seat.ensures.all).1

pub returns : goal.returns
returns g c =
    let k = g.V.Keeps in
    let shared = c.args.self.table.shared in
    let origin = k.base shared.key.first.value in
    let value = c.value_of.result in
    let end = ended k.items k.number k.base shared.key.callers origin c.args.passes.items value c.requires.all
    (subst (λ (me : Me (Option g.row.V.Denot) (View g.row.V-Item.Denot g.row.V-Base.Denot)). Ends k.items k.number k.base shared.key.callers origin me.0 value) c.collect-seat.ensures.all c.value_of.ensures.ends) in record {
      base = end.base_is;
      bases = end.bases;
      begins = end.begins;
      numbers = end.numbers;
      own = end.own;
    }
