use Rattle.std.proofs.Common.{◌≡◌, List, [], ◌++◌, Option, Some, ap, sym, ◌∙◌, append_assoc, arith}
use Rattle.std.specs.List.{flat_map}
use Rattle.std.proofs.lemmas.List.Elements.{All-pop}
use Rattle.atomic_table.specs.Table.{Me}
use Rattle.lg_turn.specs.declared.pass.Pass.{Pass}
use Rattle.lg_turn.specs.declared.view.Account.{Account}
use Rattle.lg_turn.specs.declared.view.View.{View}
use Rattle.lg_turn.specs.declared.view.Stage.TheVariants.{Idle}
use Rattle.lg_turn.specs.Views.{view_of}
use Rattle.lg_turn.specs.Passes.{accounts_of, IsAway}
use Rattle.lg_turn.proofs.Gathering.{away_me, flat_map-pop, joins}
use Rattle.lg_turn.proofs.turn.close.collect.Goals as goal

pub loop-other-init : goal.loop-other-init
loop-other-init g c =
    let Here : Pass g.row.V.Denot g.row.V-Item.Denot g.row.V-Base.Denot g.V.Keeps → Type 0 = λ p. (p.seat.table_id ≡ c.args.shared.now.table_id) × IsAway p in
    let pass = c.in-Some.field-0 in
    let is = c.in-Some.ensures.items in
    let both = All-pop Here c.args.passes.items c.pop.new.self.items (Some pass) is c.requires.passes in record {
      turn = both.1.0;
      away = away_me pass both.1.1;
      all = flat_map-pop c.args.passes.items c.pop.new.self.items pass is;
      left = both.0;
    }

pub join_seat-requires : goal.join_seat-requires
join_seat-requires g c =
    let Here : Pass g.row.V.Denot g.row.V-Item.Denot g.row.V-Base.Denot g.V.Keeps → Type 0 = λ p. (p.seat.table_id ≡ c.args.shared.now.table_id) × IsAway p in
    let k = g.V.Keeps in
    let terms = c.args.shared.now.key in
    let pass = c.in-Some-pop.field-0 in
    let before = c.loop-other.invariant in
    let both = All-pop Here c.loop-other.passes.items c.pop-in-loop-other.new.self.items (Some pass) c.in-Some-pop.ensures.items before.left in
    let theirs = away_me pass both.1.1 in (
      before.turn,
      both.1.0,
      ap (λ (me : Me (Option g.row.V.Denot) (View g.row.V-Item.Denot g.row.V-Base.Denot)). me.1) theirs,
      omega (arith, c.requires.turn),
      joins k.items k.number k.base terms.callers (k.base terms.first.value) c.loop-other.seat.id pass.seat.id c.loop-other.seat.me pass.seat.me c.loop-other.seat.me.0.accounts (accounts_of pass) before.away theirs,
    )

pub loop-other-preserved : goal.loop-other-preserved
loop-other-preserved g c =
    let Here : Pass g.row.V.Denot g.row.V-Item.Denot g.row.V-Base.Denot g.V.Keeps → Type 0 = λ p. (p.seat.table_id ≡ c.args.shared.now.table_id) × IsAway p in
    let pass = c.in-Some-pop.field-0 in
    let before = c.loop-other.invariant in
    let is = c.in-Some-pop.ensures.items in
    let both = All-pop Here c.loop-other.passes.items c.pop-in-loop-other.new.self.items (Some pass) is before.left in
    let theirs = away_me pass both.1.1 in
    let joined = c.join_seat.ensures in
    let now = joined.2 ∙ ap (λ (me : Me (Option g.row.V.Denot) (View g.row.V-Item.Denot g.row.V-Base.Denot)). (view_of (accounts_of pass ++ c.loop-other.seat.me.0.accounts) me.0.stage, me.1)) before.away in record {
      turn = joined.0 ∙ before.turn;
      away = now ∙ sym (ap (λ (me : Me (Option g.row.V.Denot) (View g.row.V-Item.Denot g.row.V-Base.Denot)). (view_of me.0.accounts Idle, [])) now);
      all = ap (λ (me : Me (Option g.row.V.Denot) (View g.row.V-Item.Denot g.row.V-Base.Denot)). flat_map accounts_of c.pop-in-loop-other.new.self.items ++ me.0.accounts) now
          ∙ sym (append_assoc (flat_map accounts_of c.pop-in-loop-other.new.self.items) (accounts_of pass) c.loop-other.seat.me.0.accounts)
          ∙ ap (λ (l : List (Account g.row.V-Item.Denot g.row.V-Base.Denot)). l ++ c.loop-other.seat.me.0.accounts) (flat_map-pop c.loop-other.passes.items c.pop-in-loop-other.new.self.items pass is)
          ∙ before.all;
      left = both.0;
    }
