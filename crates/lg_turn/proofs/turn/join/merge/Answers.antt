use Rattle.lg_turn.specs.Views.{seen_in}
use Rattle.lg_turn.proofs.Absorbing.{both_known}
use Rattle.lg_turn.proofs.turn.join.merge.Goals as goal

pub returns-clause-mine : goal.returns-clause-mine
returns-clause-mine g c =
    let absorbed = c.absorb.ensures.absorbed in
    (both_known c.args.seat.now.me.0.accounts c.args.other.me.0.accounts c.take_in.new.seat.me c.take_in.ensures.both c.requires.mine.0 c.requires.others.0 (seen_in c.absorb.new.seat.me.0.accounts) c.absorb.result absorbed.1 absorbed.2).0

pub returns-clause-others : goal.returns-clause-others
returns-clause-others g c =
    let absorbed = c.absorb.ensures.absorbed in
    (both_known c.args.seat.now.me.0.accounts c.args.other.me.0.accounts c.take_in.new.seat.me c.take_in.ensures.both c.requires.mine.0 c.requires.others.0 (seen_in c.absorb.new.seat.me.0.accounts) c.absorb.result absorbed.1 absorbed.2).1

pub returns-clause-drawn : goal.returns-clause-drawn
returns-clause-drawn g c =
    let absorbed = c.absorb.ensures.absorbed in
    (both_known c.args.seat.now.me.0.accounts c.args.other.me.0.accounts c.take_in.new.seat.me c.take_in.ensures.both c.requires.mine.0 c.requires.others.0 (seen_in c.absorb.new.seat.me.0.accounts) c.absorb.result absorbed.1 absorbed.2).2

pub returns-clause-follows : goal.returns-clause-follows
returns-clause-follows g c =
    let absorbed = c.absorb.ensures.absorbed in
    let known = both_known c.args.seat.now.me.0.accounts c.args.other.me.0.accounts c.take_in.new.seat.me c.take_in.ensures.both c.requires.mine.0 c.requires.others.0 (seen_in c.absorb.new.seat.me.0.accounts) c.absorb.result absorbed.1 absorbed.2 in
    (known.3, known.4)
