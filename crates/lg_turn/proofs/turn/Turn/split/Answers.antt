use Rattle.std.proofs.Common.{arith}
use Rattle.lg_turn.specs.declared.view.Stage.TheVariants.{Enrols, Undoes}
use Rattle.lg_turn.specs.Views.{drawn_in, out_in}
use Rattle.lg_turn.proofs.Refusing.{refused}
use Rattle.lg_turn.proofs.turn.Turn.split.Goals as goal

pub returns-then-number-ge-NUMBERS-clause-refused : goal.returns-then-number-ge-NUMBERS-clause-refused
returns-then-number-ge-NUMBERS-clause-refused g c =
    let pass = c.args.pass.now in
    let word = c.enrol-word.result in
    let enrolled = c.enrol-word.ensures.enrolled in
    refused 4294967297 word c.release.result Undoes pass.seat.me c.enrol-word.new.seat.me c.release.new.seat.me pass.one enrolled.2 (enrolled.0 (omega arith)) c.release.ensures.released

pub returns-then-out-self-clause-refused : goal.returns-then-out-self-clause-refused
returns-then-out-self-clause-refused g c =
    let pass = c.args.pass.now in
    let word = c.enrol-word.result in
    let enrolled = c.enrol-word.ensures.enrolled in
    refused 1 word c.release-then-out-self.result (Enrols (drawn_in word) (out_in word)) pass.seat.me c.enrol-word.new.seat.me c.release-then-out-self.new.seat.me pass.one enrolled.2 (enrolled.1 (omega arith)).0 c.release-then-out-self.ensures.released
