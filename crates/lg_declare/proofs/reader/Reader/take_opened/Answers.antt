use Rattle.std.specs.String.{string_bytes}
use Rattle.lg_declare.specs.Pieces.{parts_of_pieces}
use Rattle.lg_declare.specs.Reader.{parts_in}
use Rattle.lg_declare.specs.declared.reader.Place.TheVariants.{Inside}
use Rattle.lg_declare.proofs.ReaderLemmas.{open_doubled, word_begins, takes_from}
use Rattle.lg_declare.proofs.reader.Reader.take_opened.Goals as goal

pub returns-then-c-eq123 : goal.returns-then-c-eq123
returns-then-c-eq123 c = λ rest.
    let s = c.args.self.now in
    open_doubled (parts_of_pieces s.pieces.items) (string_bytes s.literal) (string_bytes c.push.new.self) (string_bytes s.word) s.place c.args.c rest c.requires c.if-c-eq123.true c.in_ok-push.ensures.bytes

pub returns : goal.returns
returns c =
    let s = c.args.self.now in
    takes_from s (record s { word = c.clear.new.self; place = Inside }) c.take_inside.new.self c.args.c c.take_inside.result
    (λ rest. word_begins (parts_in s) (string_bytes s.word) (string_bytes c.clear.new.self) s.place c.args.c rest c.requires c.if-c-eq123.false c.clear.ensures.bytes)
    c.take_inside.ensures
