use Rattle.std.specs.String.{string_bytes}
use Rattle.lg_declare.specs.Pieces.{parts_of_pieces}
use Rattle.lg_declare.specs.Reader.{parts_in}
use Rattle.lg_declare.proofs.ReaderLemmas.{lone_close, close_doubled}
use Rattle.lg_declare.proofs.reader.Reader.take_closed.Goals as goal

pub returns-then-c-ne125 : goal.returns-then-c-ne125
returns-then-c-ne125 c = λ rest. let s = c.args.self.now in lone_close (parts_in s) (string_bytes s.word) s.place c.args.c rest c.requires c.if-c-ne125.true

pub returns : goal.returns
returns c = λ rest.
    let s = c.args.self.now in
    close_doubled (parts_of_pieces s.pieces.items) (string_bytes s.literal) (string_bytes c.push.new.self) (string_bytes s.word) s.place c.args.c rest c.requires c.if-c-ne125.false c.in_ok-push.ensures.bytes
