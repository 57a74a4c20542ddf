use Rattle.std.proofs.Common.{◌≢◌, arith}
use Rattle.std.specs.String.{string_bytes}
use Rattle.lg_declare.specs.Pieces.{parts_of_pieces}
use Rattle.lg_declare.specs.Reader.{parts_in}
use Rattle.lg_declare.proofs.ReaderLemmas.{opens, closes, text_outside}
use Rattle.lg_declare.proofs.reader.Reader.take_outside.Goals as goal

pub returns-in-123 : goal.returns-in-123
returns-in-123 c = λ rest. let s = c.args.self.now in opens (parts_in s) (string_bytes s.word) s.place c.args.c rest c.requires c.in-123.is

pub returns-in-125 : goal.returns-in-125
returns-in-125 c = λ rest. let s = c.args.self.now in closes (parts_in s) (string_bytes s.word) s.place c.args.c rest c.requires c.in-125.is

pub returns-in_ok-push-in_default : goal.returns-in_ok-push-in_default
returns-in_ok-push-in_default c = λ rest.
    let s = c.args.self.now in
    let no_open : c.args.c ≢ 123 = omega arith in
    let no_close : c.args.c ≢ 125 = omega arith in
    text_outside (parts_of_pieces s.pieces.items) (string_bytes s.literal) (string_bytes c.push.new.self) (string_bytes s.word) s.place c.args.c rest c.requires no_open no_close c.in_ok-push-in_default.ensures.bytes
