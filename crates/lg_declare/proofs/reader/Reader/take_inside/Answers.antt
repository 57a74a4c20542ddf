use Rattle.std.proofs.Common.{◌≢◌, arith}
use Rattle.std.specs.String.{string_bytes}
use Rattle.lg_declare.specs.Reader.{parts_in}
use Rattle.lg_declare.proofs.ReaderLemmas.{lone_open, word_grows}
use Rattle.lg_declare.proofs.reader.Reader.take_inside.Goals as goal

pub returns-in-123 : goal.returns-in-123
returns-in-123 c = λ rest. let s = c.args.self.now in lone_open (parts_in s) (string_bytes s.word) s.place c.args.c rest c.requires c.in-123.is

pub returns-in_ok-push-in_default : goal.returns-in_ok-push-in_default
returns-in_ok-push-in_default c = λ rest.
    let s = c.args.self.now in
    let no_open : c.args.c ≢ 123 = omega arith in
    let no_close : c.args.c ≢ 125 = omega arith in
    word_grows (parts_in s) (string_bytes s.word) (string_bytes c.push.new.self) s.place c.args.c rest c.requires no_open no_close c.in_ok-push-in_default.ensures.bytes
