use Rattle.std.specs.String.{string_bytes}
use Rattle.lg_declare.specs.Reader.{parts_in}
use Rattle.lg_declare.proofs.ReaderLemmas.{ends_outside, ends_early}
use Rattle.lg_declare.proofs.reader.Reader.finish.Goals as goal

pub returns-in_default : goal.returns-in_default
returns-in_default c = let s = c.args.self in ends_early (parts_in s) (string_bytes s.word) s.place c.in_default.not-Outside

pub returns : goal.returns
returns c =
    let s = c.args.self in
    ends_outside s.pieces.items c.push.new.self.items (string_bytes s.literal) c.from_string.result (string_bytes s.word) s.place c.in-Outside.is c.in_ok-push.ensures.items c.from_string.ensures.same
