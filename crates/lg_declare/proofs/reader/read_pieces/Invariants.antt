use Rattle.std.proofs.Common.{◌≡◌}
use Rattle.std.specs.Str.Iter.{chars_rest}
use Rattle.lg_declare.specs.Template.{parts_of}
use Rattle.lg_declare.specs.Reader.{resumed}
use Rattle.lg_declare.proofs.reader.read_pieces.Given as goal

-- what the reader has, with what the rest will give, is what the text gives
abbrev pub invariant-loop-c : goal.invariant-loop-c
invariant-loop-c l = resumed l.reader (chars_rest l.c-iterator) ≡ parts_of l.fn.text
