use Rattle.std.proofs.Common.{ap, ◌∙◌}
use Rattle.std.specs.String.{string_bytes}
use Rattle.lg_declare.proofs.ReaderLemmas.{word_ends}
use Rattle.lg_declare.proofs.reader.Reader.end_word.Goals as goal

pub returns : goal.returns
returns c = λ rest.
    let s = c.args.self.now in
    word_ends s.pieces.items c.push.new.self.items c.push-2.new.self.items (string_bytes s.literal) c.from_string.result (string_bytes s.word) c.from-name.result (string_bytes c.replace-literal.new.dest) s.place rest
    c.requires c.in_ok-push.ensures.items c.in_ok-push-2.ensures.items
    (c.from_string.ensures.same ∙ ap string_bytes c.replace-literal.ensures.value)
    (c.from-name.ensures ∙ c.from_string-2.ensures.same ∙ ap string_bytes c.replace-word.ensures.value)
    (ap string_bytes c.replace-literal.ensures.after ∙ c.new.ensures.bytes)
