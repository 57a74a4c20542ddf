use Rattle.std.proofs.Common.{rules, inl, ◌++◌, sym, ap, ◌∙◌, append_assoc}
use Rattle.lg_http.proofs.AnswerLemmas.{found_reads, read_reads, heard_more, quiets_more, asked_first}
use Rattle.lg_http.proofs.incoming.Incoming.next.Goals as goal

pub returns-in-Some-clause-reads : goal.returns-in-Some-clause-reads
returns-in-Some-clause-reads g c =
    let got = c.pieces.invariant.got in
    let told = found_reads c.pieces.self c.look.new.self c.in-Some.answer _ _ _ got.0 _ c.in-Some.ensures.found got.1 got.2 (c.in-Some.ensures.quiets ∙ got.3) in
    (got.0, told.0, told.1, told.2)

pub returns-in-Some-read-clause-reads : goal.returns-in-Some-read-clause-reads
returns-in-Some-read-clause-reads g c =
    let got = c.pieces.invariant.got in
    let found = c.in_default.ensures.found in
    let told = read_reads c.in-Some-read.answer _ _ _ got.0 _ _ _ _ _ _ got.1 (found.0 ∙ got.2) (c.in_default.ensures.quiets ∙ got.3) c.in-Some-read.ensures.reads in
    (got.0, told.0, told.1, told.2)

pub pieces-preserved : goal.pieces-preserved
pieces-preserved g c =
    let before = c.pieces.invariant.got in
    let found = c.in_default.ensures.found in
    let read = c.in_default-read.ensures.reads in
    record {
      got = (
        before.0 ++ read.0,
        heard_more _ _ _ before.0 read.0 before.1 read.2,
        read.3 ∙ ap (λ b. b ++ read.0) (found.0 ∙ before.2) ∙ append_assoc _ before.0 read.0,
        read.5 ∙ sym (quiets_more before.0 read.0 _ read.1),
      );
      asked = inl (asked_first _ _ found.1 c.pieces.invariant.asked);
      ready = search rules;
      faults = search rules;
      rest = search rules;
    }
