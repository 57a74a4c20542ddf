use Rattle.std.proofs.Common.{◌≡◌, ℕ, List, ◌++◌, None}
use Rattle.lg_http.specs.declared.message.Next.TheVariants as Answer
use Rattle.luigid.specs.Hearing.{HearsOn, IsQuietFor}
use Rattle.luigid.proofs.hearing.hear.Given as goal

-- what the source gave so far is left, and nothing failed or was written
abbrev pub invariant-loop : goal.invariant-loop
invariant-loop g l =
    let source = g.L.Source in
    let sink = g.L.Sink in
    record {
      over : l.reader.over ≡ None;
      got : (got : List ℕ) × HearsOn (source.received l.fn.link) (source.received l.link) Answer.Quiet got × (l.reader.left ≡ l.fn.reader.left ++ got);
      counts : IsQuietFor (source.received l.fn.link) l.fn.reader.quiets → IsQuietFor (source.received l.link) l.reader.quiets;
      faults : source.faults l.link ≡ source.faults l.fn.link;
      taken : sink.taken l.link ≡ sink.taken l.fn.link;
      wrote : sink.faults l.link ≡ sink.faults l.fn.link;
    }
