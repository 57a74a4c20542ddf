use Rattle.std.proofs.Common.{◌≡◌, ◌<◌, refl, sym, ◌∙◌, ap, subst, arith, inl, inr}
use Rattle.std.proofs.lemmas.List.{append-nil}
use Rattle.std.specs.List.{concat}
use Rattle.lg_http.specs.declared.message.Next.TheVariants as Answer
use Rattle.lg_http.specs.ReaderView.{ReaderView}
use Rattle.lg_http.proofs.CallerLemmas.{bad_status}
use Rattle.luigid.specs.Hearing.{IsQuietFor}
use Rattle.luigid.specs.Session.{at_end, idle, unread, without_memory}
use Rattle.luigid.specs.Said.{answer_of}
use Rattle.luigid.specs.Transcript.{is_last}
use Rattle.lg_desk.proofs.CallerLemmas.{goes_on_nothing, goes_on_more}
use Rattle.luigid.proofs.Responses.{still_fine, spoken}
use Rattle.luigid.proofs.Endings.{still_open, unmarked, quiet_told, fresh_quiet}
use Rattle.luigid.proofs.Sessions.{serving_fresh, all_written, ends, ends_bad, ends_unheard, speaks, goes_on_after, ends_last, ends_unwritten}
use Rattle.luigid.proofs.connection.serve_connection.Goals as goal

pub returns-in_default-clause-serves : goal.returns-in_default-clause-serves
returns-in_default-clause-serves g c base replayed fresh = ends_unheard base _ _ _ _ _ fresh

pub returns-in_default-clause-goes_on : goal.returns-in_default-clause-goes_on
returns-in_default-clause-goes_on g c = goes_on_nothing _ _

pub loop-nth-init : goal.loop-nth-init
loop-nth-init g c = record {
  serving = λ base replayed fresh. serving_fresh base _ _ _ _ _ _ fresh (ap (λ (r : ReaderView). r.left) c.in-Ok.ensures);
  over = ap (λ (r : ReaderView). r.over) c.in-Ok.ensures;
  quiet = λ none. subst (IsQuietFor (g.L.Source.received c.args.link.now)) (sym (ap (λ (r : ReaderView). r.quiets) c.in-Ok.ensures)) none;
  not_over = c.requires;
  goes_on = goes_on_nothing _ _;
  replayed = λ base replayed. replayed;
  rest = refl;
}

pub returns-in-End-clause-serves : goal.returns-in-End-clause-serves
returns-in-End-clause-serves g c base replayed fresh =
    let s = c.loop-nth.invariant.serving base replayed fresh in
    let reads = c.in-End.ensures.reads in
    let fine : g.L.Source.faults c.hear.new.link ≡ 0 = still_fine _ _ _ c.hear.ensures.cause (λ failed. cc) s.read_fine in
    ends base _ _ _ _ _ _ reads.0 _ _ _ _ Answer.End at_end s reads.1 c.hear.ensures.taken refl
    (λ r told. (s.go_on, inl reads.2.0, all_written s.handled r _ (omega (arith, fine, c.hear.ensures.wrote, s.write_fine))))

pub returns-in-Torn-clause-serves : goal.returns-in-Torn-clause-serves
returns-in-Torn-clause-serves g c base replayed fresh =
    let s = c.loop-nth.invariant.serving base replayed fresh in
    let reads = c.in-Torn.ensures.reads in
    let fine : g.L.Source.faults c.hear.new.link ≡ 0 = still_fine _ _ _ c.hear.ensures.cause (λ failed. cc) s.read_fine in
    ends base _ _ _ _ _ _ reads.0 _ _ _ _ Answer.Torn at_end s reads.1 c.hear.ensures.taken refl
    (λ r told. (s.go_on, inr reads.2.2, all_written s.handled r _ (omega (arith, fine, c.hear.ensures.wrote, s.write_fine))))

pub returns-in-Idle-clause-serves : goal.returns-in-Idle-clause-serves
returns-in-Idle-clause-serves g c base replayed fresh =
    let s = c.loop-nth.invariant.serving base replayed fresh in
    let reads = c.in-Idle.ensures.reads in
    let fine : g.L.Source.faults c.hear.new.link ≡ 0 = still_fine _ _ _ c.hear.ensures.cause (λ failed. cc) s.read_fine in
    let quiet = c.in-Idle.ensures.counts (c.loop-nth.invariant.quiet (fresh_quiet _ fresh)) in
    ends base _ _ _ _ _ _ reads.0 _ _ _ _ Answer.Idle idle s reads.1 c.hear.ensures.taken refl
    (λ r told. (s.go_on, inr reads.2.1, all_written s.handled r _ (omega (arith, fine, c.hear.ensures.wrote, s.write_fine)), quiet_told _ r _ told quiet))

pub returns-in-Failed-clause-serves : goal.returns-in-Failed-clause-serves
returns-in-Failed-clause-serves g c base replayed fresh =
    let s = c.loop-nth.invariant.serving base replayed fresh in
    let reads = c.in-Failed.ensures.reads in
    let rose : g.L.Source.faults c.loop-nth.link < g.L.Source.faults c.hear.new.link = c.hear.ensures.cause.rises.0 c.in-Failed.is in
    ends base _ _ _ _ _ _ reads.0 _ _ _ _ Answer.Failed unread s reads.1 c.hear.ensures.taken refl
    (λ r told. (s.go_on, inr reads.2.1, record { written = ap concat (sym (append-nil (spoken s.handled))); failed = omega (arith, rose) }))

pub returns-in-NoMemory-clause-serves : goal.returns-in-NoMemory-clause-serves
returns-in-NoMemory-clause-serves g c base replayed fresh =
    let s = c.loop-nth.invariant.serving base replayed fresh in
    let reads = c.in-NoMemory.ensures.reads in
    let fine : g.L.Source.faults c.hear.new.link ≡ 0 = still_fine _ _ _ c.hear.ensures.cause (λ failed. cc) s.read_fine in
    ends base _ _ _ _ _ _ reads.0 _ _ _ _ Answer.NoMemory without_memory s reads.1 c.hear.ensures.taken refl
    (λ r told. (s.go_on, inl reads.2.1, all_written s.handled r _ (omega (arith, fine, c.hear.ensures.wrote, s.write_fine))))

pub speak_bad_message-requires : goal.speak_bad_message-requires
speak_bad_message-requires g c = bad_status _ _ c.in-Bad.ensures.reads.2.1

pub returns-in-Bad-clause-serves : goal.returns-in-Bad-clause-serves
returns-in-Bad-clause-serves g c base replayed fresh =
    let s = c.loop-nth.invariant.serving base replayed fresh in
    let reads = c.in-Bad.ensures.reads in
    let said = c.speak_bad_message.ensures in
    let fine : g.L.Source.faults c.hear.new.link ≡ 0 = still_fine _ _ _ c.hear.ensures.cause (λ failed. cc) s.read_fine in
    ends_bad base _ _ _ _ _ _ reads.0 _ _ _
    (record { received = g.L.Source.received c.hear.new.link; taken = g.L.Sink.taken c.hear.new.link; read_faults = g.L.Source.faults c.hear.new.link; write_faults = g.L.Sink.faults c.hear.new.link })
    _ (Answer.Bad c.in-Bad.status) _ c.speak_bad_message.result s reads.1 c.hear.ensures.taken c.hear.ensures.wrote fine said.received said.read said.told said.cause refl reads.2.1

pub returns-then-is_err-clause-serves : goal.returns-then-is_err-clause-serves
returns-then-is_err-clause-serves g c base replayed fresh =
    let s = c.loop-nth.invariant.serving base replayed fresh in
    let reads = c.in-Message.ensures.reads in
    let said = c.speak.ensures in
    let fine : g.L.Source.faults c.hear.new.link ≡ 0 = still_fine _ _ _ c.hear.ensures.cause (λ failed. cc) s.read_fine in
    let s_after = speaks base _ _ _ _ _ _ _ reads.0 _ _ _ _ _ (record { received = g.L.Source.received c.hear.new.link; taken = g.L.Sink.taken c.hear.new.link; read_faults = g.L.Source.faults c.hear.new.link; write_faults = g.L.Sink.faults c.hear.new.link })
    (record { received = g.L.Source.received c.speak.new.link; taken = g.L.Sink.taken c.speak.new.link; read_faults = g.L.Source.faults c.speak.new.link; write_faults = g.L.Sink.faults c.speak.new.link })
    (Answer.Message c.in-Message.message) reads.2.0 _ c.is_last-last.result c.speak.result s reads.1 c.hear.ensures.taken c.hear.ensures.wrote fine said.received said.read said.told said.cause refl reads.2.1 (c.is_last-last.ensures ∙ ap (λ b. is_last b (answer_of c.handle-said.result)) reads.2.2.last) reads.2.3
    (c.handle-said.ensures.handles base reads.2.0 (c.loop-nth.invariant.replayed base replayed) reads.2.2) c.handle-said.ensures.goes_on in
    ends_unwritten base _ _ _ _ _ _ _ _ _ c.is_last-last.result c.speak.result _ s_after (sym c.is_err.ensures.value ∙ c.if-is_err.true)

pub returns-then-last-clause-serves : goal.returns-then-last-clause-serves
returns-then-last-clause-serves g c base replayed fresh =
    let s = c.loop-nth.invariant.serving base replayed fresh in
    let reads = c.in-Message.ensures.reads in
    let said = c.speak.ensures in
    let fine : g.L.Source.faults c.hear.new.link ≡ 0 = still_fine _ _ _ c.hear.ensures.cause (λ failed. cc) s.read_fine in
    let s_after = speaks base _ _ _ _ _ _ _ reads.0 _ _ _ _ _ (record { received = g.L.Source.received c.hear.new.link; taken = g.L.Sink.taken c.hear.new.link; read_faults = g.L.Source.faults c.hear.new.link; write_faults = g.L.Sink.faults c.hear.new.link })
    (record { received = g.L.Source.received c.speak.new.link; taken = g.L.Sink.taken c.speak.new.link; read_faults = g.L.Source.faults c.speak.new.link; write_faults = g.L.Sink.faults c.speak.new.link })
    (Answer.Message c.in-Message.message) reads.2.0 _ c.is_last-last.result c.speak.result s reads.1 c.hear.ensures.taken c.hear.ensures.wrote fine said.received said.read said.told said.cause refl reads.2.1 (c.is_last-last.ensures ∙ ap (λ b. is_last b (answer_of c.handle-said.result)) reads.2.2.last) reads.2.3
    (c.handle-said.ensures.handles base reads.2.0 (c.loop-nth.invariant.replayed base replayed) reads.2.2) c.handle-said.ensures.goes_on in
    ends_last base _ _ _ _ _ _ _ _ _ c.is_last-last.result c.speak.result _ s_after (sym c.is_err.ensures.value ∙ c.if-is_err.false) c.if-last.true

pub loop-nth-preserved : goal.loop-nth-preserved
loop-nth-preserved g c = record {
  serving = λ base replayed fresh.
      let s = c.loop-nth.invariant.serving base replayed fresh in
      let reads = c.in-Message.ensures.reads in
      let said = c.speak.ensures in
      let fine : g.L.Source.faults c.hear.new.link ≡ 0 = still_fine _ _ _ c.hear.ensures.cause (λ failed. cc) s.read_fine in
      let s_after = speaks base _ _ _ _ _ _ _ reads.0 _ _ _ _ _ (record { received = g.L.Source.received c.hear.new.link; taken = g.L.Sink.taken c.hear.new.link; read_faults = g.L.Source.faults c.hear.new.link; write_faults = g.L.Sink.faults c.hear.new.link })
      (record { received = g.L.Source.received c.speak.new.link; taken = g.L.Sink.taken c.speak.new.link; read_faults = g.L.Source.faults c.speak.new.link; write_faults = g.L.Sink.faults c.speak.new.link })
      (Answer.Message c.in-Message.message) reads.2.0 _ c.is_last-last.result c.speak.result s reads.1 c.hear.ensures.taken c.hear.ensures.wrote fine said.received said.read said.told said.cause refl reads.2.1 (c.is_last-last.ensures ∙ ap (λ b. is_last b (answer_of c.handle-said.result)) reads.2.2.last) reads.2.3
      (c.handle-said.ensures.handles base reads.2.0 (c.loop-nth.invariant.replayed base replayed) reads.2.2) c.handle-said.ensures.goes_on in
      goes_on_after base _ _ _ _ _ _ _ _ _ c.is_last-last.result c.speak.result _ s_after (sym c.is_err.ensures.value ∙ c.if-is_err.false) c.if-last.false;
  over = still_open _ _ _ _ (sym c.is_last-last.ensures ∙ c.if-last.false) c.in-Message.ensures.over;
  quiet = λ none. subst (λ told. IsQuietFor told c.hear.new.reader.quiets) (sym c.speak.ensures.received) (c.in-Message.ensures.counts (c.loop-nth.invariant.quiet none));
  not_over = c.handle-said.ensures.not_over (unmarked _ _ (sym c.is_last-last.ensures ∙ c.if-last.false));
  goes_on = goes_on_more _ _ _ _ c.loop-nth.invariant.goes_on c.handle-said.ensures.goes_on;
  replayed = λ base replayed. c.handle-said.ensures.replayed base (c.loop-nth.invariant.replayed base replayed);
  rest = c.handle-said.ensures.rest ∙ c.loop-nth.invariant.rest;
}

pub returns-then-is_err-clause-goes_on : goal.returns-then-is_err-clause-goes_on
returns-then-is_err-clause-goes_on g c = goes_on_more _ _ _ _ c.loop-nth.invariant.goes_on c.handle-said.ensures.goes_on

pub returns-then-last-clause-goes_on : goal.returns-then-last-clause-goes_on
returns-then-last-clause-goes_on g c = goes_on_more _ _ _ _ c.loop-nth.invariant.goes_on c.handle-said.ensures.goes_on
