-- A journal that goes on by one entry.
use Rattle.std.proofs.Common.{◌≡◌, ℕ, List, [], ◌∷◌, ◌++◌, map, filter, refl, sym, ◌∙◌, ap, append_assoc, eq-eqb}
use Rattle.std.proofs.lemmas.List.{append-nil, map-append}
use Rattle.std.proofs.lemmas.List.Elements.{filter-append}
use Rattle.std.proofs.lemmas.List.Sums.{fold_push}
use Rattle.std.specs.Prelude.{fold, ◌==◌}
use Rattle.lg_desk.specs.declared.journal.Entry.{Entry}
use Rattle.lg_calls.specs.declared.state.State.{State}
use Rattle.lg_desk.specs.Journal.{is_over}
use Rattle.lg_desk.specs.Replay.{Answered, Replayed, entered, replayed, replay, answered, made_by}
use Rattle.lg_calls.specs.Step.{step}

-- what the scheduler answers to one more entry
abbrev pub answer_to : State → List Entry → Entry → Answered
answer_to base journal e =
    record { entry = e; outcome = (step (replay base journal) e.now.0 e.request).1; over = is_over (journal ++ e ∷ []) }

replayed-push : (base : State) (journal : List Entry) (e : Entry) → replayed base (journal ++ e ∷ []) ≡ entered (replayed base journal) e
replayed-push base journal e = fold_push entered _ journal e

-- entries that are replayed on stand behind those before
journal-from : (r : Replayed) (journal : List Entry) → (fold entered r journal).journal ≡ r.journal ++ journal
journal-from r [] = sym (append-nil r.journal)
journal-from r (e ∷ journal) = journal-from (entered r e) journal ∙ append_assoc r.journal (e ∷ []) journal

-- and so are they told
told-from : (r : Replayed) (journal : List Entry) → map (λ (a : Answered). a.entry) (fold entered r journal).answered ≡ map (λ (a : Answered). a.entry) r.answered ++ journal
told-from r [] = sym (append-nil _)
told-from r (e ∷ journal) =
    told-from (entered r e) journal ∙ ap (λ front. front ++ journal) (map-append (λ (a : Answered). a.entry) r.answered (_ ∷ []))
    ∙ append_assoc (map (λ (a : Answered). a.entry) r.answered) (e ∷ []) journal

-- the state behind one more entry
pub replay-push : (base : State) (journal : List Entry) (e : Entry) → replay base (journal ++ e ∷ []) ≡ (step (replay base journal) e.now.0 e.request).0
replay-push base journal e = ap (λ (r : Replayed). r.state) (replayed-push base journal e)

-- the answers to one more entry
pub answered-push : (base : State) (journal : List Entry) (e : Entry) → answered base (journal ++ e ∷ []) ≡ answered base journal ++ answer_to base journal e ∷ []
answered-push base journal e =
    ap (λ (r : Replayed). r.answered) (replayed-push base journal e)
    ∙ ap (λ (front : List Entry). answered base journal ++ record { entry = e; outcome = (step (replay base journal) e.now.0 e.request).1; over = is_over (front ++ e ∷ []) } ∷ [])
    (journal-from (record { state = base; journal = []; answered = [] }) journal)

-- the entries with their answers are the journal's
pub entries_answered : (base : State) (journal : List Entry) → map (λ (a : Answered). a.entry) (answered base journal) ≡ journal
entries_answered base journal = told-from (record { state = base; journal = []; answered = [] }) journal

kept_made : (pass : ℕ) (a : Answered) → a.entry.pass ≡ pass → filter (λ (a : Answered). a.entry.pass == pass) (a ∷ []) ≡ a ∷ []
kept_made pass a is = rw (eq-eqb a.entry.pass pass is) refl

-- a pass made one more entry
pub made-push : (base : State) (pass : ℕ) (journal : List Entry) (e : Entry) → e.pass ≡ pass
    → made_by pass (answered base (journal ++ e ∷ [])) ≡ made_by pass (answered base journal) ++ answer_to base journal e ∷ []
made-push base pass journal e is =
    ap (made_by pass) (answered-push base journal e) ∙ filter-append (λ (a : Answered). a.entry.pass == pass) (answered base journal) (answer_to base journal e ∷ [])
    ∙ ap (λ last. made_by pass (answered base journal) ++ last) (kept_made pass (answer_to base journal e) is)

-- the state behind a journal is behind the journal with one more entry after one more step
pub replayed_on : (base old new : State) (journal entered : List Entry) (e : Entry)
    → old ≡ replay base journal → entered ≡ journal ++ e ∷ [] → new ≡ (step old e.now.0 e.request).0 → new ≡ replay base entered
replayed_on base old new journal entered e replayed is stepped =
    stepped ∙ ap (λ (s : State). (step s e.now.0 e.request).0) replayed ∙ sym (replay-push base journal e) ∙ ap (replay base) (sym is)
