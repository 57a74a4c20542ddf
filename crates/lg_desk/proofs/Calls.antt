-- What a call comes to, behind a journal.
use Rattle.std.proofs.Common.{◌≡◌, ◌≢◌, ◌||◌, ℕ, ◌≤◌, Bool, true, false, refl, List, [], ◌∷◌, ◌++◌, length, All, Result, Ok, Err, ap, sym, ◌∙◌, arith, drop, Some, Option}
use Rattle.std.proofs.lemmas.List.{append-nil}
use Rattle.std.proofs.lemmas.List.Elements.{All-nil, All-push}
use Rattle.lg_calls.specs.declared.engine.Reply.{Reply}
use Rattle.lg_calls.specs.declared.engine.StepFault.{StepFault}
use Rattle.lg_calls.specs.declared.engine.StepFault.TheVariants.{Full as found_full, NoMemory as out_of_memory}
use Rattle.lg_calls.specs.declared.state.State.{State}
use Rattle.lg_calls.specs.Engine.{Steps}
use Rattle.lg_calls.specs.Step.{step}
use Rattle.lg_desk.specs.declared.fault.DeskFault.{DeskFault}
use Rattle.lg_desk.specs.declared.fault.DeskFault.TheVariants.{Over, Full, NoMemory}
use Rattle.lg_desk.specs.declared.journal.Entry.{Entry}
use Rattle.lg_desk.specs.Answers.{entered_of, IsAnswer}
use Rattle.lg_desk.specs.Faults.{told_of}
use Rattle.lg_calls.specs.Request.{is_stop}
use Rattle.lg_desk.specs.Journal.{has_stop, is_over}
use Rattle.lg_desk.specs.Replay.{replay}
use Rattle.lg_desk.proofs.Journals.{stop_is_over}
use Rattle.lg_desk.proofs.Pushes.{marked-push}
use Rattle.lg_desk.proofs.Replays.{replayed_on}

-- the answer of an engine that stands for the replay is the one of the one-thread scheduler
pub step_answers : (base old new : State) (journal : List Entry) (e : Entry) (r : Result Reply StepFault)
    → old ≡ replay base journal → is_over journal ≡ false → Steps old e.now.0 e.request new r → IsAnswer base journal e (told_of r)
step_answers base old new journal e (Ok reply) is still steps = (still, ap (λ s. (step s e.now.0 e.request).1) (sym is) ∙ ap (λ p. p.1) steps)
step_answers base old new journal e (Err (found_full tasks)) is still steps = (still, ap (λ s. (step s e.now.0 e.request).1) (sym is) ∙ ap (λ p. p.1) steps)
step_answers base old new journal e (Err out_of_memory) is still steps = still

-- of a call one entry is entered at most
pub one_at_most : (e : Entry) (answer : Result Reply DeskFault) → length (entered_of e answer) ≤ 1
one_at_most e (Ok reply) = omega arith
one_at_most e (Err (Full tasks)) = omega arith
one_at_most e (Err (Over entries)) = omega arith
one_at_most e (Err NoMemory) = omega arith

-- which is of the pass that made it
pub of_its_pass : (e : Entry) (n : ℕ) → e.pass ≡ n → (answer : Result Reply DeskFault) → All (λ (x : Entry). x.pass ≡ n) (entered_of e answer)
of_its_pass e n is (Ok reply) = All-push (λ (x : Entry). x.pass ≡ n) [] e (All-nil (λ (x : Entry). x.pass ≡ n)) is
of_its_pass e n is (Err (Full tasks)) = All-push (λ (x : Entry). x.pass ≡ n) [] e (All-nil (λ (x : Entry). x.pass ≡ n)) is
of_its_pass e n is (Err (Over entries)) = All-nil (λ (x : Entry). x.pass ≡ n)
of_its_pass e n is (Err NoMemory) = All-nil (λ (x : Entry). x.pass ≡ n)

-- the state behind a journal is behind the journal with the call after its step, also where the scheduler is full
pub replayed_step : (base old new : State) (journal entered : List Entry) (e : Entry) (r : Result Reply StepFault)
    → old ≡ replay base journal → entered ≡ journal ++ e ∷ [] → Steps old e.now.0 e.request new r → r ≢ Err out_of_memory → new ≡ replay base entered
replayed_step base old new journal entered e (Ok reply) replayed is steps made = replayed_on base old new journal entered e replayed is (sym (ap (λ p. p.0) steps))
replayed_step base old new journal entered e (Err (found_full tasks)) replayed is steps made = replayed_on base old new journal entered e replayed is (sym (ap (λ p. p.0) steps))
replayed_step base old new journal entered e (Err out_of_memory) replayed is steps made = absurd (made refl)

or_true : (b : Bool) → b || true ≡ true
or_true true = refl
or_true false = refl

-- a journal that isn't over behind a call doesn't end with a stop
pub open_behind : (journal entered : List Entry) (e : Entry) → entered ≡ journal ++ e ∷ [] → is_over entered ≡ false → is_stop e.request ≡ false
open_behind journal entered e is still = by_cases (is_stop e.request) refl where
  by_cases : (b : Bool) → is_stop e.request ≡ b → is_stop e.request ≡ false
  by_cases false goes_on = goes_on
  by_cases true stops =
      let marked = marked-push journal entered e (has_stop journal) refl is in
      let stop : has_stop entered ≡ true = sym marked ∙ ap (λ (b : Bool). has_stop journal || b) stops ∙ or_true (has_stop journal) in
      let over : is_over entered ≡ true = stop_is_over entered stop in
      absurd (cc)
