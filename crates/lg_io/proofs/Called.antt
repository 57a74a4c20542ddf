-- What the calls of files in memory tell.
use Rattle.std.proofs.Common.{◌≡◌, ℕ, ◌+◌, ◌<◌, Bool, true, false, List, [], ◌∷◌, ◌++◌, Result, Ok, Err, refl, sym, ap, subst, ◌∙◌, true≢false, arith}
use Rattle.std.specs.Prelude.{IsTrue, IsErr, ◌↔◌}
use Rattle.std.specs.FinMap.{get}
use Rattle.lg_io.specs.declared.memory.files.MemoryFiles.{MemoryFiles}
use Rattle.lg_io.specs.declared.memory.file_history.FileHistory.{FileHistory}
use Rattle.lg_io.specs.Cause.{HasCause, FailsBy}
use Rattle.lg_io.specs.Files.{FileMap, FileCall, FileAnswer, failed, FilesTold, present, HasGrown, Does, IsCalled, close, make_folder, done_answer, exists_answer}
use Rattle.lg_io.specs.FileScript.{held_maps, grown_maps, BeginsByScript, CallsByScript}

-- what files told until now
abbrev pub told : FileHistory → FilesTold
told history = record { maps = history.maps; calls = history.calls }

-- a call is answered once the files of its time have appeared
pub called : {P : Type 0} (before grown : MemoryFiles P) (left : FileMap) (after : FileHistory) (call : FileCall) (answer : FileAnswer)
    → HasGrown before.history.maps grown.history.maps → grown.history.calls ≡ before.history.calls → Does call answer grown.shelf.log left
    → after.maps ≡ grown.history.maps ++ left ∷ [] → after.calls ≡ grown.history.calls ++ record { call = call; answer = answer } ∷ []
    → IsCalled (told before.history) call answer (told after)
called before grown left after call answer growth same_calls does maps calls = record {
  appeared = growth.more;
  left = left;
  appear = growth.appear;
  does = subst (λ m. Does call answer m left) (sym grown.is_present ∙ ap present growth.is) does;
  maps = maps ∙ ap (λ ms. ms ++ left ∷ []) growth.is;
  calls = calls ∙ ap (λ cs. cs ++ record { call = call; answer = answer } ∷ []) same_calls;
}

-- a call that leaves the files as they are
pub Does-close : {T E : Type 0} (path : List ℕ) (r : Result T E) (before after : FileMap) → after ≡ before → Does (close path) (done_answer r) before after
Does-close path (Ok x) before after same = same
Does-close path (Err e) before after same = λ other _. ap (λ m. get m other) same

pub Does-make_folder : {T E : Type 0} (path : List ℕ) (r : Result T E) (before after : FileMap) → after ≡ before → Does (make_folder path) (done_answer r) before after
Does-make_folder path (Ok x) before after same = same
Does-make_folder path (Err e) before after same = same

-- a call that is told whether it is to fail, behind a beginning that has its cause
pub cause_then : (before rest wants after : ℕ) (fails : Bool) {stopped : Type 0} → HasCause before (rest + wants) (IsTrue fails)
    → FailsBy fails wants after stopped → HasCause before (rest + after) stopped
cause_then before rest wants after true begun ends = record {
  never_falls = omega (arith, begun.never_falls, ends.1);
  rises = (λ _. omega (arith, begun.rises.0 refl, ends.1), λ _. ends.0);
}
cause_then before rest wants after false begun ends =
    let none : before < rest + wants → ⊥ = λ rose. true≢false (sym (begun.rises.1 rose)) in
    record {
      never_falls = omega (arith, begun.never_falls, ends.never_falls);
      rises = (λ is. omega (arith, begun.never_falls, ends.rises.0 is), λ rose. ends.rises.1 (omega (arith, begun.never_falls, none, rose)));
    }

-- a call that fails just where it is to
pub cause_same : {before after : ℕ} {fails : Bool} {stopped : Type 0} → HasCause before after (IsTrue fails) → (stopped ↔ IsTrue fails)
    → HasCause before after stopped
cause_same begun same = record {
  never_falls = begun.never_falls;
  rises = (λ is. begun.rises.0 (same.0 is), λ rose. same.1 (begun.rises.1 rose));
}

-- the answer of a call that fails
pub failed_done : {T E : Type 0} (r : Result T E) → IsErr r → done_answer r ≡ failed
failed_done (Ok x) is = absurd (true≢false (sym is))
failed_done (Err e) is = refl

pub failed_exists : {E : Type 0} (r : Result Bool E) → IsErr r → exists_answer r ≡ failed
failed_exists (Ok x) is = absurd (true≢false (sym is))
failed_exists (Err e) is = refl

-- a call that is to fail does so
pub fails_by : (fails : Bool) (before after : ℕ) {stopped : Type 0} → FailsBy fails before after stopped → IsTrue fails → stopped
fails_by true before after ends is = ends.0
fails_by false before after ends is = absurd (true≢false (sym is))

-- a call that begins by the script goes on by it
pub by_script : {P : Type 0} (due : P → ℕ → Bool) (before grown after : MemoryFiles P) (fails : Bool) (answer : FileAnswer) (left : FileMap)
    → BeginsByScript due before grown fails → (IsTrue fails → answer ≡ failed)
    → held_maps after ≡ held_maps grown ++ left ∷ [] → present (held_maps after) ≡ left
    → after.plan ≡ grown.plan → after.calls ≡ grown.calls → after.late ≡ grown.late → after.coming ≡ grown.coming
    → CallsByScript due before after answer
by_script due before grown after fails answer left begins stops maps last plan calls late coming = record {
  fails = λ is. stops (begins.fails_then is);
  goes_on = ap due plan ∙ begins.goes_on;
  counts = calls ∙ begins.counts;
  late = λ none. ap (λ l. l.met) late ∙ begins.late none;
  maps = λ same. maps ∙ ap (λ ms. ms ++ left ∷ []) (begins.maps (sym (ap (λ l. l.met) late) ∙ same)) ∙ ap (λ m. grown_maps before ++ m ∷ []) (sym last);
  ahead = λ same. ap (λ c. c.items) coming ∙ begins.ahead (sym (ap (λ l. l.met) late) ∙ same);
}
