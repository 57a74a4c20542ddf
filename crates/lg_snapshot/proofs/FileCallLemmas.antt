-- Calls of files in a row, where files tell them.
use Rattle.std.proofs.Common.{◌≡◌, List, [], ◌∷◌, ◌++◌, Option, Some, None, Result, Ok, Err, refl, ap, subst, ◌∙◌, append_assoc, IsErr}
use Rattle.std.proofs.lemmas.Bool.{false≢true}
use Rattle.lg_io.specs.Files.{FileCall, FileAnswer, AnsweredCall, FilesTold, TellsCall, done, failed, done_answer}
use Rattle.lg_target.specs.Target.{AreCalled}
use Rattle.lg_snapshot.specs.FileCalls.{done_call, failed_call, TellsCalls, AreCutShort, AreMade}

called_behind : (before : FilesTold) (xs ys : List AnsweredCall) (between after : FilesTold) → AreCalled before xs between → AreCalled between ys after
    → AreCalled before (xs ++ ys) after
called_behind before [] ys between after one other = subst (λ told. AreCalled told ys after) one other
called_behind before (x ∷ xs) ys between after one other = (one.0, one.1, called_behind one.0 xs ys between after one.2 other)

-- some calls, and others behind them
pub tells_behind : (before : Option FilesTold) (xs ys : List AnsweredCall) (between after : Option FilesTold) → TellsCalls before xs between → TellsCalls between ys after
    → TellsCalls before (xs ++ ys) after
tells_behind None xs ys between after one other = subst (λ told. TellsCalls told ys after) one other
tells_behind (Some before) xs ys None after one other = absurd one
tells_behind (Some before) xs ys (Some between) None one other = absurd other
tells_behind (Some before) xs ys (Some between) (Some after) one other = called_behind before xs ys between after one other

-- one call
pub tells_one : (before : Option FilesTold) (call : FileCall) (answer : FileAnswer) (after : Option FilesTold) → TellsCall before call answer after
    → TellsCalls before (record { call = call; answer = answer } ∷ []) after
tells_one None call answer after told = told
tells_one (Some before) call answer None told = absurd told
tells_one (Some before) call answer (Some after) told = (after, told, refl)

-- none
pub tells_none : (before after : Option FilesTold) → after ≡ before → TellsCalls before [] after
tells_none None after same = same
tells_none (Some before) None same = cc
tells_none (Some before) (Some after) same = cc

-- the first call fails
pub first_fails : (before : Option FilesTold) (call : FileCall) (rest : List AnsweredCall) (after : Option FilesTold)
    → TellsCall before call failed after → AreCutShort (done_call call ∷ rest) before after
first_fails before call rest after told = (
  failed_call call ∷ [],
  record {
    first = [];
    call = call;
    rest = rest;
    in_wanted = refl;
    is = refl;
  },
  tells_one before call failed after told,
)

-- the first call is made, and one behind it fails
pub first_cut : (before : Option FilesTold) (call : FileCall) (rest : List AnsweredCall) (between after : Option FilesTold)
    → TellsCall before call done between → AreCutShort rest between after → AreCutShort (done_call call ∷ rest) before after
first_cut before call rest between after told behind = (
  done_call call ∷ behind.0,
  record {
    first = done_call call ∷ behind.1.first;
    call = behind.1.call;
    rest = behind.1.rest;
    in_wanted = ap (λ calls. done_call call ∷ calls) behind.1.in_wanted;
    is = ap (λ calls. done_call call ∷ calls) behind.1.is;
  },
  tells_behind before (done_call call ∷ []) behind.0 between after (tells_one before call done between told) behind.2,
)

-- the first call is made, and those behind it as far as they go
pub first_is_made : {T E : Type 0} (before : Option FilesTold) (call : FileCall) (rest : List AnsweredCall) (between after : Option FilesTold) (r : Result T E)
    → TellsCall before call done between → AreMade rest between after r → AreMade (done_call call ∷ rest) before after r
first_is_made before call rest between after (Ok x) told behind =
    tells_behind before (done_call call ∷ []) rest between after (tells_one before call done between told) behind
first_is_made before call rest between after (Err e) told behind = first_cut before call rest between after told behind

-- the last call, whatever its answer
pub last_call : {T E : Type 0} (before : Option FilesTold) (call : FileCall) (after : Option FilesTold) (r : Result T E)
    → TellsCall before call (done_answer r) after → AreMade (done_call call ∷ []) before after r
last_call before call after (Ok x) told = tells_one before call done after told
last_call before call after (Err e) told = first_fails before call [] after told

-- all of some calls are made, and one behind them, whatever its answer
pub one_behind : {T E : Type 0} (before : Option FilesTold) (calls : List AnsweredCall) (between : Option FilesTold) (call : FileCall) (after : Option FilesTold)
    (r : Result T E) → TellsCalls before calls between → TellsCall between call (done_answer r) after → AreMade (calls ++ done_call call ∷ []) before after r
one_behind before calls between call after (Ok x) made told =
    tells_behind before calls (done_call call ∷ []) between after made (tells_one between call done after told)
one_behind before calls between call after (Err e) made told = (
  calls ++ failed_call call ∷ [],
  record {
    first = calls;
    call = call;
    rest = [];
    in_wanted = refl;
    is = refl;
  },
  tells_behind before calls (failed_call call ∷ []) between after made (tells_one between call failed after told),
)

-- one of some calls fails, and others were wanted behind them
pub fails_before : (before : Option FilesTold) (calls more : List AnsweredCall) (after : Option FilesTold)
    → AreCutShort calls before after → AreCutShort (calls ++ more) before after
fails_before before calls more after made = (
  made.0,
  record {
    first = made.1.first;
    call = made.1.call;
    rest = made.1.rest ++ more;
    in_wanted = ap (λ all. all ++ more) made.1.in_wanted ∙ append_assoc made.1.first (done_call made.1.call ∷ made.1.rest) more;
    is = made.1.is;
  },
  made.2,
)

-- so a result that is a refusal has it
pub refused_short : {T E : Type 0} (wanted : List AnsweredCall) (before after : Option FilesTold) (r : Result T E) → IsErr r → AreCutShort wanted before after
    → AreMade wanted before after r
refused_short wanted before after (Ok x) err cut = absurd (false≢true err)
refused_short wanted before after (Err e) err cut = cut
