-- Calls of files in a row, up to the first that fails. This project's own, after what `lg_io` says of one call.
use Rattle.std.specs.Prelude.{◌≡◌, List, [], ◌∷◌, ◌++◌, Option, Some, None, Result, Ok, Err}
use Rattle.lg_io.specs.Files.{FileCall, AnsweredCall, FilesTold, done, failed}
use Rattle.lg_target.specs.Target.{AreCalled}

abbrev pub done_call : FileCall → AnsweredCall
done_call call = record { call = call; answer = done }

abbrev pub failed_call : FileCall → AnsweredCall
failed_call call = record { call = call; answer = failed }

-- files that tell what they hold tell these calls more, one after another
abbrev pub TellsCalls : Option FilesTold → List AnsweredCall → Option FilesTold → Type 0
TellsCalls None calls after = after ≡ None
TellsCalls (Some before) calls None = ⊥
TellsCalls (Some before) calls (Some after) = AreCalled before calls after

-- the calls that are made of those that are wanted, where one of them fails: those before it, and the one that fails
pub record StopsAt (wanted made : List AnsweredCall) : Type 0 where
  pub first : List AnsweredCall
  pub call : FileCall
  pub rest : List AnsweredCall
  pub in_wanted : wanted ≡ first ++ done_call call ∷ rest
  pub is : made ≡ first ++ failed_call call ∷ []

-- the calls that are wanted are made up to one that fails
abbrev pub AreCutShort : List AnsweredCall → Option FilesTold → Option FilesTold → Type 0
AreCutShort wanted before after = (made : List AnsweredCall) × StopsAt wanted made × TellsCalls before made after

-- the calls that are wanted are made: all of them, or those up to one that fails
abbrev pub AreMade : {T E : Type 0} → List AnsweredCall → Option FilesTold → Option FilesTold → Result T E → Type 0
AreMade wanted before after (Ok x) = TellsCalls before wanted after
AreMade wanted before after (Err e) = AreCutShort wanted before after
