-- What callers may cite of the proofs of this crate.
use Rattle.std.proofs.Common.{List, [], ◌++◌, Option, Some, None, sym, ◌∙◌, append_assoc}
use Rattle.std.proofs.lemmas.List.{append-nil}
use Rattle.lg_io.specs.Tells.{TellsOn}
pub use Rattle.lg_io.proofs.Writes.{Takes-nothing, Takes-append}
pub use Rattle.lg_io.proofs.Sequence.{TakesFront, front_of_piece, front_behind, written_behind, done, WritesUpTo}
pub use Rattle.lg_io.proofs.Sequence.{Writes-nothing, Writes-then, Writes-cut, Writes-same, UpTo-start, UpTo-piece, UpTo-last, UpTo-failed, UpTo-end}

-- nothing more is told
pub TellsOn-nothing : {A : Type 0} (told : Option (List A)) → TellsOn told told []
TellsOn-nothing None = tt
TellsOn-nothing (Some items) = sym (append-nil items)

-- what is told goes on by one list and then by another
pub TellsOn-append : {A : Type 0} (before middle after : Option (List A)) (xs ys : List A)
    → TellsOn before middle xs → TellsOn middle after ys → TellsOn before after (xs ++ ys)
TellsOn-append before middle None xs ys first second = tt
TellsOn-append before None (Some new) xs ys first second = absurd second
TellsOn-append None (Some mid) (Some new) xs ys first second = absurd first
TellsOn-append (Some old) (Some mid) (Some new) xs ys first second = rw first at second ∙ append_assoc old xs ys
