-- One write after another.
use Rattle.std.proofs.Common.{ℕ, List, [], ◌++◌, refl, sym, ◌∙◌, ap, append_assoc}
use Rattle.std.proofs.lemmas.List.{append-nil}
use Rattle.std.specs.Prelude.{Option, Some, None}
use Rattle.lg_io.specs.Sink.{Takes}

-- nothing was taken yet
pub Takes-nothing : (told : Option (List ℕ)) → Takes told told []
Takes-nothing None = refl
Takes-nothing (Some bytes) = ap Some (sym (append-nil bytes))

-- two pieces are taken as one
pub Takes-append : (before middle after : Option (List ℕ)) (x y : List ℕ) → Takes before middle x → Takes middle after y → Takes before after (x ++ y)
Takes-append None middle after x y first second = rw first at second
Takes-append (Some bytes) middle after x y first second = (rw first at second) ∙ ap Some (append_assoc bytes x y)
