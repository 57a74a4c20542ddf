-- A text that is given in parts. This project's own.
use Rattle.std.specs.Borrow.{Bor}
use Rattle.std.specs.Prelude.{ℕ, List, flat_map}

-- the bytes of the parts, one behind the other
abbrev pub joined : List (Bor (List ℕ)) → List ℕ
joined = flat_map (λ part. part.now)
