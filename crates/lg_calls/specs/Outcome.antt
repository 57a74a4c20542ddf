-- What a step comes to. This project's own, after Luigi's central scheduler.
use Rattle.std.specs.Prelude.{ℕ}
use Rattle.lg_json.specs.Tree.{Tree}

-- A reply; or nothing was done, since the scheduler is full, with so many tasks, or since the method isn't built. That last
-- one is no answer of an engine: no such request is made.
pub data Outcome : Type 0 where
  replied : Tree → Outcome
  full : ℕ → Outcome
  not_built : Outcome
