-- The limits, one after another.
use Rattle.std.proofs.Common.{ℕ, List}
use Rattle.lg_calls.specs.Task.{Task}
use Rattle.lg_json.specs.Tree.{Tree}
use Rattle.lg_calls.specs.Views.Resources.{resource_tree}
use Rattle.lg_calls.specs.Views.ResourceList.{limit_record}
use Rattle.lg_calls.specs.Use.{use_by}

-- a limit with what is in use of it, given the RUNNING tasks
abbrev pub used_limit : List Task → List ℕ × ℕ → List ℕ × Tree
used_limit running limit = (limit.0, resource_tree limit.1 (use_by running limit.0))

-- a limit with who takes of it
abbrev pub listed_limit : List Task → List ℕ × ℕ → Tree
listed_limit running limit = limit_record running limit.0 limit.1
