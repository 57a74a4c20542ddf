-- Which of two tasks comes first. This project's own, after Luigi's central scheduler.
use Rattle.std.specs.Prelude.{Bool, List, [], fold}
use Rattle.std.specs.BTreeSet.{replace_key}
use Rattle.std.specs.Ordering.{nat_cmp, int_cmp, ordering_then, is_lt}
use Rattle.std.specs.declared.cmp.Ordering.{Ordering}
use Rattle.lg_calls.specs.Task.{Task}

-- the greater priority first, then the earlier moment at which a task was added, then the lower number
abbrev pub rank_cmp : Task → Task → Ordering
rank_cmp one other =
    ordering_then (int_cmp other.priority one.priority)
    (ordering_then (nat_cmp one.added.0 other.added.0) (nat_cmp one.number other.number))

-- one task comes before another
abbrev pub outranks : Task → Task → Bool
outranks one other = is_lt (rank_cmp one other)

-- tasks of different numbers in the order of their rank
unfoldable pub by_rank : List Task → List Task
by_rank tasks = fold (replace_key rank_cmp) [] tasks
