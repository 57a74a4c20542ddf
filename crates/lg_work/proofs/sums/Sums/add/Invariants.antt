use Rattle.std.proofs.Common.{◌≡◌, ℕ, ◌+◌, ◌<◌, ◌^◌, List, take}
use Rattle.std.specs.FinMap.{entries}
use Rattle.lg_work.specs.Sums.{sum_in, sum_of}
use Rattle.lg_work.proofs.sums.Sums.add.Given as goal

abbrev pub invariant-loop-name : goal.invariant-loop-name
invariant-loop-name l = record {
  so_far : (name : List ℕ) → sum_of l.self name ≡ sum_of l.initial.self name + sum_in (take l.name-index (entries l.more)) name;
  small : (name : List ℕ) → sum_in (take l.name-index (entries l.more)) name < 2 ^ 32;
}
