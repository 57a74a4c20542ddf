-- Why no range is asked for, in words. This project's own.
use Rattle.std.specs.Prelude.{ℕ, List, codes}
use Rattle.lg_ranges.specs.declared.fault.AskFault.{AskFault}
use Rattle.lg_ranges.specs.declared.fault.AskFault.TheVariants.{NoBounds, NeedsReverse, StartAfterStop, ZeroLimit}

abbrev pub fault_text : AskFault → List ℕ
fault_text NoBounds = codes "neither a start nor a stop"
fault_text NeedsReverse = codes "no start, and not in reverse"
fault_text StartAfterStop = codes "the start is behind the stop"
fault_text ZeroLimit = codes "a limit of no points"
