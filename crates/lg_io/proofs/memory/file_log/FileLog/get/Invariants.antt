use Rattle.std.proofs.Common.{◌≡◌}
use Rattle.std.specs.FinMap.{get}
use Rattle.std.specs.VecDeque.Iter.{deque_iter_rest}
use Rattle.lg_io.specs.MemoryFiles.{files_of}
use Rattle.lg_io.proofs.memory.file_log.FileLog.get.Given as goal

-- no edit so far was of this path
abbrev pub invariant-loop-edit : goal.invariant-loop-edit
invariant-loop-edit l = get l.self l.path ≡ get (files_of (deque_iter_rest l.edit-iterator)) l.path
