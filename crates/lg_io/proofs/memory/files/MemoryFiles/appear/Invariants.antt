use Rattle.std.proofs.Common.{◌≡◌, ◌≢◌, [], ◌++◌}
use Rattle.std.specs.VecDeque.{deque_len}
use Rattle.lg_io.specs.Files.{HasGrown, present}
use Rattle.lg_io.specs.Appearances.{due_before, left_before, maps_with}
use Rattle.lg_io.specs.FileScript.{held_maps, files_ahead}
use Rattle.lg_io.proofs.memory.files.MemoryFiles.appear.Given as goal

-- some files have appeared, the others are still to, and nothing else has changed
abbrev pub invariant-loop-file : goal.invariant-loop-file
invariant-loop-file g l =
    record {
      grown : HasGrown (held_maps l.fn.self) (held_maps l.self);
      maps : held_maps l.self ++ maps_with (present (held_maps l.self)) (due_before l.call (files_ahead l.self))
          ≡ held_maps l.fn.self ++ maps_with (present (held_maps l.fn.self)) (due_before l.call (files_ahead l.fn.self));
      ahead : left_before l.call (files_ahead l.self) ≡ left_before l.call (files_ahead l.fn.self);
      due : due_before l.call (files_ahead l.self) ≢ [] → due_before l.call (files_ahead l.fn.self) ≢ [];
      calls : l.self.history.calls ≡ l.fn.self.history.calls;
      count : l.self.calls ≡ l.fn.self.calls;
      plan : l.self.plan ≡ l.fn.self.plan;
      late : l.self.late ≡ l.fn.self.late;
      wants : l.self.shelf.wants ≡ l.fn.self.shelf.wants;
    }

abbrev pub decreases-loop-file : goal.decreases-loop-file
decreases-loop-file g l = deque_len l.self.coming
