use Rattle.std.proofs.Common.{◌≡◌, ◌⊎◌, ℕ, List, ◌++◌}
use Rattle.std.specs.Prelude.{option_map}
use Rattle.lg_http.specs.Answers.{after_bytes, quiets_after}
use Rattle.lg_http.specs.Incoming.{IsReady, bytes_of, room_of}
use Rattle.lg_http.specs.Messages.{IsUndecided}
use Rattle.lg_http.proofs.incoming.Incoming.next.Given as goal

-- what was read is kept and counted, with no fault, and nothing was read where the first bytes decide
abbrev pub invariant-pieces : goal.invariant-pieces
invariant-pieces g l =
    let source = g.R.Source in
    record {
      got : (got : List ℕ) × (source.received l.source ≡ option_map (after_bytes got) (source.received l.fn.source))
          × (bytes_of l.self ≡ bytes_of l.fn.self ++ got) × (l.self.quiets ≡ quiets_after got l.fn.self.quiets);
      asked : IsUndecided (bytes_of l.fn.self)
          ⊎ ((l.source ≡ l.fn.source) × (bytes_of l.self ≡ bytes_of l.fn.self));
      ready : IsReady l.self;
      faults : source.faults l.source ≡ source.faults l.fn.source;
      rest : source.rest l.source ≡ source.rest l.fn.source;
    }

abbrev pub decreases-pieces : goal.decreases-pieces
decreases-pieces g l = room_of l.self
