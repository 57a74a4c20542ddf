-- What a link did. This project's own.
use Rattle.std.specs.Prelude.{ℕ, ◌+◌, Bool, List, [], Option, Some, option_map, option_and_then}
use Rattle.lg_io.specs.Source.{Received, nothing_received}

-- what a link tells: what it received and took, and the faults of both ways
pub record LinkTold : Type 0 where
  pub received : Option Received
  pub taken : Option (List ℕ)
  pub read_faults : ℕ
  pub write_faults : ℕ

-- a link that tells, and that nobody used
abbrev pub fresh_link : LinkTold
fresh_link = record { received = Some nothing_received; taken = Some []; read_faults = 0; write_faults = 0 }

-- a link that was handed back: what it received and wrote, whether its input was at its end, its faults of both
-- ways, and how often it was quiet since its last byte
pub record EndedLink : Type 0 where
  pub received : List ℕ
  pub written : List ℕ
  pub ended : Bool
  pub faults : ℕ
  pub quiets : ℕ

-- a link that received and wrote this, with so many faults
abbrev pub ended_with : Received → List ℕ → ℕ → EndedLink
ended_with r written faults =
    record { received = r.bytes; written = written; ended = r.ended; faults = faults; quiets = r.quiets }

-- the faults of both ways together
abbrev pub link_faults : LinkTold → ℕ
link_faults link = link.read_faults + link.write_faults

-- a link as it is when it is handed back, where it tells both ways
abbrev pub ended_link : LinkTold → Option EndedLink
ended_link link =
    option_and_then (λ r. option_map (λ written. ended_with r written (link_faults link)) link.taken) link.received
