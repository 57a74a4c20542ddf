use Rattle.std.proofs.Common.{◌≡◌, ◌≤◌, length, vec_capacity}
use Rattle.lg_plain.specs.Index.{HasEach}
use Rattle.lg_plain.proofs.index.Index.put_places.Given as goal

abbrev pub invariant-loop-place : goal.invariant-loop-place
invariant-loop-place l = HasEach l.place l.self.places.items × (length l.self.places.items ≡ l.place) × (l.count ≤ vec_capacity l.self.places)
