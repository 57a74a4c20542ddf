-- A message whose head is whole and whose body arrives. This project's own.
use Rattle.std.specs.Prelude.{◌≡◌, ℕ, Bool, List, take, drop}
use Rattle.httparse.specs.Spans.{span_bytes}
use Rattle.lg_http.specs.declared.heads.Head.{Head}

-- its verb and target, how long its body is to be, what came of it, whether a field tells its length, and whether it
-- closes the connection
pub record Arrival : Type 0 where
  pub verb : List ℕ
  pub target : List ℕ
  pub size : ℕ
  pub read : List ℕ
  pub sized : Bool
  pub last : Bool

-- it has the parts of the head, and the bytes behind it as far as they are the body's
pub record Begins (bytes : List ℕ) (head : Head) (arrival : Arrival) : Type 0 where
  pub verb_is : arrival.verb ≡ span_bytes bytes head.verb
  pub target_is : arrival.target ≡ span_bytes bytes head.target
  pub size_is : arrival.size ≡ head.body_len
  pub read_is : arrival.read ≡ take head.body_len (drop head.len bytes)
  pub sized_is : arrival.sized ≡ head.sized
  pub last_is : arrival.last ≡ head.last
