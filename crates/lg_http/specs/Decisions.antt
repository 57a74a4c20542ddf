-- What is decided of the bytes that are looked at for a head. This project's own.
use Rattle.std.specs.Prelude.{◌≡◌, ℕ, ◌≤◌, List, length, drop}
use Rattle.httparse.specs.Grammar.{RequestHead, print_request}
use Rattle.httparse.specs.Spans.{IsWithin, span_bytes}
use Rattle.lg_http.specs.declared.heads.Head.{Head}
use Rattle.lg_http.specs.declared.heads.Decision.{Decision}
use Rattle.lg_http.specs.declared.heads.Decision.TheVariants.{Accept, Bad, NotYet}
use Rattle.lg_http.specs.Fields.{is_sized, body_length, closes}
use Rattle.lg_http.specs.Heads.{IsAccepted}
use Rattle.lg_http.specs.Messages.{BeginsWith, HasPartOfHead, IsBad}

-- the bytes begin with a head that is served, and found has its parts
pub record IsHeadAt (bytes : List ℕ) (found : Head) (head : RequestHead) : Type 0 where
  pub begins : BeginsWith bytes head (drop found.len bytes)
  pub len : found.len ≡ length (print_request head)
  pub fits : found.len ≤ length bytes
  pub accepted : IsAccepted head
  pub size : found.body_len ≡ body_length head
  pub sized : found.sized ≡ is_sized head
  pub last : found.last ≡ closes head
  pub verb_fits : IsWithin found.len found.verb
  pub verb : span_bytes bytes found.verb ≡ head.method
  pub target_fits : IsWithin found.len found.target
  pub target : span_bytes bytes found.target ≡ head.target

-- Decided by the whole bytes, and so not by the pieces in which they came.
abbrev pub Decides : List ℕ → Decision → Type 0
Decides bytes (Accept found) = (head : RequestHead) × IsHeadAt bytes found head
Decides bytes (Bad status) = IsBad status bytes
Decides bytes NotYet = HasPartOfHead bytes
