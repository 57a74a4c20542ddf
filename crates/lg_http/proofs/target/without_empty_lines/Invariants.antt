use Rattle.std.proofs.Common.{◌≡◌, List, ◌++◌, length}
use Rattle.httparse.specs.Grammar.{LineEnd, print_blank}
use Rattle.lg_http.proofs.target.without_empty_lines.Given as goal

-- only empty lines were passed
abbrev pub invariant-loop-left : goal.invariant-loop-left
invariant-loop-left l = (blank : List LineEnd) × (l.bytes ≡ print_blank blank ++ l.rest)

abbrev pub decreases-loop-left : goal.decreases-loop-left
decreases-loop-left l = length l.rest
