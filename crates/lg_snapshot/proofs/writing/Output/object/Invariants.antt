use Rattle.std.proofs.Common.{◌≡◌, [], ◌∷◌, ◌++◌, drop}
use Rattle.lg_json.specs.Text.{text_of}
use Rattle.lg_snapshot.specs.Trees.{by_name}
use Rattle.lg_snapshot.proofs.Commas.{pieces, members_left}
use Rattle.lg_snapshot.proofs.HoldingLemmas.{PairsAreHeld}
use Rattle.lg_snapshot.proofs.writing.Output.object.Given as goal

abbrev pub invariant-loop-name : goal.invariant-loop-name
invariant-loop-name g l =
    (l.fn.self ++ text_of (by_name g.T.Written.tree l.pairs) ≡ l.self ++ (pieces l.later (members_left g.T.Written.tree (drop l.name-index l.pairs)) ++ 125 ∷ []))
    × (PairsAreHeld g.T.Written.tree g.T.Written.fits (drop l.name-index l.pairs) → PairsAreHeld g.T.Written.tree g.T.Written.fits l.pairs)
