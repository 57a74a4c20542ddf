use Rattle.std.proofs.Common.{◌≡◌, [], ◌∷◌, ◌++◌, drop}
use Rattle.lg_json.specs.Text.{text_of}
use Rattle.lg_snapshot.specs.Trees.{listed}
use Rattle.lg_snapshot.proofs.Commas.{pieces, items_left}
use Rattle.lg_snapshot.proofs.HoldingLemmas.{ItemsAreHeld}
use Rattle.lg_snapshot.proofs.writing.Output.list.Given as goal

abbrev pub invariant-loop-item : goal.invariant-loop-item
invariant-loop-item g l =
    (l.fn.self ++ text_of (listed g.T.Written.tree l.items) ≡ l.self ++ (pieces l.later (items_left g.T.Written.tree (drop l.item-index l.items)) ++ 93 ∷ []))
    × (ItemsAreHeld g.T.Written.tree g.T.Written.fits (drop l.item-index l.items) → ItemsAreHeld g.T.Written.tree g.T.Written.fits l.items)
