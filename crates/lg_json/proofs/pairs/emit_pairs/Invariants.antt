use Rattle.std.proofs.Common.{[], ◌∷◌, ◌++◌, drop, map, take}
use Rattle.lg_io.proofs.CallerLemmas.{WritesUpTo}
use Rattle.lg_json.specs.Canonical.{pair_text, canonical_text, AreTexts}
use Rattle.lg_json.proofs.Commas.{after_separator}
use Rattle.lg_json.proofs.pairs.emit_pairs.Given as goal

abbrev pub invariant-loop-name : goal.invariant-loop-name
invariant-loop-name g l =
    WritesUpTo g.S.Sink.taken g.S.Sink.faults g.S.Sink.rest l.fn.sink l.sink (canonical_text l.pairs) (after_separator l.separator (map pair_text (drop l.name-index l.pairs)) ++ 125 ∷ [])
    × AreTexts (take l.name-index l.pairs)
