use Rattle.std.proofs.Common.{◌≡◌, ℕ, List, ◌++◌, ◌+◌, drop, flat_map, length, get_or, ◌<◌, arith}
use Rattle.std.proofs.lemmas.List.{at_drop_more}
use Rattle.lg_json.specs.Escapes.{unit_escape}
use Rattle.lg_io.proofs.CallerLemmas.{UpTo-start, UpTo-piece, UpTo-failed}
use Rattle.lg_json.proofs.escapes.emit_units.Goals as goal

-- the escape of the unit at hand comes next
next_unit : (units piece : List ℕ) (i : ℕ) → i < length units → piece ≡ unit_escape (get_or units i 0) → flat_map unit_escape (drop i units) ≡ piece ++ flat_map unit_escape (drop (i + 1) units)
next_unit units piece i within is = rw is (at_drop_more (flat_map unit_escape) units i 0 within)

pub loop-unit-init : goal.loop-unit-init
loop-unit-init g c = UpTo-start _ _

pub loop-unit-preserved : goal.loop-unit-preserved
loop-unit-preserved g c =
    let wrote = c.in_ok-write_all.ensures in
    let next = next_unit c.args.units.now c.escape_of_unit.result c.loop-unit.unit-index (omega arith) c.escape_of_unit.ensures in
    UpTo-piece _ _ _ _ c.escape_of_unit.result _ (rw next at c.loop-unit.invariant) (record { told = wrote.told; cause = wrote.cause; rest = wrote.rest })

pub returns-in_err-write_all : goal.returns-in_err-write_all
returns-in_err-write_all g c =
    let part = c.in_err-write_all.ensures in
    let next = next_unit c.args.units.now c.escape_of_unit.result c.loop-unit.unit-index (omega arith) c.escape_of_unit.ensures in
    UpTo-failed _ _ _ _ c.escape_of_unit.result _ c.in_err-write_all.field-0.0 _ (rw next at c.loop-unit.invariant)
    (record { told = part.told; cause = part.cause; rest = part.rest }) c.from_residual.ensures.0
