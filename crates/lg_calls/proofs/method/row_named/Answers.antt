use Rattle.std.proofs.Common.{◌≡◌, ℕ, Bool, Bor, List, map, Option, option_map, rules, tests, refl, ap, ◌∙◌}
use Rattle.std.specs.List.{find}
use Rattle.std.specs.Slice.Iter.{iter_rest}
use Rattle.std.specs.Str.{bytes_eq}
use Rattle.std.proofs.lemmas.Iterator.{YieldsList-from_slice}
use Rattle.std.proofs.lemmas.Iterator.Search.{find_from_yields_List}
use Rattle.lg_calls.specs.declared.method.Method.{Method}
use Rattle.lg_calls.specs.Method.{MethodRow, methods}
use Rattle.lg_calls.proofs.MethodLemmas.{find-map, option_map-option_map}
use Rattle.lg_calls.proofs.method.row_named.Goals as goal

abbrev Row : Type 0
Row = Bor (List ℕ) × Method × Bool

abbrev seen : Row → MethodRow
seen row = (row.0.now, row.1, row.2)

-- the row found in the code's table, seen as one of the table
looked_up : (name : List ℕ) (all : List Row) (found : Option (Bor Row)) → option_map (λ row. row.now) found ≡ find (λ row. bytes_eq row.0.now name) all
    → option_map (λ row. (row.now.0.now, row.now.1, row.now.2)) found ≡ find (λ row. bytes_eq row.0 name) (map seen all)
looked_up name all found is = option_map-option_map seen (λ row. row.now) found ∙ ap (option_map seen) is ∙ find-map seen (λ row. bytes_eq row.0 name) all

pub returns : goal.returns
unfolding methods
returns c =
    let name = c.args.name.now in
    let all = iter_rest c.iter.result in
    looked_up name all c.find.result
    (find_from_yields_List (λ row. bytes_eq row.0.now name) _ _ c.find.result c.find.ensures.ran (YieldsList-from_slice all refl) (λ x b q k. search (rules, tests)))
    ∙ ap (λ rows. find (λ row. bytes_eq row.0 name) (map seen rows)) c.iter.ensures.rest
