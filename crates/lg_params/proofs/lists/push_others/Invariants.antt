use Rattle.std.proofs.Common.{◌≡◌, ℕ, ◌<◌, List, ◌∷◌, ◌++◌, take, get_or, flat_map}
use Rattle.std.specs.Prelude.{IsUtf8}
use Rattle.std.specs.String.{string_bytes}
use Rattle.lg_json.specs.Text.{quoted}
use Rattle.lg_params.proofs.lists.push_others.Given as goal

abbrev pub invariant-loop-text : goal.invariant-loop-text
invariant-loop-text l =
    (string_bytes l.list ≡ string_bytes l.initial.list ++ flat_map (λ text. 44 ∷ 32 ∷ quoted text) (take l.text-index l.texts)) × ((k : ℕ) (d : List ℕ) → k < l.text-index → IsUtf8 (get_or l.texts k d))
