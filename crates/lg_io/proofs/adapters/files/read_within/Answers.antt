use Rattle.std.proofs.Common.{◌≡◌, ℕ, ◌+◌, ◌≤◌, Option, Some, None, IfSome, option_map, List, [], ◌++◌, length, take, arith}
use Rattle.std.proofs.lemmas.Grind.{common_steps}
use Rattle.lg_io.proofs.adapters.files.read_within.Goals as goal

-- what is shorter than the front that was asked for is the whole
whole_within : (known : Option (List ℕ)) (old bytes : List ℕ) (limit most : ℕ) → limit ≡ most + 1 → old ≡ [] → length bytes ≤ most
    → IfSome (option_map (take limit) known) (λ xs. bytes ≡ old ++ xs) → IfSome known (λ all. bytes ≡ all)
whole_within None old bytes limit most limit_is empty short front = tt
whole_within (Some all) old bytes limit most limit_is empty short front = grind (arith, common_steps)

pub returns-clause-whole : goal.returns-clause-whole
returns-clause-whole g c =
    rw (← c.take.ensures.inner) (whole_within _ _ _ _ c.args.most c.take.ensures.limit c.new-bytes.ensures.items (omega arith) c.in_ok-read_to_end.ensures.bytes)
