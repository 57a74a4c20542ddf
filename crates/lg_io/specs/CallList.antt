-- The calls that an object in memory keeps, in order. This project's own.
use Rattle.std.specs.Prelude.{ℕ, ◌-◌, List, [], ◌∷◌, ◌++◌, Option, None, option_map, nat_lt, if◌then◌else◌}

-- the calls, while they are told, and for how many more there is room
pub record KeptCalls (T : Type 0) : Type 0 where
  pub told : Option (List T)
  pub room : ℕ

-- one call more is told where there is room, and from then on nothing is told where there is none
abbrev pub with_call : {T : Type 0} → KeptCalls T → T → KeptCalls T
with_call kept call = record {
  told = if nat_lt 0 kept.room then option_map (λ calls. calls ++ call ∷ []) kept.told else None;
  room = kept.room - 1;
}
