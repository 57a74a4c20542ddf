use Rattle.std.proofs.Common.{◌≡◌, map, option_map}
use Rattle.form_urlencoded.specs.Form.{pair_text}
use Rattle.luigid.specs.Payload.{last_data}
use Rattle.luigid.proofs.payload.last_data.Given as goal

-- what was found so far is the last of the pairs so far
abbrev pub invariant-loop-name : goal.invariant-loop-name
invariant-loop-name l = option_map (λ value. value.now) l.found ≡ last_data (map pair_text l.yielded)
