use Rattle.std.proofs.Common.{◌≡◌, ◌++◌, drop}
use Rattle.std.specs.Prelude.{string_bytes}
use Rattle.lg_calls.specs.Views.DisplayName.{params_text}
use Rattle.lg_views.proofs.NameLemmas.{params_left}
use Rattle.lg_views.proofs.names.push_params.Given as goal

abbrev pub invariant-loop-name : goal.invariant-loop-name
invariant-loop-name l =
    string_bytes l.fn.text ++ params_text l.params ≡ string_bytes l.text ++ params_left l.later (drop l.name-index l.params)
