use Rattle.std.proofs.Common.{sym, ◌∙◌}
use Rattle.lg_http.proofs.Readings.{reading_unique}
use Rattle.lg_http.proofs.laws.one_reading.Goals as goal

pub returns : goal.returns
returns c =
    λ stream messages others rest left one all other all_too.
    reading_unique messages others rest left one.each other.each all all_too (sym one.whole ∙ other.whole)
