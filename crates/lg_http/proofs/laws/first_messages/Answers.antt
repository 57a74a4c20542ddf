use Rattle.std.proofs.Common.{sym, ◌∙◌}
use Rattle.lg_http.proofs.Readings.{reading_front}
use Rattle.lg_http.proofs.laws.first_messages.Goals as goal

pub returns : goal.returns
returns c =
    λ stream messages all behind rest front last whole are_all.
    reading_front messages all behind rest front.each whole.each last are_all (sym front.whole ∙ whole.whole)
