use Rattle.std.proofs.Common.{refl, sym, ◌∙◌}
use Rattle.lg_snapshot.proofs.DecodingLemmas.{found_again}
use Rattle.lg_snapshot.proofs.laws.written_is_read.Goals as goal

pub returns : goal.returns
returns c valid unpruned =
    found_again c.args.state.now.settings c.args.state.now c.bytes.result.now c.decode.result c.in_ok-text.ensures.held
    (record { valid = valid; has_settings = refl; unpruned = unpruned; text = sym c.in_ok-text.ensures.text ∙ sym c.bytes.ensures })
    c.decode.ensures.only
