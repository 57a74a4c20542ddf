use Rattle.std.proofs.Common.{refl}
use Rattle.lg_snapshot.proofs.LoadingLemmas.{loads_saved_told}
use Rattle.lg_snapshot.proofs.laws.saved_is_loaded.Goals as goal

pub returns : goal.returns
returns g c = λ told plain valid unpruned.
    loads_saved_told c.args.path.now c.args.state.now (g.G.Numbers.draws c.args.numbers.now) (g.G.Numbers.draws c.save.new.numbers)
    (g.F.Files.files c.args.files.now) (g.F.Files.files c.save.new.files) c.load.result told c.in_ok-save.ensures.held
    (record { valid = valid; has_settings = refl; unpruned = unpruned; text = refl })
    c.in_ok-save.ensures.asked (c.in_ok-save.ensures.leaves plain) (c.load.ensures.found plain)
