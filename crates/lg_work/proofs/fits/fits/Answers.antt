use Rattle.std.proofs.Common.{rules}
use Rattle.lg_work.specs.Sums.{sum_of}
use Rattle.lg_work.proofs.FitsLemmas.{fits_is}
use Rattle.lg_work.proofs.fits.fits.Goals as goal

pub returns : goal.returns
returns c = fits_is c.args.limits.now c.args.needs.now (sum_of c.args.taken.now) c.fits.result (c.fits.ensures (sum_of c.args.taken.now) (λ name amount says. search rules))
