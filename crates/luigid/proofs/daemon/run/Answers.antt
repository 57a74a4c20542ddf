use Rattle.std.proofs.Common.{rules}
use Rattle.luigid.proofs.daemon.run.Goals as goal

pub returns-clause-run : goal.returns-clause-run
returns-clause-run g c = c.serve.ensures.run c.args.words.now (c.is_line.ensures.0 (search rules))
