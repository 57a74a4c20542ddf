use Rattle.lg_json.specs.Text.{quoted}
use Rattle.lg_json.proofs.Printable.{All-printable, printable-quoted}
use Rattle.lg_json.proofs.laws.quotes_are_printable.Goals as goal

pub returns : goal.returns
returns c text utf8 = All-printable (quoted text) (printable-quoted text utf8)
