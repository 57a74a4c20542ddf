use Rattle.lg_json.specs.Canonical.{canonical_text}
use Rattle.lg_json.proofs.Printable.{All-printable, printable-canonical_text}
use Rattle.lg_json.proofs.laws.canonical_texts_are_printable.Goals as goal

pub returns : goal.returns
returns c pairs texts = All-printable (canonical_text pairs) (printable-canonical_text pairs texts)
