use Rattle.lg_plain.proofs.RaisingLemmas.{raised-led_to, raised-not_led_to, raised-from_nobody}
use Rattle.lg_plain.proofs.raising_laws.urgency_goes_along_paths.Goals as goal

pub returns-clause-led_to : goal.returns-clause-led_to
returns-clause-led_to c = raised-led_to

pub returns-clause-not_led_to : goal.returns-clause-not_led_to
returns-clause-not_led_to c = raised-not_led_to

pub returns-clause-from_nobody : goal.returns-clause-from_nobody
returns-clause-from_nobody c = raised-from_nobody
