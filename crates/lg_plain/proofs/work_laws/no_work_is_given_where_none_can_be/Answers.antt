use Rattle.lg_plain.proofs.CandidateLawLemmas.{no_work-iff}
use Rattle.lg_plain.proofs.work_laws.no_work_is_given_where_none_can_be.Goals as goal

pub returns : goal.returns
returns c = no_work-iff c.the_first_is_given.ensures.given c.the_first_is_given.ensures.none
