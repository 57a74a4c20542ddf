use Rattle.luigid.proofs.said.say_no_call.Goals as goal

pub returns-in-Misrouted-clause-told : goal.returns-in-Misrouted-clause-told
returns-in-Misrouted-clause-told g c = rw c.in-Misrouted.is c.say_misrouted.ensures.told

pub returns-in-Refused-clause-told : goal.returns-in-Refused-clause-told
returns-in-Refused-clause-told g c = rw c.in-Refused.is c.say_refused.ensures.told
