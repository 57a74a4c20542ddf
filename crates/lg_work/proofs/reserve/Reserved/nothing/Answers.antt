use Rattle.lg_work.proofs.reserve.Reserved.nothing.Goals as goal

pub returns : goal.returns
returns c = λ i. record { slots = c.in_ok-slots.ensures i; amounts = c.new-amounts.ensures i }
