use Rattle.lg_declare.proofs.DeclaringLemmas.{gives, goes_on, stopped}
use Rattle.lg_declare.specs.Commands.{command_of}
use Rattle.std.proofs.Common.{refl, sym}
use Rattle.toml.proofs.Views.{has_items-view}
use Rattle.lg_declare.proofs.commands.command_of.Goals as goal

pub returns-in_err-items : goal.returns-in_err-items
unfolding command_of
returns-in_err-items c = stopped _ _ _ _ c.in_err-items.ensures c.from_residual.ensures.1

pub returns-in_err-ensured : goal.returns-in_err-ensured
unfolding command_of
returns-in_err-ensured c = goes_on _ _ _ _ c.in_ok-items.ensures (rw (has_items-view c.in_ok-items.items.now, sym c.is_empty.ensures) (stopped _ _ _ _ c.in_err-ensured.ensures c.from_residual-in_err-ensured.ensures.1))

pub returns-in_err-words : goal.returns-in_err-words
unfolding command_of
returns-in_err-words c = goes_on _ _ _ _ c.in_ok-items.ensures (rw (has_items-view c.in_ok-items.items.now, sym c.is_empty.ensures) (goes_on _ _ _ _ c.in_ok-ensured.ensures (stopped _ _ _ _ c.in_err-words.ensures c.from_residual-in_err-words.ensures.1)))

pub returns : goal.returns
unfolding command_of
returns c = goes_on _ _ _ _ c.in_ok-items.ensures (rw (has_items-view c.in_ok-items.items.now, sym c.is_empty.ensures) (goes_on _ _ _ _ c.in_ok-ensured.ensures (goes_on _ _ _ _ c.in_ok-words.ensures (gives _ _ refl))))
