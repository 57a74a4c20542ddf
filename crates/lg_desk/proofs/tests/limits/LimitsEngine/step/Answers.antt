use Rattle.std.proofs.Common.{arith, ◌≤◌, Bool, true, false, Option, Some, None, sym, subst, if◌then◌else◌, refl, ◌≡◌}
use Rattle.lg_base.specs.declared.moment.Moment.{Moment}
use Rattle.lg_calls.specs.declared.state.State.{State}
use Rattle.lg_calls.specs.Pruning.{pruned, pruned_since, is_due, asks_for_pruning}
use Rattle.lg_calls.specs.Valid.{NotLater}
use Rattle.lg_calls.proofs.CallerLemmas.{step_by, state-rise}
use Rattle.lg_desk.proofs.tests.limits.LimitsEngine.step.Goals as goal

risen : (when : Option Moment) (old now : Moment) → old.0 ≤ now.0 → NotLater when old → NotLater when now
risen None old now rises holds = tt
risen (Some moment) old now rises holds = omega arith

-- the last pruning isn't later than the moment
not_later : (last : Option Moment) (s : State) (now : Moment) (asked : Bool) → last ≡ s.pruned → s.moment.0 ≤ now.0 → NotLater s.pruned s.moment
    → NotLater (pruned_since last s now.0 asked).pruned now
not_later None s now asked last_is rises holds = omega arith
not_later (Some last) s now asked last_is rises holds = by_choice (is_due last now.0 asked) where
  by_choice : (due : Bool) → NotLater (if due then pruned s now.0 else s).pruned now
  by_choice true = omega arith
  by_choice false = risen s.pruned s.moment now rises holds

pub invariant_of-self-2 : goal.invariant_of-self-2
invariant_of-self-2 c =
    let s = c.args.self.now.state in
    let rises : s.moment.0 ≤ c.max.result = omega arith in
    let here = not_later s.pruned s (record { 0 = c.max.result }) (asks_for_pruning s.settings c.args.request.now) refl rises c.args.self.now.is_valid.pruned_before in
    record {
      is_valid = state-rise s (record { 0 = c.max.result }) _ c.apply.new.limits rises (omega arith)
          (subst (λ last. NotLater last (record { 0 = c.max.result })) (sym c.pruned_at-pruned.ensures) here) c.args.self.now.is_valid;
    }

pub returns : goal.returns
returns c =
    step_by c.args.self.now.state c.args.now.0 c.args.request.now (record { 0 = c.max.result }) _ c.apply.new.limits _ c.max.ensures c.pruned_at-pruned.ensures
    (λ state same. c.in_ok-reply.ensures.ok state same)
