-- A step by its parts.
use Rattle.std.proofs.Common.{◌≡◌, ℕ, ◌≤◌, ℤ, pos, negsuc, Bool, true, false, List, refl, sym, ◌∙◌, ap, arith, Option}
use Rattle.std.specs.Prelude.{max, if◌then◌else◌, Some, None}
use Rattle.lg_base.specs.Amounts.{AmountsByName}
use Rattle.lg_base.specs.declared.moment.Moment.{Moment}
use Rattle.lg_json.specs.Tree.{Tree}
use Rattle.lg_calls.specs.declared.request.Request.{Request}
use Rattle.lg_calls.specs.declared.request.Request.TheVariants.{UpdateResource}
use Rattle.lg_calls.specs.declared.state.State.{State}
use Rattle.lg_calls.specs.Outcome.{Outcome, replied, full, not_built}
use Rattle.lg_calls.specs.Pruning.{pruned, pruned_since, pruned_if_due, is_due, asks_for_pruning}
use Rattle.lg_calls.proofs.MomentLemmas.{applied-moment}
use Rattle.lg_calls.specs.Step.{applied, begun, where_replied, step}

-- what a pruning leaves to see: the moment is as it was, and only the last pruning may be another
prunes_by : (last : Option Moment) (s : State) (now : Moment) (handed : ℕ) (asked : Bool)
    → pruned_since last (record s { moment = now }) handed asked ≡ record s { moment = now; pruned = (pruned_since last s handed asked).pruned }
prunes_by None s now handed asked = refl
prunes_by (Some last) s now handed asked = by_choice (is_due last handed asked) where
  by_choice : (due : Bool)
      → (if due then pruned (record s { moment = now }) handed else record s { moment = now }) ≡ record s { moment = now; pruned = (if due then pruned s handed else s).pruned }
  by_choice true = refl
  by_choice false = refl

pub begun_by : (s : State) (handed : ℕ) (request : Request) (now : Moment) → now.0 ≡ max s.moment.0 handed
    → begun s handed request ≡ record s { moment = now; pruned = (pruned_if_due s now.0 request).pruned }
begun_by s handed request now is = rw (← is) (prunes_by s.pruned s now now.0 (asks_for_pruning s.settings request))

abbrev with_last : State → Moment → AmountsByName → Tree → Option Moment → State × Outcome
with_last s now limits tree last = (record s { moment = now; pruned = last; limits = limits }, replied tree)

-- a step whose request changes the limits alone
pub step_by : (s : State) (handed : ℕ) (request : Request) (now : Moment) (last : Option Moment) (limits : AmountsByName) (tree : Tree)
    → now.0 ≡ max s.moment.0 handed → last ≡ (pruned_if_due s now.0 request).pruned
    → ((state : State) → state.limits ≡ s.limits → applied state request ≡ (record state { limits = limits }, replied tree))
    → step s handed request ≡ (record s { moment = now; pruned = last; limits = limits }, replied tree)
step_by s handed request now last limits tree is last_is does =
    ap (λ state. where_replied s (applied state request)) (begun_by s handed request now is)
    ∙ ap (where_replied s) (does (record s { moment = now; pruned = (pruned_if_due s now.0 request).pruned }) refl)
    ∙ ap (with_last s now limits tree) (sym last_is)

begun-moment : (s : State) (handed : ℕ) (request : Request) → (begun s handed request).moment.0 ≡ max s.moment.0 handed
begun-moment s handed request =
    let now : Moment = record { 0 = max s.moment.0 handed } in
    ap (λ (state : State). state.moment.0) (begun_by s handed request now refl)

-- a step by what its request does
rises_by : (s : State) (after : State × Outcome) → s.moment.0 ≤ after.0.moment.0 → s.moment.0 ≤ (where_replied s after).0.moment.0
rises_by s (after, replied tree) rises = rises
rises_by s (after, full tasks) rises = omega arith
rises_by s (after, not_built) rises = omega arith

pub step-rises : (s : State) (handed : ℕ) (request : Request) → s.moment.0 ≤ (step s handed request).0.moment.0
step-rises s handed request =
    rises_by s (applied (begun s handed request) request)
    (omega (arith, ap (λ (m : Moment). m.0) (applied-moment (begun s handed request) request), begun-moment s handed request))

stays_by : (s : State) (after : State × Outcome) (tasks : ℕ) → (where_replied s after).1 ≡ full tasks → (where_replied s after).0 ≡ s
stays_by s (after, replied tree) tasks is = absurd (cc)
stays_by s (after, full others) tasks is = refl
stays_by s (after, not_built) tasks is = refl

-- a scheduler that is full stays as it was
pub full-stays : (s : State) (handed : ℕ) (request : Request) (tasks : ℕ) → (step s handed request).1 ≡ full tasks → (step s handed request).0 ≡ s
full-stays s handed request tasks is = stays_by s (applied (begun s handed request) request) tasks is
