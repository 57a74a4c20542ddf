use Rattle.std.proofs.Common.{◌≡◌, ◌≢◌, ◌||◌, sym, ◌∙◌, ap, arith, Result, Err}
use Rattle.lg_calls.specs.Request.{is_stop}
use Rattle.lg_calls.specs.declared.engine.StepFault.TheVariants.{NoMemory}
use Rattle.lg_desk.proofs.Calls.{replayed_step, open_behind}
use Rattle.lg_desk.proofs.Pushes.{good-push, open-push, marked-push, counted-push}
use Rattle.lg_desk.proofs.kept.Kept.enter.Goals as goal
use Rattle.lg_desk.proofs.kept.Kept.enter.Goals.{then-self, else-self}

pub invariant_of-self-in_default : goal.invariant_of-self-in_default
invariant_of-self-in_default g c =
    let kept = c.args.self.now in
    let entered = c.push_reserved.ensures.items in
    let marked = marked-push kept.entries.items _ c.args.entry kept.stopped kept.is_marked entered in
    let counted = counted-push kept.entries.items _ c.args.entry kept.bytes kept.is_counted entered in
    let made : c.step.result ≢ Err NoMemory = λ none. grind arith in
    record {
      is_replayed = replayed_step (g.E.Engine.state kept.first.value) _ _ kept.entries.items _ c.args.entry c.step.result kept.is_replayed entered c.step.ensures made;
      is_good = good-push kept.entries.items _ c.args.entry kept.is_good entered record { moment = c.requires.in_time; in_range = c.requires.in_range };
      is_open = open-push kept.entries.items _ c.args.entry c.requires.not_over entered;
      is_marked = elim c.if-self.branch [
        | then-self w ↦ w.self-is ∙ w.if-self.true ∙ ap (λ b. b || is_stop c.args.entry.request) (sym w.if-self.true) ∙ marked
        | else-self w ↦ w.self-is ∙ c.is_stop-stops.ensures ∙ ap (λ b. b || is_stop c.args.entry.request) (sym w.if-self.false) ∙ marked
      ];
      is_counted = omega (arith, counted, c.saturating_add-self.ensures, c.from-size.ensures);
      has_room = λ still. let room = c.requires.room (open_behind kept.entries.items _ c.args.entry entered still) in omega (arith, room, c.push_reserved.ensures.len, c.push_reserved.ensures.capacity);
    }
