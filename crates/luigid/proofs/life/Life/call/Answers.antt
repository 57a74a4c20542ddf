use Rattle.std.proofs.Common.{sym, ◌∙◌, ap, ◌||◌, arith}
use Rattle.lg_calls.specs.Request.{is_stop}
use Rattle.lg_desk.proofs.CallerLemmas.{good-push, open-push, marked-push, counted-push}
use Rattle.luigid.proofs.life.Life.call.Goals as goal
use Rattle.luigid.proofs.life.Life.call.Goals.{then-self, else-self}

pub invariant_of-self-in_default : goal.invariant_of-self-in_default
invariant_of-self-in_default g c =
    let entered = c.in_ok-enter.ensures.ok in
    let marked = marked-push c.args.self.now.journal _ c.args.entry c.args.self.now.stopped c.args.self.now.is_marked entered in
    let counted = counted-push c.args.self.now.journal _ c.args.entry c.args.self.now.bytes c.args.self.now.is_counted entered in
    record {
      is_good = good-push c.args.self.now.journal _ c.args.entry c.args.self.now.is_good entered record { moment = c.requires.in_time; in_range = c.requires.in_range };
      is_open = open-push c.args.self.now.journal _ c.args.entry c.requires.not_over entered;
      is_marked = elim c.if-self.branch [
        | then-self w ↦ w.self-is ∙ w.if-self.true ∙ ap (λ b. b || is_stop c.args.entry.request) (sym w.if-self.true) ∙ marked
        | else-self w ↦ w.self-is ∙ c.is_stop-stops.ensures ∙ ap (λ b. b || is_stop c.args.entry.request) (sym w.if-self.false) ∙ marked
      ];
      is_counted = omega (arith, counted, c.saturating_add-self.ensures, c.from-size.ensures);
    }
