use Rattle.std.proofs.Common.{rules, ◌≡◌, filter, ap}
use Rattle.std.proofs.lemmas.Fn.{filter_same}
use Rattle.lg_retry.specs.Failures.{Kept, add_failure, is_inside_window}
use Rattle.lg_retry.proofs.failures.Failures.add.Goals as goal

pub returns-clause-history : goal.returns-clause-history
returns-clause-history c =
    let kept : c.retain.new.self.items ≡ filter (is_inside_window c.args.now c.args.policy.now) c.self.inside.moments.items =
    filter_same _ (is_inside_window c.args.now c.args.policy.now) _ (λ x b f h. search rules) _ _ c.retain.ensures.filtered in
    rw c.push_reserved.ensures.items (rw kept (rw c.unwrap_or.ensures
    (ap (λ (old : Kept). add_failure old.history c.args.now c.args.policy.now) c.self.view_is)))
