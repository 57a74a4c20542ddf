use Rattle.std.proofs.Common.{rules, ◌≡◌, not, sym, ap, ◌∙◌}
use Rattle.std.specs.List.{filter}
use Rattle.std.proofs.lemmas.Fn.{filter_same}
use Rattle.lg_calls.specs.Order.{is_same}
use Rattle.lg_plain.proofs.requests.workers.without.Goals as goal

pub returns : goal.returns
returns c =
    let kept : c.retain.new.self.items ≡ filter (λ other. not (is_same c.args.id.now other)) c.into_vec-workers.result.items =
    filter_same _ (λ other. not (is_same c.args.id.now other)) _ (λ x b f h. search rules) _ _ c.retain.ensures.filtered in
    c.from_vec.ensures ∙ kept ∙ ap (filter (λ other. not (is_same c.args.id.now other))) c.into_vec-workers.ensures
