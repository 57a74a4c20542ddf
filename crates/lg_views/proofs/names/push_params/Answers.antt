use Rattle.std.proofs.Common.{◌≡◌, [], ◌++◌, drop, ap, sym, ◌∙◌, append-nil, arith}
use Rattle.std.proofs.lemmas.List.{drop_all}
use Rattle.std.specs.Prelude.{string_bytes}
use Rattle.lg_views.proofs.NameLemmas.{params_left, params_text-left, next_param}
use Rattle.lg_views.proofs.names.push_params.Goals as goal

pub loop-name-init : goal.loop-name-init
loop-name-init c = ap (λ rest. string_bytes c.args.text.now ++ rest) (params_text-left c.args.params.now)

pub loop-name-preserved : goal.loop-name-preserved
loop-name-preserved c =
    let l = c.loop-name in
    let next = next_param _ _ l.later c.args.params.now l.name-index c.loop-name-item.result (omega arith) c.loop-name-item.is l.invariant in
    rw (c.in_ok-push_param.ensures, c.in_ok-push_str.ensures.bytes, c.separator_if.ensures) next

pub returns : goal.returns
returns c =
    let l = c.loop-name in
    let none : drop l.name-index c.args.params.now ≡ [] = drop_all l.name-index c.args.params.now (omega arith) in
    sym (l.invariant ∙ (ap (λ rest. string_bytes l.text ++ params_left l.later rest) none ∙ append-nil (string_bytes l.text)))
