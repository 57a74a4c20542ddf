use Rattle.std.proofs.Common.{◌≡◌, Some, [], ◌∷◌, ℕ, ap, sym, ◌∙◌, subst}
use Rattle.std.specs.List.{All}
use Rattle.lg_turn.specs.Views.{account_of, number_in, seen_in, own_in, moves_in}
use Rattle.lg_turn.proofs.One.{one_account}
use Rattle.lg_turn.proofs.turn.Turn.give.Goals as goal

pub bring_home-requires-clause-may_give : goal.bring_home-requires-clause-may_give
bring_home-requires-clause-may_give g c =
    let k = g.V.Keeps in
    let pass = c.args.pass.now in
    let accounts = pass.seat.me.0.accounts in
    let one = one_account accounts pass.one in
    let added = c.requires.added in
    let over : Some one.0 ≡ Some (k.base c.args.value) = sym one.1 ∙ c.requires.base in
    let same : one.0 ≡ k.base c.args.value = cc in
    let is = one.2 ∙ ap (λ (b : g.row.V-Base.Denot). account_of (number_in accounts) b (seen_in accounts) (own_in accounts) (moves_in accounts) ∷ []) same in (
      c.requires.has.0,
      number_in accounts,
      seen_in accounts,
      own_in accounts,
      moves_in accounts,
      added.0,
      (λ i. record { accounts = is i; stage = c.requires.has.1 i }),
      added.1,
      subst (λ (n : ℕ). All (λ e. k.number e ≡ n) added.0) (sym pass.numbered) added.3,
    )
