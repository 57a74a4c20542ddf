use Rattle.std.proofs.Common.{◌≡◌, ◌*◌, refl, Option, Some, List, [], ◌∷◌, ◌++◌, ap, sym, ◌∙◌, subst}
use Rattle.atomic_table.specs.Table.{opening}
use Rattle.lg_turn.specs.Rule.{IsKept}
use Rattle.lg_turn.specs.Steps.{beginning}
use Rattle.lg_turn.proofs.Opening.{opens}
use Rattle.lg_turn.proofs.turn.make.open.Goals as goal

pub new-requires : goal.new-requires
new-requires g c =
    let k = g.V.Keeps in
    let callers = c.args.terms.now.callers in
    let passes = c.args.terms.now.passes in
    let word = passes * 4294967297 in
    let one : c.push_reserved.new.self.items ≡ Some c.args.value ∷ [] = c.push_reserved.ensures.items ∙ ap (λ (l : List (Option g.row.V.Denot)). l ++ Some c.args.value ∷ []) c.in-Ok.ensures.items in
    subst
    (λ (z : List (Option g.row.V.Denot) × g.row.V.Denot). IsKept k.items k.number k.base callers (k.base z.1) (opening (0 ∷ 0 ∷ word ∷ []) z.0 (beginning passes (k.base z.1))))
    (λ i. (sym one i, sym c.requires.first i))
    (opens k.items k.number k.base callers passes c.args.value word refl c.requires.few.0 c.requires.few.1 c.requires.empty)
