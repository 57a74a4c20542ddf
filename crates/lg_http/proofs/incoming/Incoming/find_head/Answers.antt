use Rattle.std.proofs.Common.{ℕ, List, subst}
use Rattle.lg_http.specs.Arrival.{Begins}
use Rattle.lg_http.specs.Decisions.{IsHeadAt}
use Rattle.lg_http.proofs.IncomingLemmas.{message_found, body_cut, below_last}
use Rattle.lg_http.proofs.incoming.Incoming.find_head.Goals as goal

pub returns-then-is_whole-clause-found : goal.returns-then-is_whole-clause-found
returns-then-is_whole-clause-found c =
    let found = c.in-Accept.head in
    let told = c.into_message.ensures in
    let at = subst (λ (b : List ℕ). IsHeadAt b found c.in-Accept.ensures.0) c.pending.ensures.same c.in-Accept.ensures.1 in
    let begins = subst (λ (b : List ℕ). Begins b found c.in-Ok.arriving) c.pending-2.ensures.same c.in-Ok.ensures.begins in
    rw c.requires (message_found c.args.self.now.window _ found _ c.in-Ok.arriving _ at begins (c.is_whole.ensures.0 c.if-is_whole.true)
    (record { verb_is = told.verb; target_is = told.target; body_is = told.body; sized_is = told.sized; last_is = told.last })
    c.skip.ensures)

pub returns-clause-found : goal.returns-clause-found
returns-clause-found c =
    let found = c.in-Accept.head in
    let at = subst (λ (b : List ℕ). IsHeadAt b found c.in-Accept.ensures.0) c.pending.ensures.same c.in-Accept.ensures.1 in
    let begins = subst (λ (b : List ℕ). Begins b found c.in-Ok.arriving) c.pending-2.ensures.same c.in-Ok.ensures.begins in
    let less = below_last _ _ c.is_whole.result c.in-Ok.ensures.within c.is_whole.ensures.1 c.if-is_whole.false in
    let cut = body_cut c.args.self.now.window found _ c.in-Ok.arriving at begins less in
    rw (c.requires, c.keep.ensures) (cut.0, cut.1, less, cut.2)
