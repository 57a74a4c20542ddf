-- A life that is told from its beginning to its end.
use Rattle.std.proofs.Common.{◌≡◌, ℕ, zero, suc, ◌+◌, ◌≤◌, length, length-append, map, get_or, arith, List, [], ◌∷◌, ◌++◌, refl, ◌∙◌, ap, Option, Some, None, IfSome}
use Rattle.std.proofs.Math.ListN.{set}
use Rattle.lg_io.specs.Tells.{TellsOn}
use Rattle.luigid.specs.declared.audit.memory.AuditedLife.{AuditedLife}
use Rattle.luigid.specs.declared.audit.LifeEnd.{LifeEnd}
use Rattle.lg_desk.specs.declared.journal.Entry.{Entry}
use Rattle.lg_calls.specs.declared.state.State.{State}
use Rattle.luigid.specs.Audit.{LifeTold, HasOpenLife, EndsLife, ended_with}
use Rattle.luigid.specs.MemoryAudit.{life_told}

-- the life that began last has no end yet
pub begun_is_open : (base : State) (before after : Option (List LifeTold)) → TellsOn before after (record { base = base; end = None } ∷ []) → IfSome after HasOpenLife
begun_is_open base before None begun = tt
begun_is_open base None (Some lives) begun = absurd begun
begun_is_open base (Some front) (Some lives) begun = (front, base, begun)

-- the end goes to the last life
ends_last : (journal : List Entry) (end : LifeEnd) (front : List LifeTold) (base : State)
    → ended_with journal end (front ++ record { base = base; end = None } ∷ []) ≡ front ++ record { base = base; end = Some (journal, end) } ∷ []
ends_last journal end [] base = refl
ends_last journal end (life ∷ []) base = refl
ends_last journal end (life ∷ next ∷ front) base = ap (λ rest. life ∷ rest) (ends_last journal end (next ∷ front) base)

-- a life that began and ended is told whole
pub told_whole : (base : State) (journal : List Entry) (end : LifeEnd) (before during after : Option (List LifeTold))
    → TellsOn before during (record { base = base; end = None } ∷ []) → EndsLife journal end during after → TellsOn before after (record { base = base; end = Some (journal, end) } ∷ [])
told_whole base journal end before during None begun ended = tt
told_whole base journal end before None (Some lives) begun ended = absurd ended
told_whole base journal end None (Some during) (Some lives) begun ended = absurd begun
told_whole base journal end (Some front) (Some during) (Some lives) begun ended = ended ∙ ap (ended_with journal end) begun ∙ ends_last journal end front base

-- the last of the lives that are kept gets its end
pub kept_ended : (journal : List Entry) (end : LifeEnd) (lives : List AuditedLife) (last : AuditedLife) (place : ℕ)
    → place + 1 ≡ length lives → last ≡ get_or lives place last
    → map life_told (set lives place (record last { end = Some (journal, end) })) ≡ ended_with journal end (map life_told lives)
kept_ended journal end [] last place is_last here = absurd (omega arith)
kept_ended journal end (life ∷ []) last zero is_last here = rw here refl
kept_ended journal end (life ∷ []) last (suc place) is_last here = absurd (omega arith)
kept_ended journal end (life ∷ next ∷ lives) last zero is_last here = absurd (omega arith)
kept_ended journal end (life ∷ next ∷ lives) last (suc place) is_last here =
    let behind : place + 1 ≡ length (next ∷ lives) = omega arith in
    ap (λ rest. life_told life ∷ rest) (kept_ended journal end (next ∷ lives) last place behind here)

-- there is a life that goes on
pub some_life : (lives : List AuditedLife) → HasOpenLife (map life_told lives) → 1 ≤ length lives
some_life [] goes_on = absurd (omega (arith, simp length-append at (ap length goes_on.2)))
some_life (life ∷ lives) goes_on = omega arith
