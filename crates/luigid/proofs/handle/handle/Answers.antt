use Rattle.std.proofs.Common.{◌≡◌, ℕ, List, [], ◌∷◌, ◌++◌, sym, ◌∙◌, ap, subst, arith, Result, Ok, Err}
use Rattle.lg_io.proofs.CallerLemmas.{TellsOn-nothing}
use Rattle.luigid.specs.declared.call.Asked.{Asked}
use Rattle.luigid.specs.declared.call.Asked.TheVariants.{Call, Nothing}
use Rattle.luigid.specs.declared.refusal.NoCall.{NoCall}
use Rattle.lg_calls.specs.declared.request.Request.{Request}
use Rattle.luigid.specs.Call.{Asks, MayWantMemory}
use Rattle.lg_calls.specs.declared.state.State.{State}
use Rattle.lg_calls.specs.declared.engine.StepFault.{StepFault}
use Rattle.lg_calls.specs.declared.engine.StepFault.TheVariants as Fault
use Rattle.lg_calls.specs.Engine.{Steps}
use Rattle.lg_desk.specs.declared.journal.Entry.{Entry}
use Rattle.luigid.specs.Entering.{Enters}
use Rattle.lg_calls.specs.Outcome.{Outcome, replied, full}
use Rattle.lg_json.specs.Tree.{tree_of}
use Rattle.lg_calls.specs.Request.{IsInRange}
use Rattle.lg_calls.specs.Step.{step}
use Rattle.luigid.specs.Session.{ReadsFor}
use Rattle.luigid.proofs.Handlings.{shown_call, shown_size, same_entry, handles_nothing, handles_without, reads_nothing, handles_stepped}
use Rattle.lg_desk.proofs.CallerLemmas.{goes_on_nothing, goes_on_once}
use Rattle.lg_desk.proofs.CallerLemmas.{replayed_on}
use Rattle.luigid.proofs.handle.handle.Goals as goal

-- the state behind a step, and what it came to
state_is : (old new : State) (now : ℕ) (request : Request) (outcome : Outcome) → step old now request ≡ (new, outcome) → new ≡ (step old now request).0
state_is old new now request outcome is = sym (ap (λ s. s.0) is)

outcome_is : (old new : State) (now : ℕ) (request : Request) (outcome : Outcome) → step old now request ≡ (new, outcome) → outcome ≡ (step old now request).1
outcome_is old new now request outcome is = sym (ap (λ s. s.1) is)

-- what a call did that found no memory, and one that found the scheduler full
left_alone : (old : List Entry) (entry : Entry) (new : List Entry) (fault : StepFault) → Enters old entry new (Err fault) → fault ≡ Fault.NoMemory → new ≡ old
left_alone old entry new fault entered is = rw is at entered

entered_full : (old : List Entry) (entry : Entry) (new : List Entry) (fault : StepFault) (tasks : ℕ) → Enters old entry new (Err fault) → fault ≡ Fault.Full tasks → new ≡ old ++ entry ∷ []
entered_full old entry new fault tasks entered is = rw is at entered

stepped_full : (old : State) (now : ℕ) (request : Request) (new : State) (fault : StepFault) (tasks : ℕ) → Steps old now request new (Err fault) → fault ≡ Fault.Full tasks → step old now request ≡ (new, full tasks)
stepped_full old now request new fault tasks stepped is = rw is at stepped

-- what was read of a message, where it is a call
asked-call : (asked : Asked) (call : Result Request NoCall) (size count : ℕ) (request : Request) → Asks asked call size → asked ≡ Call request count
    → (call ≡ Ok request) × (count ≡ size) × IsInRange request
asked-call asked call size count request asks is = rw is at asks

-- and where it is none
asked-none : (asked : Asked) (call : Result Request NoCall) (size : ℕ) (reason : NoCall) → Asks asked call size → asked ≡ Nothing reason → call ≡ Err reason
asked-none asked call size reason asks is = rw is at asks

pub returns-in-Ok-Nothing-clause-handles : goal.returns-in-Ok-Nothing-clause-handles
returns-in-Ok-Nothing-clause-handles g c base arrived replayed shows =
    handles_nothing base _ _ _ arrived _ _ _ (sym (shown_call _ arrived shows) ∙ asked-none _ _ _ _ c.in-Ok-Nothing.ensures.asked c.in-Ok-Nothing.field-0-is)

pub returns-in-Ok-Nothing-clause-goes_on : goal.returns-in-Ok-Nothing-clause-goes_on
returns-in-Ok-Nothing-clause-goes_on g c = goes_on_nothing _ _

pub returns-in-Err-clause-handles : goal.returns-in-Err-clause-handles
returns-in-Err-clause-handles g c base arrived replayed shows =
    handles_without base _ _ _ arrived _ _ _ [] (subst MayWantMemory (shown_call _ arrived shows) c.in-Err.ensures.memory) (reads_nothing _) (TellsOn-nothing _)

pub returns-in-Err-clause-goes_on : goal.returns-in-Err-clause-goes_on
returns-in-Err-clause-goes_on g c = goes_on_nothing _ _

pub returns-in-Ok-clause-handles : goal.returns-in-Ok-clause-handles
returns-in-Ok-clause-handles g c base arrived replayed shows =
    let asked = asked-call _ _ _ _ _ c.in-Ok-Call.ensures.asked c.in-Ok-Call.field-0-is in
    handles_stepped base (g.E.Engine.state c.args.life.now.engine) _ _ _ arrived _ _ _ _ _ c.in-Ok-Call.request c.now-now.result.0 _ _
    replayed (sym (shown_call _ arrived shows) ∙ asked.0)
    (same_entry _ _ _ _ _ arrived _ _ c.from.ensures (asked.1 ∙ shown_size _ arrived shows))
    c.in-Ok.ensures.entered (outcome_is (g.E.Engine.state c.args.life.now.engine) (g.E.Engine.state c.call.new.self.engine) c.now-now.result.0 c.in-Ok-Call.request (replied (tree_of c.in-Ok.reply.0)) c.in-Ok.ensures.stepped) c.is_over.ensures c.now-now.ensures.told

pub returns-in-Ok-clause-replayed : goal.returns-in-Ok-clause-replayed
returns-in-Ok-clause-replayed g c base replayed =
    replayed_on base _ _ _ _ _ replayed c.in-Ok.ensures.entered (state_is (g.E.Engine.state c.args.life.now.engine) (g.E.Engine.state c.call.new.self.engine) c.now-now.result.0 c.in-Ok-Call.request (replied (tree_of c.in-Ok.reply.0)) c.in-Ok.ensures.stepped)

pub returns-in-Ok-clause-goes_on : goal.returns-in-Ok-clause-goes_on
returns-in-Ok-clause-goes_on g c = goes_on_once _ _ _ _ c.in-Ok.ensures.entered c.from.ensures

pub returns-in-Err-NoMemory-clause-handles : goal.returns-in-Err-NoMemory-clause-handles
returns-in-Err-NoMemory-clause-handles g c base arrived replayed shows =
    let asked = asked-call _ _ _ _ _ c.in-Ok-Call.ensures.asked c.in-Ok-Call.field-0-is in
    let is_call = sym asked.0 ∙ shown_call _ arrived shows in
    let may : MayWantMemory (Ok c.in-Ok-Call.request) = tt in
    let once : ReadsFor (Ok c.in-Ok-Call.request) (c.now-now.result.0 ∷ []) = omega arith in
    rw (left_alone _ _ _ _ c.in-Err-NoMemory.ensures.entered c.in-Err-NoMemory.field-0-is)
    (handles_without base _ _ _ arrived _ _ _ (c.now-now.result.0 ∷ []) (subst MayWantMemory is_call may) (subst (λ call. ReadsFor call (c.now-now.result.0 ∷ [])) is_call once) c.now-now.ensures.told)

pub returns-in-Err-NoMemory-clause-goes_on : goal.returns-in-Err-NoMemory-clause-goes_on
returns-in-Err-NoMemory-clause-goes_on g c = rw (left_alone _ _ _ _ c.in-Err-NoMemory.ensures.entered c.in-Err-NoMemory.field-0-is) (goes_on_nothing _ _)

pub returns-in-Err-Full-clause-handles : goal.returns-in-Err-Full-clause-handles
returns-in-Err-Full-clause-handles g c base arrived replayed shows =
    let asked = asked-call _ _ _ _ _ c.in-Ok-Call.ensures.asked c.in-Ok-Call.field-0-is in
    handles_stepped base (g.E.Engine.state c.args.life.now.engine) _ _ _ arrived _ _ _ _ _ c.in-Ok-Call.request c.now-now.result.0 _ _
    replayed (sym (shown_call _ arrived shows) ∙ asked.0)
    (same_entry _ _ _ _ _ arrived _ _ c.from.ensures (asked.1 ∙ shown_size _ arrived shows))
    (entered_full _ _ _ _ _ c.in-Err-Full.ensures.entered c.in-Err-Full.field-0-is) (outcome_is (g.E.Engine.state c.args.life.now.engine) (g.E.Engine.state c.call.new.self.engine) c.now-now.result.0 c.in-Ok-Call.request (full c.in-Err-Full.tasks) (stepped_full (g.E.Engine.state c.args.life.now.engine) c.now-now.result.0 c.in-Ok-Call.request (g.E.Engine.state c.call.new.self.engine) _ _ c.in-Err-Full.ensures.stepped c.in-Err-Full.field-0-is)) c.is_over-in-Err-Full.ensures c.now-now.ensures.told

pub returns-in-Err-Full-clause-replayed : goal.returns-in-Err-Full-clause-replayed
returns-in-Err-Full-clause-replayed g c base replayed =
    replayed_on base _ _ _ _ _ replayed (entered_full _ _ _ _ _ c.in-Err-Full.ensures.entered c.in-Err-Full.field-0-is) (state_is (g.E.Engine.state c.args.life.now.engine) (g.E.Engine.state c.call.new.self.engine) c.now-now.result.0 c.in-Ok-Call.request (full c.in-Err-Full.tasks) (stepped_full (g.E.Engine.state c.args.life.now.engine) c.now-now.result.0 c.in-Ok-Call.request (g.E.Engine.state c.call.new.self.engine) _ _ c.in-Err-Full.ensures.stepped c.in-Err-Full.field-0-is))

pub returns-in-Err-Full-clause-goes_on : goal.returns-in-Err-Full-clause-goes_on
returns-in-Err-Full-clause-goes_on g c = goes_on_once _ _ _ _ (entered_full _ _ _ _ _ c.in-Err-Full.ensures.entered c.in-Err-Full.field-0-is) c.from.ensures
