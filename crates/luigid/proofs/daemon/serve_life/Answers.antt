use Rattle.std.proofs.Common.{◌≡◌, ◌∙◌, ap}
use Rattle.lg_calls.specs.State.{empty_state}
use Rattle.luigid.proofs.Audits.{begun_is_open}
use Rattle.luigid.proofs.Runs.{served_life}
use Rattle.luigid.proofs.daemon.serve_life.Goals as goal

pub ends-requires-clause-open : goal.ends-requires-clause-open
ends-requires-clause-open g c = begun_is_open _ _ _ c.in_ok-begins.ensures.ok

pub returns-clause-ok : goal.returns-clause-ok
returns-clause-ok g c =
    let lane = c.serve_lane-end.ensures in
    let begins : g.E.Engine.state c.begin-life.result.engine ≡ c.empty-base.result = ap g.E.Engine.state c.begin-life.ensures.engine ∙ c.in_ok-engine.ensures ∙ c.in_ok-copy.ensures in (
      c.into_journal.result,
      served_life c.empty-base.result _ _ _ _ _ _ _ _ (c.empty-base.ensures.empty ∙ ap empty_state c.new.ensures.defaults) c.into_journal.ensures.same
          c.in_ok-begins.ensures.ok c.ends.ensures.told lane.ends lane.failed c.into_journal.ensures.none_behind lane.no_other c.requires (rw begins at lane.served),
    )
