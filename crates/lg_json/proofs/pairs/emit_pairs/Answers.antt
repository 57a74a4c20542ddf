use Rattle.std.proofs.Common.{◌≡◌, [], ◌∷◌, drop, take, arith}
use Rattle.std.proofs.lemmas.List.{drop_all, take_all}
use Rattle.std.proofs.lemmas.List.Elements.{All-nil}
use Rattle.lg_io.proofs.CallerLemmas.{UpTo-start, UpTo-piece, UpTo-failed, UpTo-last}
use Rattle.lg_json.specs.Canonical.{pair_text, canonical_text, AreTexts}
use Rattle.lg_json.proofs.Commas.{with_commas-after}
use Rattle.lg_json.proofs.PairTexts.{next_pair, AreTexts-next, OnOk-anyway}
use Rattle.lg_json.proofs.pairs.emit_pairs.Goals as goal

pub returns-in_err-write_all-clause-written : goal.returns-in_err-write_all-clause-written
returns-in_err-write_all-clause-written g c =
    let part = c.in_err-write_all.ensures in
    UpTo-failed _ _ _ _ (123 ∷ []) _ c.in_err-write_all.field-0.0 _ (UpTo-start c.args.sink.now (canonical_text c.args.pairs.now))
    (record { told = part.told; cause = part.cause; rest = part.rest }) c.from_residual.ensures.0

pub loop-name-init : goal.loop-name-init
loop-name-init g c =
    let wrote = c.in_ok-write_all.ensures in
    (rw (← with_commas-after) (UpTo-piece _ _ _ _ (123 ∷ []) _ (UpTo-start c.args.sink.now (canonical_text c.args.pairs.now)) (record { told = wrote.told; cause = wrote.cause; rest = wrote.rest })), All-nil _)

pub returns-in_err-write_all-2-clause-written : goal.returns-in_err-write_all-2-clause-written
returns-in_err-write_all-2-clause-written g c =
    let l = c.loop-name in
    let part = c.in_err-write_all-2.ensures in
    let next = next_pair l.separator.now (125 ∷ []) c.args.pairs.now l.name-index c.loop-name-item.result (omega arith) c.loop-name-item.is in
    UpTo-failed _ _ _ _ l.separator.now _ c.in_err-write_all-2.field-0.0 _ (rw next at l.invariant.0) (record { told = part.told; cause = part.cause; rest = part.rest }) c.from_residual-in_err-write_all-2.ensures.0

pub returns-in_err-emit_pair-clause-written : goal.returns-in_err-emit_pair-clause-written
returns-in_err-emit_pair-clause-written g c =
    let l = c.loop-name in
    let wrote = c.in_ok-write_all-2.ensures in
    let part = c.in_err-emit_pair.ensures.written in
    let next = next_pair l.separator.now (125 ∷ []) c.args.pairs.now l.name-index c.loop-name-item.result (omega arith) c.loop-name-item.is in
    let separated = UpTo-piece _ _ _ _ l.separator.now _ (rw next at l.invariant.0) (record { told = wrote.told; cause = wrote.cause; rest = wrote.rest }) in
    UpTo-failed _ _ _ _ (pair_text c.loop-name-item.result) _ c.in_err-emit_pair.field-0.0 _ separated part c.from_residual-in_err-emit_pair.ensures.0

pub loop-name-preserved : goal.loop-name-preserved
loop-name-preserved g c =
    let l = c.loop-name in
    let wrote = c.in_ok-write_all-2.ensures in
    let next = next_pair l.separator.now (125 ∷ []) c.args.pairs.now l.name-index c.loop-name-item.result (omega arith) c.loop-name-item.is in
    let separated = UpTo-piece _ _ _ _ l.separator.now _ (rw next at l.invariant.0) (record { told = wrote.told; cause = wrote.cause; rest = wrote.rest }) in (
      UpTo-piece _ _ _ _ (pair_text c.loop-name-item.result) _ separated c.in_ok-emit_pair.ensures.written,
      AreTexts-next c.args.pairs.now l.name-index c.loop-name-item.result (omega arith) c.loop-name-item.is l.invariant.1 c.in_ok-emit_pair.ensures.texts,
    )

pub returns-clause-written : goal.returns-clause-written
returns-clause-written g c =
    let l = c.loop-name in
    let closed = c.write_all-2.ensures in
    let none : drop l.name-index c.args.pairs.now ≡ [] = drop_all l.name-index c.args.pairs.now (omega arith) in
    UpTo-last _ _ _ (canonical_text c.args.pairs.now) (125 ∷ []) _ (rw none at l.invariant.0) (record { told = closed.told; cause = closed.cause; rest = closed.rest })

pub returns-clause-texts : goal.returns-clause-texts
returns-clause-texts g c =
    let l = c.loop-name in
    let whole : take l.name-index c.args.pairs.now ≡ c.args.pairs.now = take_all l.name-index c.args.pairs.now (omega arith) in
    let all : AreTexts c.args.pairs.now = rw whole at l.invariant.1 in
    OnOk-anyway c.write_all-2.result all
