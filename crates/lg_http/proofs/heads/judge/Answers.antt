use Rattle.std.proofs.Common.{arith, refl, inl}
use Rattle.std.proofs.lemmas.Grind.{common_steps}
use Rattle.lg_http.proofs.JudgeLemmas.{refused_by, served_by}
use Rattle.lg_http.proofs.heads.judge.Goals as goal

pub returns-in-Some : goal.returns-in-Some
returns-in-Some c =
    inl (refused_by c.in-Some.status c.args.bytes.now c.args.fields.now _ c.args.spans.now c.told_length-told.result c.requires.whole c.requires.short
    (grind (arith, common_steps)) c.told_length-told.ensures c.in-Some.ensures)

pub returns-in-None : goal.returns-in-None
returns-in-None c = (
  c.requires.whole.0,
  served_by _ c.args.bytes.now c.args.fields.now _ c.args.spans.now c.told_length-told.result c.from_spans-known.result _ c.requires.whole
      c.requires.within c.requires.short (grind (arith, common_steps)) c.told_length-told.ensures c.from_spans-known.ensures c.in-None.ensures refl refl refl
      c.of.ensures c.bytes.ensures c.is_told-sized.ensures c.closes.ensures,
)
