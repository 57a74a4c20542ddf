use Rattle.std.proofs.Common.{sym, ◌∙◌}
use Rattle.lg_http.proofs.TargetLemmas.{no_blank, scan_behind_word, scan_without_word}
use Rattle.lg_http.proofs.target.is_in_target.Goals as goal

pub returns-then-is_token : goal.returns-then-is_token
returns-then-is_token c =
    let lines = c.without_empty_lines-line.ensures in
    scan_behind_word _ _ lines.lines.0 c.in-Some.blank c.is_target.result lines.lines.1 lines.last
    (sym c.in-Some.is ∙ c.first_blank.ensures) (sym c.is_token.ensures ∙ c.if-is_token.true) c.is_target.ensures

pub returns-else-is_token : goal.returns-else-is_token
returns-else-is_token c =
    let lines = c.without_empty_lines-line.ensures in
    scan_without_word _ _ lines.lines.0 c.in-Some.blank c.is_token.result lines.lines.1 lines.last
    (sym c.in-Some.is ∙ c.first_blank.ensures) c.is_token.ensures c.if-is_token.false

pub returns-in-None : goal.returns-in-None
returns-in-None c =
    let lines = c.without_empty_lines-line.ensures in (
      λ e. absurd (cc),
      λ target. absurd (no_blank _ _ lines.lines.0 lines.lines.1 lines.last (sym c.first_blank.ensures ∙ c.in-None.is) target),
    )
