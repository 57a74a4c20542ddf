use Rattle.std.proofs.Common.{sym, ◌∙◌, subst}
use Rattle.std.specs.Str.{IsUtf8}
use Rattle.lg_http.proofs.TextLemmas.{IsUtf8-from_token}
use Rattle.lg_http.proofs.arriving.Arriving.begin.Goals as goal

pub text-requires : goal.text-requires
text-requires c = subst IsUtf8 (sym (c.of.ensures ∙ c.requires.1.verb)) (IsUtf8-from_token _ c.requires.1.begins.reads.0.method)
