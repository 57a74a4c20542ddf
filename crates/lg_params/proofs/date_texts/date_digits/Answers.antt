use Rattle.std.proofs.Common.{refl}
use Rattle.lg_params.proofs.DateLemmas.{same_day}
use Rattle.lg_params.proofs.ReadingLemmas.{date_whole}
use Rattle.lg_params.proofs.date_texts.date_digits.Goals as goal

pub returns : goal.returns
returns c =
    let same = same_day c.args.date c.year_of.result c.args.date.month c.args.date.day c.year_of.ensures.same refl refl in
    record {
      year = c.year_of.result;
      month = c.args.date.month;
      day = c.args.date.day;
      of_text = date_whole _ _ _ _ _ c.in_ok-text.ensures same.0 c.in_ok-push_marked.ensures;
      number = same.1;
    }
