use Rattle.std.proofs.Common.{rules, ◌++◌, ◌∙◌, ap, subst, append_assoc}
use Rattle.lg_http.specs.declared.message.Next.TheVariants as Answer
use Rattle.lg_http.specs.Answers.{Reads}
use Rattle.luigid.proofs.Faults.{unmoved}
use Rattle.luigid.proofs.Hearings.{hears_more, counts_once}
use Rattle.luigid.proofs.hearing.hear.Goals as goal

pub returns-in_default-clause-reads : goal.returns-in_default-clause-reads
returns-in_default-clause-reads g c =
    let so_far = c.loop.invariant.got in
    let reads = c.next-in-loop.ensures.reads c.loop.invariant.over in (
      so_far.0 ++ reads.0,
      hears_more _ _ _ _ _ _ so_far.1 reads.1,
      subst (λ seen. Reads seen c.next-in-loop.result c.next-in-loop.new.self.left) (ap (λ left. left ++ reads.0) so_far.2 ∙ append_assoc _ so_far.0 reads.0) reads.2,
    )

pub returns-in_default-clause-counts : goal.returns-in_default-clause-counts
returns-in_default-clause-counts g c quiet =
    let reads = c.next-in-loop.ensures.reads c.loop.invariant.over in counts_once _ reads.0 _ _ _ _ (c.loop.invariant.counts quiet) reads.1 reads.3

pub loop-preserved : goal.loop-preserved
loop-preserved g c =
    let before = c.loop.invariant in
    let reads = c.in-Quiet.ensures.reads before.over in
    record {
      over = c.in-Quiet.ensures.over;
      got = (
        before.got.0 ++ reads.0,
        hears_more _ _ _ _ _ _ before.got.1 reads.1,
        reads.2.0 ∙ ap (λ left. left ++ reads.0) before.got.2 ∙ append_assoc _ before.got.0 reads.0,
      );
      counts = λ quiet. counts_once Answer.Quiet reads.0 _ _ _ _ (before.counts quiet) reads.1 reads.3;
      faults = unmoved _ _ _ (c.in-Quiet.ensures.cause before.over) (λ failed. absurd (cc)) ∙ before.faults;
      taken = search rules;
      wrote = search rules;
    }
