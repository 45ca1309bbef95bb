use Rattle.cli_trials.proofs.ShrinkAnswerLemmas.{run_answered}
use Rattle.cli_trials.proofs.shrink.answer.shrink_parts.Goals as goal

pub returns-in-Ok : goal.returns-in-Ok
returns-in-Ok g c = λ rules reads.
    run_answered c.files-run_files.result c.args.parts.now _ c.order-order.result rules c.in-Ok.shrunk _ _ _ _ _ _ (record {
      policy_is = c.files-run_files.ensures.policy;
      image_is = c.files-run_files.ensures.image;
      disk_is = c.files-run_files.ensures.disk;
    }) reads
    (c.order-order.ensures rules.harts c.requires.accepted) c.in-Ok.ensures.small c.answer_shrunk.ensures
