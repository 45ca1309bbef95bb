use Rattle.std.proofs.Common.{◌∙◌, ap, List, ◌∷◌, [], ◌++◌, replicate}
use Rattle.std.proofs.lemmas.List.{replicate_more}
use Rattle.hw_tlb.specs.Usable.{nothing_kept}
use Rattle.hw_tlb.specs.declared.caches.HartCaches.{HartCaches}
use Rattle.machine.proofs.start.empty_caches.Goals as goal

pub made-preserved : goal.made-preserved
made-preserved c =
    c.in_ok-push.ensures.items
    ∙ ap (λ (caches : List HartCaches). caches ++ c.new.result ∷ []) c.made.invariant
    ∙ ap (λ (own : HartCaches). replicate c.made.counter nothing_kept ++ own ∷ []) c.new.ensures
    ∙ replicate_more c.made.counter nothing_kept
