use Rattle.std.proofs.Common.{◌∙◌, ap, List, ℕ, take}
use Rattle.spec_processor.specs.Bytes.{page_size}
use Rattle.std.proofs.lemmas.List.{take-replicate}
use Rattle.secvisor_core.proofs.boot.zeros.Zeros.first.Goals as goal

pub returns : goal.returns
returns c =
    ap (λ (zeros : List ℕ). take c.args.count zeros) (c.deref.ensures.value ∙ c.args.self.now.zeros) ∙ take-replicate c.args.count page_size 0 c.requires
