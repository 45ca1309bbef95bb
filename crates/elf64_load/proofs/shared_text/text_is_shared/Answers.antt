use Rattle.std.proofs.Common.{◌∙◌, ap, rules}
use Rattle.std.proofs.lemmas.List.Elements.{All-same}
use Rattle.std.proofs.lemmas.List.Sorted.{IsNonDecreasingBy-from_sort_by_key, All-permutation}
use Rattle.sv_types.specs.Kernel.{first_page, text_is_shared}
use Rattle.elf64_load.specs.Headers.{HasMemory}
use Rattle.elf64_load.proofs.Sweeps.{shared-IsPermutation}
use Rattle.elf64_load.proofs.shared_text.text_is_shared.Goals as goal

pub sorted_text_is_shared-requires-clause-order : goal.sorted_text_is_shared-requires-clause-order
sorted_text_is_shared-requires-clause-order c =
    rw c.deref.ensures.value (IsNonDecreasingBy-from_sort_by_key first_page _ c.sort_unstable_by_key.ensures.sorted (λ a r q k. search rules))

pub sorted_text_is_shared-requires-clause-memory : goal.sorted_text_is_shared-requires-clause-memory
sorted_text_is_shared-requires-clause-memory c =
    let before = All-same HasMemory c.in_ok-sorted.sorted.items c.args.headers.now c.in_ok-sorted.ensures.items c.requires in
    rw c.deref.ensures.value
    (All-permutation HasMemory c.in_ok-sorted.sorted.items c.sort_unstable_by_key.new.self.items c.sort_unstable_by_key.ensures.permutation before)

pub returns : goal.returns
returns c =
    c.sorted_text_is_shared.ensures ∙ ap text_is_shared c.deref.ensures.value
    ∙ shared-IsPermutation c.in_ok-sorted.sorted.items c.sort_unstable_by_key.new.self.items c.sort_unstable_by_key.ensures.permutation
    ∙ ap text_is_shared c.in_ok-sorted.ensures.items
