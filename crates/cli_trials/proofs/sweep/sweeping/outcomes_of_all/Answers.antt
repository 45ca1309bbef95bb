use Rattle.std.proofs.Common.{rules, ◌≡◌, ◌≤◌, ◌+◌, ◌*◌, ◌/◌, ◌%◌, ◌++◌, min, List, take, drop, length, sym, subst}
use Rattle.script_lines.specs.declared.tally.outcome.Outcome.{Outcome}
use Rattle.cli_trials.specs.Sweeps.{AreOutcomes}
use Rattle.cli_trials.proofs.Chunks.{chunk_more, all_chunks, all_taken}
use Rattle.cli_trials.proofs.sweep.sweeping.outcomes_of_all.Goals as goal

pub chunks-preserved : goal.chunks-preserved
chunks-preserved g c =
    let i = c.chunks.chunk-index in
    let size = c.numbers_each-size.result in
    let numbers = c.args.numbers.now in
    let sweep = c.args.sweep.now in
    let given = (c.in-Ok.ensures.each i c.chunk-item.result (search rules)).1 in
    let found : AreOutcomes sweep given.argument.now c.in-Ok-chunk.some.items = search rules in
    let there : AreOutcomes sweep (take size (drop (i * size) numbers)) c.in-Ok-chunk.some.items =
    subst (λ ns. AreOutcomes sweep ns c.in-Ok-chunk.some.items) given.argument_is.value found in
    let items : c.extend_from_slice.new.self.items ≡ c.chunks.outcomes.items ++ c.in-Ok-chunk.some.items = search rules in
    subst (λ (os : List Outcome). AreOutcomes sweep (take ((i + 1) * size) numbers) os) (sym items)
    (chunk_more sweep numbers size i c.chunks.outcomes.items c.in-Ok-chunk.some.items c.chunks.invariant there)

pub returns-clause-outcomes : goal.returns-clause-outcomes
returns-clause-outcomes g c =
    let size = c.numbers_each-size.result in
    let numbers = c.args.numbers.now in
    let count : length c.in-Ok.chunks.items ≡ length numbers / size + min 1 (length numbers % size) = search rules in
    let past : length c.in-Ok.chunks.items ≤ c.chunks.chunk-index = search rules in
    all_taken c.args.sweep.now numbers (c.chunks.chunk-index * size) c.chunks.outcomes.items
    (all_chunks (length numbers) size (length c.in-Ok.chunks.items) c.chunks.chunk-index c.numbers_each-size.ensures count past) c.chunks.invariant
