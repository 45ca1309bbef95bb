use Rattle.std.proofs.Common.{rules, ◌≡◌, ◌+◌, ◌-◌, Some, ◌∙◌, ap, List, []}
use Rattle.spec_reference.specs.VirtioChain.{chain, max_parts}
use Rattle.sv_types.specs.declared.virtio.VirtioPart.{VirtioPart}
use Rattle.virtio_blk.proofs.Chains.{before, before_none, chain_ends, chain_goes_on}
use Rattle.virtio_blk.proofs.chain.read_chain.Goals as goal

pub loop-place-init : goal.loop-place-init
loop-place-init c =
    let whole = chain max_parts c.args.ram.now c.args.table c.args.size c.args.head in
    let none : c.new-parts.result.items ≡ [] = search rules in
    record {
      filled = search rules;
      chained = ap (λ (parts : List VirtioPart). before parts whole) none ∙ before_none whole;
    }

pub returns-then-not-descriptor : goal.returns-then-not-descriptor
returns-then-not-descriptor c =
    let d = c.descriptor_at-descriptor.result in
    let ended = chain_ends c.loop-place.place c.loop-place.parts.items c.args.ram.now c.args.table c.args.size c.loop-place.index d
    (chain max_parts c.args.ram.now c.args.table c.args.size c.args.head)
    (search rules) (search rules) (search rules) (search rules) (search rules) c.loop-place.invariant.chained in
    ap Some c.push.ensures.items ∙ ended

pub loop-place-preserved : goal.loop-place-preserved
loop-place-preserved c =
    let d = c.descriptor_at-descriptor.result in
    let next = chain max_parts c.args.ram.now c.args.table c.args.size c.args.head in
    let rest = chain (max_parts - (c.loop-place.place + 1)) c.args.ram.now c.args.table c.args.size d.next in
    let gone = chain_goes_on c.loop-place.place c.loop-place.parts.items c.args.ram.now c.args.table c.args.size c.loop-place.index d next
    (search rules) (search rules) (search rules) (search rules) (search rules) c.loop-place.invariant.chained in
    record {
      filled = search rules;
      chained = ap (λ (parts : List VirtioPart). before parts rest) c.push.ensures.items ∙ gone;
    }
