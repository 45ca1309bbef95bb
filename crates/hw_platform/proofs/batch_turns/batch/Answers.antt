use Rattle.std.proofs.Common.{sym, subst, ◌<◌, ℕ, rules}
use Rattle.hw_platform.proofs.HwOfSlots.{usable_there, usable_set}
use Rattle.hw_platform.proofs.Batches.{aligned_there, free_there, harts_there, batch_there}
use Rattle.hw_platform.proofs.batch_turns.batch.Goals as goal

pub batch_in_slot-requires-clause-usable : goal.batch_in_slot-requires-clause-usable
batch_in_slot-requires-clause-usable g c =
    usable_there c.args.mem.now.tables c.args.caches.now c.args.hart c.index-caches-hart.result c.requires.may.usable
    (subst (λ (n : ℕ). c.args.hart < n) (sym c.requires.may.number) c.requires.may.there)

pub returns-clause-ends : goal.returns-clause-ends
returns-clause-ends g c =
    batch_there c.args.slots.now c.args.hart c.batch_in_slot.result.left c.batch_in_slot.result.made c.index-slots-hart.result c.batch_in_slot.new.slot c.args.mem.now
    c.batch_in_slot.new.mem c.requires.may.there c.batch_in_slot.ensures.ends

pub returns-clause-aligned : goal.returns-clause-aligned
returns-clause-aligned g c = aligned_there c.args.slots.now c.args.hart c.batch_in_slot.new.slot c.requires.may.there c.batch_in_slot.ensures.aligned

pub returns-clause-harts : goal.returns-clause-harts
returns-clause-harts g c = harts_there c.args.slots.now c.args.hart c.index-slots-hart.result c.batch_in_slot.new.slot c.requires.may.there c.batch_in_slot.ensures.hw

pub returns-clause-kept : goal.returns-clause-kept
returns-clause-kept g c = record {
  slots_count = search rules;
  caches_count = search rules;
  tables = c.batch_in_slot.ensures.tables;
  ram = c.batch_in_slot.ensures.ram;
  usable = usable_set c.args.mem.now.tables c.batch_in_slot.new.mem.tables c.args.caches.now c.args.hart c.batch_in_slot.new.own
      c.requires.may.usable c.batch_in_slot.ensures.tables c.batch_in_slot.ensures.usable;
}

pub returns-clause-free : goal.returns-clause-free
returns-clause-free g c = free_there c.args.slots.now c.args.hart c.index-slots-hart.result c.batch_in_slot.new.slot c.requires.may.there c.batch_in_slot.ensures.hw
    c.batch_in_slot.ensures.free c.requires.free
