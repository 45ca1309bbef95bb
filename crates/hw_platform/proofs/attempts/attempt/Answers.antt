use Rattle.std.proofs.Common.{◌≡◌, ◌<◌, ◌%◌, ℕ, sym, ◌∙◌, ap, subst, rules}
use Rattle.spec_processor.specs.HardwareAttempt.{attempt}
use Rattle.spec_hardware.specs.Machine.{HwHart, all_forget}
use Rattle.std.specs.Prelude.{List}
use Rattle.hw_platform.proofs.HwOfSlots.{core_put, pc_there, usable_there, usable_set}
use Rattle.hw_platform.specs.Attempts.{hart_in}
use Rattle.hw_platform.proofs.attempts.attempt.Goals as goal

pub attempt_in_slot-outcome-requires-clause-usable : goal.attempt_in_slot-outcome-requires-clause-usable
attempt_in_slot-outcome-requires-clause-usable g c =
    usable_there c.args.mem.now.tables c.args.caches.now c.args.hart c.index-caches-hart.result c.requires.may.usable
    (subst (λ (n : ℕ). c.args.hart < n) (sym c.requires.may.number) c.requires.may.there)

pub returns-clause-harts : goal.returns-clause-harts
returns-clause-harts g c =
    c.forget_wrote.ensures.hw_all
    ∙ ap (all_forget c.attempt_in_slot-outcome.result)
    (core_put c.args.slots.now c.args.hart c.index-slots-hart.result c.attempt_in_slot-outcome.new.slot
    (λ hw. (attempt c.args.mem.now hw.core (g.W.InterruptLines.seen c.args.interrupt_lines.now)).core) c.requires.may.there c.attempt_in_slot-outcome.ensures.hw)

pub returns-clause-kept : goal.returns-clause-kept
returns-clause-kept g c = record {
  slots_count = search rules;
  caches_count = search rules;
  tables = c.attempt_in_slot-outcome.ensures.tables;
  ram = c.attempt_in_slot-outcome.ensures.ram;
  usable = usable_set c.args.mem.now.tables c.attempt_in_slot-outcome.new.mem.tables c.args.caches.now c.args.hart c.attempt_in_slot-outcome.new.own
      c.requires.may.usable c.attempt_in_slot-outcome.ensures.tables c.attempt_in_slot-outcome.ensures.usable;
}

pub returns-clause-aligned : goal.returns-clause-aligned
returns-clause-aligned g c =
    subst (λ (pc : ℕ). pc % 4 ≡ 0)
    (sym (ap (λ (harts : List HwHart). (hart_in harts c.args.hart).core.pc) c.forget_wrote.ensures.hw_all
    ∙ pc_there c.attempt_in_slot-outcome.result c.args.slots.now c.args.hart c.attempt_in_slot-outcome.new.slot c.requires.may.there))
    c.attempt_in_slot-outcome.ensures.aligned
