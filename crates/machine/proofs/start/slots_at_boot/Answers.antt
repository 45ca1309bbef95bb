use Rattle.std.proofs.Common.{arith, ◌+◌, ◌∙◌, ap, List, length}
use Rattle.std.proofs.lemmas.List.{length_push}
use Rattle.monitor_exits.specs.HwOfSlots.{hw_harts_of}
use Rattle.monitor_exits.specs.declared.slots.HartSlot.{HartSlot}
use Rattle.machine.proofs.Starting.{next_seated}
use Rattle.machine.proofs.start.slots_at_boot.Goals as goal

pub seated-preserved : goal.seated-preserved
seated-preserved c =
    let slots = c.in_ok-push-2.ensures.items in (
      ap (λ (slots : List HartSlot). hw_harts_of slots) slots
          ∙ next_seated c.seated.slots.items c.slot_at_boot.result c.seated.counter c.args.entry c.seated.invariant.1.1 c.seated.invariant.0 c.slot_at_boot.ensures,
      (ap (λ (slots : List HartSlot). length slots) slots ∙ length_push c.seated.slots.items c.slot_at_boot.result ∙ ap (λ n. n + 1) c.seated.invariant.1.0, omega arith),
    )
