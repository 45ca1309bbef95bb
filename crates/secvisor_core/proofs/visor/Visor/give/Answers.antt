use Rattle.std.proofs.Common.{ℕ, ◌≤◌, List, length, sym, ◌∙◌, ap, subst}
use Rattle.std.proofs.lemmas.List.{with_items_is}
use Rattle.monitor_exits.specs.HwOfSlots.{hw_harts_of}
use Rattle.monitor_exits.specs.declared.slots.HartSlot.{HartSlot}
use Rattle.spec_hardware.specs.HwCalls.{hw_given, hw_replied, hw_harts_side_effect}
use Rattle.spec_hardware.specs.Machine.{update}
use Rattle.spec_hardware.specs.Steps.{WithTables}
use Rattle.hw_tlb.proofs.Emptied.{usable_after}
use Rattle.hw_tlb.specs.Usable.{AreUsable}
use Rattle.hw_tlb.specs.declared.caches.HartCaches.{HartCaches}
use Rattle.secvisor_core.proofs.Given.{gives, left}
use Rattle.secvisor_core.specs.Visors.{machine_of}
use Rattle.secvisor_core.proofs.visor.Visor.give.Goals as goal

pub returns-clause-joined : goal.returns-clause-joined
returns-clause-joined c =
    let pages = c.give_pages-changed in
    let before = c.requires.joined in
    let same = with_items_is c.args.hardware.now.caches c.fence.new.caches (c.fence.ensures.number ∙ c.deref_mut-2.ensures.len) in
    let slots = with_items_is c.args.hardware.now.slots c.give.new.slots (c.give.ensures.number ∙ c.deref_mut.ensures.len) in
    let number = ap (λ (xs : List HartSlot). length xs) slots ∙ c.give.ensures.number ∙ ap (λ (xs : List HartSlot). length xs) c.deref_mut.ensures.value in
    record {
      entries = before.entries;
      bound = before.bound;
      places = pages.ensures.tables_match.bound ∙ before.places;
      tables_match = pages.ensures.tables_match.tables_match;
      pages = pages.ensures.tables_match.size ∙ before.pages;
      modules = pages.ensures.joined;
      whole = record {
        few = subst (λ (n : ℕ). n ≤ 4) (sym number) before.whole.few;
        caches = ap (λ (xs : List HartCaches). length xs) same ∙ c.fence.ensures.number ∙ ap (λ (xs : List HartCaches). length xs) c.deref_mut-2.ensures.value
            ∙ before.whole.caches ∙ sym number;
        usable = subst (λ (caches : List HartCaches). AreUsable pages.new.mem.tables caches) (sym same)
            (usable_after pages.result c.args.hardware.now.mem pages.new.mem c.args.hardware.now.caches.items c.deref_mut-2.result.now c.fence.new.caches c.deref_mut-2.ensures.value
            before.whole.usable pages.ensures.kept c.fence.ensures.usable c.fence.ensures.kept);
      };
    }

pub returns-clause-answer : goal.returns-clause-answer
returns-clause-answer c =
    let pages = c.give_pages-changed in
    let answer = c.args.answer.now in
    let m = machine_of c.args.self.now c.args.hardware.now c.args.journal.now in
    let same = with_items_is c.args.hardware.now.slots c.give.new.slots (c.give.ensures.number ∙ c.deref_mut.ensures.len) in
    subst (λ (slots : List HartSlot). WithTables m (hw_given m c.args.hart answer)
    (left c.args.self.now c.args.hardware.now c.args.journal.now slots c.give.new.devices c.give.new.journal pages.new.mem pages.new.guard.pages pages.new.modules)) (sym same)
    (gives c.args.self.now c.args.hardware.now c.args.journal.now c.args.hart answer c.give.new.slots c.give.new.devices c.give.new.journal pages.new.mem pages.new.guard pages.new.modules
    (c.give.ensures.hw_all ∙ ap (λ (slots : List HartSlot). hw_harts_side_effect answer.side_effect (update (hw_harts_of slots) c.args.hart (hw_replied answer.reply))) c.deref_mut.ensures.value)
    c.give.ensures.devices c.give.ensures.journal (pages.ensures.machine m) c.requires.joined pages.ensures.tables_match)
