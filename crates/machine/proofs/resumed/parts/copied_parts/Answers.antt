use Rattle.std.proofs.Common.{◌≡◌, ◌∙◌, ◌≤◌, ℕ, List, ap, arith, length, map, subst, sym}
use Rattle.sv_types.specs.Limits.{max_notes}
use Rattle.sv_types.specs.Policies.{rules_of}
use Rattle.sv_types.specs.declared.event.Note.{Note}
use Rattle.sv_types.specs.declared.saved.ModulePlacement.{ModulePlacement}
use Rattle.spec_reference.specs.declared.saved_machine.harts.SavedHart.{SavedHart}
use Rattle.module_gate.specs.Ascending.{AscendsFrom}
use Rattle.page_guard.specs.Permitted.{Permitted}
use Rattle.laws_resume.specs.Resuming.{hw_resumed}
use Rattle.machine.specs.Seating.{CanAllSit}
use Rattle.machine.proofs.Assembled.{gate_by, journal_by, permitted_of}
use Rattle.machine.proofs.resumed.parts.copied_parts.Goals as goal
use Rattle.sv_types.proofs.PolicyLimits.{bound_along, bound_few}

pub new-requires-clause-along : goal.new-requires-clause-along
new-requires-clause-along c =
    let along = bound_along (rules_of c.args.policy.now) c.requires.within in
    let entries = ap length c.deref.ensures.value in
    let bound = ap length c.deref-2.ensures.value in
    omega (arith, along, entries, bound)

pub new-requires-clause-few : goal.new-requires-clause-few
new-requires-clause-few c =
    let few = bound_few (rules_of c.args.policy.now) c.requires.within in
    let bound = ap length c.deref-2.ensures.value in
    omega (arith, few, bound)

pub slots_of-requires : goal.slots_of-requires
slots_of-requires c =
    let rules = rules_of c.args.policy.now in
    let entries : c.in_ok-entries.entries ≡ permitted_of rules.entries rules.bound =
    c.in_ok-entries.ensures
    ∙ ap (λ (xs : List ℕ). permitted_of xs c.deref-2.result.now) c.deref.ensures.value
    ∙ ap (permitted_of rules.entries) c.deref-2.ensures.value in
    subst (λ (hs : List SavedHart). CanAllSit c.args.tables c.in_ok-entries.entries hs) (sym c.deref-3.ensures.value)
    (subst (λ (e : Permitted). CanAllSit c.args.tables e c.args.machine.now.harts.items) (sym entries) c.requires.each)

pub from_values-requires : goal.from_values-requires
from_values-requires c = record { few = subst (λ (notes : List Note). length notes ≤ max_notes) (sym c.deref-4.ensures.value) c.requires.notes }

pub from_values-requires-2 : goal.from_values-requires-2
from_values-requires-2 c = record { ascends = subst (λ (modules : List ModulePlacement). AscendsFrom 0 modules) (sym c.deref-5.ensures.value) c.requires.ascends }

pub returns-clause-entries : goal.returns-clause-entries
returns-clause-entries c =
    let rules = rules_of c.args.policy.now in
    c.in_ok-entries.ensures
    ∙ ap (λ (xs : List ℕ). permitted_of xs c.deref-2.result.now) c.deref.ensures.value
    ∙ ap (permitted_of rules.entries) c.deref-2.ensures.value

pub returns-clause-hw_all : goal.returns-clause-hw_all
returns-clause-hw_all c = c.in_ok-slots.ensures.hw_all ∙ ap (λ (hs : List SavedHart). map (hw_resumed c.args.tables) hs) c.deref-3.ensures.value

pub returns-clause-number : goal.returns-clause-number
returns-clause-number c = c.in_ok-slots.ensures.number ∙ ap length c.deref-3.ensures.value

pub returns-clause-journal : goal.returns-clause-journal
returns-clause-journal c = c.in_ok-journal.ensures ∙ ap (λ (notes : List Note). journal_by c.args.machine.now notes) c.deref-4.ensures.value

pub returns-clause-gate : goal.returns-clause-gate
returns-clause-gate c = c.in_ok-gate.ensures ∙ ap (λ (modules : List ModulePlacement). gate_by c.args.machine.now modules) c.deref-5.ensures.value
