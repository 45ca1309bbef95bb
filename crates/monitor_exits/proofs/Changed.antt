-- A slot that is changed in its place changes its host there.
use Rattle.std.proofs.Common.{◌≡◌, ℕ, List, sym, ◌∙◌, ap, slice_set}
use Rattle.std.specs.Prelude.{slice_index_or}
use Rattle.spec_hardware.specs.Machine.{HwHart, update}
use Rattle.monitor_exits.specs.HwOfSlots.{hw_at, hw_harts_of}
use Rattle.monitor_exits.proofs.HwOfSlots.{hw_harts_set, hw_harts_updated}
use Rattle.monitor_exits.specs.declared.slots.HartSlot.{HartSlot}

pub slot_changed : (slots : List HartSlot) (h : ℕ) (d slot : HartSlot) (change : HwHart → HwHart)
    → hw_at slot ≡ change (hw_at (slice_index_or slots h d)) → hw_harts_of (slice_set slots h slot) ≡ update (hw_harts_of slots) h change
slot_changed slots h d slot change same =
    sym (hw_harts_set slots h slot) ∙ ap (slice_set (hw_harts_of slots) h) same ∙ sym (hw_harts_updated slots h d change)
