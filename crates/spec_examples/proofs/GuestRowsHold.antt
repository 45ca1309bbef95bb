-- The two guests, computed.
use Rattle.std.proofs.Common.{◌≡◌, refl, [], ◌∷◌}
use Rattle.std.specs.Prelude.{codes}
use Rattle.spec_reference.specs.Report.{output}
use Rattle.spec_examples.specs.Guests.{text_of_lines}
use Rattle.spec_examples.specs.GuestRows.{GuestRows, guest}
use Rattle.spec_examples.proofs.Computing.{computing}

ten_times : output (guest 10) ≡ text_of_lines (codes "K" ∷ codes "denied gpa 0x0000000080001000" ∷ codes "notes 1" ∷ codes "turns 99 beats 14 keys 0 ticks 0"
    ∷ codes "retired 87 traps 10 enters 10 leaves 10 demotes 0" ∷ codes "denied 1 dropped 0 loads 0 unloads 0 refused 0" ∷ codes "verdict shutdown" ∷ [])
unfolding computing
ten_times = refl

pub guest_rows : GuestRows
unfolding computing
guest_rows = record {
  guest_once = refl;
  guest_ten_times = ten_times;
  entry_mapped_anew = refl;
  it_entered = refl;
  without_the_beat = refl;
}
