use Rattle.std.proofs.Common.{◌≡◌, [], ◌∷◌, length, take}
use Rattle.snapshot_format.specs.Forms.{all_taken, number}
use Rattle.snapshot_format.proofs.ReadRegisters.{HasRead}
use Rattle.snapshot_format.proofs.reader.harts.read_registers.Given as goal

abbrev pub invariant-registers : goal.invariant-registers
invariant-registers l = record {
  so_far : HasRead l.i l.registers l.rest (all_taken (λ before. number) [] 31 l.bytes);
  zero : take 1 l.registers ≡ 0 ∷ [];
  size : length l.registers ≡ 32;
}
