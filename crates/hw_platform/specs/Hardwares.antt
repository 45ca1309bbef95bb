-- A machine with its hardware put in, and what is true of hardware. This project's own.
use Rattle.std.specs.Prelude.{◌≡◌, ◌+◌, ◌≤◌, ℕ, length}
use Rattle.sv_types.specs.Limits.{max_harts}
use Rattle.spec_hardware.specs.Machine.{Machine}
use Rattle.monitor_exits.specs.HwOfSlots.{hw_harts_of}
use Rattle.hw_tlb.specs.Usable.{AreUsable}
use Rattle.hw_platform.specs.declared.hardware.Hardware.{Hardware}

-- the attempts that were made
abbrev pub attempts_of : Hardware → ℕ
attempts_of h = h.words + h.cpu

abbrev pub with_hardware : Machine → Hardware → Machine
with_hardware m h = record m {
  region = h.mem;
  harts = hw_harts_of h.slots.items;
  devices = h.devices;
  cleared = h.cleared;
  attempts = attempts_of h;
}

-- there are as many caches as harts, and what each keeps agrees with the tables
pub record IsWhole (h : Hardware) : Type 0 where
  pub few : length h.slots.items ≤ max_harts
  pub caches : length h.caches.items ≡ length h.slots.items
  pub usable : AreUsable h.mem.tables h.caches.items

-- the words of the tables stay, and RAM's size
pub record KeepsMemory (before after : Hardware) : Type 0 where
  pub tables : after.mem.tables ≡ before.mem.tables
  pub ram : length after.mem.ram ≡ length before.mem.ram
