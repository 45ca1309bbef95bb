-- The state in which a machine goes on from a snapshot. Protections are made anew, and approved pages have the bytes that RAM
-- has there. This project's own.
use Rattle.std.specs.Prelude.{ℕ, ◌-◌, List, [], ◌++◌, length, map, replicate, option_map, ◌==◌}
use Rattle.spec_processor.specs.Bytes.{ram_offset}
use Rattle.spec_processor.specs.Registers.{software_bit}
use Rattle.sv_types.specs.ApprovedPages.{approved_pages}
use Rattle.sv_types.specs.Clock.{latest}
use Rattle.sv_types.specs.Policies.{Rules}
use Rattle.sv_types.specs.Limits.{max_harts}
use Rattle.spec_reference.specs.States.{State, Hart, Loading}
use Rattle.spec_reference.specs.SavedStates.{disk_of}
use Rattle.spec_reference.specs.declared.saved_machine.harts.SavedHart.{SavedHart}
use Rattle.spec_reference.specs.declared.saved_machine.whole.SavedLoad.{SavedLoad}
use Rattle.snapshot_format.specs.Snapshots.{Contents}
use Rattle.snapshot_format.specs.Judgements.{approved_of, load_pages, page_numbers}

abbrev pub resumed_hart : SavedHart → Hart
resumed_hart h = record {
  started = h.started;
  mode = h.mode;
  pc = h.pc;
  registers = h.registers;
  supervisor = record {
    sstatus = h.sstatus;
    sie = h.sie;
    stvec = h.stvec;
    scounteren = h.scounteren;
    sscratch = h.sscratch;
    sepc = h.sepc;
    scause = h.scause;
    stval = h.stval;
    software = h.sip == software_bit;
    satp = h.satp;
  };
  reservation = option_map ram_offset h.reservation;
  entry = h.entry;
}

abbrev pub resumed_load : SavedLoad → Loading
resumed_load load = record { hart = load.hart; about = load.«module»; left = load.left }

-- a hart that isn't there has no timer set
abbrev pub timers_of : List SavedHart → List ℕ
timers_of harts = map (λ (h : SavedHart). h.timer) harts ++ replicate (max_harts - length harts) latest

-- nothing is printed yet
unfoldable pub resumed_state : Rules → Contents → State
resumed_state rules s = record {
  rules = rules;
  harts = map resumed_hart s.harts;
  ram = s.ram;
  approved = approved_pages s.ram (approved_of rules s);
  held = load_pages rules s.loading;
  loaded = s.modules;
  loading = option_map resumed_load s.loading;
  text = page_numbers s.text;
  retired = s.retired;
  devices = record {
    console = s.console;
    disk = disk_of s.port s.disk;
    clock = record { time = s.time; timers = timers_of s.harts };
  };
  journal = record { printed = []; notes = s.notes; counts = s.counts; verdict = s.verdict };
}
