-- The form of a hart. This project's own; the registers are those of the RISC-V Privileged manual, "Supervisor CSRs".
use Rattle.std.specs.Prelude.{ℕ, ◌+◌, ◌-◌, ◌%◌, List, [], ◌∷◌, drop, Bool, true, false, not, ◌&&◌, ◌||◌, Option, Some, None, nat_le, ◌==◌, if◌then◌else◌}
use Rattle.spec_reference.specs.declared.saved_machine.harts.SavedHart.{SavedHart}
use Rattle.snapshot_format.specs.Forms.{Form, number, within, and_then, ◌⨾◌, map_form, always, list_form}
use Rattle.spec_processor.specs.Bytes.{instruction_size, is_ram_address}
use Rattle.spec_processor.specs.IntegerRegisters.{register_count}
use Rattle.spec_processor.specs.Requests.{reserved_bytes}
use Rattle.spec_processor.specs.Registers.{software_bit, legal_status, legal_interrupts, legal_tvec, legal_counteren, legal_epc, legal_satp}
use Rattle.spec_processor.specs.declared.mode.Mode.TheVariants.{Kernel, User}
use Rattle.spec_processor.specs.declared.mode.Mode.{Mode}
use Rattle.sv_types.specs.Limits.{max_entries}

-- ---- small values

-- 0 or 1
abbrev pub flag_number : Bool → ℕ
flag_number true = 1
flag_number false = 0

unfoldable pub flag : Form Bool
flag = map_form (λ n. n == 1) flag_number always (within (λ n. nat_le n 1) number)

-- 0 kernel, 1 user
abbrev pub mode_of : Bool → Mode
mode_of true = User
mode_of false = Kernel

abbrev pub is_user : Mode → Bool
is_user Kernel = false
is_user User = true

unfoldable pub mode : Form Mode
mode = map_form mode_of is_user always flag

-- 0 none, else a place among the entries, and 1
abbrev pub place_number : Option ℕ → ℕ
place_number None = 0
place_number (Some place) = place + 1

abbrev pub place_of : ℕ → Option ℕ
place_of n = if n == 0 then None else Some (n - 1)

unfoldable pub place : Form (Option ℕ)
place = map_form place_of place_number always (within (λ n. nat_le n max_entries) number)

-- 0 none, else an address of RAM that is a multiple of 8
abbrev pub address_number : Option ℕ → ℕ
address_number None = 0
address_number (Some address) = address

abbrev pub address_of : ℕ → Option ℕ
address_of n = if n == 0 then None else Some n

abbrev pub is_nonzero : Option ℕ → Bool
is_nonzero None = true
is_nonzero (Some address) = not (address == 0)

abbrev pub is_reservable : ℕ → ℕ → Bool
is_reservable ram_pages n = n == 0 || (is_ram_address ram_pages n && n % reserved_bytes == 0)

unfoldable pub reservation : ℕ → Form (Option ℕ)
reservation ram_pages = map_form address_of address_number is_nonzero (within (is_reservable ram_pages) number)

-- a multiple of a size, as an instruction's address
unfoldable pub multiple_of : ℕ → Form ℕ
multiple_of size = within (λ n. n % size == 0) number

-- a number in which some bits alone may stand
unfoldable pub legal : (ℕ → ℕ) → Form ℕ
legal bits = within (λ n. bits n == n) number

-- ---- a hart

abbrev pub PrivilegeView : Type 0
PrivilegeView = Bool × (Mode × Option ℕ)

-- started, mode, entry. A stopped hart is in kernel mode, and one that is stopped or in user mode is in no entry
unfoldable pub privilege : Form PrivilegeView
privilege = and_then flag (λ started. and_then (within (λ m. started || not (is_user m)) mode)
    (λ m. within (λ entry. (started && not (is_user m)) || place_number entry == 0) place))

-- sepc, scause, stval, sip, satp
abbrev pub TrapStatus : Type 0
TrapStatus = ℕ × (ℕ × (ℕ × (ℕ × ℕ)))

unfoldable pub trap_status : Form TrapStatus
trap_status = legal legal_epc ⨾ (number ⨾ (number ⨾ (within (λ n. n == 0 || n == software_bit) number ⨾ legal (legal_satp 0))))

-- sstatus, sie, stvec, scounteren, sscratch, and those of a trap
abbrev pub Status : Type 0
Status = ℕ × (ℕ × (ℕ × (ℕ × (ℕ × TrapStatus))))

unfoldable pub status : Form Status
status = legal legal_status ⨾ (legal legal_interrupts ⨾ (legal legal_tvec ⨾ (legal legal_counteren ⨾ (number ⨾ trap_status))))

-- x1 to x31
unfoldable pub registers : Form (List ℕ)
registers = list_form (λ before. number) [] (register_count - 1)

abbrev pub HartParts : Type 0
HartParts = PrivilegeView × (ℕ × (List ℕ × (Status × (Option ℕ × ℕ))))

abbrev pub hart_parts : SavedHart → HartParts
hart_parts h = (
  (h.started, (h.mode, h.entry)),
  (
    h.pc,
    (
      drop 1 h.registers,
      (
        (
          h.sstatus,
          (
            h.sie,
            (
              h.stvec,
              (
                h.scounteren,
                (
                  h.sscratch,
                  (
                    h.sepc,
                    (h.scause, (h.stval, (h.sip, h.satp))),
                  ),
                ),
              ),
            ),
          ),
        ),
        (h.reservation, h.timer),
      ),
    ),
  ),
)

-- a hart by its parts; x0 is 0
abbrev pub hart_by : PrivilegeView → Status → (pc : ℕ) → (numbered : List ℕ) → (reserved : Option ℕ) → (timer : ℕ) → SavedHart
hart_by (started, (at, entry)) (sstatus, (sie, (stvec, (scounteren, (sscratch, (sepc, (scause, (stval, (sip, satp))))))))) pc numbered reserved timer = record {
  started = started;
  mode = at;
  pc = pc;
  registers = 0 ∷ numbered;
  sstatus = sstatus;
  sie = sie;
  stvec = stvec;
  scounteren = scounteren;
  sscratch = sscratch;
  sepc = sepc;
  scause = scause;
  stval = stval;
  sip = sip;
  satp = satp;
  reservation = reserved;
  entry = entry;
  timer = timer;
}

abbrev pub hart_of : HartParts → SavedHart
hart_of (its_privilege, (pc, (numbered, (its_status, (reserved, timer))))) = hart_by its_privilege its_status pc numbered reserved timer

-- register 0 is 0
abbrev pub begins_with_0 : List ℕ → Bool
begins_with_0 [] = false
begins_with_0 (n ∷ rest) = n == 0

-- started, mode, entry, pc, x1 to x31, the supervisor registers, reservation, timer
unfoldable pub hart : ℕ → Form SavedHart
hart ram_pages =
    map_form hart_of hart_parts (λ h. begins_with_0 h.registers)
    (privilege ⨾ (multiple_of instruction_size ⨾ (registers ⨾ (status ⨾ (reservation ram_pages ⨾ number)))))

unfoldable pub harts : (ram_pages count : ℕ) → Form (List SavedHart)
harts ram_pages count = list_form (λ before. hart ram_pages) [] count
