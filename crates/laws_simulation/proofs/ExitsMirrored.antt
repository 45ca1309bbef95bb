-- Every exit: SecVisor's answer goes with the reference machine's.
use Rattle.std.proofs.Common.{◌≡◌, ℕ, List, length, refl, sym, ◌∙◌, ap, subst, true, false, slice_get}
use Rattle.std.specs.Prelude.{Option, Some}
use Rattle.spec_processor.specs.HypervisorRegisters.{HypervisorRegisters}
use Rattle.sv_types.specs.Policies.{Rules}
use Rattle.spec_processor.specs.Regions.{IsRegion}
use Rattle.sv_types.specs.Views.{AreViews, with_ram}
use Rattle.spec_processor.specs.Traps.{is_interrupt, guest_number}
use Rattle.spec_processor.specs.declared.exit.Exit.{Exit}
use Rattle.spec_processor.specs.declared.mode.Mode.{Mode}
use Rattle.sv_types.specs.declared.protection.Protection.{Protection}
use Rattle.laws_simulation.specs.Agree.{IsAt}
use Rattle.laws_simulation.specs.Laws.{MakesAttempt, TablesLaw}
use Rattle.spec_hardware.specs.HardwareEvent.{attempt_of, left_by}
use Rattle.spec_processor.specs.declared.outcome.Outcome.{Outcome}
use Rattle.spec_hardware.specs.Steps.{AreTables}
use Rattle.spec_hardware.specs.HardwareEvent.{Answers}
use Rattle.spec_hardware.specs.HwExits.{hw_exit_answered, hw_exit, served_by, served_exit, with_tables}
use Rattle.spec_hardware.specs.Machine.{Machine, HwHart}
use Rattle.spec_reference.specs.Protections.{protection_at}
use Rattle.spec_reference.specs.States.{State, Hart, protection_in, protections_of}
use Rattle.spec_hardware.specs.Served.{seen_of, exit_answer, exit_answered, serve_exit, is_again}
use Rattle.spec_hardware.specs.declared.exits.ExitAnswer.{ExitAnswer}
use Rattle.spec_hardware.specs.declared.exits.ExitAnswer.TheVariants.{Traps, Returns, Demotes, LeavesEntry, StopsAtWrite, LoadsDevice, StoresDevice, Calls}
use Rattle.spec_reference.specs.Devices.{device_load}
use Rattle.spec_hardware.specs.StandsFor.{StandsFor, Unseen, IsRightFor, machine_of, bound_pages}
use Rattle.spec_reference.specs.Soundness.{IsSound}
use Rattle.spec_reference.specs.Turn.{turn}
use Rattle.laws_simulation.proofs.CallsMirrored.{call_mirrors}
use Rattle.laws_simulation.proofs.HartsMirrored.{hw_in, trap_mirrors, return_mirrors, demote_mirrors, write_stop_mirrors, device_load_mirrors, load_leaves_time, device_store_mirrors}
use Rattle.laws_simulation.proofs.HwOfSlots.{hw_harts_get}
use Rattle.laws_simulation.proofs.LawsHold.{exit_turn, answer_at_exit, asked_same}
use Rattle.laws_simulation.proofs.Mirrored.{Mirrors, hw_there}
use Rattle.laws_simulation.proofs.ProtectionsChange.{views_from, views_to}
use Rattle.laws_simulation.proofs.StepsSound.{turn_goes}
use Rattle.spec_hardware.proofs.Privileges.{same_mode}

-- ---- exits

-- each answer that doesn't ask for a second attempt
exit_mirrors : (o : Unseen) (r : State) (h : ℕ) (hart : Hart) (c : HypervisorRegisters) (a : ExitAnswer) → IsAt o r h hart c → is_again a ≡ false
    → Mirrors o r h (hw_exit_answered (machine_of o r) h (hw_in o c hart) hart.mode a) (exit_answered r h hart a)
unfolding machine_of hw_exit_answered exit_answered is_again
exit_mirrors o r h hart c (Traps cause tval) at once = trap_mirrors o r h hart c (is_interrupt cause) (guest_number cause) tval at
exit_mirrors o r h hart c Returns at once = return_mirrors o r h hart c at
exit_mirrors o r h hart c (Demotes gpa) at once = demote_mirrors o r h hart c gpa at
exit_mirrors o r h hart c LeavesEntry at once = absurd (cc)
exit_mirrors o r h hart c (StopsAtWrite gpa) at once = write_stop_mirrors o r h hart c gpa at
exit_mirrors o r h hart c (LoadsDevice load) at once =
    device_load_mirrors o r h hart c load.rd load.address load.width load.signed (device_load r.devices load.gpa load.width) at (load_leaves_time r.devices load.gpa load.width)
exit_mirrors o r h hart c (StoresDevice store) at once = device_store_mirrors o r h hart c store.address store.gpa store.width store.value at
exit_mirrors o r h hart c Calls at once = call_mirrors o r h hart c at

-- SecVisor's answer to the exit is the last of the turn
abbrev pub IsLast : State → Hart → Exit → Type 0
IsLast r hart exit = is_again (exit_answer (seen_of r hart exit) exit) ≡ false

exit_by : (o : Unseen) (r : State) (h : ℕ) (hart : Hart) (c : HypervisorRegisters) (exit : Exit) → IsAt o r h hart c → IsLast r hart exit
    → Mirrors o r h (hw_exit (machine_of o r) h (hw_in o c hart) hart.mode exit) (serve_exit r h hart exit)
unfolding machine_of hw_exit serve_exit
exit_by o r h hart c exit at last = exit_mirrors o r h hart c (exit_answer (seen_of r hart exit) exit) at last

by_mode : (o : Unseen) (r : State) (h : ℕ) (hart : Hart) (c : HypervisorRegisters) (exit : Exit) → IsAt o r h hart c
    → IsLast r hart exit → Mirrors o r h (hw_exit (machine_of o r) h (hw_in o c hart) (hw_in o c hart).core.hregs.mode exit) (serve_exit r h hart exit)
by_mode o r h hart c exit at once =
    subst (λ (mode : Mode). Mirrors o r h (hw_exit (machine_of o r) h (hw_in o c hart) mode exit) (serve_exit r h hart exit)) (sym (same_mode hart.mode hart.entry)) (exit_by o r h hart c exit at once)

pub served_mirrors : (o : Unseen) (r : State) (h : ℕ) (hart : Hart) (c : HypervisorRegisters) (exit : Exit) → IsAt o r h hart c
    → IsLast r hart exit → Mirrors o r h (served_exit (machine_of o r) h exit) (serve_exit r h hart exit)
unfolding machine_of served_exit served_by
served_mirrors o r h hart c exit at once =
    subst (λ (x : Option HwHart). Mirrors o r h (served_by (machine_of o r) h exit x) (serve_exit r h hart exit))
    (sym (hw_there (length o.tables) o.exits r.harts h c hart at.exits at.found)) (by_mode o r h hart c exit at once)

-- ---- with tables

-- the machine after an answer stands for a state, and the answer stays in its frame
abbrev pub Answered : Machine → ℕ → Machine → State → Type 0
Answered before h after next = StandsFor after next × Answers before h after

tables_same : (p : Unseen) (x : State) (tables : List ℕ) → length tables ≡ length p.tables → with_tables (machine_of p x) tables ≡ machine_of (record p { tables = tables }) x
unfolding machine_of
tables_same p x tables size = rw size refl

tables_frame : (m after : Machine) (h : ℕ) (tables : List ℕ) → length tables ≡ length m.region.tables → Answers m h after → Answers m h (with_tables after tables)
tables_frame m after h tables size a = record {
  answer = record a.answer { tables = tables };
  size = size;
  may = a.may;
  same = ap (λ (x : Machine). with_tables x tables) a.same;
}

region_same : (old tables ram next : List ℕ) → length tables ≡ length old → next ≡ ram → IsRegion (with_ram old ram) → IsRegion (with_ram tables next)
region_same old tables ram next size same p = record { tables = rw size p.tables; ram = rw same p.ram; most = rw same p.most; small = rw (same, size) p.small }

protections_same : (p : Unseen) (x : State) → (machine_of p x).protections ≡ protections_of x
unfolding machine_of
protections_same p x = refl

views_same : (after : Machine) (p : Unseen) (r next : State) (tables : List ℕ) → after ≡ machine_of p next → next.rules ≡ r.rules →
    AreViews tables r.rules.ram_pages (bound_pages r.rules) (protection_at after.protections)
    → AreViews tables next.rules.ram_pages (bound_pages next.rules) (protection_in next.approved next.held)
views_same after p r next tables same rules views =
    let here : after.protections ≡ protections_of next = ap (λ (x : Machine). x.protections) same ∙ protections_same p next in
    views_from tables next (subst (λ (x : Rules). AreViews tables x.ram_pages (bound_pages x) (protection_at (protections_of next))) (sym rules)
    (subst (λ (list : List Protection). AreViews tables r.rules.ram_pages (bound_pages r.rules) (protection_at list)) here views))

open_after : (o : Unseen) (r : State) (h : ℕ) (after : Machine) (next : State) (tables : List ℕ) → IsRightFor o r → (k : Mirrors o r h after next) → length tables ≡ length o.tables
    → AreViews tables r.rules.ram_pages (bound_pages r.rules) (protection_at after.protections) → IsRightFor (record k.unseen { tables = tables }) next
open_after o r h after next tables p k size views = record {
  views = views_same after k.unseen r next tables k.same k.rules views;
  region = region_same o.tables tables r.ram next.ram size k.ram p.region;
  exits = k.exits;
  cleared = rw k.cleared k.printed;
}

-- the machine after an answer, with its tables, stands for the state after it
pub stands_after : (o : Unseen) (r : State) (h : ℕ) (after : Machine) (next : State) (tables : List ℕ) → IsRightFor o r → (k : Mirrors o r h after next) → IsSound next
    → AreTables (machine_of o r) after tables → Answered (machine_of o r) h (with_tables after tables) next
unfolding machine_of
stands_after o r h after next tables p k s t = (
  record {
    unseen = record k.unseen { tables = tables };
    same = ap (λ (x : Machine). with_tables x tables) k.same ∙ tables_same k.unseen next tables (t.size ∙ sym (ap length k.tables));
    unseen_is_right = open_after o r h after next tables p k t.size t.views;
    sound = s;
  },
  tables_frame (machine_of o r) after h tables t.size k.frame,
)

served_at : (o : Unseen) (r : State) (h : ℕ) (hart : Hart) (exit : Exit) (next : State) (tables : List ℕ) → IsRightFor o r → IsSound r → slice_get r.harts h ≡ Some hart → hart.started ≡ true
    → next ≡ serve_exit r h hart exit → IsLast r hart exit → IsSound next → AreTables (machine_of o r) (served_exit (machine_of o r) h exit) tables
    → Answered (machine_of o r) h (with_tables (served_exit (machine_of o r) h exit) tables) next
served_at o r h hart exit next tables p s found started same last sound t =
    let c = hw_harts_get (length o.tables) o.exits r.harts h hart p.exits found in
    let at : IsAt o r h hart c.0 = record { right = p; sound = s; found = found; exits = c.1.0; started = started } in
    stands_after o r h (served_exit (machine_of o r) h exit) next tables p
    (subst (Mirrors o r h (served_exit (machine_of o r) h exit)) (sym same) (served_mirrors o r h hart c.0 exit at last)) sound t

pub served_stands : (m : Machine) (r : State) (h : ℕ) (hart : Hart) (exit : Exit) (next : State) (tables : List ℕ) → StandsFor m r → slice_get r.harts h ≡ Some hart → hart.started ≡ true
    → next ≡ serve_exit r h hart exit → IsLast r hart exit → IsSound next → AreTables m (served_exit m h exit) tables
    → Answered m h (with_tables (served_exit m h exit) tables) next
served_stands m r h hart exit next tables stands found started same last sound t =
    subst (λ (x : Machine). AreTables x (served_exit x h exit) tables → Answered x h (with_tables (served_exit x h exit) tables) next) (sym stands.same)
    (served_at stands.unseen r h hart exit next tables stands.unseen_is_right stands.sound found started same last sound) t

-- an exit, over a turn whose count was raised already
pub served_turn : (m : Machine) (r : State) (h : ℕ) (hw : HwHart) (hart : Hart) (exit : Exit) (tables : List ℕ) → MakesAttempt m r h hw hart
    → (attempt_of m h hw).outcome ≡ Outcome.Exit exit → is_again (answer_at_exit m hw exit) ≡ false
    → AreTables (left_by m h hw) (served_exit (left_by m h hw) h exit) tables
    → Answered (left_by m h hw) h (with_tables (served_exit (left_by m h hw) h exit) tables) (turn r h)
served_turn m r h hw hart exit tables makes left once t =
    let k = exit_turn m r h hw hart exit makes left in
    served_stands (left_by m h hw) r h hart exit (turn r h) tables k.0 makes.hart_is makes.started k.1 (subst (λ (a : ExitAnswer). is_again a ≡
    false) (asked_same m r h hw hart exit makes) once) (turn_goes r h makes.stands.sound).sound t

tables_at : (o : Unseen) (r : State) → IsRightFor o r → AreTables (machine_of o r) (machine_of o r) (machine_of o r).region.tables
unfolding machine_of
tables_at o r p = record { size = refl; views = views_to o.tables r p.views }

pub tables_law : TablesLaw
tables_law m after r stands same =
    let t : AreTables m m m.region.tables = subst (λ (x : Machine). AreTables x x x.region.tables) (sym stands.same) (tables_at stands.unseen r stands.unseen_is_right) in
    record { size = refl; views = rw same t.views }
