-- The values of a hart in a snapshot, and its side.
use Rattle.std.proofs.Common.{◌≡◌, ℕ, zero, suc, ◌+◌, ◌*◌, ◌%◌, ◌^◌, ◌<◌, ◌≤◌, List, [], ◌∷◌, ◌++◌, length, drop, get_or, refl, sym, ◌∙◌}
use Rattle.std.proofs.Common.{ap, subst, Bool, true, false, not, ◌&&◌, ◌||◌, arith, slice_get}
use Rattle.std.specs.Prelude.{Option, Some, None, option_map, ◌==◌, nat_le, slice_index, IfSome, IsTrue, if◌then◌else◌}
use Rattle.std.specs.List.{list_any, list_all}
use Rattle.std.proofs.lemmas.Bool.{eqb-true, eq-eqb, not-true, or_parts}
use Rattle.spec_processor.specs.Bits.{flag}
use Rattle.spec_processor.specs.Bytes.{page_size, ram_base, ram_offset, is_ram_address}
use Rattle.spec_processor.specs.GuestView.{with_guest}
use Rattle.spec_processor.specs.HypervisorRegisters.{HypervisorRegisters, IsLegal, registers_at_boot, at_hypervisor_places, virtual_software_bit}
use Rattle.spec_processor.specs.Registers.{IsLegalSupervisor, software_bit}
use Rattle.spec_processor.specs.Requests.{reserved_bytes}
use Rattle.spec_processor.specs.declared.mode.Mode.{Mode}
use Rattle.spec_processor.specs.declared.mode.Mode.TheVariants.{Kernel, User}
use Rattle.sv_types.specs.Policies.{Rules, rules_within, bound_fits, all_bound}
use Rattle.sv_types.proofs.PolicyLimits.{bound_rules}
use Rattle.spec_reference.specs.States.{Binding, binding_at, binding_of, has_number, place_of_entry}
use Rattle.spec_reference.specs.Trapping.{may_enter}
use Rattle.spec_hardware.specs.StandsFor.{hw_reservation, hregs_in, kernel_view}
use Rattle.spec_hardware.specs.Machine.{HwHart}
use Rattle.spec_processor.specs.declared.hregs.HRegs.{HRegs}
use Rattle.sv_types.specs.declared.view.View.{View}
use Rattle.page_guard.specs.Permitted.{Permitted}
use Rattle.page_guard.specs.Privileges.{entry_of, mode_of, registers_of, view_at_trap}
use Rattle.laws_processor.proofs.GuestViews.{shown_is_legal}
use Rattle.laws_processor.proofs.RegisterBits.{boot_is_legal}
use Rattle.spec_reference.specs.declared.saved_machine.harts.SavedHart.{SavedHart}
use Rattle.snapshot_format.specs.Forms.{is_word, has_all}
use Rattle.snapshot_format.specs.HartForms.{is_user, flag as flag_form, mode, place, is_reservable, reservation, multiple_of, privilege, status, registers, begins_with_0, hart, harts}
use Rattle.snapshot_format.proofs.FormLaws.{first_true, second_true}
use Rattle.snapshot_format.specs.Judgements.{is_bound}
use Rattle.snapshot_format.specs.ResumedStates.{resumed_hart}
use Rattle.laws_resume.proofs.FormParts.{below_is, max_is}
use Rattle.laws_resume.proofs.TakenPages.{found_later}
use Rattle.laws_resume.proofs.ResumedHarts.{user_place, some_binding, supervisor_of}
use Rattle.laws_resume.specs.Resuming.{csrs_resumed, hw_resumed}
use Rattle.machine.specs.Seating.{CanAllSit, CanSit, IsEntered, IsReservable, MayBeIn, view_in}

-- ---- values of a hart

-- the software interrupt stands two places above the flag
software_by : (sip : ℕ) (b : Bool) → (sip == 0) ≡ b → (sip == 0 || sip == software_bit) ≡ true → at_hypervisor_places sip ≡ virtual_software_bit * flag (sip == software_bit)
software_by sip true at range = let none : sip ≡ 0 = eqb-true sip 0 at in rw none refl
software_by sip false at range =
    let set : sip ≡ software_bit = eqb-true sip software_bit (found_later (sip == 0) (sip == software_bit) range at) in rw set refl

abbrev InRam : (size : ℕ) → ℕ → Type 0
InRam size address = (ram_base ≤ address) × (ram_offset address < size)

reserved_by : (pages : ℕ) (address : Option ℕ) → (reservation pages).has address ≡ true → IfSome address (InRam (page_size * pages))
unfolding reservation
reserved_by pages None h = tt
reserved_by pages (Some address) h =
    let other = not-true (address == 0) (first_true (not (address == 0)) _ h) in
    let range = second_true (is_word address) (is_reservable pages address) (second_true (not (address == 0)) _ h) in
    let both = found_later (address == 0) (is_ram_address pages address && address % reserved_bytes == 0) range other in
    let inside = first_true (is_ram_address pages address) _ both in
    let low : ram_base ≤ address = max_is ram_base address (first_true (nat_le ram_base address) _ inside) in
    let high : address < ram_base + page_size * pages = below_is address (ram_base + page_size * pages) (second_true (nat_le ram_base address) _ inside) in
    (low, omega (arith, low, high))

user_by : (started : Bool) (m : Mode) (entry : Option ℕ) → privilege.has (started, (m, entry)) ≡ true → m ≡ User → entry ≡ None
unfolding privilege
user_by started Kernel entry h user = absurd cc
user_by started User entry h user =
    let behind = second_true (flag_form.has started) _ h in
    let place_part = second_true (mode.has User && (started || not (is_user User))) _ behind in
    user_place started entry (second_true (place.has entry) _ place_part)

first_zero : (regs : List ℕ) → begins_with_0 regs ≡ true → slice_index regs 0 ≡ 0
first_zero [] e = absurd cc
first_zero (n ∷ rest) e = eqb-true n 0 e

-- the ranges of a hart, in RAM of so many pages
pub record HartRanges (pages : ℕ) (h : SavedHart) : Type 0 where
  pub zero : slice_index h.registers 0 ≡ 0
  pub legal : IsLegal (csrs_resumed h)
  pub reservation : IfSome h.reservation (InRam (page_size * pages))
  pub user : h.mode ≡ User → h.entry ≡ None

csrs_legal : (h : SavedHart) → IsLegalSupervisor (resumed_hart h).supervisor → (h.sip == 0 || h.sip == software_bit) ≡ true → IsLegal (csrs_resumed h)
csrs_legal h supervisor sip =
    let shown : IsLegal (with_guest registers_at_boot (resumed_hart h).supervisor) = shown_is_legal registers_at_boot (resumed_hart h).supervisor boot_is_legal supervisor in
    subst (λ (n : ℕ). IsLegal (record (csrs_resumed h) { hvip = n })) (sym (software_by h.sip (h.sip == 0) refl sip)) shown

pub hart_ranges : (pages : ℕ) (h : SavedHart) → (hart pages).has h ≡ true → HartRanges pages h
unfolding hart
hart_ranges pages h has =
    let parts = second_true (begins_with_0 h.registers) _ has in
    let privilege_part = first_true (privilege.has (h.started, (h.mode, h.entry))) _ parts in
    let pc_on = second_true (privilege.has (h.started, (h.mode, h.entry))) _ parts in
    let registers_on = second_true ((multiple_of 4).has h.pc) _ pc_on in
    let status_on = second_true (registers.has (drop 1 h.registers)) _ registers_on in
    let reserved_on = second_true (status.has _) ((reservation pages).has h.reservation && is_word h.timer) status_on in
    let known = supervisor_of pages h has in
    record {
      zero = first_zero h.registers (first_true (begins_with_0 h.registers) _ has);
      legal = csrs_legal h known.0 known.1;
      reservation = reserved_by pages h.reservation (first_true ((reservation pages).has h.reservation) (is_word h.timer) reserved_on);
      user = user_by h.started h.mode h.entry privilege_part;
    }

-- ---- all harts

pub sits_at : (tables : ℕ) (entries : Permitted) (hs : List SavedHart) (i : ℕ) (d : SavedHart) → CanAllSit tables entries hs → i < length hs → CanSit tables entries (get_or hs i d)
sits_at tables entries [] i d all within = absurd (omega (arith, within))
sits_at tables entries (h ∷ hs) zero d all within = all.0
sits_at tables entries (h ∷ hs) (suc i) d all within = sits_at tables entries hs i d all.1 (omega (arith, within))

-- ---- sides

pub registers_in : (m : Mode) (entry : Option ℕ) → (m ≡ User → entry ≡ None) → registers_of (view_in m entry) ≡ hregs_in m entry
registers_in Kernel None user = refl
registers_in Kernel (Some i) user = refl
registers_in User None user = refl
registers_in User (Some i) user = let none = user refl in absurd cc

pub entry_in : (m : Mode) (entry : Option ℕ) → (m ≡ User → entry ≡ None) → entry_of (view_in m entry) ≡ entry
entry_in Kernel None user = refl
entry_in Kernel (Some i) user = refl
entry_in User None user = refl
entry_in User (Some i) user = let none = user refl in absurd cc

-- ---- entries

-- rules with these entries, whatever else they say
abbrev pub rules_with : Permitted → Rules
rules_with e = record {
  format = 0;
  harts = 0;
  ram_pages = 0;
  entries = e.entries;
  bound = e.bound;
  exports = [];
  kernel = [];
  init = None;
  modules = [];
}

has_by : (x : Option ℕ) (i : ℕ) (same there : Bool) → ((k : ℕ) → x ≡ Some k → there ≡ true) → (if same then Some 0 else option_map suc x) ≡ Some i → (same || there) ≡ true
has_by x i true there rest e = refl
has_by None i false there rest e = absurd cc
has_by (Some k) i false there rest e = rest k refl

pub has_entry : (entries bound : List ℕ) (va i : ℕ) → place_of_entry entries bound va ≡ Some i → has_number entries va ≡ true
unfolding place_of_entry
has_entry [] bound va i e = absurd cc
has_entry (first ∷ entries) [] va i e = absurd cc
has_entry (first ∷ entries) (gpa ∷ bound) va i e = has_by (place_of_entry entries bound va) i (first == va) (has_number entries va) (has_entry entries bound va) e

not_among : (before : List ℕ) (first va : ℕ) → list_any (λ e. e == va) (before ++ first ∷ []) ≡ false → (list_any (λ e. e == va) before ≡ false) × ((first == va) ≡ false)
not_among [] first va e = (refl, (or_parts (first == va) false e).0)
not_among (x ∷ before) first va e =
    let parts = or_parts (x == va) (list_any (λ e. e == va) (before ++ first ∷ [])) e in
    let rest = not_among before first va parts.1 in
    (ap (λ (b : Bool). b || list_any (λ e. e == va) before) parts.0 ∙ rest.0, rest.1)

three : (a b c : Bool) → (a && b && c) ≡ true → (b ≡ true) × (c ≡ true)
three true true c e = (refl, e)
three true false c e = absurd cc
three false b c e = absurd cc

-- of a bound entry's address the entry's place is the first
first_place : (n : ℕ) (before entries bound : List ℕ) (i : ℕ) (entry : Binding) → all_bound n before entries bound ≡ true
    → binding_of (slice_get entries i) (slice_get bound i) ≡ Some entry
    → (place_of_entry entries bound entry.va ≡ Some i) × (list_any (λ e. e == entry.va) before ≡ false)
unfolding place_of_entry
first_place n before [] bound i entry within at = absurd cc
first_place n before (va ∷ entries) [] i entry within at = absurd cc
first_place n before (va ∷ entries) (gpa ∷ bound) zero entry within at =
    let here : va ≡ entry.va = address_is va gpa entry at in
    let apart = (three (bound_fits n va gpa) (not (list_any (λ e. e == va) before)) (all_bound n (before ++ va ∷ []) entries bound) within).0 in (
      ap (λ (b : Bool). if b then Some 0 else option_map suc (place_of_entry entries bound entry.va)) (eq-eqb va entry.va here),
      subst (λ (k : ℕ). list_any (λ e. e == k) before ≡ false) here (not-true (list_any (λ e. e == va) before) apart),
    )
  where
    address_is : (va gpa : ℕ) (entry : Binding) → Some (record { va = va; gpa = gpa }) ≡ Some entry → va ≡ entry.va
    address_is va gpa entry at = let same : record { va = va; gpa = gpa } ≡ entry = cc in ap (λ (b : Binding). b.va) same
first_place n before (va ∷ entries) (gpa ∷ bound) (suc i) entry within at =
    let rest = first_place n (before ++ va ∷ []) entries bound i entry
    (three (bound_fits n va gpa) (not (list_any (λ e. e == va) before)) (all_bound n (before ++ va ∷ []) entries bound) within).1 at in
    let other = not_among before va entry.va rest.1 in (
      ap (λ (b : Bool). if b then Some 0 else option_map suc (place_of_entry entries bound entry.va)) other.1 ∙ ap (option_map suc) rest.0,
      other.0,
    )

no_binding : (entries bound : List ℕ) (i : ℕ) (entry : Binding) → length bound ≡ 0 → binding_of (slice_get entries i) (slice_get bound i) ≡ Some entry → ⊥
no_binding entries (gpa ∷ bound) i entry empty at = omega (arith, empty)
no_binding [] [] i entry empty at = cc
no_binding (va ∷ entries) [] zero entry empty at = cc
no_binding (va ∷ entries) [] (suc i) entry empty at = no_binding entries [] i entry refl at

-- in each format
place_by : (rules : Rules) (i : ℕ) (entry : Binding) (b : Bool) → IsTrue (if b then length rules.bound == 0 else all_bound rules.ram_pages [] rules.entries rules.bound)
    → binding_of (slice_get rules.entries i) (slice_get rules.bound i) ≡ Some entry → place_of_entry rules.entries rules.bound entry.va ≡ Some i
place_by rules i entry true none at = absurd (no_binding rules.entries rules.bound i entry (eqb-true (length rules.bound) 0 none) at)
place_by rules i entry false each at = (first_place rules.ram_pages [] rules.entries rules.bound i entry each at).0

abbrev entries_of : Rules → Permitted
entries_of rules = record { entries = rules.entries; bound = rules.bound }

may_be_in : (rules : Rules) (entry : Option ℕ) → IsTrue (rules_within rules) → is_bound rules entry ≡ true → MayBeIn (entries_of rules) entry
unfolding binding_at
may_be_in rules None within bound = tt
may_be_in rules (Some i) within bound =
    let there = some_binding (binding_of (slice_get rules.entries i) (slice_get rules.bound i)) bound in
    record { entry = there.0; bound = there.1; first = place_by rules i there.0 (rules.format == 1) (bound_rules rules within) there.1 }

each_sits : (rules : Rules) (tables pages n : ℕ) (before hs : List SavedHart) → IsTrue (rules_within rules) → tables + page_size * pages < 2 ^ 63 → has_all (λ before. hart pages) before n hs ≡ true
    → list_all (λ (h : SavedHart). is_bound rules h.entry) hs ≡ true → CanAllSit tables (entries_of rules) hs
unfolding has_all
each_sits rules tables pages n before [] within room has bound = tt
each_sits rules tables pages zero before (h ∷ hs) within room has bound = absurd cc
each_sits rules tables pages (suc n) before (h ∷ hs) within room has bound = (
  record {
    ram_pages = pages;
    room = room;
    form = first_true ((hart pages).has h) _ has;
    entry = may_be_in rules h.entry within (first_true (is_bound rules h.entry) _ bound);
  },
  each_sits rules tables pages n (before ++ h ∷ []) hs within room (second_true ((hart pages).has h) _ has) (second_true (is_bound rules h.entry) _ bound),
)

-- the harts of a snapshot of the policy
pub all_sit : (rules : Rules) (tables pages : ℕ) (hs : List SavedHart) → IsTrue (rules_within rules) → tables + page_size * pages < 2 ^ 63 → (harts pages (length hs)).has hs ≡ true
    → list_all (λ (h : SavedHart). is_bound rules h.entry) hs ≡ true → CanAllSit tables (entries_of rules) hs
unfolding harts
all_sit rules tables pages hs within room has bound = each_sits rules tables pages (length hs) [] hs within room has bound

-- ---- the entry by its address

address_of : (x : Option Binding) (entry : Binding) (target : ℕ) → x ≡ Some entry → Some target ≡ option_map (λ (b : Binding). b.va) x → target ≡ entry.va
address_of None entry target at e = absurd cc
address_of (Some b) entry target at e =
    let same : b ≡ entry = cc in
    let here : target ≡ b.va = cc in here ∙ ap (λ (b : Binding). b.va) same

pub first_at : (e : Permitted) (i target : ℕ) → IsEntered e i
    → Some target ≡ option_map (λ (b : Binding). b.va) (binding_of (slice_get e.entries i) (slice_get e.bound i)) → place_of_entry e.entries e.bound target ≡ Some i
first_at e i target k at =
    ap (place_of_entry e.entries e.bound) (address_of (binding_of (slice_get e.entries i) (slice_get e.bound i)) k.entry target k.bound at) ∙ k.first

-- from user mode it is permitted
pub not_forbidden : (e : Permitted) (view : View) (i target : ℕ) → view ≡ View.User → place_of_entry e.entries e.bound target ≡ Some i
    → may_enter (rules_with e) (mode_of view) target ≡ false → ⊥
not_forbidden e view i target user is never =
    let there : has_number e.entries target ≡ true = has_entry e.entries e.bound target i is in
    let gone : has_number e.entries target ≡ false = ap (λ (v : View). may_enter (rules_with e) (mode_of v) target) (sym user) ∙ never in cc

pub came_in : (e : Permitted) (view next : View) (i target : ℕ) → view ≡ View.User → place_of_entry e.entries e.bound target ≡ Some i
    → next ≡ view_at_trap (rules_with e) view target → next ≡ View.Entry i
came_in e view next i target user is entered =
    entered ∙ ap (λ (v : View). view_at_trap (rules_with e) v target) user ∙ ap kernel_view is

-- ---- a hart on its side

abbrev hw_by : SavedHart → List ℕ → HypervisorRegisters → HRegs → Option ℕ → Option ℕ → HwHart
hw_by h regs csrs hregs reservation entry = record {
  core = record { registers = regs; pc = h.pc; csrs = csrs; hregs = hregs; reservation = reservation };
  started = h.started;
  entry = entry;
}

pub slot_is : (tables : ℕ) (h : SavedHart) (regs : List ℕ) (csrs : HypervisorRegisters) (reservation : Option ℕ) (view : View)
    → regs ≡ h.registers → csrs ≡ csrs_resumed h → reservation ≡ hw_reservation tables (option_map ram_offset h.reservation)
    → view ≡ view_in h.mode h.entry → (h.mode ≡ User → h.entry ≡ None)
    → hw_by h regs csrs (registers_of view) reservation (entry_of view) ≡ hw_resumed tables h
slot_is tables h regs csrs reservation view same_regs same_csrs same_place same_view user =
    ap (λ (x : List ℕ). hw_by h x csrs (registers_of view) reservation (entry_of view)) same_regs
    ∙ ap (λ (x : HypervisorRegisters). hw_by h h.registers x (registers_of view) reservation (entry_of view)) same_csrs
    ∙ ap (λ (x : Option ℕ). hw_by h h.registers (csrs_resumed h) (registers_of view) x (entry_of view)) same_place
    ∙ ap (λ (v : View). hw_by h h.registers (csrs_resumed h) (registers_of v) (hw_reservation tables (option_map ram_offset h.reservation)) (entry_of v)) same_view
    ∙ ap (λ (x : HRegs). hw_by h h.registers (csrs_resumed h) x (hw_reservation tables (option_map ram_offset h.reservation)) (entry_of (view_in h.mode h.entry)))
    (registers_in h.mode h.entry user)
    ∙ ap (λ (x : Option ℕ). hw_by h h.registers (csrs_resumed h) (hregs_in h.mode h.entry) (hw_reservation tables (option_map ram_offset h.reservation)) x)
    (entry_in h.mode h.entry user)

room_of : (tables pages : ℕ) (x : Option ℕ) → IfSome x (InRam (page_size * pages)) → tables + page_size * pages < 2 ^ 63 → IfSome x (IsReservable tables)
room_of tables pages None inside room = inside
room_of tables pages (Some address) inside room = let less = inside.1 in (inside.0, omega (arith, less, room))

pub reservable : (tables pages : ℕ) (h : SavedHart) → HartRanges pages h → tables + page_size * pages < 2 ^ 63 → IfSome h.reservation (IsReservable tables)
reservable tables pages h k room = room_of tables pages h.reservation k.reservation room
