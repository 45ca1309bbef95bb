-- The harts in which a machine goes on, with the load under way, the notes, the verdict and the clock.
use Rattle.std.proofs.Common.{◌≡◌, ℕ, zero, suc, ◌+◌, ◌-◌, ◌*◌, ◌%◌, ◌^◌, ◌<◌, ◌≤◌, List, [], ◌∷◌, ◌++◌, length, map, min, drop, replicate}
use Rattle.std.proofs.Common.{refl, ◌∙◌, ap, subst, Bool, true, false, not, ◌&&◌, ◌||◌, arith, slice_get, length-append}
use Rattle.sv_types.specs.Limits.{max_notes}
use Rattle.std.specs.Prelude.{Option, Some, None, option_map, is_some, ◌==◌, nat_lt, nat_le, slice_index}
use Rattle.std.specs.List.{list_all}
use Rattle.std.proofs.lemmas.Bool.{eqb-true, not-true}
use Rattle.std.proofs.lemmas.List.{length-map, length-replicate}
use Rattle.std.proofs.lemmas.Option.{same_Some}
use Rattle.spec_processor.specs.Bytes.{page_size, ram_base, ram_offset, is_ram_address}
use Rattle.spec_processor.specs.Registers.{IsLegalSupervisor, software_bit, legal_status, legal_interrupts, legal_tvec, legal_counteren, legal_epc, legal_satp}
use Rattle.spec_processor.specs.Requests.{reserved_bytes}
use Rattle.spec_processor.specs.declared.mode.Mode.{Mode}
use Rattle.spec_processor.specs.declared.mode.Mode.TheVariants.{Kernel, User}
use Rattle.sv_types.specs.Clock.{latest}
use Rattle.sv_types.specs.Policies.{Rules}
use Rattle.sv_types.specs.declared.event.Note.{Note}
use Rattle.sv_types.specs.declared.event.Note.TheVariants.{Demote, Denied, Load, Unload, Retire}
use Rattle.sv_types.specs.declared.event.Rule.TheVariants.{Entry, Write}
use Rattle.sv_types.specs.declared.event.Verdict.{Verdict}
use Rattle.sv_types.specs.declared.event.Verdict.TheVariants.{Running, Shutdown, Stopped}
use Rattle.spec_reference.specs.Soundness.{IsSoundEntry, IsSoundHart}
use Rattle.spec_reference.specs.States.{Hart, Binding, binding_at}
use Rattle.spec_reference.specs.declared.saved_machine.harts.SavedHart.{SavedHart}
use Rattle.spec_reference.specs.declared.saved_machine.whole.SavedLoad.{SavedLoad}
use Rattle.snapshot_format.specs.Forms.{is_word, has_all}
use Rattle.snapshot_format.specs.HartForms.{is_user, flag, mode, place, place_number, is_reservable, reservation, multiple_of, legal}
use Rattle.snapshot_format.specs.HartForms.{privilege, trap_status, status, registers, begins_with_0, hart, harts}
use Rattle.snapshot_format.specs.JournalForms.{hart_number, demote_form, load_note, unload, retire, answer, note_after, note_form, notes, stopped_entry, stopped_write, verdict_after, verdict}
use Rattle.snapshot_format.specs.PageForms.{may_load, module_within, is_above, load, load_after, load_under_way}
use Rattle.snapshot_format.proofs.FormLaws.{first_true, second_true}
use Rattle.snapshot_format.specs.Judgements.{is_bound}
use Rattle.snapshot_format.specs.ResumedStates.{resumed_hart, resumed_load, timers_of}
use Rattle.laws_resume.specs.Keepable.{IsReservable, IsKeepableHart, AreKeepable, IsKeepableNote, AreKeepableNotes, IsKeepableVerdict, IsKeepableJournal, IsKeepableClock, MayGoOn, IsKeepableLoad}
use Rattle.laws_resume.proofs.FormParts.{is_small, below_is, max_is}
use Rattle.laws_resume.proofs.KeepableStarts.{never}
use Rattle.laws_resume.proofs.TakenPages.{found_later}

-- ---- values of a hart

pub number_legal : (bits : ℕ → ℕ) (n : ℕ) → (legal bits).has n ≡ true → bits n ≡ n
unfolding legal
number_legal bits n h = eqb-true (bits n) n (second_true (is_word n) (bits n == n) h)

number_aligned : (size n : ℕ) → (multiple_of size).has n ≡ true → (n % size ≡ 0) × (n < 2 ^ 64)
unfolding multiple_of
number_aligned size n h = (eqb-true (n % size) 0 (second_true (is_word n) (n % size == 0) h), is_small n (first_true (is_word n) (n % size == 0) h))

kernel_of : (started : Bool) (m : Mode) → (started || not (is_user m)) ≡ true → started ≡ false → m ≡ Kernel
kernel_of true m h stopped = absurd cc
kernel_of false Kernel h stopped = refl
kernel_of false User h stopped = absurd cc

never_one : (n : ℕ) → (n + 1 == 0) ≡ true → ⊥
never_one n e = let same : n + 1 ≡ 0 = eqb-true (n + 1) 0 e in omega (arith, same)

pub no_place : (entry : Option ℕ) → (place_number entry == 0) ≡ true → entry ≡ None
no_place None e = refl
no_place (Some i) e = absurd (never_one i e)

-- what goes with a hart's mode
record Sided (started : Bool) (m : Mode) (entry : Option ℕ) : Type 0 where
  mode : (started || not (is_user m)) ≡ true
  place : ((started && not (is_user m)) || place_number entry == 0) ≡ true

sided : (started : Bool) (m : Mode) (entry : Option ℕ) → privilege.has (started, (m, entry)) ≡ true → Sided started m entry
unfolding privilege
sided started m entry h =
    let behind = second_true (flag.has started) _ h in
    let mode_part = first_true (mode.has m && (started || not (is_user m))) _ behind in
    let place_part = second_true (mode.has m && (started || not (is_user m))) _ behind in
    record {
      mode = second_true (mode.has m) _ mode_part;
      place = second_true (place.has entry) _ place_part;
    }

stopped_place : (started : Bool) (m : Mode) (entry : Option ℕ) → Sided started m entry → started ≡ false → entry ≡ None
stopped_place true m entry k stopped = absurd cc
stopped_place false m entry k stopped = no_place entry k.place

pub user_place : (started : Bool) (entry : Option ℕ) → ((started && false) || place_number entry == 0) ≡ true → entry ≡ None
user_place true entry e = no_place entry e
user_place false entry e = no_place entry e

pub some_binding : (x : Option Binding) → is_some x ≡ true → (entry : Binding) × (x ≡ Some entry)
some_binding None e = absurd cc
some_binding (Some entry) e = (entry, refl)

none_some : (entry : Option ℕ) (i : ℕ) → entry ≡ None → entry ≡ Some i → ⊥
none_some entry i s t = cc

entry_sound : (rules : Rules) (started : Bool) (m : Mode) (entry : Option ℕ) → Sided started m entry → is_bound rules entry ≡ true → IsSoundEntry rules m entry
entry_sound rules started m None k bound = tt
entry_sound rules started Kernel (Some i) k bound = some_binding (binding_at rules i) bound
entry_sound rules started User (Some i) k bound = none_some (Some i) i (user_place started (Some i) k.place) refl

first_zero : (regs : List ℕ) → begins_with_0 regs ≡ true → slice_get regs 0 ≡ Some 0
first_zero [] e = absurd cc
first_zero (n ∷ rest) e = ap (λ (k : ℕ). Some k) (eqb-true n 0 e)

place_of_reserved : (pages address : ℕ) → (nat_le ram_base address && nat_lt address (ram_base + page_size * pages)) ≡ true → (address % reserved_bytes == 0) ≡ true
    → (ram_offset address % reserved_bytes ≡ 0) × (ram_offset address < page_size * pages)
place_of_reserved pages address inside eight =
    let low : ram_base ≤ address = max_is ram_base address (first_true (nat_le ram_base address) _ inside) in
    let high : address < ram_base + page_size * pages = below_is address (ram_base + page_size * pages) (second_true (nat_le ram_base address) _ inside) in
    let whole : address % reserved_bytes ≡ 0 = eqb-true (address % reserved_bytes) 0 eight in
    (omega (arith, low, whole), omega (arith, low, high))

reserved_by : (pages : ℕ) (address : Option ℕ) → (reservation pages).has address ≡ true → IsReservable (page_size * pages) (option_map ram_offset address)
unfolding reservation
reserved_by pages None h = tt
reserved_by pages (Some address) h =
    let other = not-true (address == 0) (first_true (not (address == 0)) _ h) in
    let range = second_true (is_word address) (is_reservable pages address) (second_true (not (address == 0)) _ h) in
    let both = found_later (address == 0) (is_ram_address pages address && address % reserved_bytes == 0) range other in
    place_of_reserved pages address (first_true (is_ram_address pages address) _ both) (second_true (is_ram_address pages address) _ both)

-- ---- one hart

record IsResumedHart (rules : Rules) (size : ℕ) (hart : Hart) : Type 0 where
  sound : IsSoundHart rules hart
  kept : IsKeepableHart size hart

supervisor_legal : (h : SavedHart) → status.has (h.sstatus, (h.sie, (h.stvec, (h.scounteren, (h.sscratch, (h.sepc, (h.scause, (h.stval, (h.sip, h.satp))))))))) ≡ true
    → IsLegalSupervisor (resumed_hart h).supervisor × ((h.sip == 0 || h.sip == software_bit) ≡ true)
unfolding status trap_status
supervisor_legal h on =
    let sie_on = second_true ((legal legal_status).has h.sstatus) _ on in
    let stvec_on = second_true ((legal legal_interrupts).has h.sie) _ sie_on in
    let scounteren_on = second_true ((legal legal_tvec).has h.stvec) _ stvec_on in
    let sscratch_on = second_true ((legal legal_counteren).has h.scounteren) _ scounteren_on in
    let trap = second_true (is_word h.sscratch) _ sscratch_on in
    let scause_on = second_true ((legal legal_epc).has h.sepc) _ trap in
    let stval_on = second_true (is_word h.scause) _ scause_on in
    let sip_on = second_true (is_word h.stval) _ stval_on in
    let sip_part = first_true _ ((legal (legal_satp 0)).has h.satp) sip_on in (
      record {
        sstatus = number_legal legal_status h.sstatus (first_true ((legal legal_status).has h.sstatus) _ on);
        sie = number_legal legal_interrupts h.sie (first_true ((legal legal_interrupts).has h.sie) _ sie_on);
        stvec = number_legal legal_tvec h.stvec (first_true ((legal legal_tvec).has h.stvec) _ stvec_on);
        scounteren = number_legal legal_counteren h.scounteren (first_true ((legal legal_counteren).has h.scounteren) _ scounteren_on);
        sepc = number_legal legal_epc h.sepc (first_true ((legal legal_epc).has h.sepc) _ trap);
        satp = number_legal (legal_satp 0) h.satp (second_true _ ((legal (legal_satp 0)).has h.satp) sip_on);
      },
      second_true (is_word h.sip) _ sip_part,
    )

-- the supervisor's registers of a hart are legal, and of its pending interrupts the software interrupt alone is stored
pub supervisor_of : (pages : ℕ) (h : SavedHart) → (hart pages).has h ≡ true → IsLegalSupervisor (resumed_hart h).supervisor × ((h.sip == 0 || h.sip == software_bit) ≡ true)
unfolding hart
supervisor_of pages h has =
    let parts = second_true (begins_with_0 h.registers) _ has in
    let pc_on = second_true (privilege.has (h.started, (h.mode, h.entry))) _ parts in
    let registers_on = second_true ((multiple_of 4).has h.pc) _ pc_on in
    let status_on = second_true (registers.has (drop 1 h.registers)) _ registers_on in
    supervisor_legal h (first_true (status.has _) ((reservation pages).has h.reservation && is_word h.timer) status_on)

hart_resumes : (rules : Rules) (pages : ℕ) (h : SavedHart) → (hart pages).has h ≡ true → is_bound rules h.entry ≡ true → IsResumedHart rules (page_size * pages) (resumed_hart h)
unfolding hart
hart_resumes rules pages h has bound =
    let parts = second_true (begins_with_0 h.registers) _ has in
    let privileges = sided h.started h.mode h.entry (first_true (privilege.has (h.started, (h.mode, h.entry))) _ parts) in
    let pc_on = second_true (privilege.has (h.started, (h.mode, h.entry))) _ parts in
    let pc = number_aligned 4 h.pc (first_true ((multiple_of 4).has h.pc) _ pc_on) in
    let registers_on = second_true ((multiple_of 4).has h.pc) _ pc_on in
    let status_on = second_true (registers.has (drop 1 h.registers)) _ registers_on in
    let reserved_on = second_true (status.has _) ((reservation pages).has h.reservation && is_word h.timer) status_on in
    record {
      sound = record {
        aligned = pc.0;
        small = pc.1;
        legal = (supervisor_of pages h has).0;
        entry = entry_sound rules h.started h.mode h.entry privileges bound;
        stopped = λ off. record { mode = kernel_of h.started h.mode privileges.mode off; entry = stopped_place h.started h.mode h.entry privileges off };
      };
      kept = record {
        zero = first_zero h.registers (first_true (begins_with_0 h.registers) _ has);
        reservation = reserved_by pages h.reservation (first_true ((reservation pages).has h.reservation) (is_word h.timer) reserved_on);
      };
    }

-- ---- all harts

each_sound : (rules : Rules) (pages n : ℕ) (before hs : List SavedHart) (i : ℕ) (h : Hart) → has_all (λ before. hart pages) before n hs ≡ true
    → list_all (λ (x : SavedHart). is_bound rules x.entry) hs ≡ true → slice_get (map resumed_hart hs) i ≡ Some h → IsSoundHart rules h
unfolding has_all
each_sound rules pages n before [] i h has bound at = cc
each_sound rules pages zero before (x ∷ hs) i h has bound at = absurd cc
each_sound rules pages (suc n) before (x ∷ hs) zero h has bound at =
    subst (IsSoundHart rules) (same_Some (resumed_hart x) h at)
    (hart_resumes rules pages x (first_true ((hart pages).has x) _ has) (first_true (is_bound rules x.entry) _ bound)).sound
each_sound rules pages (suc n) before (x ∷ hs) (suc i) h has bound at =
    each_sound rules pages n (before ++ x ∷ []) hs i h (second_true ((hart pages).has x) _ has) (second_true (is_bound rules x.entry) _ bound) at

pub harts_sound : (rules : Rules) (pages : ℕ) (hs : List SavedHart) (i : ℕ) (h : Hart) → (harts pages (length hs)).has hs ≡ true
    → list_all (λ (x : SavedHart). is_bound rules x.entry) hs ≡ true → slice_get (map resumed_hart hs) i ≡ Some h → IsSoundHart rules h
unfolding harts
harts_sound rules pages hs i h has bound at = each_sound rules pages (length hs) [] hs i h has bound at

each_kept : (rules : Rules) (pages n : ℕ) (before hs : List SavedHart) → has_all (λ before. hart pages) before n hs ≡ true
    → list_all (λ (x : SavedHart). is_bound rules x.entry) hs ≡ true → AreKeepable (page_size * pages) (map resumed_hart hs)
unfolding has_all
each_kept rules pages n before [] has bound = tt
each_kept rules pages zero before (x ∷ hs) has bound = absurd cc
each_kept rules pages (suc n) before (x ∷ hs) has bound = (
  (hart_resumes rules pages x (first_true ((hart pages).has x) _ has) (first_true (is_bound rules x.entry) _ bound)).kept,
  each_kept rules pages n (before ++ x ∷ []) hs (second_true ((hart pages).has x) _ has) (second_true (is_bound rules x.entry) _ bound),
)

pub harts_kept : (rules : Rules) (pages : ℕ) (hs : List SavedHart) → (harts pages (length hs)).has hs ≡ true
    → list_all (λ (x : SavedHart). is_bound rules x.entry) hs ≡ true → AreKeepable (page_size * pages) (map resumed_hart hs)
unfolding harts
harts_kept rules pages hs has bound = each_kept rules pages (length hs) [] hs has bound

-- ---- the load under way

get_resumed : (hs : List SavedHart) (i : ℕ) (x : SavedHart) → slice_get hs i ≡ Some x → slice_get (map resumed_hart hs) i ≡ Some (resumed_hart x)
get_resumed [] i x e = cc
get_resumed (y ∷ hs) zero x e = ap (option_map resumed_hart) e
get_resumed (y ∷ hs) (suc i) x e = get_resumed hs i x e

record LoadsAt (hs : List SavedHart) (i : ℕ) : Type 0 where
  hart : SavedHart
  found : slice_get hs i ≡ Some hart
  started : hart.started ≡ true
  mode : hart.mode ≡ Kernel

kernel_is : (m : Mode) → not (is_user m) ≡ true → m ≡ Kernel
kernel_is Kernel e = refl
kernel_is User e = absurd cc

loads_by : (hs : List SavedHart) (i : ℕ) (x : Option SavedHart) → slice_get hs i ≡ x → may_load x ≡ true → LoadsAt hs i
loads_by hs i None at may = absurd cc
loads_by hs i (Some x) at may = record {
  hart = x;
  found = at;
  started = first_true x.started _ may;
  mode = kernel_is x.mode (second_true x.started _ may);
}

-- the ranges of a load
pub record LoadParts (hs : List SavedHart) (load : SavedLoad) : Type 0 where
  pub goes : MayGoOn (map resumed_hart hs) (resumed_load load)
  pub gpa : load.«module».gpa % page_size ≡ 0

pub load_parts_of : (hs : List SavedHart) (l : SavedLoad) → (load_under_way hs).has (Some l) ≡ true → LoadParts hs l
unfolding load_under_way load_after load module_within
load_parts_of hs l h =
    let there = second_true (flag.has true) _ h in
    let hart_part = first_true (is_word l.hart && may_load (slice_get hs l.hart)) _ there in
    let behind = second_true (is_word l.hart && may_load (slice_get hs l.hart)) _ there in
    let at = loads_by hs l.hart (slice_get hs l.hart) refl (second_true (is_word l.hart) _ hart_part) in
    let module_part = first_true _ (is_word l.left && nat_le l.left 1024) behind in
    let gpa_on = second_true (is_word l.«module».id && is_above None l.«module».id) _ module_part in
    let va_on = second_true ((multiple_of page_size).has l.«module».gpa) _ gpa_on in
    record {
      goes = record {
        hart = resumed_hart at.hart;
        found = get_resumed hs l.hart at.hart at.found;
        started = at.started;
        mode = at.mode;
        aligned = (number_aligned page_size l.«module».va (first_true ((multiple_of page_size).has l.«module».va) _ va_on)).0;
      };
      gpa = (number_aligned page_size l.«module».gpa (first_true ((multiple_of page_size).has l.«module».gpa) _ gpa_on)).0;
    }

pub load_kept : (hs : List SavedHart) (x : Option SavedLoad) → (load_under_way hs).has x ≡ true → IsKeepableLoad (map resumed_hart hs) (option_map resumed_load x)
load_kept hs None h = tt
load_kept hs (Some l) h = (load_parts_of hs l h).goes

-- ---- notes and the verdict

hart_there : (n h : ℕ) → (hart_number n).has h ≡ true → h < n
unfolding hart_number
hart_there n h e = below_is h n (second_true (is_word h) (nat_lt h n) e)

note_kept : (n : ℕ) (x : Note) → (note_form n).has x ≡ true → IsKeepableNote n x
unfolding note_form note_after demote_form load_note unload retire answer
note_kept n (Demote h turn pc gpa) e =
    let pc_on = second_true (is_word turn) _ (second_true ((hart_number n).has h) _ e) in
    (hart_there n h (first_true ((hart_number n).has h) _ e), (number_aligned 4 pc (first_true ((multiple_of 4).has pc) _ pc_on)).0)
note_kept n (Denied gpa) e = tt
note_kept n (Load h turn id code) e = hart_there n h (first_true ((hart_number n).has h) _ e)
note_kept n (Unload h turn id code) e = hart_there n h (first_true ((hart_number n).has h) _ e)
note_kept n (Retire h turn code) e = hart_there n h (first_true ((hart_number n).has h) _ e)

each_note : (n k : ℕ) (before ns : List Note) → has_all (λ before. note_form n) before k ns ≡ true → AreKeepableNotes n ns
unfolding has_all
each_note n k before [] h = tt
each_note n zero before (x ∷ ns) h = absurd cc
each_note n (suc k) before (x ∷ ns) h = (note_kept n x (first_true ((note_form n).has x) _ h), each_note n k (before ++ x ∷ []) ns (second_true ((note_form n).has x) _ h))

verdict_kept : (n : ℕ) (v : Verdict) → (verdict n).has v ≡ true → IsKeepableVerdict n v
unfolding verdict verdict_after stopped_entry stopped_write
verdict_kept n Running e = tt
verdict_kept n Shutdown e = tt
verdict_kept n (Stopped (Entry target) h turn) e = hart_there n h (first_true ((hart_number n).has h) _ (second_true (is_word target) _ e))
verdict_kept n (Stopped (Write pc gpa) h turn) e =
    let behind = second_true (is_word gpa) _ (second_true ((multiple_of 4).has pc) _ e) in
    (hart_there n h (first_true ((hart_number n).has h) _ behind), (number_aligned 4 pc (first_true ((multiple_of 4).has pc) _ e)).0)

pub journal_kept : (n all : ℕ) (ns : List Note) (v : Verdict) → (notes n all).has ns ≡ true → (verdict n).has v ≡ true → IsKeepableJournal n ns all v
unfolding notes
journal_kept n all ns v h e =
    let count = first_true (is_word (length ns) && length ns == min max_notes all) _ h in
    record {
      number = eqb-true (length ns) (min max_notes all) (second_true (is_word (length ns)) _ count);
      each = each_note n (length ns) [] ns (second_true (is_word (length ns) && length ns == min max_notes all) _ h);
      last = verdict_kept n v e;
    }

-- ---- the clock

index_after : (xs ys : List ℕ) (h : ℕ) → length xs ≤ h → slice_index (xs ++ ys) h ≡ slice_index ys (h - length xs)
index_after [] ys h past = let whole : h ≡ h - 0 = omega arith in ap (slice_index ys) whole
index_after (x ∷ xs) ys zero past = absurd (omega (arith, past))
index_after (x ∷ xs) ys (suc h) past =
    let same : h - length xs ≡ suc h - suc (length xs) = omega arith in
    index_after xs ys h (omega (arith, past)) ∙ ap (slice_index ys) same

pub clock_kept : (hs : List SavedHart) (time : ℕ) → length hs ≤ 4 → IsKeepableClock (length hs) (record { time = time; timers = timers_of hs })
clock_kept hs time few =
    let own = length-map hs (λ (h : SavedHart). h.timer) in
    let whole = length-append (map (λ (h : SavedHart). h.timer) hs) (replicate (4 - length hs) latest) in
    let rest = length-replicate (4 - length hs) latest in
    record {
      four = whole ∙ sum_four (length hs) _ _ own rest few;
      unset = λ h past below.
          index_after (map (λ (x : SavedHart). x.timer) hs) (replicate (4 - length hs) latest) h (omega (arith, own, past))
          ∙ never (4 - length hs) (h - length (map (λ (x : SavedHart). x.timer) hs)) (omega (arith, own, past, below, few));
    }
  where
    sum_four : (n a b : ℕ) → a ≡ n → b ≡ 4 - n → n ≤ 4 → a + b ≡ 4
    sum_four n a b s t few = omega (arith, s, t, few)
