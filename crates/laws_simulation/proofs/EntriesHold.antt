-- After an entry from user mode: the hart's next turn demotes it, or reads the word that the entry is bound to.
use Rattle.std.proofs.Common.{◌≡◌, ℕ, zero, suc, ◌-◌, ◌/◌, ◌%◌, ◌^◌, ◌≤◌, ◌⊎◌, inl, inr, List, [], ◌∷◌, ◌++◌, length, refl, sym, ◌∙◌, ap}
use Rattle.std.proofs.Common.{subst, Bool, true, false, ◌&&◌, ◌||◌, arith, bit_and, slice_get}
use Rattle.std.specs.Prelude.{Option, Some, None, if◌then◌else◌, is_some, not, ◌==◌, IsTrue}
use Rattle.std.proofs.lemmas.Bool.{eqb-true, eq-eqb}
use Rattle.std.proofs.lemmas.Bool.Decides.{nat_tests}
use Rattle.std.proofs.lemmas.Nat.{and_shr, and_mod}
use Rattle.sv_types.specs.ApprovedPages.{approved_bytes}
use Rattle.spec_processor.specs.Bits.{bit, with_bits}
use Rattle.spec_processor.specs.Bytes.{word, in_ram, ram_base, ram_offset, page_of, place_in_page, page_size}
use Rattle.sv_types.specs.Policies.{Rules, rules_within, bound_fits, all_bound}
use Rattle.spec_processor.specs.Translation.{Destination, At, PageFault, Unreadable, place, entry_in_ram}
use Rattle.spec_processor.specs.Traps.{trap_target, deliverable, status_at_trap, supervisor_at_trap, first_interrupt, is_pending}
use Rattle.spec_processor.specs.declared.cause.Cause.{Cause}
use Rattle.sv_types.specs.declared.event.Event.{Event}
use Rattle.sv_types.specs.declared.event.Event.TheVariants.{Turn, Beat, Key, Tick, Poke}
use Rattle.sv_types.specs.declared.event.Verdict.{Verdict}
use Rattle.sv_types.specs.declared.event.Verdict.TheVariants.{Running, Shutdown, Stopped}
use Rattle.spec_processor.specs.declared.access.Access.TheVariants as Access
use Rattle.spec_processor.specs.declared.mode.Mode.{Mode}
use Rattle.spec_processor.specs.declared.mode.Mode.TheVariants.{Kernel, User}
use Rattle.spec_reference.specs.Counting.{count, count_turn, count_beat}
use Rattle.spec_reference.specs.Devices.{lines_at, may_move_to, beat, poke, key, tick, with_disk, with_bytes, after_move, hart_after_write}
use Rattle.spec_reference.specs.Attacker.{poke_move}
use Rattle.spec_reference.specs.Disk.{DmaStep, disk_beat}
use Rattle.spec_reference.specs.Move.{Move, Idle, FromRam, IntoRam, DeniedAt, OutsideRam}
use Rattle.spec_reference.specs.Requests.{settings_of}
use Rattle.spec_reference.specs.Run.{run, step, happen, happen_under}
use Rattle.spec_reference.specs.Soundness.{IsSound}
use Rattle.spec_reference.specs.States.{State, Hart, Binding, binding_of, binding_at, place_of_entry, has_number, is_protected}
use Rattle.spec_reference.specs.Trapping.{trap_from, hart_at_trap}
use Rattle.spec_reference.specs.Turn.{NoWord, demote, carry_out_word, place_of_pc, leads_into, noted_gpa, fetched_in, fetched_at, fetch}
use Rattle.spec_reference.specs.Turn.{act_on_fetch, fetch_and_act, leave_entry, outside_entry, fetch_in_entry, bound_entry, act_on_pending}
use Rattle.spec_reference.specs.Turn.{act, turn}
use Rattle.laws_simulation.specs.Agree.{IsNotLoading}
use Rattle.laws_simulation.proofs.AttemptsAgree.{turn_is, get_back}
use Rattle.laws_simulation.proofs.Everywhere.{Keeps, first_stage_keeps}
use Rattle.laws_simulation.specs.EntryLaws.{IsAtEntry, Demotes, ReadsBound, DemotesOrReads, AtEntryLaw, IsNoTurnOf, AreNoTurnsOf, StandsAtEntry, EntryLaw}
use Rattle.laws_simulation.proofs.OthersRest.{IsWaiting, get_after, turn_rests}
use Rattle.laws_simulation.proofs.Sounds.{Goes}
use Rattle.laws_simulation.proofs.StepsSound.{run_goes}
use Rattle.sv_types.proofs.PolicyLimits.{first_bound, bound_rules}
use Rattle.laws_processor.proofs.Decoding.{mask_none}

-- ---- what a policy says of a bound entry

fits_at : (n : ℕ) (before entries bound : List ℕ) (i : ℕ) (entry : Binding) → all_bound n before entries bound ≡ true
    → binding_of (slice_get entries i) (slice_get bound i) ≡ Some entry → bound_fits n entry.va entry.gpa ≡ true
fits_at n before [] bound i entry within e = absurd (cc)
fits_at n before (va ∷ entries) [] i entry within e = absurd (cc)
fits_at n before (va ∷ entries) (gpa ∷ bound) zero entry within e =
    let same : record { va = va; gpa = gpa } ≡ entry = cc in
    subst (λ (b : Binding). bound_fits n b.va b.gpa ≡ true) same
    (first_bound n before va gpa entries bound within).0
fits_at n before (va ∷ entries) (gpa ∷ bound) (suc i) entry within e =
    fits_at n (before ++ va ∷ []) entries bound i entry
    (first_bound n before va gpa entries bound within).1 e

-- the place of a permitted entry, which is bound
pub record Placed (entries bound : List ℕ) (va : ℕ) : Type 0 where
  place : ℕ
  gpa : ℕ
  is : place_of_entry entries bound va ≡ Some place
  bound_to : binding_of (slice_get entries place) (slice_get bound place) ≡ Some (record { va = va; gpa = gpa })

placed_by : (first gpa : ℕ) (entries bound : List ℕ) (va : ℕ) (b : Bool) → (first == va) ≡ b → (b || has_number entries va) ≡ true
    → (has_number entries va ≡ true → Placed entries bound va) → Placed (first ∷ entries) (gpa ∷ bound) va
unfolding place_of_entry
placed_by first gpa entries bound va true same there rest =
    let e : first ≡ va = eqb-true first va same in
    record { place = 0; gpa = gpa; is = rw same refl; bound_to = rw e refl }
placed_by first gpa entries bound va false other there rest =
    let k = rest there in record { place = suc k.place; gpa = k.gpa; is = rw (other, k.is) refl; bound_to = k.bound_to }

placed : (n : ℕ) (before entries bound : List ℕ) (va : ℕ) → all_bound n before entries bound ≡ true → has_number entries va ≡ true → Placed entries bound va
placed n before [] bound va within there = absurd (cc)
placed n before (first ∷ entries) [] va within there = absurd (cc)
placed n before (first ∷ entries) (gpa ∷ bound) va within there =
    placed_by first gpa entries bound va (first == va) refl there
    (placed n (before ++ first ∷ []) entries bound va
    (first_bound n before first gpa entries bound within).1)

bound_none : (bound : List ℕ) (va : Option ℕ) (i : ℕ) (entry : Binding) → (length bound == 0) ≡ true → binding_of va (slice_get bound i) ≡ Some entry → ⊥
bound_none [] None i entry none e = cc
bound_none [] (Some va) i entry none e = cc
bound_none (gpa ∷ bound) va i entry none e = let k = eqb-true (length (gpa ∷ bound)) 0 none in cc

by_format : (rules : Rules) (i : ℕ) (entry : Binding) (b : Bool) → (if b then length rules.bound == 0 else all_bound rules.ram_pages [] rules.entries rules.bound) ≡ true
    → binding_of (slice_get rules.entries i) (slice_get rules.bound i) ≡ Some entry → bound_fits rules.ram_pages entry.va entry.gpa ≡ true
by_format rules i entry true within e = absurd (bound_none rules.bound (slice_get rules.entries i) i entry within e)
by_format rules i entry false within e = fits_at rules.ram_pages [] rules.entries rules.bound i entry within e

-- it is in RAM, and at its entry's place in its page
bound_is_right : (rules : Rules) (i : ℕ) (entry : Binding) → IsTrue (rules_within rules) → binding_at rules i ≡ Some entry → bound_fits rules.ram_pages entry.va entry.gpa ≡ true
unfolding binding_at
bound_is_right rules i entry within e = by_format rules i entry (rules.format == 1) (bound_rules rules within) e

fits_base : (n va gpa : ℕ) → bound_fits n va gpa ≡ true → ram_base ≤ gpa
fits_base n va gpa e = grind (arith, nat_tests)

fits_low : (n va gpa : ℕ) → bound_fits n va gpa ≡ true → gpa % page_size ≡ va % page_size
fits_low n va gpa e = grind (arith, nat_tests)

-- ---- the turn of a hart at its entry's address

same_address : (a b : ℕ) → ram_base ≤ a → ram_base ≤ b → page_of a ≡ page_of b → a % page_size ≡ b % page_size → a ≡ b
same_address a b base other page low = grind arith

inside_base : (ram : List ℕ) (gpa : ℕ) → in_ram ram gpa 4 ≡ true → ram_base ≤ gpa
inside_base ram gpa e = grind (arith, nat_tests)

abbrev demotes_or : State → ℕ → Hart → Binding → ℕ → State → State
demotes_or q h hart entry gpa away = if hart.pc == entry.va then demote q h hart gpa else away

demoted_there : (q : State) (h : ℕ) (hart : Hart) (entry : Binding) (gpa : ℕ) (away : State) → hart.pc ≡ entry.va → Demotes q h hart (demotes_or q h hart entry gpa away)
demoted_there q h hart entry gpa away there =
    record { gpa = gpa; same = ap (λ (b : Bool). if b then demote q h hart gpa else away) (eq-eqb hart.pc entry.va there) }

abbrev OneOf : State → ℕ → Hart → Binding → State → Type 0
OneOf q h hart entry next = Demotes q h hart next ⊎ ReadsBound q h hart entry next

read_there : (q : State) (h : ℕ) (hart : Hart) (entry : Binding) (gpa : ℕ) (bytes : List ℕ) → gpa ≡ entry.gpa → place_of_pc q hart ≡ At gpa
    → approved_bytes q.approved (page_of gpa) ≡ Some bytes → ReadsBound q h hart entry (carry_out_word q h hart (word bytes (place_in_page gpa) 4))
read_there q h hart entry gpa bytes same place approved = record {
  bytes = bytes;
  place = place ∙ ap At same;
  approved = subst (λ (a : ℕ). approved_bytes q.approved (page_of a) ≡ Some bytes) same approved;
  same = ap (λ (a : ℕ). carry_out_word q h hart (word bytes (place_in_page a) 4)) same;
}

at_gpa : (q : State) (h : ℕ) (hart : Hart) (entry : Binding) (away : State) (gpa : ℕ) (inside : Bool) (text : Option (List ℕ)) (its : Bool)
    → hart.pc ≡ entry.va → place_of_pc q hart ≡ At gpa → approved_bytes q.approved (page_of gpa) ≡ text → (inside ≡ true → its ≡ true → gpa ≡ entry.gpa)
    → OneOf q h hart entry
    (if inside && is_some text && its
    then act_on_fetch q h hart (if inside then fetched_in q.ram Kernel gpa text else NoWord Cause.InstrAccess)
    else demotes_or q h hart entry (if inside then gpa else 0) away)
unfolding act_on_fetch fetched_in
at_gpa q h hart entry away gpa true (Some bytes) true there place approved same = inr (read_there q h hart entry gpa bytes (same refl refl) place approved)
at_gpa q h hart entry away gpa true (Some bytes) false there place approved same = inl (demoted_there q h hart entry gpa away there)
at_gpa q h hart entry away gpa true None its there place approved same = inl (demoted_there q h hart entry gpa away there)
at_gpa q h hart entry away gpa false text its there place approved same = inl (demoted_there q h hart entry 0 away there)

at_destination : (q : State) (h : ℕ) (hart : Hart) (entry : Binding) (away : State) (d : Destination) → hart.pc ≡ entry.va → place_of_pc q hart ≡ d → Keeps hart.pc d
    → ram_base ≤ entry.gpa → entry.gpa % page_size ≡ entry.va % page_size
    → OneOf q h hart entry
    (if leads_into q (page_of entry.gpa) d then act_on_fetch q h hart (fetched_at q.ram q.approved Kernel d) else demotes_or q h hart entry (noted_gpa q.ram d) away)
unfolding leads_into noted_gpa fetched_at
at_destination q h hart entry away PageFault there place keeps base low = inl (demoted_there q h hart entry 0 away there)
at_destination q h hart entry away (Unreadable at) there place keeps base low = inl (demoted_there q h hart entry 0 away there)
at_destination q h hart entry away (At gpa) there place keeps base low =
    at_gpa q h hart entry away gpa (in_ram q.ram gpa 4) (approved_bytes q.approved (page_of gpa)) (page_of gpa == page_of entry.gpa) there place refl
    (λ inside its. same_address gpa entry.gpa (inside_base q.ram gpa inside) base (eqb-true (page_of gpa) (page_of entry.gpa) its)
    (keeps ∙ ap (λ (n : ℕ). n % page_size) there ∙ sym low))

acts : (q : State) (h : ℕ) (hart : Hart) (entry : Binding) → IsAtEntry q h hart entry → deliverable hart.mode hart.supervisor (lines_at q.devices h) ≡ None
    → act q h hart ≡ fetch_in_entry q h hart (Some entry)
unfolding act act_on_pending bound_entry
acts q h hart entry at quiet =
    ap (act_on_pending q h hart) quiet ∙ ap (fetch_in_entry q h hart) (ap (bound_entry q.rules) at.in_entry ∙ at.bound)

pub turn_at_entry : (q : State) (h : ℕ) (hart : Hart) (entry : Binding) → IsSound q → IsAtEntry q h hart entry → deliverable hart.mode hart.supervisor (lines_at q.devices h) ≡ None
    → OneOf q h hart entry (turn q h)
unfolding fetch_in_entry fetch place
turn_at_entry q h hart entry s at quiet =
    let right = bound_is_right q.rules at.place entry s.within at.bound in
    let d : Destination = place_of_pc q hart in
    subst (OneOf q h hart entry) (sym (turn_is q h hart at.found at.started at.free ∙ acts q h hart entry at quiet))
    (subst (λ (m : Mode). OneOf q h hart entry
    (if leads_into q (page_of entry.gpa) d then act_on_fetch q h hart (fetched_at q.ram q.approved m d)
    else demotes_or q h hart entry (noted_gpa q.ram d) (fetch_and_act (leave_entry q h hart) h (outside_entry hart)))) (sym at.mode)
    (at_destination q h hart entry (fetch_and_act (leave_entry q h hart) h (outside_entry hart)) d at.there refl
    (first_stage_keeps (entry_in_ram q.ram) (settings_of hart.supervisor) hart.mode hart.pc Access.Fetch)
    (fits_base q.rules.ram_pages entry.va entry.gpa right) (fits_low q.rules.ram_pages entry.va entry.gpa right)))

-- ---- with the count of turns

counted_sound : (r : State) → IsSound r → IsSound (count r count_turn)
counted_sound r s = record {
  within = s.within;
  words = s.words;
  number = s.number;
  harts = s.harts;
  size = s.size;
  text = s.text;
  ascends = s.ascends;
  modules = s.modules;
  load = s.load;
  pages = s.pages;
  disk = s.disk;
}

counted_at : (r : State) (h : ℕ) (hart : Hart) (entry : Binding) → IsAtEntry r h hart entry → IsAtEntry (count r count_turn) h hart entry
counted_at r h hart entry at = record {
  found = at.found;
  started = at.started;
  mode = at.mode;
  place = at.place;
  in_entry = at.in_entry;
  bound = at.bound;
  there = at.there;
  free = at.free;
}

-- where the run goes on, an event happens
pub runs_on : (r : State) (e : Event) → r.journal.verdict ≡ Running → step r e ≡ happen r e
unfolding step happen_under
runs_on r e on = ap (λ (v : Verdict). happen_under v r e) on

pub running : (r : State) (h : ℕ) → r.journal.verdict ≡ Running → step r (Turn h) ≡ turn (count r count_turn) h
unfolding happen
running r h on = runs_on r (Turn h) on

step_at_entry : (r : State) (h : ℕ) (hart : Hart) (entry : Binding) → IsSound r → IsAtEntry r h hart entry → r.journal.verdict ≡ Running
    → deliverable hart.mode hart.supervisor (lines_at r.devices h) ≡ None → DemotesOrReads r h hart entry
step_at_entry r h hart entry s at on quiet =
    subst (OneOf (count r count_turn) h hart entry) (sym (running r h on))
    (turn_at_entry (count r count_turn) h hart entry (counted_sound r s) (counted_at r h hart entry at) quiet)

pub at_entry_law : AtEntryLaw
at_entry_law r h hart entry sound at on quiet = step_at_entry r h hart entry sound at on quiet

-- ---- until the next turn

still_waits : (k : ℕ) (at : Hart) (r next : State) → next.harts ≡ r.harts → next.loading ≡ r.loading → IsWaiting k at r → IsWaiting k at next
still_waits k at r next harts loading w = record {
  hart = w.hart;
  found = ap (λ (l : List Hart). slice_get l k) harts ∙ w.found;
  looks = w.looks;
  free = subst (IsNotLoading k) (sym loading) w.free;
}

move_waits : (k : ℕ) (at : Hart) (r : State) (x : Move) → IsWaiting k at r → IsWaiting k at (after_move r x)
unfolding after_move with_bytes
move_waits k at r Idle w = w
move_waits k at r (FromRam gpa) w = w
move_waits k at r (IntoRam gpa bytes) w = record {
  hart = hart_after_write (ram_offset gpa) (length bytes) w.hart;
  found = get_after (hart_after_write (ram_offset gpa) (length bytes)) r.harts k w.hart w.found;
  looks = record { started = w.looks.started; mode = w.looks.mode; pc = w.looks.pc; entry = w.looks.entry; status = w.looks.status };
  free = w.free;
}
move_waits k at r (DeniedAt gpa) w = still_waits k at r _ refl refl w
move_waits k at r OutsideRam w = w

beat_waits : (k : ℕ) (at : Hart) (r : State) → IsWaiting k at r → IsWaiting k at (beat r)
unfolding beat
beat_waits k at r w =
    let b : DmaStep = disk_beat r.devices.disk r.ram (λ page. not (is_protected r page)) in
    move_waits k at (with_disk r b.disk) b.move (still_waits k at r (with_disk r b.disk) refl refl w)

poke_waits : (k : ℕ) (at : Hart) (r : State) (gpa value : ℕ) → IsWaiting k at r → IsWaiting k at (poke r gpa value)
unfolding poke
poke_waits k at r gpa value w = move_waits k at r (poke_move r.ram (λ page. may_move_to r page) gpa value) w

happen_waits : (k : ℕ) (at : Hart) (r : State) (e : Event) → IsNoTurnOf k e → IsWaiting k at r → IsWaiting k at (happen r e)
unfolding happen key tick
happen_waits k at r (Turn h) other w =
    turn_rests (record { watched = k; mover = h; at = at; other = other }) (count r count_turn) (still_waits k at r (count r count_turn) refl refl w)
happen_waits k at r Beat other w = beat_waits k at (count r count_beat) (still_waits k at r (count r count_beat) refl refl w)
happen_waits k at r (Key byte) other w = still_waits k at r _ refl refl w
happen_waits k at r (Tick n) other w = still_waits k at r _ refl refl w
happen_waits k at r (Poke gpa value) other w = poke_waits k at (count r count_beat) gpa value (still_waits k at r (count r count_beat) refl refl w)

under_waits : (k : ℕ) (at : Hart) (v : Verdict) (r : State) (e : Event) → IsNoTurnOf k e → IsWaiting k at r → IsWaiting k at (happen_under v r e)
unfolding happen_under
under_waits k at Running r e other w = happen_waits k at r e other w
under_waits k at Shutdown r e other w = w
under_waits k at (Stopped rule hart turns) r e other w = w

run_waits : (k : ℕ) (at : Hart) (r : State) (events : List Event) → AreNoTurnsOf k events → IsWaiting k at r → IsWaiting k at (run r events)
unfolding step
run_waits k at r [] others w = w
run_waits k at r (e ∷ events) others w = run_waits k at (step r e) events others.1 (under_waits k at r.journal.verdict r e others.0 w)

-- ---- the entry

-- a bit that a mask doesn't have
bit_of_and : (a b : ℕ) → bit_and a b / 2 ^ 1 % 2 ^ 1 ≡ bit_and (a / 2 ^ 1 % 2 ^ 1) (b / 2 ^ 1 % 2 ^ 1)
bit_of_and a b = ap (λ (n : ℕ). n % 2 ^ 1) (and_shr a b 1) ∙ and_mod (a / 2 ^ 1) (b / 2 ^ 1) 1

masked_twice : (status : ℕ) → bit (bit_and (bit_and status (2 ^ 64 - 1 - 2 ^ 1)) (2 ^ 64 - 1 - 2 ^ 8)) 1 ≡ false
masked_twice status =
    let first : bit_and status (2 ^ 64 - 1 - 2 ^ 1) / 2 ^ 1 % 2 ^ 1 ≡ 0 = bit_of_and status (2 ^ 64 - 1 - 2 ^ 1) ∙ mask_none (status / 2 ^ 1 % 2 ^ 1) in
    ap (λ (n : ℕ). n == 1) (bit_of_and (bit_and status (2 ^ 64 - 1 - 2 ^ 1)) (2 ^ 64 - 1 - 2 ^ 8) ∙ ap (λ (n : ℕ). bit_and n 1) first)

status_masked : (status : ℕ) → bit (status_at_trap status User) 1 ≡ false
unfolding status_at_trap
status_masked status = masked_twice (with_bits status (2 ^ 5) (bit status 1))

-- so no interrupt is delivered
none_delivered : (mode : Mode) (r : State) (h : ℕ) (hart : Hart) → mode ≡ Kernel → bit hart.supervisor.sstatus 1 ≡ false → deliverable mode hart.supervisor (lines_at r.devices h) ≡ None
unfolding deliverable
none_delivered Kernel r h hart e masked = ap (λ (b : Bool). if b then first_interrupt (is_pending hart.supervisor (lines_at r.devices h)) else None) masked
none_delivered User r h hart e masked = absurd (cc)

abbrev hart_in_handler : Rules → Hart → Bool → ℕ → ℕ → Hart
hart_in_handler rules hart interrupt cause tval = hart_at_trap rules hart User interrupt cause tval

enters_at : (r : State) (h : ℕ) (hart : Hart) (interrupt : Bool) (cause tval : ℕ) (b : Bool) → has_number r.rules.entries (trap_target hart.supervisor.stvec interrupt cause) ≡ b → b ≡ true
    → slice_get r.harts h ≡ Some hart → hart.started ≡ true → IsNotLoading h r.loading
    → IsWaiting h (hart_in_handler r.rules hart interrupt cause tval) (trap_from r h hart User interrupt cause tval)
unfolding trap_from hart_at_trap
enters_at r h hart interrupt cause tval false permitted on found started free = absurd (cc)
enters_at r h hart interrupt cause tval true permitted on found started free =
    rw permitted (record {
      hart = hart_in_handler r.rules hart interrupt cause tval;
      found = get_back r.harts h hart (hart_in_handler r.rules hart interrupt cause tval) found;
      looks = record { started = started; mode = refl; pc = refl; entry = refl; status = refl };
      free = free;
    })

entered_is : (rules : Rules) (hart : Hart) (interrupt : Bool) (cause tval : ℕ) →
    ((hart_in_handler rules hart interrupt cause tval).mode ≡ Kernel)
    × (((hart_in_handler rules hart interrupt cause tval).pc ≡ trap_target hart.supervisor.stvec interrupt cause)
    × (((hart_in_handler rules hart interrupt cause tval).entry ≡ place_of_entry rules.entries rules.bound (trap_target hart.supervisor.stvec interrupt cause))
    × (bit (hart_in_handler rules hart interrupt cause tval).supervisor.sstatus 1 ≡ false)))
unfolding hart_at_trap supervisor_at_trap
entered_is rules hart interrupt cause tval = (refl, (refl, (refl, status_masked hart.supervisor.sstatus)))

two_binds : (rules : Rules) → IsTrue (rules_within rules) → rules.format ≡ 2 → all_bound rules.ram_pages [] rules.entries rules.bound ≡ true
two_binds rules within two =
    sym (ap (λ (n : ℕ). if n == 1 then length rules.bound == 0 else all_bound rules.ram_pages [] rules.entries rules.bound) two) ∙ bound_rules rules within

binding_is : (rules : Rules) (i : ℕ) (x : Option Binding) → binding_of (slice_get rules.entries i) (slice_get rules.bound i) ≡ x → binding_at rules i ≡ x
unfolding binding_at
binding_is rules i x e = e

-- what waits at its entry stands there
stands : (q : State) (h : ℕ) (was : Rules) (hart : Hart) (interrupt : Bool) (cause tval : ℕ) → IsSound q → q.rules ≡ was → q.rules.format ≡ 2
    → has_number q.rules.entries (trap_target hart.supervisor.stvec interrupt cause) ≡ true
    → IsWaiting h (hart_in_handler was hart interrupt cause tval) q → StandsAtEntry q h (trap_target hart.supervisor.stvec interrupt cause)
stands q h was hart interrupt cause tval s rules two permitted w =
    let target : ℕ = trap_target hart.supervisor.stvec interrupt cause in
    let k = placed q.rules.ram_pages [] q.rules.entries q.rules.bound target (two_binds q.rules s.within two) permitted in
    let is = entered_is was hart interrupt cause tval in
    let entry : Binding = record { va = target; gpa = k.gpa } in
    let mode : w.hart.mode ≡ Kernel = w.looks.mode ∙ is.0 in
    let masked : bit w.hart.supervisor.sstatus 1 ≡ false = ap (λ (n : ℕ). bit n 1) w.looks.status ∙ is.1.1.1 in
    let at : IsAtEntry q h w.hart entry = record {
      found = w.found;
      started = w.looks.started;
      mode = mode;
      place = k.place;
      in_entry = w.looks.entry ∙ is.1.1.0 ∙ ap (λ (x : Rules). place_of_entry x.entries x.bound target) (sym rules) ∙ k.is;
      bound = binding_is q.rules k.place (Some entry) k.bound_to;
      there = w.looks.pc ∙ is.1.0;
      free = w.free;
    } in
    record {
      hart = w.hart;
      entry = entry;
      its = refl;
      at = at;
      masked = masked;
      next = λ on. step_at_entry q h w.hart entry s at on (none_delivered w.hart.mode q h w.hart mode masked);
    }

pub entry_law : EntryLaw
entry_law r between h sound two enters others =
    let q : State = run (step r (Turn h)) between in
    let goes : Goes r q = run_goes r (Turn h ∷ between) sound in
    let entered_now : IsWaiting h (hart_in_handler r.rules enters.hart enters.interrupt enters.cause enters.tval) (step r (Turn h)) =
    subst (IsWaiting h (hart_in_handler r.rules enters.hart enters.interrupt enters.cause enters.tval)) (sym enters.same)
    (enters_at (count r count_turn) h enters.hart enters.interrupt enters.cause enters.tval true enters.permitted refl enters.found enters.started enters.free) in
    stands q h r.rules enters.hart enters.interrupt enters.cause enters.tval goes.sound goes.text.rules (ap (λ (x : Rules). x.format) goes.text.rules ∙ two)
    (subst (λ (x : Rules). has_number x.entries (trap_target enters.hart.supervisor.stvec enters.interrupt enters.cause) ≡ true) (sym goes.text.rules) enters.permitted)
    (run_waits h (hart_in_handler r.rules enters.hart enters.interrupt enters.cause enters.tval) (step r (Turn h)) between others entered_now)
