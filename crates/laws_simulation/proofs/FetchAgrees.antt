-- A fetch of the hardware's is the reference machine's: in kernel mode it reads the approved bytes.
use Rattle.std.proofs.Common.{◌≡◌, ℕ, ◌+◌, ◌*◌, ◌%◌, ◌/◌, inl, inr, List, length, refl, sym, ◌∙◌, ap, subst, Bool, true, false, ◌&&◌, arith}
use Rattle.sv_types.proofs.InPages.{word_in_page}
use Rattle.std.specs.Prelude.{Option, Some, None, is_some, if◌then◌else◌, ◌==◌}
use Rattle.spec_processor.specs.Bytes.{word, ram_offset, page_of, place_in_page, in_ram, page_size}
use Rattle.spec_processor.specs.Hardware.{Attempted, with_region, raise, plain_exception, exit_of}
use Rattle.spec_processor.specs.Bits.{bit}
use Rattle.spec_processor.specs.HardwareAttempt.{after_fetch, after_word}
use Rattle.spec_processor.specs.HardwareMemory.{place_or_exception, fault_exception, implicit_read, translation_result}
use Rattle.spec_processor.specs.HypervisorRegisters.{HypervisorRegisters}
use Rattle.sv_types.specs.ApprovedPages.{approved_bytes}
use Rattle.spec_processor.specs.Regions.{host_word}
use Rattle.sv_types.specs.Views.{Sight, OfEntry, view_answer}
use Rattle.spec_processor.specs.GStage.{place_through}
use Rattle.spec_processor.specs.Translation.{Destination, At, PageFault, Unreadable, place, entry_in_ram}
use Rattle.spec_processor.specs.declared.cause.Cause.{Cause}
use Rattle.spec_processor.specs.declared.exit.ExitCause.{ExitCause}
use Rattle.spec_processor.specs.declared.translation.Fault.{Fault}
use Rattle.spec_processor.specs.declared.access.Access.TheVariants as Access
use Rattle.spec_processor.specs.declared.exit.Exit.{Exit}
use Rattle.spec_processor.specs.declared.mode.Mode.{Mode}
use Rattle.spec_processor.specs.declared.mode.Mode.TheVariants.{Kernel, User}
use Rattle.laws_processor.proofs.ByteLemmas.{word_in_page_bytes}
use Rattle.laws_processor.proofs.RegionLemmas.{word_in_ram}
use Rattle.laws_simulation.proofs.Everywhere.{Keeps, first_stage_keeps}
use Rattle.spec_reference.specs.States.{State, Hart, Binding, binding_at}
use Rattle.spec_reference.specs.Devices.{lines_at}
use Rattle.spec_reference.specs.Trapping.{exception}
use Rattle.spec_reference.specs.Requests.{settings_of}
use Rattle.spec_reference.specs.Turn.{NoWord, fetched_in, fetched_at, fetch, demote, act_on_fetch, carry_out_word, fetch_and_act}
use Rattle.spec_reference.specs.Turn.{place_of_pc, leads_into, noted_gpa, outside_entry, leave_entry, fetch_in_entry, bound_entry, turn}
use Rattle.spec_hardware.specs.Served.{seen_of, serve_exit, exit_answer, answer_in, entry_answer, plain_answer, exit_answered, fetch_answer, is_fetch_exit, exit_ram_gpa}
use Rattle.spec_hardware.specs.declared.exits.ExitAnswer.TheVariants.{Demotes, LeavesEntry}
use Rattle.laws_simulation.proofs.Plain.{serve_plain}
use Rattle.spec_hardware.specs.StandsFor.{Unseen, kernel_hedeleg}
use Rattle.spec_reference.specs.Soundness.{IsSound, IsSoundEntry}
use Rattle.laws_simulation.specs.Agree.{IsAt, Agrees, region_at, core_at}
use Rattle.laws_simulation.proofs.Excepts.{page_fault_agrees, leaves_by, exit_outside, bound_none}
use Rattle.laws_simulation.proofs.Under.{under, sight_by, sight_of_hart, translated_under, access_in_ram, fetches, fetches_permitted, moved}
use Rattle.laws_simulation.proofs.LoadsAgree.{gpa_back}

-- each word that may be fetched is carried out alike
abbrev pub WordsAgree : Unseen → State → ℕ → Hart → HypervisorRegisters → Type 0
WordsAgree o r h hart c =
    (w : ℕ) → Agrees o r h hart c (after_word (region_at o r) (core_at o c hart) (lines_at r.devices h) w) (carry_out_word r h hart w)

-- the exit of a fetch
abbrev pub fetch_exit : (pc htval htinst : ℕ) → Exit
fetch_exit pc htval htinst = record { cause = ExitCause.Exception Cause.GuestFetch; pc = pc; stval = pc; htval = htval; htinst = htinst }

abbrev fetch_served : State → ℕ → Hart → Mode → Exit → State
fetch_served r h hart mode exit = exit_answered r h hart (fetch_answer r.ram mode exit)

served_plain : (r : State) (h : ℕ) (hart : Hart) (htval htinst : ℕ) (mode : Mode) → hart.mode ≡ mode
    → serve_plain r h hart (fetch_exit hart.pc htval htinst) ≡ fetch_served r h hart mode (fetch_exit hart.pc htval htinst)
unfolding serve_plain plain_answer
served_plain r h hart htval htinst mode e = ap (λ (m : Mode). fetch_served r h hart m (fetch_exit hart.pc htval htinst)) e

served_in : (r : State) (h : ℕ) (hart : Hart) (htval htinst : ℕ) (mode : Mode) → hart.entry ≡ None → hart.mode ≡ mode
    → serve_exit r h hart (fetch_exit hart.pc htval htinst) ≡ fetch_served r h hart mode (fetch_exit hart.pc htval htinst)
served_in r h hart htval htinst mode none e = exit_outside r h hart (fetch_exit hart.pc htval htinst) none ∙ served_plain r h hart htval htinst mode e

implicit_in : (r : State) (h : ℕ) (hart : Hart) (htval : ℕ) (mode : Mode)
    → exception r h hart Cause.InstrAccess hart.pc ≡ fetch_served r h hart mode (fetch_exit hart.pc htval implicit_read)
unfolding exit_answered fetch_answer
implicit_in r h hart htval Kernel = refl
implicit_in r h hart htval User = refl

outside_in : (r : State) (h : ℕ) (hart : Hart) (gpa : ℕ) (mode : Mode) → gpa % page_size ≡ hart.pc % page_size → in_ram r.ram gpa 4 ≡ false
    → exception r h hart Cause.InstrAccess hart.pc ≡ fetch_served r h hart mode (fetch_exit hart.pc (gpa / 4) 0)
unfolding exit_answered fetch_answer
outside_in r h hart gpa Kernel same outside_entry = rw (gpa_back gpa hart.pc same, outside_entry) refl
outside_in r h hart gpa User same outside_entry = refl

stray_in : (r : State) (h : ℕ) (hart : Hart) (gpa : ℕ) → gpa % page_size ≡ hart.pc % page_size → in_ram r.ram gpa 4 ≡ true
    → demote r h hart gpa ≡ fetch_served r h hart Kernel (fetch_exit hart.pc (gpa / 4) 0)
unfolding exit_answered fetch_answer
stray_in r h hart gpa same inside = rw (gpa_back gpa hart.pc same, inside) refl

-- the word at a place in RAM, carried out
word_at : (o : Unseen) (r : State) (h : ℕ) (hart : Hart) (c : HypervisorRegisters) (gpa w : ℕ) → WordsAgree o r h hart c → w ≡ word r.ram (ram_offset gpa) 4
    → Agrees o r h hart c
    (after_word (region_at o r) (core_at o c hart) (lines_at r.devices h) (host_word (region_at o r) (length o.tables + ram_offset gpa) 4)) (carry_out_word r h hart w)
word_at o r h hart c gpa w words same =
    rw (word_in_ram (region_at o r) (ram_offset gpa) 4, same) (words (word r.ram (ram_offset gpa) 4))

abbrev pub guest_fetch_fault : Unseen → State → Hart → HypervisorRegisters → ℕ → Attempted
guest_fetch_fault o r hart c gpa = with_region (region_at o r) (raise (core_at o c hart) (fault_exception Access.Fetch hart.pc 0 (Fault.Guest gpa false)))

never_delegated : (entry : Option ℕ) → bit (kernel_hedeleg entry) 20 ≡ false
never_delegated None = refl
never_delegated (Some i) = refl

refused : (o : Unseen) (r : State) (h : ℕ) (hart : Hart) (c : HypervisorRegisters) (gpa : ℕ) (mode : Mode) (next : State) → hart.entry ≡ None → hart.mode ≡ mode
    → next ≡ fetch_served r h hart mode (fetch_exit hart.pc (gpa / 4) 0) → Agrees o r h hart c (guest_fetch_fault o r hart c gpa) next
refused o r h hart c gpa mode next none e served =
    leaves_by o r h hart c (fault_exception Access.Fetch hart.pc 0 (Fault.Guest gpa false)) next (never_delegated hart.entry)
    (served ∙ sym (served_in r h hart (gpa / 4) 0 mode none e))

-- the bytes of an approved page are those of RAM
abbrev pub TextAt : State → ℕ → Option (List ℕ) → Type 0
TextAt r gpa text = (bytes : List ℕ) → text ≡ Some bytes → word bytes (place_in_page gpa) 4 ≡ word r.ram (ram_offset gpa) 4

at_place : (o : Unseen) (r : State) (h : ℕ) (hart : Hart) (c : HypervisorRegisters) (gpa : ℕ) (mode : Mode) (inside : Bool) (text : Option (List ℕ))
    → IsAt o r h hart c → WordsAgree o r h hart c → hart.entry ≡ None → hart.mode ≡ mode → gpa % page_size ≡ hart.pc % page_size → in_ram r.ram gpa 4 ≡ inside → TextAt r gpa text
    → Agrees o r h hart c
    (after_fetch (region_at o r) (core_at o c hart) (lines_at r.devices h)
    (place_or_exception Access.Fetch hart.pc 0 (place_through gpa (if inside && fetches (sight_by mode None) (page_of gpa) (is_some text) then Some (length o.tables + ram_offset gpa) else None))))
    (act_on_fetch r h hart (if inside then fetched_in r.ram mode gpa text else NoWord Cause.InstrAccess))
unfolding after_fetch act_on_fetch fetched_in exit_answered fetch_answer
at_place o r h hart c gpa Kernel true (Some bytes) at words none e same inside kept = word_at o r h hart c gpa (word bytes (place_in_page gpa) 4) words (kept bytes refl)
at_place o r h hart c gpa Kernel true None at words none e same inside kept =
    refused o r h hart c gpa Kernel (demote r h hart gpa) none e (stray_in r h hart gpa same inside)
at_place o r h hart c gpa User true (Some bytes) at words none e same inside kept =
    refused o r h hart c gpa User (exception r h hart Cause.InstrAccess hart.pc) none e refl
at_place o r h hart c gpa User true None at words none e same inside kept = word_at o r h hart c gpa (word r.ram (ram_offset gpa) 4) words refl
at_place o r h hart c gpa mode false text at words none e same inside kept =
    refused o r h hart c gpa mode (exception r h hart Cause.InstrAccess hart.pc) none e (outside_in r h hart gpa mode same inside)

-- ---- the approved bytes

whole_place : (p : ℕ) → page_size * (p / page_size) + p % page_size ≡ p
whole_place p = omega arith

text_at : (r : State) (gpa : ℕ) → IsSound r → ram_offset gpa % 4 ≡ 0 → TextAt r gpa (approved_bytes r.approved (page_of gpa))
text_at r gpa sound aligned bytes e =
    ap (λ (xs : List ℕ). word xs (place_in_page gpa) 4) (sym (sound.text.same (page_of gpa) bytes e))
    ∙ word_in_page_bytes r.ram (page_of gpa) (place_in_page gpa) 4 (word_in_page (ram_offset gpa) aligned)
    ∙ ap (λ (p : ℕ). word r.ram p 4) (whole_place (ram_offset gpa))

-- ---- outside of an entry, by where the pc leads

fetch_at : (o : Unseen) (r : State) (h : ℕ) (hart : Hart) (c : HypervisorRegisters) (d : Destination)
    → IsAt o r h hart c → WordsAgree o r h hart c → hart.entry ≡ None → hart.pc % 4 ≡ 0 → Keeps hart.pc d
    → Agrees o r h hart c
    (after_fetch (region_at o r) (core_at o c hart) (lines_at r.devices h) (place_or_exception Access.Fetch hart.pc 0 (under o r (sight_by hart.mode None) Access.Fetch d)))
    (act_on_fetch r h hart (fetched_at r.ram r.approved hart.mode d))
unfolding fetched_at view_answer after_fetch act_on_fetch
fetch_at o r h hart c (At gpa) at words none aligned fits =
    rw (fetches_permitted (sight_by hart.mode None) r (page_of gpa), sym (access_in_ram r gpa hart.pc 4 at.sound (inr (inr (inl refl))) fits aligned))
    (at_place o r h hart c gpa hart.mode (in_ram r.ram gpa 4) (approved_bytes r.approved (page_of gpa)) at words none refl fits refl
    (text_at r gpa at.sound (moved 4 gpa hart.pc (inr (inr (inl refl))) fits aligned)))
fetch_at o r h hart c PageFault at words none aligned fits = page_fault_agrees o r h hart c hart.pc at none
fetch_at o r h hart c (Unreadable entry) at words none aligned fits =
    leaves_by o r h hart c (fault_exception Access.Fetch hart.pc 0 (Fault.Guest entry true)) (exception r h hart Cause.InstrAccess hart.pc) (never_delegated hart.entry)
    (implicit_in r h hart (entry / 4) hart.mode ∙ sym (served_in r h hart (entry / 4) implicit_read hart.mode none refl))

-- ---- in an entry

-- what a hart that has left its entry does in the same turn is the turn of the state that it leaves
abbrev pub TurnsAgain : State → ℕ → Hart → Type 0
TurnsAgain r h hart = fetch_and_act (leave_entry r h hart) h (outside_entry hart) ≡ turn (leave_entry r h hart) h

-- what is done where the pc leads elsewhere
abbrev pub turned_away : State → ℕ → Hart → Binding → ℕ → State
turned_away r h hart entry gpa =
    if hart.pc == entry.va then demote r h hart gpa else fetch_and_act (leave_entry r h hart) h (outside_entry hart)

away_answered : (r : State) (h : ℕ) (hart : Hart) (gpa : ℕ) (exit : Exit) (there : Bool) → TurnsAgain r h hart → gpa ≡ exit_ram_gpa r.ram exit
    → (if there then demote r h hart gpa else fetch_and_act (leave_entry r h hart) h (outside_entry hart))
    ≡ exit_answered r h hart (if there then Demotes (exit_ram_gpa r.ram exit) else LeavesEntry)
unfolding exit_answered
away_answered r h hart gpa exit true again noted = ap (demote r h hart) noted
away_answered r h hart gpa exit false again noted = again

entry_by : (r : State) (h : ℕ) (hart : Hart) (entry : Binding) (exit : Exit) (x : Option Binding) → x ≡ Some entry → is_fetch_exit exit ≡ true
    → exit_answered r h hart (answer_in (seen_of r hart exit) exit x)
    ≡ exit_answered r h hart (if hart.pc == entry.va then Demotes (exit_ram_gpa r.ram exit) else LeavesEntry)
unfolding answer_in entry_answer
entry_by r h hart entry exit x bound is = rw (bound, is) refl

away_served : (r : State) (h : ℕ) (hart : Hart) (entry : Binding) (exit : Exit) (gpa : ℕ) → bound_entry r.rules hart.entry ≡ Some entry → TurnsAgain r h hart
    → is_fetch_exit exit ≡ true → gpa ≡ exit_ram_gpa r.ram exit → turned_away r h hart entry gpa ≡ serve_exit r h hart exit
unfolding serve_exit exit_answer
away_served r h hart entry exit gpa bound again is noted =
    away_answered r h hart gpa exit (hart.pc == entry.va) again noted ∙ sym (entry_by r h hart entry exit (bound_entry r.rules hart.entry) bound is)

noted_by : (r : State) (pc gpa : ℕ) (inside : Bool) → gpa % page_size ≡ pc % page_size → in_ram r.ram gpa 4 ≡ inside
    → (if inside then gpa else 0) ≡ exit_ram_gpa r.ram (fetch_exit pc (gpa / 4) 0)
unfolding exit_ram_gpa
noted_by r pc gpa inside same is = rw (gpa_back gpa pc same, is) refl

noted_none : (r : State) (pc htval : ℕ) → 0 ≡ exit_ram_gpa r.ram (fetch_exit pc htval implicit_read)
unfolding exit_ram_gpa
noted_none r pc htval = refl

noted_fault : (r : State) (pc : ℕ) → 0 ≡ exit_ram_gpa r.ram (exit_of (plain_exception Cause.InstrPage pc) pc)
unfolding exit_ram_gpa
noted_fault r pc = refl

bound_away : (o : Unseen) (r : State) (h : ℕ) (hart : Hart) (c : HypervisorRegisters) (entry : Binding) (gpa : ℕ) (inside : Bool)
    → bound_entry r.rules hart.entry ≡ Some entry → TurnsAgain r h hart → gpa % page_size ≡ hart.pc % page_size → in_ram r.ram gpa 4 ≡ inside
    → Agrees o r h hart c (guest_fetch_fault o r hart c gpa) (turned_away r h hart entry (if inside then gpa else 0))
bound_away o r h hart c entry gpa inside bound again same is =
    leaves_by o r h hart c (fault_exception Access.Fetch hart.pc 0 (Fault.Guest gpa false)) (turned_away r h hart entry (if inside then gpa else 0)) (never_delegated hart.entry)
    (away_served r h hart entry (fetch_exit hart.pc (gpa / 4) 0) (if inside then gpa else 0) bound again refl (noted_by r hart.pc gpa inside same is))

-- whether the page is in RAM, approved, and the entry's
bound_place : (o : Unseen) (r : State) (h : ℕ) (hart : Hart) (c : HypervisorRegisters) (entry : Binding) (gpa : ℕ) (inside : Bool) (text : Option (List ℕ)) (its : Bool)
    → IsAt o r h hart c → WordsAgree o r h hart c → bound_entry r.rules hart.entry ≡ Some entry → TurnsAgain r h hart
    → gpa % page_size ≡ hart.pc % page_size → in_ram r.ram gpa 4 ≡ inside → TextAt r gpa text
    → Agrees o r h hart c
    (after_fetch (region_at o r) (core_at o c hart) (lines_at r.devices h)
    (place_or_exception Access.Fetch hart.pc 0 (place_through gpa (if inside && is_some text && its then Some (length o.tables + ram_offset gpa) else None))))
    (if inside && is_some text && its
    then act_on_fetch r h hart (if inside then fetched_in r.ram Kernel gpa text else NoWord Cause.InstrAccess)
    else turned_away r h hart entry (if inside then gpa else 0))
unfolding after_fetch act_on_fetch fetched_in
bound_place o r h hart c entry gpa true (Some bytes) true at words bound again same inside kept =
    word_at o r h hart c gpa (word bytes (place_in_page gpa) 4) words (kept bytes refl)
bound_place o r h hart c entry gpa true (Some bytes) false at words bound again same inside kept =
    bound_away o r h hart c entry gpa true bound again same inside
bound_place o r h hart c entry gpa true None its at words bound again same inside kept = bound_away o r h hart c entry gpa true bound again same inside
bound_place o r h hart c entry gpa false text its at words bound again same inside kept = bound_away o r h hart c entry gpa false bound again same inside

and_groups : (a b c : Bool) → (a && (b && c)) ≡ (a && b && c)
and_groups true b c = refl
and_groups false b c = refl

-- by where the pc leads
bound_at : (o : Unseen) (r : State) (h : ℕ) (hart : Hart) (c : HypervisorRegisters) (entry : Binding) (i : ℕ) (d : Destination)
    → IsAt o r h hart c → WordsAgree o r h hart c → hart.entry ≡ Some i → bound_entry r.rules hart.entry ≡ Some entry → TurnsAgain r h hart
    → hart.pc % 4 ≡ 0 → Keeps hart.pc d
    → Agrees o r h hart c
    (after_fetch (region_at o r) (core_at o c hart) (lines_at r.devices h)
    (place_or_exception Access.Fetch hart.pc 0 (under o r (OfEntry (page_of entry.gpa)) Access.Fetch d)))
    (if leads_into r (page_of entry.gpa) d then act_on_fetch r h hart (fetched_at r.ram r.approved Kernel d) else turned_away r h hart entry (noted_gpa r.ram d))
unfolding fetched_at view_answer after_fetch leads_into noted_gpa
bound_at o r h hart c entry i (At gpa) at words in_entry bound again aligned fits =
    rw (
      fetches_permitted (OfEntry (page_of entry.gpa)) r (page_of gpa),
      sym (access_in_ram r gpa hart.pc 4 at.sound (inr (inr (inl refl))) fits aligned),
      and_groups (in_ram r.ram gpa 4) (is_some (approved_bytes r.approved (page_of gpa))) (page_of gpa == page_of entry.gpa),
    )
    (bound_place o r h hart c entry gpa (in_ram r.ram gpa 4) (approved_bytes r.approved (page_of gpa)) (page_of gpa == page_of entry.gpa) at words bound again fits refl
    (text_at r gpa at.sound (moved 4 gpa hart.pc (inr (inr (inl refl))) fits aligned)))
bound_at o r h hart c entry i PageFault at words in_entry bound again aligned fits =
    leaves_by o r h hart c (plain_exception Cause.InstrPage hart.pc) (turned_away r h hart entry 0) (rw in_entry refl)
    (away_served r h hart entry (exit_of (plain_exception Cause.InstrPage hart.pc) hart.pc) 0 bound again refl (noted_fault r hart.pc))
bound_at o r h hart c entry i (Unreadable at_entry) at words in_entry bound again aligned fits =
    leaves_by o r h hart c (fault_exception Access.Fetch hart.pc 0 (Fault.Guest at_entry true)) (turned_away r h hart entry 0) (never_delegated hart.entry)
    (away_served r h hart entry (fetch_exit hart.pc (at_entry / 4) implicit_read) 0 bound again refl (noted_none r hart.pc (at_entry / 4)))

-- ---- in either

bound_some : (r : State) (hart : Hart) (i : ℕ) (entry : Binding) → hart.entry ≡ Some i → binding_at r.rules i ≡ Some entry → bound_entry r.rules hart.entry ≡ Some entry
unfolding bound_entry
bound_some r hart i entry is bound = rw is bound

outside_agrees : (o : Unseen) (r : State) (h : ℕ) (hart : Hart) (c : HypervisorRegisters) → IsAt o r h hart c → WordsAgree o r h hart c
    → hart.entry ≡ None → hart.pc % 4 ≡ 0
    → Agrees o r h hart c
    (after_fetch (region_at o r) (core_at o c hart) (lines_at r.devices h)
    (place_or_exception Access.Fetch hart.pc 0 (under o r (sight_by hart.mode None) Access.Fetch (place_of_pc r hart))))
    (fetch_in_entry r h hart None)
unfolding fetch fetch_in_entry place
outside_agrees o r h hart c at words none aligned =
    fetch_at o r h hart c (place_of_pc r hart) at words none aligned (first_stage_keeps (entry_in_ram r.ram) (settings_of hart.supervisor) hart.mode hart.pc Access.Fetch)

inside_agrees : (o : Unseen) (r : State) (h : ℕ) (hart : Hart) (c : HypervisorRegisters) (entry : Binding) (i : ℕ) → IsAt o r h hart c → WordsAgree o r h hart c
    → hart.entry ≡ Some i → bound_entry r.rules hart.entry ≡ Some entry → TurnsAgain r h hart → hart.mode ≡ Kernel → hart.pc % 4 ≡ 0
    → Agrees o r h hart c
    (after_fetch (region_at o r) (core_at o c hart) (lines_at r.devices h)
    (place_or_exception Access.Fetch hart.pc 0 (under o r (OfEntry (page_of entry.gpa)) Access.Fetch (place_of_pc r hart))))
    (fetch_in_entry r h hart (Some entry))
unfolding fetch fetch_in_entry place
inside_agrees o r h hart c entry i at words in_entry bound again kernel aligned =
    subst (λ (m : Mode). Agrees o r h hart c
    (after_fetch (region_at o r) (core_at o c hart) (lines_at r.devices h)
    (place_or_exception Access.Fetch hart.pc 0 (under o r (OfEntry (page_of entry.gpa)) Access.Fetch (place_of_pc r hart))))
    (if leads_into r (page_of entry.gpa) (place_of_pc r hart) then act_on_fetch r h hart (fetched_at r.ram r.approved m (place_of_pc r hart)) else
    turned_away r h hart entry (noted_gpa r.ram (place_of_pc r hart)))) (sym kernel)
    (bound_at o r h hart c entry i (place_of_pc r hart) at words in_entry bound again aligned
    (first_stage_keeps (entry_in_ram r.ram) (settings_of hart.supervisor) hart.mode hart.pc Access.Fetch))

pub fetch_agrees : (o : Unseen) (r : State) (h : ℕ) (hart : Hart) (c : HypervisorRegisters) (mode : Mode) (x : Option ℕ) → IsAt o r h hart c → WordsAgree o r h hart c
    → hart.pc % 4 ≡ 0 → TurnsAgain r h hart → hart.mode ≡ mode → hart.entry ≡ x → IsSoundEntry r.rules mode x
    → Agrees o r h hart c
    (after_fetch (region_at o r) (core_at o c hart) (lines_at r.devices h) (translation_result (region_at o r) (core_at o c hart) Access.Fetch hart.pc 0))
    (fetch_in_entry r h hart (bound_entry r.rules hart.entry))
fetch_agrees o r h hart c mode None at words aligned again e none sound =
    rw (translated_under o r h hart c Access.Fetch hart.pc 0 at, bound_none r hart none)
    (outside_agrees o r h hart c at words none aligned)
fetch_agrees o r h hart c Kernel (Some i) at words aligned again e in_entry sound =
    let bound : bound_entry r.rules hart.entry ≡ Some sound.0 = bound_some r hart i sound.0 in_entry sound.1 in
    let sight : sight_of_hart r hart ≡ OfEntry (page_of sound.0.gpa) =
    ap (sight_by hart.mode) bound ∙ ap (λ (m : Mode). sight_by m (Some sound.0)) e in
    rw (translated_under o r h hart c Access.Fetch hart.pc 0 at)
    (subst (λ (x : Sight). Agrees o r h hart c
    (after_fetch (region_at o r) (core_at o c hart) (lines_at r.devices h) (place_or_exception Access.Fetch hart.pc 0 (under o r x Access.Fetch (place_of_pc r hart))))
    (fetch_in_entry r h hart (bound_entry r.rules hart.entry))) (sym sight)
    (rw bound (inside_agrees o r h hart c sound.0 i at words in_entry bound again e aligned)))
fetch_agrees o r h hart c User (Some i) at words aligned again e in_entry sound = absurd sound
