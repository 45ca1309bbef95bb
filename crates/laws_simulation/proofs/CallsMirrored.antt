-- Calls: SecVisor's answers go with the reference machine's, by what an answer does.
use Rattle.laws_simulation.proofs.HwOfSlots.{hw_harts_update}
use Rattle.laws_simulation.proofs.Stays.{length_set}
use Rattle.std.proofs.Common.{◌≡◌, ℕ, zero, suc, ◌+◌, ◌≤◌, List, [], ◌∷◌, length, map, refl, sym, ◌∙◌, ap, subst, Bool, true, false, not, slice_get, slice_set}
use Rattle.std.specs.Prelude.{Some, None, if◌then◌else◌, IsTrue}
use Rattle.spec_processor.specs.HypervisorRegisters.{HypervisorRegisters, registers_at_boot}
use Rattle.laws_simulation.specs.Agree.{IsAt}
use Rattle.spec_reference.specs.Answers.{with_reply, devices_side_effect, journal_side_effect, harts_side_effect, state_after_answer, call}
use Rattle.spec_reference.specs.Calls.{Facts, asked_by, facts_of, mask_names, interrupt_harts, with_software, hart_at, started_hart, extension_of}
use Rattle.spec_reference.specs.ModuleCalls.{answer_of}
use Rattle.spec_reference.specs.declared.answers.Answer.{Answer}
use Rattle.spec_reference.specs.declared.answers.SideEffect.{SideEffect}
use Rattle.spec_reference.specs.declared.answers.SideEffect.TheVariants.{SetsTimer, Prints, SendsInterrupts, StartsHart}
use Rattle.spec_reference.specs.declared.answers.Reply.{Reply}
use Rattle.spec_reference.specs.declared.answers.Reply.TheVariants.{Gives, Replies, Stays, Stops}
use Rattle.spec_hardware.specs.HardwareEvent.{Others, Nobody, Starts, Interrupts, MayChange, others_changed, interrupted_hw_harts, software_set, is_stopped}
use Rattle.spec_hardware.specs.HwHarts.{hw_with, hw_answered, hw_stayed, hw_stopped, hw_started}
use Rattle.spec_hardware.specs.HwCalls.{hw_replied, hw_harts_side_effect, hw_pages_side_effect, hw_given, served_call}
use Rattle.spec_hardware.specs.Machine.{HwHart, update}
use Rattle.spec_reference.specs.States.{State, Hart, Devices, Journal}
use Rattle.spec_hardware.specs.StandsFor.{Unseen, machine_of, hw_hart, hw_harts, without_printed}
use Rattle.laws_simulation.proofs.HartsMirrored.{hw_in, printed_mirrors, prints_low}
use Rattle.laws_simulation.proofs.Mirrored.{Mirrors, Adds, Changed, hw_harts_in, framed, prints_none}
use Rattle.laws_simulation.proofs.ModulesMirrored.{facts_same, paged}
use Rattle.laws_simulation.proofs.AnswersMay.{MayHaveSideEffect, answer_may}
use Rattle.laws_simulation.proofs.CallsSound.{harts_number}
use Rattle.spec_hardware.proofs.Privileges.{same_mode}

-- ---- an answer, by what becomes of the hart and by what happens besides

mirror_replied : (t : ℕ) (c : HypervisorRegisters) (reply : Reply) (hart : Hart) → hw_replied reply (hw_hart t c hart) ≡ hw_hart t c (with_reply reply hart)
unfolding hw_replied with_reply hw_with hw_answered hw_stayed hw_stopped
mirror_replied t c (Gives a0) hart = refl
mirror_replied t c (Replies a0 a1) hart = refl
mirror_replied t c Stays hart = refl
mirror_replied t c Stops hart = rw (same_mode hart.mode hart.entry) refl

replied_counteren : (reply : Reply) (hart : Hart) → hart.supervisor.scounteren ≡ (with_reply reply hart).supervisor.scounteren
unfolding with_reply
replied_counteren (Gives a0) hart = refl
replied_counteren (Replies a0 a1) hart = refl
replied_counteren Stays hart = refl
replied_counteren Stops hart = refl

time_stays : (b : SideEffect) (h : ℕ) (d : Devices) → (devices_side_effect b h d).clock.time ≡ d.clock.time
unfolding devices_side_effect
time_stays (SetsTimer at) h d = refl
time_stays _ h d = refl

journals_side_effect : (cleared : ℕ) (b : SideEffect) (h : ℕ) (j : Journal) → cleared ≤ length j.printed
    → journal_side_effect b h (without_printed cleared j) ≡ without_printed cleared (journal_side_effect b h j)
unfolding journal_side_effect
journals_side_effect cleared (Prints byte) h j small = printed_mirrors cleared byte j small
journals_side_effect cleared _ h j small = refl

adds_beside : (b : SideEffect) (h : ℕ) (j : Journal) → Adds j.printed (journal_side_effect b h j).printed
unfolding journal_side_effect
adds_beside (Prints byte) h j = prints_low byte j
adds_beside _ h j = prints_none j.printed

-- ---- other harts

interrupts_by : (t : ℕ) (c : HypervisorRegisters) (b : Bool) (hart : Hart)
    → (if b then software_set (hw_hart t c hart) else hw_hart t c hart) ≡ hw_hart t c (if b then with_software hart else hart)
interrupts_by t c true hart = refl
interrupts_by t c false hart = refl

hw_harts_interrupted : (t : ℕ) (named : ℕ → Bool) (first : ℕ) (exits : List HypervisorRegisters) (harts : List Hart)
    → interrupted_hw_harts named first (hw_harts t exits harts) ≡ hw_harts t exits (interrupt_harts named first harts)
unfolding hw_harts interrupted_hw_harts interrupt_harts
hw_harts_interrupted t named first [] harts = refl
hw_harts_interrupted t named first (c ∷ exits) [] = refl
hw_harts_interrupted t named first (c ∷ exits) (x ∷ harts) =
    rw (interrupts_by t c (named first) x) (ap (◌∷◌ (hw_hart t c (if named first then with_software x else x))) (hw_harts_interrupted t named (first + 1) exits harts))

-- a hart that begins, whatever it was
mirror_started : (t h pc opaque : ℕ) (hw : HwHart) → hw_started h pc opaque hw ≡ hw_hart t registers_at_boot (started_hart h pc opaque)
unfolding hw_started hart_at registers_at_boot
mirror_started t h pc opaque hw = refl

update_to : (harts : List HwHart) (i : ℕ) (change : HwHart → HwHart) (y : HwHart) → ((x : HwHart) → change x ≡ y) → update harts i change ≡ slice_set harts i y
unfolding update
update_to [] i change y e = refl
update_to (x ∷ harts) zero change y e = rw (e x) refl
update_to (x ∷ harts) (suc i) change y e = ap (◌∷◌ x) (update_to harts i change y e)

hw_harts_reset : (t : ℕ) (exits : List HypervisorRegisters) (harts : List Hart) (i : ℕ) (c : HypervisorRegisters) (next : Hart)
    → slice_set (hw_harts t exits harts) i (hw_hart t c next) ≡ hw_harts t (slice_set exits i c) (slice_set harts i next)
unfolding hw_harts
hw_harts_reset t [] harts i c next = refl
hw_harts_reset t (d ∷ exits) [] zero c next = refl
hw_harts_reset t (d ∷ exits) [] (suc i) c next = refl
hw_harts_reset t (d ∷ exits) (x ∷ harts) zero c next = refl
hw_harts_reset t (d ∷ exits) (x ∷ harts) (suc i) c next = ap (◌∷◌ (hw_hart t d x)) (hw_harts_reset t exits harts i c next)

pub none_hw : (t : ℕ) (exits : List HypervisorRegisters) (harts : List Hart) (i : ℕ) → length exits ≡ length harts → slice_get harts i ≡ None → slice_get (hw_harts t exits harts) i ≡ None
unfolding hw_harts
none_hw t [] harts i size e = refl
none_hw t (c ∷ exits) [] i size e = refl
none_hw t (c ∷ exits) (x ∷ harts) zero size e = absurd (cc)
none_hw t (c ∷ exits) (x ∷ harts) (suc i) size e = none_hw t exits harts i (cc) e

abbrev exits_beside : SideEffect → List HypervisorRegisters → List HypervisorRegisters
exits_beside (StartsHart other pc opaque) exits = slice_set exits other registers_at_boot
exits_beside _ exits = exits

abbrev others_beside : ℕ → SideEffect → Others
others_beside t (SendsInterrupts mask base) = Interrupts mask base
others_beside t (StartsHart other pc opaque) = Starts other (hw_hart t registers_at_boot (started_hart other pc opaque))
others_beside t _ = Nobody

started_to : (t other pc opaque : ℕ) (hw_all : List HwHart) → update hw_all other (hw_started other pc opaque) ≡ slice_set hw_all other (hw_hart t registers_at_boot (started_hart other pc opaque))
started_to t other pc opaque hw_all =
    update_to hw_all other (hw_started other pc opaque) (hw_hart t registers_at_boot (started_hart other pc opaque)) (mirror_started t other pc opaque)

mirror_beside : (t : ℕ) (b : SideEffect) (exits : List HypervisorRegisters) (harts : List Hart)
    → hw_harts_side_effect b (hw_harts t exits harts) ≡ hw_harts t (exits_beside b exits) (harts_side_effect b harts)
unfolding hw_harts_side_effect harts_side_effect
mirror_beside t (SendsInterrupts mask base) exits harts = hw_harts_interrupted t (mask_names mask base) 0 exits harts
mirror_beside t (StartsHart other pc opaque) exits harts =
    started_to t other pc opaque (hw_harts t exits harts) ∙ hw_harts_reset t exits harts other registers_at_boot (started_hart other pc opaque)
mirror_beside t _ exits harts = refl

frame_beside : (t : ℕ) (b : SideEffect) (hw_all : List HwHart) → hw_harts_side_effect b hw_all ≡ others_changed (others_beside t b) hw_all
unfolding hw_harts_side_effect others_changed
frame_beside t (StartsHart other pc opaque) hw_all = started_to t other pc opaque hw_all
frame_beside t (SendsInterrupts mask base) hw_all = refl
frame_beside t _ hw_all = refl

exits_number : (b : SideEffect) (exits : List HypervisorRegisters) → length (exits_beside b exits) ≡ length exits
exits_number (StartsHart other pc opaque) exits = length_set exits other registers_at_boot
exits_number _ exits = refl

stopped_hw : (t : ℕ) (exits : List HypervisorRegisters) (harts : List Hart) (i : ℕ) → length exits ≡ length harts
    → slice_get (map (λ (hart : Hart). hart.started) harts) i ≡ Some false → IsTrue (is_stopped (slice_get (hw_harts t exits harts) i))
unfolding hw_harts
stopped_hw t exits [] i size e = absurd (cc)
stopped_hw t [] (x ∷ harts) i size e = absurd (cc)
stopped_hw t (c ∷ exits) (x ∷ harts) zero size e = let off : x.started ≡ false = cc in subst (λ (b : Bool). IsTrue (not b)) (sym off) refl
stopped_hw t (c ∷ exits) (x ∷ harts) (suc i) size e = stopped_hw t exits harts i (cc) e

may_beside : (o : Unseen) (r : State) (b : SideEffect) → length o.exits ≡ length r.harts → MayHaveSideEffect r b → MayChange (hw_harts_in o r) (others_beside (length o.tables) b)
may_beside o r (StartsHart other pc opaque) size may = stopped_hw (length o.tables) o.exits r.harts other size may.0
may_beside o r (SendsInterrupts mask base) size may = _
may_beside o r _ size may = _

-- ---- all answers

changed : (o : Unseen) (r : State) (h : ℕ) (hart : Hart) (c : HypervisorRegisters) (a : Answer) → IsAt o r h hart c → MayHaveSideEffect r a.side_effect → Changed o r h
changed o r h hart c a at may =
    let t : ℕ = length o.tables in
    let next : Hart = with_reply a.reply hart in
    let change : HwHart → HwHart = hw_replied a.reply in
    let same : change (hw_hart t c hart) ≡ hw_hart t c next = mirror_replied t c a.reply hart in
    record {
      exits = exits_beside a.side_effect o.exits;
      hw_all = hw_harts_side_effect a.side_effect (update (hw_harts_in o r) h change);
      hw = hw_in o c next;
      others = others_beside t a.side_effect;
      harts = harts_side_effect a.side_effect (slice_set r.harts h next);
      devices = devices_side_effect a.side_effect h r.devices;
      journal = journal_side_effect a.side_effect h r.journal;
      same = ap (hw_harts_side_effect a.side_effect) (hw_harts_update t o.exits r.harts h c hart next change at.exits at.found same) ∙ mirror_beside t a.side_effect o.exits (slice_set r.harts h next);
      frame = ap (hw_harts_side_effect a.side_effect) (framed o r h hart next c change at same (replied_counteren a.reply hart)) ∙ frame_beside t a.side_effect _;
      may = may_beside o r a.side_effect at.right.exits may;
      size = exits_number a.side_effect o.exits ∙ at.right.exits ∙ sym (length_set r.harts h next) ∙ sym (harts_number a.side_effect (slice_set r.harts h next));
      time = time_stays a.side_effect h r.devices;
      adds = adds_beside a.side_effect h r.journal;
    }

pub given_mirrors : (o : Unseen) (r : State) (h : ℕ) (hart : Hart) (c : HypervisorRegisters) (a : Answer) → IsAt o r h hart c → MayHaveSideEffect r a.side_effect
    → Mirrors o r h (hw_given (machine_of o r) h a) (state_after_answer r h hart a)
unfolding machine_of hw_given state_after_answer changed
given_mirrors o r h hart c a at may =
    subst (λ (j : Journal). Mirrors o r h (record (hw_pages_side_effect a.side_effect h (machine_of o r)) {
      harts = hw_harts_side_effect a.side_effect (update (hw_harts_in o r) h (hw_replied a.reply));
      devices = devices_side_effect a.side_effect h r.devices;
      journal = j;
    }) (state_after_answer r h hart a))
    (sym (journals_side_effect o.cleared a.side_effect h r.journal at.right.cleared))
    (paged o r h a.side_effect (changed o r h hart c a at may) at.right at.sound may)

pub call_mirrors : (o : Unseen) (r : State) (h : ℕ) (hart : Hart) (c : HypervisorRegisters) → IsAt o r h hart c
    → Mirrors o r h (served_call (machine_of o r) h (hw_in o c hart)) (call r h hart)
call_mirrors o r h hart c at =
    subst (λ (f : Facts). Mirrors o r h (hw_given (machine_of o r) h (answer_of f (asked_by hart.registers))) (call r h hart))
    (sym (facts_same o r at.sound at.right.exits))
    (given_mirrors o r h hart c (answer_of (facts_of r) (asked_by hart.registers)) at (answer_may r (asked_by hart.registers) (extension_of (asked_by hart.registers).extension)))
