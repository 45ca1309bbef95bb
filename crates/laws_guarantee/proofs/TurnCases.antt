-- How a turn begins, by cases and back: an interrupt, a fetch that gives no word, a demotion, or a word that is carried out.
use Rattle.std.proofs.Common.{◌≡◌, ℕ, ◌+◌, List, refl, sym, ◌∙◌, ap, subst, Bool, true, false, slice_get}
use Rattle.std.specs.Prelude.{Option, Some, None, if◌then◌else◌, is_some, ◌==◌}
use Rattle.std.proofs.lemmas.Bool.{eqb-true}
use Rattle.std.proofs.lemmas.Option.{none-some}
use Rattle.sv_types.specs.ApprovedPages.{ApprovedPage, approved_bytes}
use Rattle.spec_processor.specs.Bytes.{word, in_ram, ram_offset, page_of, instruction_size}
use Rattle.spec_processor.specs.Causes.{cause_number}
use Rattle.spec_processor.specs.Translation.{Destination, At, PageFault, Unreadable}
use Rattle.spec_processor.specs.Traps.{trap_target, deliverable, interrupt_number}
use Rattle.spec_processor.specs.declared.cause.Cause.{Cause}
use Rattle.spec_processor.specs.declared.interrupt.Interrupt.{Interrupt}
use Rattle.spec_processor.specs.declared.mode.Mode.{Mode}
use Rattle.spec_processor.specs.declared.mode.Mode.TheVariants.{User}
use Rattle.sv_types.specs.declared.event.Event.TheVariants.{Turn}
use Rattle.sv_types.specs.declared.event.Rule.{Rule}
use Rattle.sv_types.specs.declared.event.Rule.TheVariants.{Entry, Write}
use Rattle.sv_types.specs.declared.event.Verdict.TheVariants.{Stopped}
use Rattle.spec_reference.specs.Counting.{count, count_turn, stopped_by}
use Rattle.spec_reference.specs.Devices.{lines_at}
use Rattle.spec_reference.specs.Run.{step}
use Rattle.spec_reference.specs.Soundness.{IsSound}
use Rattle.spec_reference.specs.States.{State, Hart, Binding, has_number, is_protected}
use Rattle.spec_reference.specs.Trapping.{trap_from}
use Rattle.spec_reference.specs.Turn.{going_hart, after_going, Fetched, NoWord, Stray, Word, fetched_in, fetched_at, fetch, fetch_of}
use Rattle.spec_reference.specs.Turn.{place_of_pc, leads_into, noted_gpa, fetch_in_entry, bound_entry, demote, act_on_fetch, act_on_pending}
use Rattle.spec_reference.specs.Turn.{act, carry_out_word}
use Rattle.laws_simulation.proofs.AttemptsAgree.{turn_is}
use Rattle.laws_simulation.proofs.EntriesHold.{running}
use Rattle.laws_guarantee.specs.UserTraps.{UserTrap, user_trap, pending_trap, fetch_trap}
use Rattle.laws_guarantee.specs.Guarantee.{Goes, Fetches, HasTurn, IsFreeWord, UserTurn, Interrupted, Faults, Carries, UserTurnsLaw, WritesGuarded, CarriesOut, StopsBy}
use Rattle.laws_guarantee.proofs.Does.{demote_left, no_entry_of}
use Rattle.laws_guarantee.proofs.ReachedHolds.{user_unloading}
use Rattle.laws_guarantee.proofs.UserTrapsHold.{fetched_traps}

-- ---- what an attempt may be

pub data Attempts (q : State) (h : ℕ) (hart : Hart) (next : State) : Type 0 where
  ByInterrupt : (interrupt : Interrupt) → (pending : deliverable hart.mode hart.supervisor (lines_at q.devices h) ≡ Some interrupt)
      → (same : next ≡ trap_from q h hart hart.mode true (interrupt_number interrupt) 0) → Attempts q h hart next
  ByFault : (left : Bool) → (cause : Cause) → (at : Fetches q h hart left) → (fetched : fetch_of q hart ≡ NoWord cause)
      → (same : next ≡ trap_from (after_going left q h hart) h (going_hart left hart) hart.mode false (cause_number cause) hart.pc) → Attempts q h hart next
  ByStray : (left : Bool) → (gpa : ℕ) → (at : Fetches q h hart left) → (fetched : fetch_of q hart ≡ Stray gpa) → (same : next ≡ demote q h hart gpa)
      → Attempts q h hart next
  ByPlace : (entry : Binding) → (quiet : deliverable hart.mode hart.supervisor (lines_at q.devices h) ≡ None) → (bound : bound_entry q.rules hart.entry ≡ Some entry)
      → (away : leads_into q (page_of entry.gpa) (place_of_pc q hart) ≡ false) → (there : hart.pc ≡ entry.va)
      → (same : next ≡ demote q h hart (noted_gpa q.ram (place_of_pc q hart))) → Attempts q h hart next
  ByWord : (left : Bool) → (w : ℕ) → (at : Fetches q h hart left) → (fetched : fetch_of q hart ≡ Word w)
      → (same : next ≡ carry_out_word (after_going left q h hart) h (going_hart left hart) w) → Attempts q h hart next

fault_at_pc : (q : State) (h : ℕ) (hart : Hart) (left : Bool) (cause : Cause)
    → act_on_fetch (after_going left q h hart) h (going_hart left hart) (NoWord cause)
    ≡ trap_from (after_going left q h hart) h (going_hart left hart) hart.mode false (cause_number cause) hart.pc
unfolding act_on_fetch
fault_at_pc q h hart true cause = refl
fault_at_pc q h hart false cause = refl

stray_at : (q : State) (h : ℕ) (hart : Hart) (left : Bool) (gpa : ℕ)
    → act_on_fetch (after_going left q h hart) h (going_hart left hart) (Stray gpa) ≡ demote q h hart gpa
unfolding act_on_fetch
stray_at q h hart true gpa = demote_left q h hart gpa
stray_at q h hart false gpa = refl

fetched_is : (q : State) (h : ℕ) (hart : Hart) (left : Bool) (x : Fetched) → Fetches q h hart left → fetch_of q hart ≡ x
    → Attempts q h hart (act_on_fetch (after_going left q h hart) h (going_hart left hart) x)
unfolding act_on_fetch
fetched_is q h hart left (NoWord cause) at e = ByFault left cause at e (fault_at_pc q h hart left cause)
fetched_is q h hart left (Stray gpa) at e = ByStray left gpa at e (stray_at q h hart left gpa)
fetched_is q h hart left (Word w) at e = ByWord left w at e refl

decide_attempt : (q : State) (h : ℕ) (hart : Hart) (b : Bool) (x y : State) → (b ≡ true → Attempts q h hart x) → (b ≡ false → Attempts q h hart y)
    → Attempts q h hart (if b then x else y)
decide_attempt q h hart true x y k l = k refl
decide_attempt q h hart false x y k l = l refl

goes_by : (q : State) (h : ℕ) (hart : Hart) (left : Bool) (x : Option Binding) → deliverable hart.mode hart.supervisor (lines_at q.devices h) ≡ None
    → bound_entry q.rules hart.entry ≡ x → Goes q hart left x → Fetches q h hart left
goes_by q h hart left x quiet bound goes = record { quiet = quiet; goes = subst (Goes q hart left) (sym bound) goes }

entry_is : (q : State) (h : ℕ) (hart : Hart) (x : Option Binding) → deliverable hart.mode hart.supervisor (lines_at q.devices h) ≡ None
    → bound_entry q.rules hart.entry ≡ x → Attempts q h hart (fetch_in_entry q h hart x)
unfolding fetch_in_entry
entry_is q h hart None quiet bound = fetched_is q h hart false (fetch_of q hart) (goes_by q h hart false None quiet bound tt) refl
entry_is q h hart (Some entry) quiet bound =
    decide_attempt q h hart (leads_into q (page_of entry.gpa) (place_of_pc q hart)) _ _
    (λ inside. fetched_is q h hart false (fetch_of q hart) (goes_by q h hart false (Some entry) quiet bound inside) refl)
    (λ away. decide_attempt q h hart (hart.pc == entry.va) _ _
    (λ there. ByPlace entry quiet bound away (eqb-true hart.pc entry.va there) refl)
    (λ other. fetched_is q h hart true (fetch_of q hart) (goes_by q h hart true (Some entry) quiet bound (away, other)) refl))

pending_is : (q : State) (h : ℕ) (hart : Hart) (x : Option Interrupt) → deliverable hart.mode hart.supervisor (lines_at q.devices h) ≡ x
    → Attempts q h hart (act_on_pending q h hart x)
unfolding act_on_pending
pending_is q h hart (Some interrupt) e = ByInterrupt interrupt e refl
pending_is q h hart None e = entry_is q h hart (bound_entry q.rules hart.entry) e refl

pub act_is : (q : State) (h : ℕ) (hart : Hart) → Attempts q h hart (act q h hart)
unfolding act
act_is q h hart = pending_is q h hart (deliverable hart.mode hart.supervisor (lines_at q.devices h)) refl

-- the turn of a hart without a load
pub turn_acts : (r : State) (h : ℕ) (hart : Hart) → HasTurn r h hart → step r (Turn h) ≡ act (count r count_turn) h hart
turn_acts r h hart k = running r h k.running ∙ turn_is (count r count_turn) h hart k.found k.started k.free

-- ---- and back

entry_goes : (q : State) (h : ℕ) (hart : Hart) (left : Bool) (x : Option Binding) → Goes q hart left x
    → fetch_in_entry q h hart x ≡ act_on_fetch (after_going left q h hart) h (going_hart left hart) (fetch_of q hart)
unfolding fetch_in_entry
entry_goes q h hart false None goes = refl
entry_goes q h hart true None goes = absurd goes
entry_goes q h hart false (Some entry) goes = rw goes refl
entry_goes q h hart true (Some entry) goes = rw (goes.0, goes.1) refl

fetches_go : (q : State) (h : ℕ) (hart : Hart) (left : Bool) → Fetches q h hart left
    → act q h hart ≡ act_on_fetch (after_going left q h hart) h (going_hart left hart) (fetch_of q hart)
unfolding act act_on_pending
fetches_go q h hart left k =
    ap (act_on_pending q h hart) k.quiet ∙ entry_goes q h hart left (bound_entry q.rules hart.entry) k.goes

-- a word that is carried out
pub turn_carries : (r : State) (h : ℕ) (hart : Hart) (w : ℕ) (k : CarriesOut r h hart w)
    → step r (Turn h) ≡ carry_out_word (after_going k.left (count r count_turn) h hart) h (going_hart k.left hart) w
unfolding act_on_fetch
turn_carries r h hart w k =
    let q : State = count r count_turn in
    turn_acts r h hart k.turn ∙ fetches_go q h hart k.left k.fetches
    ∙ ap (act_on_fetch (after_going k.left q h hart) h (going_hart k.left hart)) k.fetched

-- ---- user mode

-- where a fetch of user mode leads
free_in : (q : State) (hart : Hart) (w gpa : ℕ) (inside : Bool) (x : Option (List ℕ)) → place_of_pc q hart ≡ At gpa → in_ram q.ram gpa instruction_size ≡ inside
    → approved_bytes q.approved (page_of gpa) ≡ x → (if inside then fetched_in q.ram User gpa x else NoWord Cause.InstrAccess) ≡ Word w → IsFreeWord q hart w
unfolding fetched_in
free_in q hart w gpa false x place inside found e = absurd (cc)
free_in q hart w gpa true (Some bytes) place inside found e = absurd (cc)
free_in q hart w gpa true None place inside found e =
    let same : word q.ram (ram_offset gpa) instruction_size ≡ w = cc in
    record { gpa = gpa; place = place; inside = inside; unapproved = ap (λ (o : Option (List ℕ)). is_some o) found; word = sym same }

free_at : (q : State) (hart : Hart) (w : ℕ) (d : Destination) → place_of_pc q hart ≡ d → fetched_at q.ram q.approved User d ≡ Word w → IsFreeWord q hart w
unfolding fetched_at
free_at q hart w PageFault place e = absurd (cc)
free_at q hart w (Unreadable entry) place e = absurd (cc)
free_at q hart w (At gpa) place e =
    free_in q hart w gpa (in_ram q.ram gpa instruction_size) (approved_bytes q.approved (page_of gpa)) place refl refl e

fetched_free : (q : State) (hart : Hart) (w : ℕ) → hart.mode ≡ User → fetch_of q hart ≡ Word w → IsFreeWord q hart w
unfolding fetch
fetched_free q hart w user e =
    free_at q hart w (place_of_pc q hart) refl (subst (λ (m : Mode). fetched_at q.ram q.approved m (place_of_pc q hart) ≡ Word w) user e)

no_stray_in : (ram : List ℕ) (gpa at : ℕ) (inside : Bool) (x : Option (List ℕ)) → (if inside then fetched_in ram User gpa x else NoWord Cause.InstrAccess) ≡ Stray at → ⊥
unfolding fetched_in
no_stray_in ram gpa at false x e = cc
no_stray_in ram gpa at true (Some bytes) e = cc
no_stray_in ram gpa at true None e = cc

no_stray_at : (ram : List ℕ) (approved : List ApprovedPage) (at : ℕ) (d : Destination) → fetched_at ram approved User d ≡ Stray at → ⊥
unfolding fetched_at
no_stray_at ram approved at PageFault e = cc
no_stray_at ram approved at (Unreadable entry) e = cc
no_stray_at ram approved at (At gpa) e = no_stray_in ram gpa at (in_ram ram gpa instruction_size) (approved_bytes approved (page_of gpa)) e

no_stray : (q : State) (hart : Hart) (at : ℕ) → hart.mode ≡ User → fetch_of q hart ≡ Stray at → ⊥
unfolding fetch
no_stray q hart at user e = no_stray_at q.ram q.approved at (place_of_pc q hart) (subst (λ (m : Mode). fetched_at q.ram q.approved m (place_of_pc q hart) ≡ Stray at) user e)

-- in a sound state it is in no entry
no_entry : (r : State) (h : ℕ) (hart : Hart) → IsSound r → slice_get r.harts h ≡ Some hart → hart.mode ≡ User → bound_entry r.rules hart.entry ≡ None
unfolding bound_entry
no_entry r h hart s found user = ap (bound_entry r.rules) (no_entry_of r.rules hart.mode hart.entry (s.harts h hart found).entry user)

never_leaves : (q : State) (hart : Hart) (x : Option Binding) → x ≡ None → Goes q hart true x → ⊥
never_leaves q hart x none goes = subst (Goes q hart true) none goes

stays_by : (q : State) (h : ℕ) (hart : Hart) (left : Bool) → bound_entry q.rules hart.entry ≡ None → Fetches q h hart left → left ≡ false
stays_by q h hart false none k = refl
stays_by q h hart true none k = absurd (never_leaves q hart (bound_entry q.rules hart.entry) none k.goes)

as_user : (q : State) (h : ℕ) (hart : Hart) (next : State) → hart.mode ≡ User → bound_entry q.rules hart.entry ≡ None → Attempts q h hart next → UserTurn q h hart next
as_user q h hart next user none (ByInterrupt interrupt pending same) =
    Interrupted interrupt pending (same ∙ ap (λ (m : Mode). trap_from q h hart m true (interrupt_number interrupt) 0) user)
as_user q h hart next user none (ByFault true cause at fetched same) = absurd (never_leaves q hart (bound_entry q.rules hart.entry) none at.goes)
as_user q h hart next user none (ByFault false cause at fetched same) =
    Faults cause at fetched (same ∙ ap (λ (m : Mode). trap_from q h hart m false (cause_number cause) hart.pc) user)
as_user q h hart next user none (ByStray left gpa at fetched same) = absurd (no_stray q hart gpa user fetched)
as_user q h hart next user none (ByPlace entry quiet bound away there same) = absurd (none-some entry (sym none ∙ bound))
as_user q h hart next user none (ByWord true w at fetched same) = absurd (never_leaves q hart (bound_entry q.rules hart.entry) none at.goes)
as_user q h hart next user none (ByWord false w at fetched same) = Carries w at fetched (fetched_free q hart w user fetched) same

pub user_turn : (r : State) (h : ℕ) (hart : Hart) → IsSound r → HasTurn r h hart → hart.mode ≡ User → UserTurn (count r count_turn) h hart (step r (Turn h))
user_turn r h hart s k user =
    as_user (count r count_turn) h hart (step r (Turn h)) user (no_entry r h hart s k.found user)
    (subst (Attempts (count r count_turn) h hart) (sym (turn_acts r h hart k)) (act_is (count r count_turn) h hart))

-- ---- its traps

entry_traps : (q : State) (h : ℕ) (hart : Hart) (x : Option Binding) (t : UserTrap) → x ≡ None → hart.mode ≡ User → fetch_trap q hart (fetch_of q hart) ≡ Some t
    → fetch_in_entry q h hart x ≡ trap_from q h hart hart.mode t.interrupt t.cause t.tval
unfolding fetch_in_entry
entry_traps q h hart None t none user e = fetched_traps q h hart (fetch_of q hart) t user e
entry_traps q h hart (Some entry) t none user e = absurd (cc)

pending_traps : (q : State) (h : ℕ) (hart : Hart) (x : Option Interrupt) (t : UserTrap) → bound_entry q.rules hart.entry ≡ None → hart.mode ≡ User
    → pending_trap q hart x ≡ Some t → act_on_pending q h hart x ≡ trap_from q h hart hart.mode t.interrupt t.cause t.tval
unfolding act_on_pending
pending_traps q h hart (Some interrupt) t none user e =
    let same : record { interrupt = true; cause = interrupt_number interrupt; tval = 0 } ≡ t = cc in
    subst (λ (x : UserTrap). trap_from q h hart hart.mode true (interrupt_number interrupt) 0 ≡ trap_from q h hart hart.mode x.interrupt x.cause x.tval) same refl
pending_traps q h hart None t none user e = entry_traps q h hart (bound_entry q.rules hart.entry) t none user e

act_traps : (q : State) (h : ℕ) (hart : Hart) (t : UserTrap) → bound_entry q.rules hart.entry ≡ None → hart.mode ≡ User → user_trap q h hart ≡ Some t
    → act q h hart ≡ trap_from q h hart User t.interrupt t.cause t.tval
unfolding act
act_traps q h hart t none user e =
    ap (λ (m : Mode). act_on_pending q h hart (deliverable m hart.supervisor (lines_at q.devices h))) user
    ∙ pending_traps q h hart (deliverable User hart.supervisor (lines_at q.devices h)) t none user e
    ∙ ap (λ (m : Mode). trap_from q h hart m t.interrupt t.cause t.tval) user

pub user_traps : (r : State) (h : ℕ) (hart : Hart) (t : UserTrap) → IsSound r → HasTurn r h hart → hart.mode ≡ User → user_trap (count r count_turn) h hart ≡ Some t
    → step r (Turn h) ≡ trap_from (count r count_turn) h hart User t.interrupt t.cause t.tval
user_traps r h hart t s k user e =
    turn_acts r h hart k ∙ act_traps (count r count_turn) h hart t (no_entry r h hart s k.found user) user e

pub user_turns_law : UserTurnsLaw
user_turns_law = record {
  free = λ s r reached h hart found user. user_unloading r h hart r.loading reached.load found user;
  turns = λ r sound h hart k user. user_turn r h hart sound k user;
  traps = λ r sound h hart t k user e. user_traps r h hart t sound k user e;
}

-- ---- stops

stops_verdict : (left : Bool) (r : State) (h : ℕ) (hart : Hart) (rule : Rule)
    → (stopped_by (after_going left (count r count_turn) h hart) h rule).journal.verdict ≡ Stopped rule h (r.journal.counts.turns + 1)
stops_verdict true r h hart rule = refl
stops_verdict false r h hart rule = refl

stops_with : (r : State) (h : ℕ) (hart : Hart) (left : Bool) (rule : Rule) → step r (Turn h) ≡ stopped_by (after_going left (count r count_turn) h hart) h rule
    → StopsBy r h hart left rule
stops_with r h hart left rule same = record { same = same; verdict = ap (λ (x : State). x.journal.verdict) same ∙ stops_verdict left r h hart rule }

trap_stops : (q : State) (h : ℕ) (hart : Hart) (interrupt : Bool) (cause tval : ℕ) → has_number q.rules.entries (trap_target hart.supervisor.stvec interrupt cause) ≡ false
    → trap_from q h hart User interrupt cause tval ≡ stopped_by q h (Entry (trap_target hart.supervisor.stvec interrupt cause))
unfolding trap_from
trap_stops q h hart interrupt cause tval e = rw e refl

pub user_trap_stops : (r : State) (h : ℕ) (hart : Hart) (t : UserTrap) → IsSound r → HasTurn r h hart → hart.mode ≡ User
    → user_trap (count r count_turn) h hart ≡ Some t → has_number r.rules.entries (trap_target hart.supervisor.stvec t.interrupt t.cause) ≡ false
    → StopsBy r h hart false (Entry (trap_target hart.supervisor.stvec t.interrupt t.cause))
user_trap_stops r h hart t s k user e other =
    stops_with r h hart false (Entry (trap_target hart.supervisor.stvec t.interrupt t.cause))
    (user_traps r h hart t s k user e ∙ trap_stops (count r count_turn) h hart t.interrupt t.cause t.tval other)

-- the hart that left its entry writes there too
pub going_writes : (left : Bool) (q : State) (h : ℕ) (hart : Hart) (w gpa : ℕ) → WritesGuarded q hart w gpa → WritesGuarded (after_going left q h hart) (going_hart left hart) w gpa
unfolding is_protected
going_writes false q h hart w gpa k = k
going_writes true q h hart w gpa k = record { effect = k.effect; is = k.is; address = k.address; width = k.width; writes = k.writes; leads = k.leads }

pub going_pc : (left : Bool) (hart : Hart) → (going_hart left hart).pc ≡ hart.pc
going_pc true hart = refl
going_pc false hart = refl

pub write_stops : (stops : (q : State) (h : ℕ) (hart : Hart) (w gpa : ℕ) → WritesGuarded q hart w gpa → carry_out_word q h hart w ≡ stopped_by q h (Write hart.pc gpa))
    → (r : State) (h : ℕ) (hart : Hart) (w gpa : ℕ) → (k : CarriesOut r h hart w) → WritesGuarded (count r count_turn) hart w gpa
    → StopsBy r h hart k.left (Write hart.pc gpa)
write_stops stops r h hart w gpa k writes =
    let q : State = count r count_turn in
    stops_with r h hart k.left (Write hart.pc gpa)
    (turn_carries r h hart w k
    ∙ stops (after_going k.left q h hart) h (going_hart k.left hart) w gpa (going_writes k.left q h hart w gpa writes)
    ∙ ap (λ (pc : ℕ). stopped_by (after_going k.left q h hart) h (Write pc gpa)) (going_pc k.left hart))
