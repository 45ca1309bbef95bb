-- What a turn of a hart does: to protected bytes, to the hart, to other harts, and to the verdict.
use Rattle.std.proofs.Common.{◌≡◌, ℕ, zero, suc, List, [], ◌∷◌, map, length, refl, sym, ◌∙◌, ap, subst, Bool, true, false, ◌||◌, slice_get, slice_set}
use Rattle.laws_simulation.proofs.OthersRest.{same_one}
use Rattle.std.specs.Prelude.{Option, Some, None, option_map, if◌then◌else◌}
use Rattle.std.proofs.lemmas.List.{set-set}
use Rattle.std.proofs.lemmas.Option.{slice_get-map}
use Rattle.spec_processor.specs.Bytes.{overwrite, page_bytes}
use Rattle.sv_types.specs.Policies.{Rules}
use Rattle.spec_processor.specs.Traps.{trap_target, mode_at_return}
use Rattle.sv_types.specs.declared.event.Rule.TheVariants.{Entry, Write}
use Rattle.sv_types.specs.declared.event.Verdict.{Verdict}
use Rattle.sv_types.specs.declared.event.Verdict.TheVariants.{Running, Shutdown, Stopped}
use Rattle.spec_processor.specs.declared.mode.Mode.{Mode}
use Rattle.spec_processor.specs.declared.mode.Mode.TheVariants.{Kernel, User}
use Rattle.laws_processor.proofs.ByteLemmas.{page_elsewhere}
use Rattle.spec_reference.specs.Calls.{started_hart}
use Rattle.spec_reference.specs.Counting.{stopped_by}
use Rattle.spec_reference.specs.Devices.{hart_after_write}
use Rattle.spec_reference.specs.Soundness.{IsSound, IsSoundEntry}
use Rattle.spec_reference.specs.States.{State, Hart, has_number, is_approved_in, is_protected}
use Rattle.spec_reference.specs.Trapping.{trap_from, hart_at_trap, hart_at_return, entry_in}
use Rattle.spec_reference.specs.Turn.{after_going, demote, in_user_mode, leave_entry, outside_entry}
use Rattle.laws_simulation.proofs.Lookups.{both}
use Rattle.laws_simulation.proofs.Sounds.{InFreePage, apart}
use Rattle.laws_simulation.proofs.AttemptsAgree.{get_back}
use Rattle.sv_types.proofs.SetElements.{set_other}

-- ---- the four things

-- a started hart in a sound state, whose turn it is
pub record IsMoving (q : State) (h : ℕ) (hart : Hart) : Type 0 where
  pub sound : IsSound q
  pub found : slice_get q.harts h ≡ Some hart
  pub started : hart.started ≡ true
  pub running : q.journal.verdict ≡ Running

-- how a hart leaves for user mode but by stopping, each for reasons of its own
pub data Leaving : Type 0 where
  Returning : Leaving
  Demoting : (gpa : ℕ) → Leaving

-- what becomes of the hart
pub data Own (reasons : Leaving → Type 0) (q : State) (h : ℕ) (hart : Hart) (next : State) (after : Hart) : Type 0 where
  Same : (mode : after.mode ≡ hart.mode) → (started : after.started ≡ hart.started) → Own reasons q h hart next after
  Entered : (interrupt : Bool) → (cause tval : ℕ) → (user : hart.mode ≡ User)
      → (permitted : has_number q.rules.entries (trap_target hart.supervisor.stvec interrupt cause) ≡ true)
      → (same : after ≡ hart_at_trap q.rules hart User interrupt cause tval) → (all : next ≡ trap_from q h hart User interrupt cause tval)
      → Own reasons q h hart next after
  Returned : (why : reasons Returning) → (user : mode_at_return hart.supervisor.sstatus ≡ User) → (same : after ≡ hart_at_return hart) → Own reasons q h hart next after
  Demoted : (gpa : ℕ) → (why : reasons (Demoting gpa)) → (same : after ≡ in_user_mode hart) → (all : next ≡ demote q h hart gpa) → Own reasons q h hart next after
  Halted : (stopped : after.started ≡ false) → Own reasons q h hart next after

-- and of another
pub data Other (q : State) (k : ℕ) (before after : Hart) : Type 0 where
  Rests : (mode : after.mode ≡ before.mode) → (started : after.started ≡ before.started) → Other q k before after
  Begins : (pc opaque : ℕ) → (stopped : before.started ≡ false) → (permitted : has_number q.rules.entries pc ≡ true)
      → (same : after ≡ started_hart k pc opaque) → Other q k before after

abbrev pub IsNoStop : Verdict → Type 0
IsNoStop Running = Unit {0}
IsNoStop Shutdown = Unit {0}
IsNoStop (Stopped rule h at) = ⊥

-- how it ends, where `writes` says which writes may stop it
pub data Ends (writes : ℕ → Type 0) (q : State) (h : ℕ) (hart : Hart) (next : State) : Type 0 where
  GoesOn : (on : IsNoStop next.journal.verdict) → Ends writes q h hart next
  StopsAtEntry : (interrupt : Bool) → (cause : ℕ) → (user : hart.mode ≡ User)
      → (other : has_number q.rules.entries (trap_target hart.supervisor.stvec interrupt cause) ≡ false)
      → (same : next ≡ stopped_by q h (Entry (trap_target hart.supervisor.stvec interrupt cause))) → Ends writes q h hart next
  StopsAtWrite : (left : Bool) → (gpa : ℕ) → (at : writes gpa) → (same : next ≡ stopped_by (after_going left q h hart) h (Write hart.pc gpa)) → Ends writes q h hart next

pub record Does (writes : ℕ → Type 0) (reasons : Leaving → Type 0) (q : State) (h : ℕ) (hart : Hart) (next : State) : Type 0 where
  pub bytes : (page : ℕ) → is_protected q page ≡ true → page_bytes next.ram page ≡ page_bytes q.ram page
  pub own : (after : Hart) → slice_get next.harts h ≡ Some after → Own reasons q h hart next after
  pub others : (k : ℕ) (before after : Hart) → (k ≡ h → ⊥) → slice_get q.harts k ≡ Some before → slice_get next.harts k ≡ Some after → Other q k before after
  pub ends : Ends writes q h hart next

-- ---- lists of harts

no_stop : (v : Verdict) → v ≡ Running → IsNoStop v
no_stop v e = subst IsNoStop (sym e) tt

-- ---- what is done

-- another hart is where it was
pub rests_other : (q : State) (k : ℕ) (before after : Hart) → before ≡ after → Other q k before after
rests_other q k before after same = subst (Other q k before) same (Rests refl refl)

-- nobody moves
pub does_nothing : (writes : ℕ → Type 0) (reasons : Leaving → Type 0) (q : State) (h : ℕ) (hart : Hart) (next : State) → IsMoving q h hart → next.ram ≡ q.ram → next.harts ≡ q.harts
    → Ends writes q h hart next → Does writes reasons q h hart next
does_nothing writes reasons q h hart next at ram harts ends = record {
  bytes = λ page e. ap (λ (x : List ℕ). page_bytes x page) ram;
  own = λ after e. let same : hart ≡ after = same_one (slice_get q.harts h) hart after at.found (sym (ap (λ (l : List Hart). slice_get l h) harts) ∙ e) in
      subst (Own reasons q h hart next) same (Same refl refl);
  others = λ k before after other was e. rests_other q k before after
      (same_one (slice_get q.harts k) before after was (sym (ap (λ (l : List Hart). slice_get l k) harts) ∙ e));
  ends = ends;
}

-- the hart is another one
pub does_set : (writes : ℕ → Type 0) (reasons : Leaving → Type 0) (q : State) (h : ℕ) (hart : Hart) (next : State) (x : Hart) → IsMoving q h hart → next.ram ≡ q.ram
    → next.harts ≡ slice_set q.harts h x → Own reasons q h hart next x → next.journal.verdict ≡ Running → Does writes reasons q h hart next
does_set writes reasons q h hart next x at ram harts own running = record {
  bytes = λ page e. ap (λ (l : List ℕ). page_bytes l page) ram;
  own = λ after e. let same : x ≡ after = same_one (slice_get next.harts h) x after
      (ap (λ (l : List Hart). slice_get l h) harts ∙ get_back q.harts h hart x at.found) e in
      subst (Own reasons q h hart next) same own;
  others = λ k before after other was e. rests_other q k before after
      (same_one (slice_get next.harts k) before after (ap (λ (l : List Hart). slice_get l k) harts ∙ set_other q.harts h k x other ∙ was) e);
  ends = GoesOn (no_stop next.journal.verdict running);
}

-- ---- writes

or_false : (a b : Bool) → a ≡ false → b ≡ false → (a || b) ≡ true → ⊥
or_false true b s t e = cc
or_false false b s t e = both b e t

other_page : (q : State) (page free : ℕ) → is_protected q page ≡ true → is_approved_in q.approved free ≡ false → has_number q.held free ≡ false → page ≡ free → ⊥
unfolding is_protected
other_page q page free guarded s t same =
    or_false (is_approved_in q.approved free) (has_number q.held free) s t
    (subst (λ (p : ℕ). (is_approved_in q.approved p || has_number q.held p) ≡ true) same guarded)

-- what is written in a free page leaves the protected ones
pub page_kept : (q : State) (place : ℕ) (bytes : List ℕ) (page : ℕ) → InFreePage q place bytes → is_protected q page ≡ true
    → page_bytes (overwrite q.ram place bytes) page ≡ page_bytes q.ram page
page_kept q place bytes page free e =
    page_elsewhere q.ram bytes place page free.page free.inside free.first free.last (apart page free.page (other_page q page free.page e free.free free.unheld))

pub does_write : (writes : ℕ → Type 0) (reasons : Leaving → Type 0) (q : State) (h : ℕ) (hart : Hart) (next : State) (x : Hart) (place : ℕ) (bytes : List ℕ) → IsMoving q h hart
    → InFreePage q place bytes
    → next.ram ≡ overwrite q.ram place bytes → next.harts ≡ map (hart_after_write place (length bytes)) (slice_set q.harts h x)
    → x.mode ≡ hart.mode → x.started ≡ hart.started → next.journal.verdict ≡ Running → Does writes reasons q h hart next
does_write writes reasons q h hart next x place bytes at free ram harts mode started running = record {
  bytes = λ page e. ap (λ (l : List ℕ). page_bytes l page) ram
      ∙ page_kept q place bytes page free e;
  own = λ after e. let same : hart_after_write place (length bytes) x ≡ after = same_one (slice_get next.harts h) _ after
      (ap (λ (l : List Hart). slice_get l h) harts ∙ slice_get-map (hart_after_write place (length bytes)) (slice_set q.harts h x) h
      ∙ ap (option_map (hart_after_write place (length bytes))) (get_back q.harts h hart x at.found)) e in
      subst (Own reasons q h hart next) same (Same mode started);
  others = λ k before after other was e.
      let same : hart_after_write place (length bytes) before ≡ after = same_one (slice_get next.harts k) _ after
      (ap (λ (l : List Hart). slice_get l k) harts ∙ slice_get-map (hart_after_write place (length bytes)) (slice_set q.harts h x) k
      ∙ ap (option_map (hart_after_write place (length bytes))) (set_other q.harts h k x other ∙ was)) e in
      subst (Other q k before) same (Rests refl refl);
  ends = GoesOn (no_stop next.journal.verdict running);
}

-- ---- the choice, and the same by other writes

pub choose_does : (writes : ℕ → Type 0) (reasons : Leaving → Type 0) (q : State) (h : ℕ) (hart : Hart) (b : Bool) (x y : State) → Does writes reasons q h hart x → Does writes reasons q h hart y
    → Does writes reasons q h hart (if b then x else y)
choose_does writes reasons q h hart true x y s t = s
choose_does writes reasons q h hart false x y s t = t

pub decide_does : (writes : ℕ → Type 0) (reasons : Leaving → Type 0) (q : State) (h : ℕ) (hart : Hart) (b : Bool) (x y : State) → (b ≡ true → Does writes reasons q h hart x)
    → (b ≡ false → Does writes reasons q h hart y)
    → Does writes reasons q h hart (if b then x else y)
decide_does writes reasons q h hart true x y s t = s refl
decide_does writes reasons q h hart false x y s t = t refl

ends_for : (first second : ℕ → Type 0) (q : State) (h : ℕ) (hart : Hart) (next : State) → ((gpa : ℕ) → first gpa → second gpa) → Ends first q h hart next → Ends second q h hart next
ends_for first second q h hart next f (GoesOn on) = GoesOn on
ends_for first second q h hart next f (StopsAtEntry interrupt cause user other same) = StopsAtEntry interrupt cause user other same
ends_for first second q h hart next f (StopsAtWrite left gpa at same) = StopsAtWrite left gpa (f gpa at) same

own_for : (first second : Leaving → Type 0) (q : State) (h : ℕ) (hart : Hart) (next : State) (after : Hart) → ((x : Leaving) → first x → second x) → Own first q h hart next after
    → Own second q h hart next after
own_for first second q h hart next after f (Same mode started) = Same mode started
own_for first second q h hart next after f (Entered interrupt cause tval user permitted same all) = Entered interrupt cause tval user permitted same all
own_for first second q h hart next after f (Returned why user same) = Returned (f Returning why) user same
own_for first second q h hart next after f (Demoted gpa why same all) = Demoted gpa (f (Demoting gpa) why) same all
own_for first second q h hart next after f (Halted stopped) = Halted stopped

pub does_for : (first second : ℕ → Type 0) (why because : Leaving → Type 0) (q : State) (h : ℕ) (hart : Hart) (next : State) → ((gpa : ℕ) → first gpa → second gpa)
    → ((x : Leaving) → why x → because x)
    → Does first why q h hart next → Does second because q h hart next
does_for first second why because q h hart next f g d = record {
  bytes = d.bytes;
  own = λ after e. own_for why because q h hart next after g (d.own after e);
  others = d.others;
  ends = ends_for first second q h hart next f d.ends;
}

-- ---- a hart that left its entry first

left_twice : (q : State) (h : ℕ) (hart : Hart) → leave_entry (leave_entry q h hart) h (outside_entry hart) ≡ leave_entry q h hart
left_twice q h hart = ap (λ (l : List Hart). record q { harts = l }) (set-set q.harts h (outside_entry hart) (outside_entry hart))

pub demote_left : (q : State) (h : ℕ) (hart : Hart) (gpa : ℕ) → demote (leave_entry q h hart) h (outside_entry hart) gpa ≡ demote q h hart gpa
demote_left q h hart gpa = ap (λ (l : List Hart). record (demote q h hart gpa) { harts = l }) (set-set q.harts h (outside_entry hart) (in_user_mode hart))

no_entry_in : (mode : Mode) (entry : Option ℕ) → mode ≡ User → entry_in mode None ≡ entry_in mode entry
no_entry_in Kernel entry user = absurd (cc)
no_entry_in User entry user = refl

return_left : (hart : Hart) → mode_at_return hart.supervisor.sstatus ≡ User → hart_at_return (outside_entry hart) ≡ hart_at_return hart
unfolding hart_at_return
return_left hart user =
    ap (λ (e : Option ℕ). record (hart_at_return hart) { entry = e }) (no_entry_in (mode_at_return hart.supervisor.sstatus) hart.entry user)

other_left : (q : State) (h : ℕ) (hart : Hart) (k : ℕ) (before after : Hart) → Other (leave_entry q h hart) k before after → Other q k before after
other_left q h hart k before after (Rests mode started) = Rests mode started
other_left q h hart k before after (Begins pc opaque stopped permitted same) = Begins pc opaque stopped permitted same

set_same : (harts : List Hart) (h : ℕ) (x : Hart) → slice_get harts h ≡ Some x → slice_set harts h x ≡ harts
set_same [] h x found = refl
set_same (a ∷ harts) zero x found = let same : a ≡ x = cc in ap (λ (y : Hart). y ∷ harts) (sym same)
set_same (a ∷ harts) (suc h) x found = ap (◌∷◌ a) (set_same harts h x found)

-- in user mode there is none to leave
pub no_entry_of : (rules : Rules) (mode : Mode) (entry : Option ℕ) → IsSoundEntry rules mode entry → mode ≡ User → entry ≡ None
no_entry_of rules mode None known user = refl
no_entry_of rules Kernel (Some i) known user = absurd (cc)
no_entry_of rules User (Some i) known user = absurd known

same_outside : (q : State) (h : ℕ) (hart : Hart) → IsMoving q h hart → hart.mode ≡ User → outside_entry hart ≡ hart
same_outside q h hart at user =
    ap (λ (e : Option ℕ). record hart { entry = e }) (sym (no_entry_of q.rules hart.mode hart.entry (at.sound.harts h hart at.found).entry user))

nothing_left : (q : State) (h : ℕ) (hart : Hart) → IsMoving q h hart → hart.mode ≡ User → leave_entry q h hart ≡ q
nothing_left q h hart at user =
    ap (λ (l : List Hart). record q { harts = l }) (ap (slice_set q.harts h) (same_outside q h hart at user) ∙ set_same q.harts h hart at.found)

own_left : (reasons : Leaving → Type 0) (q : State) (h : ℕ) (hart : Hart) (next : State) (after : Hart) → IsMoving q h hart
    → Own reasons (leave_entry q h hart) h (outside_entry hart) next after → Own reasons q h hart next after
unfolding hart_at_trap
own_left reasons q h hart next after at (Same mode started) = Same mode started
own_left reasons q h hart next after at (Entered interrupt cause tval user permitted same all) =
    Entered interrupt cause tval user permitted same
    (all ∙ ap (λ (x : State). trap_from x h (outside_entry hart) User interrupt cause tval) (nothing_left q h hart at user)
    ∙ ap (λ (x : Hart). trap_from q h x User interrupt cause tval) (same_outside q h hart at user))
own_left reasons q h hart next after at (Returned why user same) = Returned why user (same ∙ return_left hart user)
own_left reasons q h hart next after at (Demoted gpa why same all) = Demoted gpa why same (all ∙ demote_left q h hart gpa)
own_left reasons q h hart next after at (Halted stopped) = Halted stopped

ends_left : (writes : ℕ → Type 0) (q : State) (h : ℕ) (hart : Hart) (next : State) → IsMoving q h hart → Ends writes (leave_entry q h hart) h (outside_entry hart) next
    → Ends writes q h hart next
ends_left writes q h hart next at (GoesOn on) = GoesOn on
ends_left writes q h hart next at (StopsAtEntry interrupt cause user other same) = StopsAtEntry interrupt cause user other
    (same ∙ ap (λ (x : State). stopped_by x h (Entry (trap_target hart.supervisor.stvec interrupt cause))) (nothing_left q h hart at user))
ends_left writes q h hart next at (StopsAtWrite false gpa w same) = StopsAtWrite true gpa w same
ends_left writes q h hart next at (StopsAtWrite true gpa w same) = StopsAtWrite true gpa w
    (same ∙ ap (λ (x : State). stopped_by x h (Write hart.pc gpa)) (left_twice q h hart))

pub does_left : (writes : ℕ → Type 0) (reasons : Leaving → Type 0) (q : State) (h : ℕ) (hart : Hart) (next : State) → IsMoving q h hart
    → Does writes reasons (leave_entry q h hart) h (outside_entry hart) next
    → Does writes reasons q h hart next
unfolding is_protected
does_left writes reasons q h hart next at d = record {
  bytes = λ page e. d.bytes page e;
  own = λ after e. own_left reasons q h hart next after at (d.own after e);
  others = λ k before after other was e. other_left q h hart k before after
      (d.others k before after other (set_other q.harts h k (outside_entry hart) other ∙ was) e);
  ends = ends_left writes q h hart next at d.ends;
}
