-- One turn, and a row of turns with one more.
use Rattle.std.proofs.Common.{◌≡◌, ℕ, zero, ◌+◌, ◌/◌, ◌%◌, ◌^◌, ◌<◌, ◌≤◌, List, length, refl, sym, ◌∙◌, ap, subst, add-one, arith, inl, inr, true, false}
use Rattle.spec_processor.specs.Bytes.{page_size}
use Rattle.std.specs.Prelude.{Option, None, Ok}
use Rattle.std.proofs.lemmas.Bool.Decides.{eqb_tells}
use Rattle.spec_processor.specs.GStage.{WalksApart}
use Rattle.spec_processor.specs.CachedWalks.{CacheAgrees, FilledUnder}
use Rattle.spec_processor.specs.Hardware.{Core, Attempted}
use Rattle.spec_processor.specs.HardwareAttempt.{attempt, after_pending, after_fetch, after_word}
use Rattle.spec_processor.specs.HardwareMemory.{translation_result}
use Rattle.spec_processor.specs.HypervisorRegisters.{HypervisorRegisters, pending, is_taken}
use Rattle.spec_processor.specs.Regions.{Region, host_word, write_host, IsHostPlace}
use Rattle.spec_processor.specs.Roots.{IsBare}
use Rattle.spec_processor.specs.declared.access.Access.TheVariants.{Fetch}
use Rattle.spec_processor.specs.declared.cached.CacheLine.{CacheLine}
use Rattle.spec_processor.specs.declared.hregs.HRegs.{HRegs}
use Rattle.spec_processor.specs.declared.lines.Lines.{Lines}
use Rattle.hw_tlb.proofs.WritesAndWalks.{write_after}
use Rattle.hw_tlb.specs.Fills.{nothing_filled, filled_further}
use Rattle.hart.specs.Cores.{core_of}
use Rattle.hw_tlb.specs.CacheWalks.{Walked}
use Rattle.hw_tlb.specs.declared.line.Line.{Line}
use Rattle.hart.specs.Conditions.{MayAttempt}
use Rattle.hart.specs.declared.hart.Core.{Core as Kept}
use Rattle.hw_fast_path.specs.Quick.{Comes, Leads, GoesOn, SameCourse, Steers, Translated, Turned, is_made, keeps_course, no_page}
use Rattle.hw_fast_path.proofs.Kept.{apart_kept, write_size}
use Rattle.hw_fast_path.proofs.Windows.{leads_core, leads_kept, no_window}
use Rattle.hw_fast_path.specs.declared.tried.Tried.{Tried}
use Rattle.hw_fast_path.specs.declared.tried.Tried.TheVariants.{Stopped, Retired, Stored, ContextChanged}
use Rattle.hw_fast_path.specs.declared.window.Window.{Window}
use Rattle.hw_fast_path.specs.Batches.{Carries, RetiresThrough}

-- where no interrupt is taken, and the pc lies in a window's page
pub attempt_at : (r : Region) (core : Core) (lines : Lines) (page host : ℕ) → pending core.hregs core.csrs lines ≡ None → core.pc < 2 ^ 64 → core.pc / page_size ≡ page
    → Leads r core page host → attempt r core lines ≡ after_word r core lines (host_word r (host + core.pc % page_size) 4)
unfolding attempt after_pending after_fetch
attempt_at r core lines page host none small at leads = rw (none, leads.fetches core.pc small at) refl

-- the same, where the pc's translation alone is known
pub attempt_of : (r : Region) (core : Core) (lines : Lines) (hpa word : ℕ) → pending core.hregs core.csrs lines ≡ None → translation_result r core Fetch core.pc 0 ≡ Ok hpa
    → word ≡ host_word r hpa 4 → attempt r core lines ≡ after_word r core lines word
unfolding attempt after_pending after_fetch
attempt_of r core lines hpa word none leads is = rw (none, leads, is) refl

-- ---- the registers that decide

pub course_stays : (c : HypervisorRegisters) → SameCourse c c
course_stays c = record { status = refl; first = refl; enabled = refl; raised = refl }

-- the same interrupt is taken
pub pending_kept : (regs : HRegs) (before after : HypervisorRegisters) (lines : Lines) → SameCourse before after
    → pending regs after lines ≡ pending regs before lines
unfolding pending is_taken
pending_kept regs before after lines same = rw (same.status, same.enabled, same.raised) refl

pub course_further : (a b c : HypervisorRegisters) → SameCourse a b → SameCourse b c → SameCourse a c
course_further a b c one more = record {
  status = more.status ∙ one.status;
  first = more.first ∙ one.first;
  enabled = more.enabled ∙ one.enabled;
  raised = more.raised ∙ one.raised;
}

pub course_kept : (t : Tried) (before after : HypervisorRegisters) → keeps_course t ≡ true → Steers t before after → SameCourse before after
course_kept Stopped before after keeps steers = steers
course_kept Retired before after keeps steers = steers
course_kept Stored before after keeps steers = steers
course_kept ContextChanged before after keeps steers = absurd (cc)

pub goes_nowhere : (r : Region) (core : Kept) (regs : HRegs) (lines : List (Option CacheLine)) → MayAttempt r core regs lines → core.reservation ≡ None
    → GoesOn r r core core regs lines lines
goes_nowhere r core regs lines ready free =
    record { ready = ready; free = free; tables = refl; ram = refl; filled = nothing_filled r.tables regs.hgatp lines }

pub goes_further : (a b c : Region) (first second third : Kept) (regs : HRegs) (x y z : List (Option CacheLine)) → GoesOn a b first second regs x y
    → GoesOn b c second third regs y z → GoesOn a c first third regs x z
goes_further a b c first second third regs x y z so_far more = record {
  ready = more.ready;
  free = more.free;
  tables = more.tables ∙ so_far.tables;
  ram = more.ram ∙ so_far.ram;
  filled = filled_further a.tables regs.hgatp x y z so_far.filled (subst (λ (t : List ℕ). FilledUnder t regs.hgatp y z) so_far.tables more.filled);
}

was_made : (t : Tried) (a : Attempted) (before after : Region) (core next : Core) → is_made t ≡ true → Comes t a before after core next → Carries a after next
was_made Stopped a before after core next made comes = absurd (cc)
was_made Retired a before after core next made comes = comes.1
was_made Stored a before after core next made comes = comes
was_made ContextChanged a before after core next made comes = comes.1

pub was_not_made : (t : Tried) (a : Attempted) (before after : Region) (core next : Core) → is_made t ≡ false → Comes t a before after core next
    → (after ≡ before) × (next ≡ core)
was_not_made Stopped a before after core next made comes = comes
was_not_made Retired a before after core next made comes = absurd (cc)
was_not_made Stored a before after core next made comes = absurd (cc)
was_not_made ContextChanged a before after core next made comes = absurd (cc)

-- what the clause on turns says of a row
abbrev pub Batch : ℕ → Region → Core → Region → Core → Type 0
Batch n r core after next = (lines : Lines) → pending core.hregs core.csrs lines ≡ None → RetiresThrough n r core lines after next

pub batch_starts : (r : Region) (core : Core) → Batch zero r core r core
batch_starts r core = λ lines none. (refl, refl)

pub still_none : (core before : Core) (lines : Lines) → SameCourse core.csrs before.csrs → before.hregs ≡ core.hregs
    → pending core.hregs core.csrs lines ≡ None → pending before.hregs before.csrs lines ≡ None
still_none core before lines course hregs none =
    ap (λ (h : HRegs). pending h before.csrs lines) hregs ∙ pending_kept core.hregs core.csrs before.csrs lines course ∙ none

-- one turn more
pub batch_more : (t : Tried) (n : ℕ) (r mid after : Region) (core before next : Core) → SameCourse core.csrs before.csrs → before.hregs ≡ core.hregs → Batch n r core mid before
    → is_made t ≡ true → ((lines : Lines) → pending before.hregs before.csrs lines ≡ None → Comes t (attempt mid before lines) mid after before next) → Batch (n + 1) r core after next
batch_more t n r mid after core before next course hregs batch made one = λ lines none.
    let still = still_none core before lines course hregs none in
    subst (λ (k : ℕ). RetiresThrough k r core lines after next) (sym (add-one n))
    (mid, (before, (batch lines none, was_made t (attempt mid before lines) mid after before next made (one lines still))))

-- and one that wasn't made
pub batch_stays : (t : Tried) (n : ℕ) (r mid after : Region) (core before next : Core) → SameCourse core.csrs before.csrs → before.hregs ≡ core.hregs → Batch n r core mid before
    → is_made t ≡ false → ((lines : Lines) → pending before.hregs before.csrs lines ≡ None → Comes t (attempt mid before lines) mid after before next) → Batch n r core after next
batch_stays t n r mid after core before next course hregs batch stopped same = λ lines none.
    let still = still_none core before lines course hregs none in
    let both = was_not_made t (attempt mid before lines) mid after before next stopped (same lines still) in
    subst (λ (x : Region). RetiresThrough n r core lines x next) (sym both.0)
    (subst (λ (x : Core). RetiresThrough n r core lines mid x) (sym both.1) (batch lines none))

-- after translations
pub turned_after : (t : Tried) (r after : Region) (core next : Kept) (regs : HRegs) (x y z : List (Option CacheLine)) (here kept : List (Option Line))
    → Translated r.tables regs.hgatp x y here → Turned t r after core next regs y z kept → Turned t r after core next regs x z kept
turned_after t r after core next regs x y z here kept translated turned =
    let on = turned.on in
    record {
      on = record {
        ready = on.ready;
        free = on.free;
        tables = on.tables;
        ram = on.ram;
        filled = filled_further r.tables regs.hgatp x y z translated.walked.filled on.filled;
      };
      course = turned.course;
      reach = turned.reach;
    }

-- ---- windows after a turn

-- some wires
abbrev pub low : Lines
low = record { time = 0; external = false; timer = false }

pub stayed_leads : (r after : Region) (core next : Kept) (regs : HRegs) (page host : ℕ) → after ≡ r → SameCourse core.csrs next.csrs → Leads r (core_of core regs) page host
    → Leads after (core_of next regs) page host
stayed_leads r after core next regs page host same course leads =
    subst (λ (x : Region). Leads x (core_of next regs) page host) (sym same) (leads_core r (core_of core regs) (core_of next regs) page host course refl leads)

pub stored_leads : (r after : Region) (core next : Kept) (regs : HRegs) (x y : List (Option CacheLine)) (here there : Window) → GoesOn r after core next regs x y
    → SameCourse core.csrs next.csrs → WalksApart r regs.hgatp → Leads r (core_of core regs) here.page here.host → (IsBare next.csrs.vsatp → there ≡ here)
    → ((IsBare next.csrs.vsatp → ⊥) → there.page ≡ no_page) → Leads after (core_of next regs) there.page there.host
stored_leads r after core next regs x y here there on course apart leads bare paged = elim (eqb_tells (next.csrs.vsatp / 2 ^ 60) 0) [
  | inl same ↦
      let was : IsBare core.csrs.vsatp = ap (λ (n : ℕ). n / 2 ^ 60) (sym course.first) ∙ same.1 in
      subst (λ (w : Window). Leads after (core_of next regs) w.page w.host) (sym (bare same.1))
      (leads_core after (core_of core regs) (core_of next regs) here.page here.host course refl
      (leads_kept r after (core_of core regs) here.page here.host was on.tables on.ram apart leads))
  | inr other ↦ subst (λ (page : ℕ). Leads after (core_of next regs) page there.host) (sym (paged other.1)) (no_window after (core_of next regs) there.host)
]

next_aligned : (pc : ℕ) → pc % 4 ≡ 0 → (pc + 4) % 18446744073709551616 % 4 ≡ 0
next_aligned pc aligned = omega arith

-- a write to RAM, after which the hart goes on at the next instruction
pub write_goes : (r after : Region) (core next : Kept) (regs : HRegs) (lines held : List (Option CacheLine)) (at n value : ℕ) → MayAttempt r core regs lines
    → core.reservation ≡ None → Walked r.tables regs.hgatp lines held → length r.tables ≤ at → IsHostPlace r at n → after ≡ write_host r at n value
    → next.csrs ≡ core.csrs → next.reservation ≡ core.reservation → next.pc ≡ (core.pc + 4) % 18446744073709551616 → GoesOn r after core next regs lines held
write_goes r after core next regs lines held at n value ready free walked behind place same csrs reservation moved =
    subst (λ (x : Region). GoesOn r x core next regs lines held) (sym same) (record {
      ready = record {
        step = record { aligned = subst (λ (pc : ℕ). pc % 4 ≡ 0) (sym moved) (next_aligned core.pc ready.step.aligned); mode = ready.step.mode };
        walk = record {
          second = ready.walk.second;
          apart = apart_kept r (write_host r at n value) regs.hgatp (write_after r at n value behind) (write_size r at n value behind place) ready.walk.apart;
          agrees = subst (λ (t : List ℕ). CacheAgrees t held) (sym (write_after r at n value behind)) walked.agrees;
        };
      };
      free = reservation ∙ free;
      tables = write_after r at n value behind;
      ram = write_size r at n value behind place;
      filled = walked.filled;
    })
