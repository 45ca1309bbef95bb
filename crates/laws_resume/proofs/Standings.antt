-- Harts, pages and views of a machine that stands for a state.
use Rattle.std.proofs.Common.{◌≡◌, ℕ, zero, suc, ◌+◌, ◌<◌, ◌≤◌, List, [], ◌∷◌, length, refl, sym, ◌∙◌, ap, subst, true, arith, slice_get}
use Rattle.std.specs.Prelude.{Option, Some, None, option_map, slice_index_or}
use Rattle.std.proofs.lemmas.Option.{slice_get_within}
use Rattle.spec_processor.specs.Bytes.{page_of}
use Rattle.spec_processor.specs.HypervisorRegisters.{HypervisorRegisters}
use Rattle.sv_types.specs.Policies.{Rules, rules_within}
use Rattle.spec_processor.specs.GStage.{WalksApart}
use Rattle.spec_processor.specs.Roots.{IsSv39x4}
use Rattle.sv_types.specs.Views.{OfKernel, OfUser, OfEntry, with_ram, view_hgatp}
use Rattle.spec_processor.specs.declared.mode.Mode.{Mode}
use Rattle.spec_processor.specs.declared.mode.Mode.TheVariants.{Kernel, User}
use Rattle.sv_types.specs.declared.view.View.TheVariants as View
use Rattle.laws_simulation.proofs.Views.{view_walks_apart}
use Rattle.spec_reference.specs.Protections.{or_free, protection_at}
use Rattle.spec_reference.specs.States.{State, Hart, Binding, binding_of, binding_at, protection_in, protections_of}
use Rattle.spec_reference.specs.Soundness.{IsSound, IsSoundEntry}
use Rattle.spec_hardware.specs.Machine.{Machine, HwHart}
use Rattle.spec_hardware.specs.StandsFor.{Unseen, IsRightFor, machine_of, hw_hart, hw_harts, hregs_in, bound_pages}
use Rattle.laws_simulation.proofs.Under.{bound_page}
use Rattle.laws_simulation.proofs.ViewsMeet.{get_numbers, views_meet}
use Rattle.laws_simulation.proofs.Lookups.{length_pages}
use Rattle.hart.specs.Conditions.{KeepsMode}
use Rattle.laws_resume.specs.Laws.{MayAttempt, HartsLaw, HartInLaw, NoEntryLaw, IsInOrder, OrderLaw}
use Rattle.sv_types.proofs.PolicyLimits.{few_entries, few_harts}

-- ---- harts

-- each hart of the hardware is one of the reference's
record Behind (t : ℕ) (harts : List Hart) (h : ℕ) (hw : HwHart) : Type 0 where
  exits : HypervisorRegisters
  hart : Hart
  there : slice_get harts h ≡ Some hart
  same : hw_hart t exits hart ≡ hw

after_host : (t : ℕ) (exits : List HypervisorRegisters) (harts : List Hart) (h : ℕ) (hw : HwHart) → slice_get (hw_harts t exits harts) h ≡ Some hw
    → Behind t harts h hw
unfolding hw_harts
after_host t [] harts h hw e = cc
after_host t (x ∷ exits) [] h hw e = cc
after_host t (x ∷ exits) (y ∷ harts) zero hw e = record { exits = x; hart = y; there = refl; same = cc }
after_host t (x ∷ exits) (y ∷ harts) (suc h) hw e =
    let b = after_host t exits harts h hw e in record { exits = b.exits; hart = b.hart; there = b.there; same = b.same }

same_registers : (mode : Mode) (entry : Option ℕ) → hregs_in mode entry ≡ hregs_in (hregs_in mode entry).mode entry
same_registers Kernel entry = refl
same_registers User entry = refl

keeps_mode : (mode : Mode) (entry : Option ℕ) → KeepsMode (hregs_in mode entry)
keeps_mode Kernel entry = record { exceptions = λ user. cc; interrupts = λ user. cc; returns = refl }
keeps_mode User entry = record { exceptions = λ user. refl; interrupts = λ user. refl; returns = refl }

-- ---- entries that are bound

binds : (va gpa : Option ℕ) (entry : Binding) → binding_of va gpa ≡ Some entry → (x : ℕ) × ((va ≡ Some x) × (gpa ≡ Some entry.gpa))
binds None gpa entry e = absurd (cc)
binds (Some va) None entry e = absurd (cc)
binds (Some va) (Some gpa) entry e = (va, (refl, ap (option_map (λ (b : Binding). b.gpa)) e))

bound_place : (rules : Rules) (i : ℕ) (entry : Binding) → rules_within rules ≡ true → binding_at rules i ≡ Some entry → i < 64
unfolding binding_at
bound_place rules i entry within e =
    let two = binds (slice_get rules.entries i) (slice_get rules.bound i) entry e in
    let below : i < length rules.entries = slice_get_within rules.entries i two.0 two.1.0 in
    let few : length rules.entries ≤ 64 = few_entries rules within in omega arith

none_bound : (list : List ℕ) (i gpa : ℕ) → list ≡ [] → slice_get list i ≡ Some gpa → ⊥
none_bound list i gpa none e = let k : slice_get [] i ≡ Some gpa = subst (λ (l : List ℕ). slice_get l i ≡ Some gpa) none e in cc

in_none : (rules : Rules) (mode : Mode) (entry : Option ℕ) → IsSoundEntry rules mode entry → rules.bound ≡ [] → entry ≡ None
unfolding binding_at
in_none rules Kernel None known none = refl
in_none rules User None known none = refl
in_none rules Kernel (Some i) known none =
    let two = binds (slice_get rules.entries i) (slice_get rules.bound i) known.0 known.1 in absurd (none_bound rules.bound i known.0.gpa none two.1.1)
in_none rules User (Some i) known none = absurd known

-- ---- walks

entry_stage : (i : ℕ) → i < 64 → IsSv39x4 (view_hgatp (View.Entry i))
entry_stage i below = omega arith

in_stage : (rules : Rules) (mode : Mode) (entry : Option ℕ) → rules_within rules ≡ true → IsSoundEntry rules mode entry → IsSv39x4 (hregs_in mode entry).hgatp
in_stage rules Kernel None within known = refl
in_stage rules Kernel (Some i) within known = entry_stage i (bound_place rules i known.0 within known.1)
in_stage rules User entry within known = refl

walks_apart : (o : Unseen) (r : State) (mode : Mode) (entry : Option ℕ) → IsRightFor o r → IsSound r → IsSoundEntry r.rules mode entry
    → WalksApart (with_ram o.tables r.ram) (hregs_in mode entry).hgatp
walks_apart o r Kernel None p s known =
    view_walks_apart o.tables r.ram r.rules.ram_pages (view_hgatp View.Kernel) (protection_in r.approved r.held) OfKernel (p.views.each View.Kernel OfKernel refl) s.size
walks_apart o r Kernel (Some i) p s known =
    view_walks_apart o.tables r.ram r.rules.ram_pages (view_hgatp (View.Entry i)) (protection_in r.approved r.held) (OfEntry (page_of known.0.gpa))
    (p.views.each (View.Entry i) (OfEntry (page_of known.0.gpa)) (bound_page r.rules i known.0 known.1)) s.size
walks_apart o r User entry p s known =
    view_walks_apart o.tables r.ram r.rules.ram_pages (view_hgatp View.User) (protection_in r.approved r.held) OfUser (p.views.each View.User OfUser refl) s.size

may_attempt : (o : Unseen) (r : State) (h : ℕ) (hw : HwHart) → IsRightFor o r → IsSound r → Behind (length o.tables) r.harts h hw
    → MayAttempt (with_ram o.tables r.ram) hw
may_attempt o r h hw p s b = subst (MayAttempt (with_ram o.tables r.ram)) b.same (record {
  aligned = (s.harts h b.hart b.there).aligned;
  registers = same_registers b.hart.mode b.hart.entry;
  keeps = keeps_mode b.hart.mode b.hart.entry;
  stage = in_stage r.rules b.hart.mode b.hart.entry s.within (s.harts h b.hart b.there).entry;
  apart = walks_apart o r b.hart.mode b.hart.entry p s (s.harts h b.hart b.there).entry;
})

at_place : (o : Unseen) (r : State) (h : ℕ) (hw : HwHart) → IsRightFor o r → IsSound r → slice_get (machine_of o r).harts h ≡ Some hw
    → MayAttempt (machine_of o r).region hw
unfolding machine_of
at_place o r h hw p s e = may_attempt o r h hw p s (after_host (length o.tables) o.exits r.harts h hw e)

pub hart_may_attempt : HartsLaw
hart_may_attempt m r h hw stands =
    subst (λ (x : Machine). slice_get x.harts h ≡ Some hw → MayAttempt x.region hw) (sym stands.same)
    (at_place stands.unseen r h hw stands.unseen_is_right stands.sound)

index_there : (harts : List HwHart) (h : ℕ) (past : HwHart) → h < length harts → slice_get harts h ≡ Some (slice_index_or harts h past)
index_there [] h past below = absurd (omega arith)
index_there (x ∷ harts) zero past below = refl
index_there (x ∷ harts) (suc h) past below = index_there harts h past (omega arith)

pub hart_in_may_attempt : HartInLaw
hart_in_may_attempt m r h past stands below =
    hart_may_attempt m r h (slice_index_or m.harts h past) stands (index_there m.harts h past below)

no_entry_at : (o : Unseen) (r : State) (h : ℕ) (hw : HwHart) → IsSound r → (machine_of o r).rules.bound ≡ [] → slice_get (machine_of o r).harts h ≡ Some hw
    → hw.entry ≡ None
unfolding machine_of
no_entry_at o r h hw s none e =
    let b : Behind (length o.tables) r.harts h hw = after_host (length o.tables) o.exits r.harts h hw e in
    subst (λ (x : HwHart). x.entry ≡ None) b.same (in_none r.rules b.hart.mode b.hart.entry (s.harts h b.hart b.there).entry none)

pub no_entry : NoEntryLaw
no_entry m r h hw stands =
    subst (λ (x : Machine). x.rules.bound ≡ [] → slice_get x.harts h ≡ Some hw → hw.entry ≡ None) (sym stands.same)
    (no_entry_at stands.unseen r h hw stands.sound)

-- ---- sizes, pages and views

length_hw_harts : (t : ℕ) (exits : List HypervisorRegisters) (harts : List Hart) → length exits ≡ length harts → length (hw_harts t exits harts) ≡ length harts
unfolding hw_harts
length_hw_harts t [] [] size = refl
length_hw_harts t [] (y ∷ harts) size = cc
length_hw_harts t (x ∷ exits) [] size = refl
length_hw_harts t (x ∷ exits) (y ∷ harts) size = ap suc (length_hw_harts t exits harts (cc))

-- the list has each page's protection
pub listed : (r : State) (page : ℕ) → page < r.rules.ram_pages → slice_get (protections_of r) page ≡ Some (protection_in r.approved r.held page)
listed r page below =
    let same : 0 + page ≡ page = omega arith in
    get_numbers (protection_in r.approved r.held) 0 r.rules.ram_pages page below ∙ ap (λ (k : ℕ). Some (protection_in r.approved r.held k)) same

same_protection : (r : State) (page : ℕ) → page < r.rules.ram_pages → protection_in r.approved r.held page ≡ protection_at (protections_of r) page
same_protection r page below = sym (ap or_free (listed r page below))

order_of : (o : Unseen) (r : State) → IsRightFor o r → IsSound r → IsInOrder (machine_of o r)
unfolding machine_of
order_of o r p s = record {
  within = s.within;
  words = s.words;
  number = length_hw_harts (length o.tables) o.exits r.harts p.exits ∙ s.number;
  few = few_harts r.rules s.within;
  pages = length_pages (protection_in r.approved r.held) 0 r.rules.ram_pages;
  dma = refl;
  size = s.size;
  region = p.region;
  views = views_meet o.tables r.rules.ram_pages (bound_pages r.rules) (protection_in r.approved r.held) (protection_at (protections_of r)) (same_protection r) p.views;
}

pub in_order : OrderLaw
in_order m r stands = subst IsInOrder (sym stands.same) (order_of stands.unseen r stands.unseen_is_right stands.sound)
