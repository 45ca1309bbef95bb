-- What every answer of SecVisor's has in common: the machine that stands for a state goes with the state, and its frame is kept.
use Rattle.std.proofs.lemmas.List.{append-nil}
use Rattle.laws_simulation.proofs.Stays.{length_set}
use Rattle.std.proofs.Common.{◌≡◌, ℕ, zero, suc, ◌≤◌, List, [], ◌∷◌, ◌++◌, length, drop, map, refl, sym, ◌∙◌, ap, subst, Bool, true, false, slice_get, slice_set, arith}
use Rattle.std.specs.Prelude.{Option, Some, option_map, if◌then◌else◌}
use Rattle.spec_processor.specs.HypervisorRegisters.{HypervisorRegisters}
use Rattle.sv_types.specs.ApprovedPages.{ApprovedPage}
use Rattle.sv_types.specs.declared.protection.Protection.{Protection}
use Rattle.sv_types.specs.declared.saved.ModulePlacement.{ModulePlacement}
use Rattle.spec_reference.specs.States.{State, Hart, Loading, Devices, Journal, protections_of}
use Rattle.sv_types.specs.Protections.{is_free}
use Rattle.spec_hardware.specs.Machine.{Machine, HwHart, HwLoad, update}
use Rattle.spec_hardware.specs.StandsFor.{Unseen, IsRightFor, machine_of, hw_hart, hw_harts, load_kept, without_printed}
use Rattle.laws_simulation.specs.Agree.{IsAt}
use Rattle.laws_simulation.proofs.HwOfSlots.{hw_harts_update}
use Rattle.spec_hardware.specs.HardwareEvent.{Answers, Others, Nobody, MayChange, others_changed, hart_answered, devices_answered, journal_answered}

-- bytes are printed after those that were
pub record Adds (old new : List ℕ) : Type 0 where
  pub added : List ℕ
  pub same : new ≡ old ++ added

pub prints_none : (printed : List ℕ) → Adds printed printed
prints_none printed = record { added = []; same = sym (append-nil printed) }

pub dropped_more : (list more : List ℕ) (n : ℕ) → n ≤ length list → drop n (list ++ more) ≡ drop n list ++ more
dropped_more list more zero small = refl
dropped_more [] more (suc n) small = absurd (omega arith)
dropped_more (x ∷ list) more (suc n) small = dropped_more list more n (omega arith)

longer : (list more : List ℕ) (n : ℕ) → n ≤ length list → n ≤ length (list ++ more)
longer list more zero small = omega arith
longer [] more (suc n) small = absurd (omega arith)
longer (x ∷ list) more (suc n) small = let rest = longer list more n (omega arith) in omega arith

left_by_adds : (n : ℕ) (old new : List ℕ) → Adds old new → n ≤ length old → n ≤ length new
left_by_adds n old new k small = subst (λ (list : List ℕ). n ≤ length list) (sym k.same) (longer old k.added n small)

-- the machine after an answer is what the state after it makes of the same unseen parts but for a hart's exit registers, and
-- the answer stays in its frame
pub record Mirrors (o : Unseen) (r : State) (h : ℕ) (after : Machine) (next : State) : Type 0 where
  pub unseen : Unseen
  pub same : after ≡ machine_of unseen next
  pub tables : unseen.tables ≡ o.tables
  pub cleared : unseen.cleared ≡ o.cleared
  pub exits : length unseen.exits ≡ length next.harts
  pub printed : o.cleared ≤ length next.journal.printed
  pub ram : next.ram ≡ r.ram
  pub rules : next.rules ≡ r.rules
  pub frame : Answers (machine_of o r) h after

-- ---- choices

pub choose : (o : Unseen) (r : State) (h : ℕ) (b : Bool) (m n : Machine) (x y : State) → Mirrors o r h m x → Mirrors o r h n y
    → Mirrors o r h (if b then m else n) (if b then x else y)
choose o r h true m n x y s t = s
choose o r h false m n x y s t = t

-- ---- the state and the machine with all parts changed that an answer may change

abbrev pub mirrored_state : State → List Hart → List ApprovedPage → List ℕ → List ModulePlacement → Option Loading → Bool → Devices → Journal → State
mirrored_state r harts approved held loaded loading retired d j = record r {
  harts = harts;
  approved = approved;
  held = held;
  loaded = loaded;
  loading = loading;
  retired = retired;
  devices = d;
  journal = j;
}

abbrev pub mirrored_machine : Unseen → State → List HwHart → List Protection → List ModulePlacement → Option HwLoad → Bool → Devices → Journal → Machine
mirrored_machine o r hw_all protections loaded loading retired d j = record (machine_of o r) {
  harts = hw_all;
  protections = protections;
  dma = map is_free protections;
  loaded = loaded;
  loading = loading;
  retired = retired;
  devices = d;
  journal = without_printed o.cleared j;
}

abbrev pub hw_harts_in : Unseen → State → List HwHart
hw_harts_in o r = hw_harts (length o.tables) o.exits r.harts

all_same : (o : Unseen) (r : State) (exits : List HypervisorRegisters) (hw_all : List HwHart) (harts : List Hart)
    (approved : List ApprovedPage) (held : List ℕ) (loaded : List ModulePlacement) (loading : Option Loading) (retired : Bool) (d : Devices) (j : Journal)
    (protections : List Protection) (hl : Option HwLoad)
    → hw_all ≡ hw_harts (length o.tables) exits harts
    → protections_of (record r { approved = approved; held = held }) ≡ protections
    → option_map (load_kept r.rules r.ram) loading ≡ hl
    → mirrored_machine o r hw_all protections loaded hl retired d j ≡ machine_of (record o { exits = exits }) (mirrored_state r harts approved held loaded loading retired d j)
unfolding machine_of
all_same o r exits hw_all harts approved held loaded loading retired d j protections hl e f g = rw (e, sym f, sym g) refl

abbrev pub hosted_as : Unseen → State → List HwHart → List Protection → List ModulePlacement → Option HwLoad → Bool → Devices → Journal → Machine
hosted_as o r hw_all protections loaded loading retired d j = record (machine_of o r) {
  harts = hw_all;
  protections = protections;
  dma = map is_free protections;
  loaded = loaded;
  loading = loading;
  retired = retired;
  devices = d;
  journal = j;
}

devices_same : (old d : Devices) → d.clock.time ≡ old.clock.time → d ≡ devices_answered old d.console d.disk d.clock.timers
devices_same old d e = ap (λ (t : ℕ). record { console = d.console; disk = d.disk; clock = record { time = t; timers = d.clock.timers } }) e

journal_same : (n : ℕ) (old j : Journal) (k : Adds old.printed j.printed) → n ≤ length old.printed → without_printed n j ≡ journal_answered (without_printed n old) k.added j.notes j.counts j.verdict
journal_same n old j k small =
    ap (λ (list : List ℕ). record { printed = list; notes = j.notes; counts = j.counts; verdict = j.verdict })
    (ap (drop n) k.same ∙ dropped_more old.printed k.added n small)

all_frame : (o : Unseen) (r : State) (h : ℕ) (hw_all : List HwHart) (hw : HwHart) (others : Others)
    (loaded : List ModulePlacement) (retired : Bool) (d : Devices) (j : Journal) (protections : List Protection) (hl : Option HwLoad)
    → hw_all ≡ others_changed others (update (hw_harts_in o r) h (hart_answered hw)) → MayChange (hw_harts_in o r) others
    → d.clock.time ≡ r.devices.clock.time → Adds r.journal.printed j.printed → o.cleared ≤ length r.journal.printed
    → Answers (machine_of o r) h (mirrored_machine o r hw_all protections loaded hl retired d j)
unfolding machine_of
all_frame o r h hw_all hw others loaded retired d j protections hl e may time adds small = record {
  answer = record {
    tables = o.tables;
    protections = protections;
    dma = map is_free protections;
    hart = hw;
    others = others;
    loaded = loaded;
    loading = hl;
    retired = retired;
    console = d.console;
    disk = d.disk;
    timers = d.clock.timers;
    printed = adds.added;
    notes = j.notes;
    counts = j.counts;
    verdict = j.verdict;
  };
  size = refl;
  may = may;
  same = ap (λ (x : List HwHart). hosted_as o r x protections loaded hl retired d (without_printed o.cleared j)) e
      ∙ ap (λ (x : Devices). hosted_as o r (others_changed others (update (hw_harts_in o r) h (hart_answered hw))) protections loaded hl retired x (without_printed o.cleared j))
      (devices_same r.devices d time)
      ∙ ap (hosted_as o r (others_changed others (update (hw_harts_in o r) h (hart_answered hw))) protections loaded hl retired (devices_answered r.devices d.console d.disk d.clock.timers))
      (journal_same o.cleared r.journal j adds small);
}

pub mirrored : (o : Unseen) (r : State) (h : ℕ) (exits : List HypervisorRegisters) (hw_all : List HwHart) (hw : HwHart) (others : Others) (harts : List Hart)
    (approved : List ApprovedPage) (held : List ℕ) (loaded : List ModulePlacement) (loading : Option Loading) (retired : Bool) (d : Devices) (j : Journal)
    (protections : List Protection) (hl : Option HwLoad)
    → IsRightFor o r
    → hw_all ≡ hw_harts (length o.tables) exits harts
    → hw_all ≡ others_changed others (update (hw_harts_in o r) h (hart_answered hw)) → MayChange (hw_harts_in o r) others
    → length exits ≡ length harts
    → protections_of (record r { approved = approved; held = held }) ≡ protections
    → option_map (load_kept r.rules r.ram) loading ≡ hl
    → d.clock.time ≡ r.devices.clock.time
    → Adds r.journal.printed j.printed
    → Mirrors o r h (mirrored_machine o r hw_all protections loaded hl retired d j) (mirrored_state r harts approved held loaded loading retired d j)
mirrored o r h exits hw_all hw others harts approved held loaded loading retired d j protections hl p e e2 may size f g time adds = record {
  unseen = record o { exits = exits };
  same = all_same o r exits hw_all harts approved held loaded loading retired d j protections hl e f g;
  tables = refl;
  cleared = refl;
  exits = size;
  printed = left_by_adds o.cleared r.journal.printed j.printed adds p.cleared;
  ram = refl;
  rules = refl;
  frame = all_frame o r h hw_all hw others loaded retired d j protections hl e2 may time adds p.cleared;
}

-- what an answer changes but for pages and modules, on both sides
pub record Changed (o : Unseen) (r : State) (h : ℕ) : Type 0 where
  pub exits : List HypervisorRegisters
  pub hw_all : List HwHart
  pub hw : HwHart
  pub others : Others
  pub harts : List Hart
  pub devices : Devices
  pub journal : Journal
  pub same : hw_all ≡ hw_harts (length o.tables) exits harts
  pub frame : hw_all ≡ others_changed others (update (hw_harts_in o r) h (hart_answered hw))
  pub may : MayChange (hw_harts_in o r) others
  pub size : length exits ≡ length harts
  pub time : devices.clock.time ≡ r.devices.clock.time
  pub adds : Adds r.journal.printed journal.printed

pub with_parts : (o : Unseen) (r : State) (h : ℕ) (x : Changed o r h) (approved : List ApprovedPage) (held : List ℕ) (loaded : List ModulePlacement) (loading : Option Loading) (retired : Bool)
    (protections : List Protection) (hl : Option HwLoad) → IsRightFor o r
    → protections_of (record r { approved = approved; held = held }) ≡ protections
    → option_map (load_kept r.rules r.ram) loading ≡ hl
    → Mirrors o r h (mirrored_machine o r x.hw_all protections loaded hl retired x.devices x.journal) (mirrored_state r x.harts approved held loaded loading retired x.devices x.journal)
with_parts o r h x approved held loaded loading retired protections hl right e f =
    mirrored o r h x.exits x.hw_all x.hw x.others x.harts approved held loaded loading retired x.devices x.journal protections hl right x.same x.frame x.may x.size e f x.time x.adds

-- ---- one hart

pub update_sets : (harts : List HwHart) (h : ℕ) (hw : HwHart) (change : HwHart → HwHart) → slice_get harts h ≡ Some hw
    → update harts h change ≡ slice_set harts h (change hw)
unfolding update
update_sets [] h hw change e = cc
update_sets (x ∷ harts) zero hw change e = let same : x ≡ hw = cc in rw same refl
update_sets (x ∷ harts) (suc h) hw change e = ap (◌∷◌ x) (update_sets harts h hw change e)

pub hw_there : (t : ℕ) (exits : List HypervisorRegisters) (harts : List Hart) (h : ℕ) (c : HypervisorRegisters) (hart : Hart)
    → slice_get exits h ≡ Some c → slice_get harts h ≡ Some hart → slice_get (hw_harts t exits harts) h ≡ Some (hw_hart t c hart)
unfolding hw_harts
hw_there t [] harts h c hart e f = cc
hw_there t (d ∷ exits) [] h c hart e f = cc
hw_there t (d ∷ exits) (x ∷ harts) zero c hart e f = let p : d ≡ c = cc in let q : x ≡ hart = cc in rw (p, q) refl
hw_there t (d ∷ exits) (x ∷ harts) (suc h) c hart e f = hw_there t exits harts h c hart e f

-- what is changed of a hart lies in the frame, since scounteren stays
own_same : (t : ℕ) (c : HypervisorRegisters) (hart next : Hart) → hart.supervisor.scounteren ≡ next.supervisor.scounteren
    → hw_hart t c next ≡ hart_answered (hw_hart t c next) (hw_hart t c hart)
own_same t c hart next e = rw e refl

pub framed : (o : Unseen) (r : State) (h : ℕ) (hart next : Hart) (c : HypervisorRegisters) (change : HwHart → HwHart) → IsAt o r h hart c
    → change (hw_hart (length o.tables) c hart) ≡ hw_hart (length o.tables) c next → hart.supervisor.scounteren ≡ next.supervisor.scounteren
    → update (hw_harts_in o r) h change ≡ update (hw_harts_in o r) h (hart_answered (hw_hart (length o.tables) c next))
framed o r h hart next c change at e same =
    let t : ℕ = length o.tables in
    let there = hw_there t o.exits r.harts h c hart at.exits at.found in
    update_sets (hw_harts_in o r) h (hw_hart t c hart) change there
    ∙ ap (slice_set (hw_harts_in o r) h) (e ∙ own_same t c hart next same)
    ∙ sym (update_sets (hw_harts_in o r) h (hw_hart t c hart) (hart_answered (hw_hart t c next)) there)

-- a hart, devices and the journal
pub one_hart : (o : Unseen) (r : State) (h : ℕ) (hart next : Hart) (c : HypervisorRegisters) (change : HwHart → HwHart) (d : Devices) (j : Journal)
    → IsAt o r h hart c → change (hw_hart (length o.tables) c hart) ≡ hw_hart (length o.tables) c next
    → hart.supervisor.scounteren ≡ next.supervisor.scounteren → d.clock.time ≡ r.devices.clock.time → Adds r.journal.printed j.printed
    → Mirrors o r h (record (machine_of o r) { harts = update (hw_harts_in o r) h change; devices = d; journal = without_printed o.cleared j })
    (record r { harts = slice_set r.harts h next; devices = d; journal = j })
unfolding machine_of others_changed
one_hart o r h hart next c change d j at e same time adds =
    mirrored o r h o.exits (update (hw_harts_in o r) h change) (hw_hart (length o.tables) c next) Nobody (slice_set r.harts h next)
    r.approved r.held r.loaded r.loading r.retired d j (protections_of r) (option_map (load_kept r.rules r.ram) r.loading) at.right
    (hw_harts_update (length o.tables) o.exits r.harts h c hart next change at.exits at.found e)
    (framed o r h hart next c change at e same)
    _ (at.right.exits ∙ sym (length_set r.harts h next)) refl refl time adds

-- no hart is changed
same_set : {A : Type 0} (xs : List A) (h : ℕ) (x : A) → slice_get xs h ≡ Some x → xs ≡ slice_set xs h x
same_set [] h x e = cc
same_set (y ∷ xs) zero x e = let same : y ≡ x = cc in rw same refl
same_set (y ∷ xs) (suc h) x e = ap (◌∷◌ y) (same_set xs h x e)

pub no_hart : (o : Unseen) (r : State) (h : ℕ) (hart : Hart) (c : HypervisorRegisters) (loading : Option Loading) (hl : Option HwLoad) (j : Journal)
    → IsAt o r h hart c → option_map (load_kept r.rules r.ram) loading ≡ hl → Adds r.journal.printed j.printed
    → Mirrors o r h (record (machine_of o r) { loading = hl; journal = without_printed o.cleared j }) (record r { loading = loading; journal = j })
unfolding machine_of others_changed
no_hart o r h hart c loading hl j at e adds =
    let t : ℕ = length o.tables in
    let there = hw_there t o.exits r.harts h c hart at.exits at.found in
    mirrored o r h o.exits (hw_harts_in o r) (hw_hart t c hart) Nobody r.harts
    r.approved r.held r.loaded loading r.retired r.devices j (protections_of r) hl at.right refl
    (same_set (hw_harts_in o r) h (hw_hart t c hart) there
    ∙ ap (slice_set (hw_harts_in o r) h) (own_same t c hart hart refl)
    ∙ sym (update_sets (hw_harts_in o r) h (hw_hart t c hart) (hart_answered (hw_hart t c hart)) there))
    _ at.right.exits refl e refl adds
