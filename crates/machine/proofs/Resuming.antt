-- A machine that goes on from a snapshot stands for the state that the snapshot says, and is fit for its next event.
use Rattle.std.proofs.Common.{◌≡◌, ℕ, ◌*◌, ◌^◌, ◌≤◌, List, [], ◌∷◌, length, map, refl, ◌∙◌, ap, subst, Bool, arith}
use Rattle.std.specs.Prelude.{Option, Some, None, IsTrue, option_map}
use Rattle.spec_processor.specs.Bytes.{page_size}
use Rattle.spec_processor.specs.Regions.{Region}
use Rattle.sv_types.proofs.PolicyLimits.{few_pages}
use Rattle.sv_types.specs.Policies.{Rules, rules_within}
use Rattle.sv_types.specs.Views.{with_ram}
use Rattle.sv_types.specs.declared.protection.Protection.{Protection}
use Rattle.sv_types.specs.declared.saved.ModulePlacement.{ModulePlacement}
use Rattle.sv_types.specs.Protections.{is_free}
use Rattle.spec_reference.specs.States.{Hart, Devices, Journal}
use Rattle.spec_hardware.specs.Machine.{Machine, HwHart, HwLoad}
use Rattle.spec_hardware.specs.Reaches.{IsNew}
use Rattle.snapshot_format.specs.Snapshots.{Contents}
use Rattle.snapshot_format.specs.ResumedStates.{resumed_state}
use Rattle.laws_resume.specs.Keepable.{AreKeepable, IsReservable}
use Rattle.laws_resume.specs.ResumedSound.{IsResumable}
use Rattle.laws_resume.proofs.SnapHolds.{nothing_printed}
use Rattle.laws_resume.specs.Resuming.{hw_resumed, load_resumed, resumed_machine}
use Rattle.machine.specs.Parts.{AreResumed}
use Rattle.machine.specs.declared.resumed.parts.ResumedParts.{ResumedParts}
use Rattle.monitor_exits.specs.HwOfSlots.{hw_harts_of}
use Rattle.module_gate.specs.Parts.{loading_of}
use Rattle.machine.specs.Machines.{HasAddress, HaveAddresses, IsFit}
use Rattle.machine.proofs.NewFit.{without_reservations}

-- ---- reservations

has_address : (size : ℕ) (x : Option ℕ) → size ≤ 2 ^ 60 → IsReservable size x → HasAddress x
has_address size None most k = tt
has_address size (Some place) most k = let less = k.1 in omega (arith, less, most)

have_addresses : (size : ℕ) (hs : List Hart) → size ≤ 2 ^ 60 → AreKeepable size hs → HaveAddresses hs
have_addresses size [] most all = tt
have_addresses size (h ∷ hs) most all = (has_address size h.reservation most all.0.reservation, have_addresses size hs most all.1)

rules_are : (rules : Rules) (s : Contents) → (resumed_state rules s).rules ≡ rules
unfolding resumed_state
rules_are rules s = refl

small_ram : (rules : Rules) → IsTrue (rules_within rules) → page_size * rules.ram_pages ≤ 2 ^ 60
small_ram rules within =
    let most = few_pages rules within in omega (arith, most)

pub resumed_journal : (tables : List ℕ) (rules : Rules) (s : Contents) → (resumed_machine tables rules s).journal ≡ (resumed_state rules s).journal
unfolding resumed_machine
resumed_journal tables rules s = refl

-- ---- the machine is fit

pub resumed_fit : (m : Machine) (rules : Rules) (s : Contents) → IsTrue (rules_within rules) → IsResumable rules s → IsNew m (resumed_state rules s)
    → m.journal ≡ (resumed_state rules s).journal → IsFit (without_reservations m)
resumed_fit m rules s within resumable new journal =
    let attempts = new.attempts in
    let cleared = new.cleared in
    let printed : length m.journal.printed ≡ 0 = ap (λ (j : Journal). length j.printed) journal ∙ ap length (nothing_printed rules s) in
    record {
      state = resumed_state rules s;
      stands = new.stands;
      addresses = have_addresses (page_size * rules.ram_pages) (resumed_state rules s).harts (small_ram rules within)
          (subst (λ (r : Rules). AreKeepable (page_size * r.ram_pages) (resumed_state rules s).harts) (rules_are rules s) resumable.keepable.harts);
      attempts = omega (arith, attempts);
      few = omega (arith, attempts);
      free = tt;
      printed = omega (arith, cleared, printed);
    }

-- ---- the machine from its parts

abbrev pub machine_by : Rules → Region → List HwHart → List Protection → List ModulePlacement → Option HwLoad → Bool → Devices → Journal → ℕ → Machine
machine_by rules region harts guard loaded loading retired devices journal attempts = record {
  rules = rules;
  region = region;
  harts = harts;
  protections = guard;
  dma = map is_free guard;
  loaded = loaded;
  loading = loading;
  retired = retired;
  devices = devices;
  journal = journal;
  cleared = 0;
  attempts = attempts;
}

pub parts_resumed : (rules : Rules) (s : Contents) (p : ResumedParts) (attempts : ℕ) → AreResumed rules s p → attempts ≡ 0
    → machine_by rules p.mem (hw_harts_of p.slots.items) p.guard.pages p.modules.gate.loaded (loading_of p.modules) p.modules.gate.retired p.devices p.journal attempts
    ≡ resumed_machine p.mem.tables rules s
unfolding resumed_machine
parts_resumed rules s p attempts k none =
    let hw_all = map (hw_resumed (length p.mem.tables)) s.harts in
    let region = with_ram p.mem.tables s.ram in
    let load = option_map (load_resumed rules s.ram) s.loading in
    let state = resumed_state rules s in
    ap (λ (x : Region). machine_by rules x (hw_harts_of p.slots.items) p.guard.pages p.modules.gate.loaded (loading_of p.modules) p.modules.gate.retired p.devices p.journal attempts) k.region
    ∙ ap (λ (x : List HwHart). machine_by rules region x p.guard.pages p.modules.gate.loaded (loading_of p.modules) p.modules.gate.retired p.devices p.journal attempts) k.harts
    ∙ ap (λ (x : List Protection). machine_by rules region hw_all x p.modules.gate.loaded (loading_of p.modules) p.modules.gate.retired p.devices p.journal attempts) k.protections
    ∙ ap (λ (x : List ModulePlacement). machine_by rules region hw_all s.protection x (loading_of p.modules) p.modules.gate.retired p.devices p.journal attempts) k.loaded
    ∙ ap (λ (x : Option HwLoad). machine_by rules region hw_all s.protection s.modules x p.modules.gate.retired p.devices p.journal attempts) k.loading
    ∙ ap (λ (x : Bool). machine_by rules region hw_all s.protection s.modules load x p.devices p.journal attempts) k.retired
    ∙ ap (λ (x : Devices). machine_by rules region hw_all s.protection s.modules load s.retired x p.journal attempts) k.devices
    ∙ ap (λ (x : Journal). machine_by rules region hw_all s.protection s.modules load s.retired state.devices x attempts) k.journal
    ∙ ap (machine_by rules region hw_all s.protection s.modules load s.retired state.devices state.journal) none
