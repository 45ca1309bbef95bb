use Rattle.std.proofs.Common.{◌≡◌, ◌∙◌, ◌≤◌, ℕ, List, ap, arith, length, map, subst, sym, true}
use Rattle.std.specs.Prelude.{option_map}
use Rattle.sv_types.specs.Limits.{max_harts}
use Rattle.sv_types.specs.Policies.{rules_of}
use Rattle.sv_types.specs.Views.{with_ram}
use Rattle.spec_reference.specs.declared.saved_machine.harts.SavedHart.{SavedHart}
use Rattle.snapshot_format.specs.DeviceForms as form
use Rattle.snapshot_format.specs.Snapshots.{contents}
use Rattle.module_gate.specs.Gates.{Records}
use Rattle.snapshot_format.specs.ResumedStates.{resumed_state}
use Rattle.laws_resume.specs.Resuming.{hw_resumed, load_resumed}
use Rattle.machine.proofs.Accepted.{known}
use Rattle.machine.proofs.Approved.{guard_is, load_free}
use Rattle.machine.proofs.Assembled.{devices_by, pages_guarded, tables_stay}
use Rattle.machine.proofs.resumed.parts.assemble.Goals as goal

pub copied_parts-requires-clause-each : goal.copied_parts-requires-clause-each
copied_parts-requires-clause-each c =
    let rules = rules_of c.args.policy.now in
    let s = contents c.args.snapshot in
    let k = known rules s c.requires.within c.requires.form c.requires.accepted in
    let small = c.table_bytes.ensures.region.small in
    let size = ap length c.requires.ram ∙ k.ram in
    let tables = c.table_bytes.ensures.value in
    k.sits c.table_bytes.result (omega (arith, small, size, tables))

pub copied_parts-requires-clause-notes : goal.copied_parts-requires-clause-notes
copied_parts-requires-clause-notes c = (known (rules_of c.args.policy.now) (contents c.args.snapshot) c.requires.within c.requires.form c.requires.accepted).notes

pub copied_parts-requires-clause-ascends : goal.copied_parts-requires-clause-ascends
copied_parts-requires-clause-ascends c = (known (rules_of c.args.policy.now) (contents c.args.snapshot) c.requires.within c.requires.form c.requires.accepted).ascends

pub resume_loading-loading-requires-clause-pages : goal.resume_loading-loading-requires-clause-pages
resume_loading-loading-requires-clause-pages c = pages_guarded (rules_of c.args.policy.now) (contents c.args.snapshot) c.args.guard.pages c.requires.guard

pub resume_loading-loading-requires-clause-place : goal.resume_loading-loading-requires-clause-place
resume_loading-loading-requires-clause-place c = (known (rules_of c.args.policy.now) (contents c.args.snapshot) c.requires.within c.requires.form c.requires.accepted).load

pub resume_loading-loading-requires-clause-free : goal.resume_loading-loading-requires-clause-free
resume_loading-loading-requires-clause-free c =
    let rules = rules_of c.args.policy.now in
    let s = contents c.args.snapshot in
    let k = known rules s c.requires.within c.requires.form c.requires.accepted in
    load_free rules s c.args.guard.pages k.right c.requires.guard

pub devices_of-devices-requires-clause-form : goal.devices_of-devices-requires-clause-form
devices_of-devices-requires-clause-form c =
    let rules = rules_of c.args.policy.now in
    let s = contents c.args.snapshot in
    let k = known rules s c.requires.within c.requires.form c.requires.accepted in
    subst (λ (input : List ℕ). (form.devices (form.kind_of s.port)).has (input, (s.port, s.disk)) ≡ true) (sym c.deref.ensures.value) k.devices

pub devices_of-devices-requires-clause-few : goal.devices_of-devices-requires-clause-few
devices_of-devices-requires-clause-few c =
    let rules = rules_of c.args.policy.now in
    let s = contents c.args.snapshot in
    let k = known rules s c.requires.within c.requires.form c.requires.accepted in
    subst (λ (hs : List SavedHart). length hs ≤ max_harts) (sym c.deref-2.ensures.value) k.harts

pub returns : goal.returns
unfolding resumed_state
returns c =
    let rules = rules_of c.args.policy.now in
    let s = contents c.args.snapshot in
    let k = known rules s c.requires.within c.requires.form c.requires.accepted in
    let stays = c.resume_loading-loading.ensures.tables_match in
    let size = pages_guarded rules s c.args.guard.pages c.requires.guard in
    let tables : c.table_bytes.result ≡ length c.resume_loading-loading.new.mem.tables =
    c.table_bytes.ensures.value ∙ sym (tables_stay c.args.mem c.resume_loading-loading.new.mem c.args.guard c.resume_loading-loading.new.guard c.requires.tables_match stays) in
    record {
      region = ap (with_ram c.resume_loading-loading.new.mem.tables) (stays.ram ∙ c.requires.ram);
      protections = guard_is rules s c.args.guard.pages c.resume_loading-loading.new.guard.pages k.right c.requires.guard c.resume_loading-loading.ensures.guard;
      bound = stays.bound ∙ c.requires.bound;
      tables_match = stays.tables_match;
      entries = c.in_ok-copied.ensures.entries;
      harts = c.in_ok-copied.ensures.hw_all ∙ ap (λ (n : ℕ). map (hw_resumed n) s.harts) tables;
      number = c.in_ok-copied.ensures.number ∙ k.number;
      pages = stays.size ∙ size;
      loaded = ap (λ (g : Records). g.loaded) c.resume_loading-loading.ensures.gate ∙ ap (λ (g : Records). g.loaded) c.in_ok-copied.ensures.gate;
      retired = ap (λ (g : Records). g.retired) c.resume_loading-loading.ensures.gate ∙ ap (λ (g : Records). g.retired) c.in_ok-copied.ensures.gate;
      loading = c.resume_loading-loading.ensures.load ∙ ap (λ (ram : List ℕ). option_map (load_resumed rules ram) s.loading) c.requires.ram;
      joined = record { digests = c.resume_loading-loading.ensures.digests; pages = c.resume_loading-loading.ensures.pages };
      devices = c.devices_of-devices.ensures
          ∙ ap (λ (input : List ℕ). devices_by s input c.deref-2.result.now) c.deref.ensures.value
          ∙ ap (λ (hs : List SavedHart). devices_by s s.console hs) c.deref-2.ensures.value;
      journal = c.in_ok-copied.ensures.journal;
    }
