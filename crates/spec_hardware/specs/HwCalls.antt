-- What the answers to calls from kernel mode make of the machine. This project's own.
use Rattle.std.specs.Prelude.{ℕ, Bool, true, not, ◌&&◌, List, [], map, filter, Some, None, slice_get, is_some}
use Rattle.std.specs.List.{list_any}
use Rattle.spec_processor.specs.Bytes.{page_of}
use Rattle.spec_processor.specs.IntegerRegisters as abi
use Rattle.sv_types.specs.declared.module.Span.{Span}
use Rattle.sv_types.specs.declared.protection.Protection.{Protection}
use Rattle.sv_types.specs.declared.protection.Protection.TheVariants.{Free, Held, Approved}
use Rattle.sv_types.specs.declared.saved.ModulePlacement.{ModulePlacement}
use Rattle.spec_reference.specs.States.{has_number, module_pages, pages_in_rule, with_module, without_module}
use Rattle.spec_reference.specs.Calls.{Facts, asked_by, mask_names}
use Rattle.spec_reference.specs.ModuleCalls.{answer_of}
use Rattle.spec_reference.specs.Answers.{devices_side_effect, journal_side_effect, span_pages}
use Rattle.sv_types.specs.Protections.{is_approved, is_free}
use Rattle.spec_reference.specs.Protections.{protection_at, with_pages, with_each}
use Rattle.spec_reference.specs.declared.answers.Answer.{Answer}
use Rattle.spec_reference.specs.declared.answers.SideEffect.{SideEffect}
use Rattle.spec_reference.specs.declared.answers.SideEffect.TheVariants.{SendsInterrupts, StartsHart, BeginsLoad, ApprovesModule}
use Rattle.spec_reference.specs.declared.answers.SideEffect.TheVariants.{ReleasesModule, UnloadsModule, RetiresInit}
use Rattle.spec_reference.specs.declared.answers.Reply.{Reply}
use Rattle.spec_reference.specs.declared.answers.Reply.TheVariants.{Gives, Replies, Stays, Stops}
use Rattle.spec_hardware.specs.HardwareEvent.{interrupted_hw_harts}
use Rattle.spec_hardware.specs.HwHarts.{hw_with, hw_answered, hw_stayed, hw_stopped, hw_started}
use Rattle.spec_hardware.specs.Machine.{Machine, HwHart, update}

-- ---- to the hart, and to other harts; to devices and journal as in the reference machine

unfoldable pub hw_replied : Reply → HwHart → HwHart
hw_replied (Gives a0) hart = hw_with abi.a0 a0 hart
hw_replied (Replies a0 a1) hart = hw_answered a0 a1 hart
hw_replied Stays hart = hw_stayed hart
hw_replied Stops hart = hw_stopped hart

unfoldable pub hw_harts_side_effect : SideEffect → List HwHart → List HwHart
hw_harts_side_effect (SendsInterrupts mask base) harts = interrupted_hw_harts (mask_names mask base) 0 harts
hw_harts_side_effect (StartsHart other pc opaque) harts = update harts other (hw_started other pc opaque)
hw_harts_side_effect _ harts = harts

-- ---- to pages and modules: with the protections of pages, the devices' bits follow

abbrev pub with_protections : Machine → List Protection → Machine
with_protections m protections = record m { protections = protections; dma = map is_free protections }

abbrev pub hw_pages : Machine → ModulePlacement → ℕ
hw_pages m about = pages_in_rule (slice_get m.rules.modules about.id)

-- the module's pages with a protection
abbrev pub with_pages_of : Machine → ModulePlacement → Protection → Machine
with_pages_of m about p = with_protections m (with_pages m.protections (page_of about.gpa) (hw_pages m about) p)

-- a page that is approved and no module's is the kernel's
abbrev pub is_modules : Machine → ℕ → Bool
is_modules m page = list_any (λ (about : ModulePlacement). has_number (module_pages m.rules about) page) m.loaded

abbrev pub is_kernels : Machine → ℕ → Bool
is_kernels m page = is_approved (protection_at m.protections page) && not (is_modules m page)

abbrev pub hw_init : Machine → Span → List ℕ
hw_init m span = filter (is_kernels m) (span_pages span)

-- of a load that begins, nothing was counted yet
unfoldable pub hw_pages_side_effect : SideEffect → ℕ → Machine → Machine
hw_pages_side_effect (BeginsLoad about pages) h m = record (with_protections m (with_pages m.protections (page_of about.gpa) pages Held)) {
  loading = Some (record { hart = h; about = about; left = pages; digests = []; right = true });
}
hw_pages_side_effect (ApprovesModule about) h m = record (with_pages_of m about Approved) { loaded = with_module m.loaded about; loading = None }
hw_pages_side_effect (ReleasesModule about) h m = record (with_pages_of m about Free) { loading = None }
hw_pages_side_effect (UnloadsModule about) h m = record (with_pages_of m about Free) { loaded = without_module m.loaded about.id }
hw_pages_side_effect (RetiresInit span) h m = record (with_protections m (with_each m.protections (hw_init m span) Free)) { retired = true }
hw_pages_side_effect _ h m = m

-- ---- the whole

unfoldable pub hw_given : Machine → ℕ → Answer → Machine
hw_given m h a = record (hw_pages_side_effect a.side_effect h m) {
  harts = hw_harts_side_effect a.side_effect (update m.harts h (hw_replied a.reply));
  devices = devices_side_effect a.side_effect h m.devices;
  journal = journal_side_effect a.side_effect h m.journal;
}

abbrev pub hw_facts : Machine → Facts
hw_facts m = record {
  rules = m.rules;
  started = map (λ (hw : HwHart). hw.started) m.harts;
  input = m.devices.console;
  ram = m.region.ram;
  protected = λ page. not (is_free (protection_at m.protections page));
  loads = is_some m.loading;
  loaded = m.loaded;
  retired = m.retired;
}

abbrev pub served_call : Machine → ℕ → HwHart → Machine
served_call m h hw = hw_given m h (answer_of (hw_facts m) (asked_by hw.core.registers))
