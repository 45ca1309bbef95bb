-- What was saved of a state has an encoding.
use Rattle.std.proofs.Common.{◌≡◌, ℕ, ◌*◌, ◌≤◌, List, [], length, refl, sym, ◌∙◌, ap, subst, true, ◌&&◌, arith}
use Rattle.std.specs.Prelude.{◌==◌, nat_le, IsTrue}
use Rattle.std.proofs.lemmas.Bool.{eq-eqb}
use Rattle.spec_processor.specs.Bytes.{page_size}
use Rattle.sv_types.specs.Policies.{Rules, rules_within, format_within, harts_within, ram_pages_within, numbers_within, lists_within, init_within, modules_count_within, modules_within}
use Rattle.sv_types.specs.declared.port.PortState.{PortState}
use Rattle.sv_types.specs.declared.protection.Protection.{Protection}
use Rattle.sv_types.specs.Limits.{max_events}
use Rattle.spec_reference.specs.Soundness.{IsSound}
use Rattle.spec_reference.specs.States.{State, protection_in, protections_of}
use Rattle.spec_reference.specs.SavedStates.{saved_harts}
use Rattle.snapshot_format.specs.DeviceForms.{console, devices, kind_of, port}
use Rattle.snapshot_format.specs.Forms.{is_word}
use Rattle.snapshot_format.specs.HartForms.{flag, harts}
use Rattle.snapshot_format.specs.JournalForms.{counts, journal}
use Rattle.snapshot_format.specs.PageForms.{gate, modules, pages, protections, text}
use Rattle.snapshot_format.specs.Snapshots.{Contents, magic_form, body, contents, events_made, hart_count, header, page_count, snapshot, whole_header}
use Rattle.snapshot_format.specs.Typed.{IsTyped}
use Rattle.snapshot_format.specs.declared.whole.TextPage.{TextPage}
use Rattle.snapshot_format.proofs.FormLaws.{both_true, first_true, second_true}
use Rattle.laws_resume.specs.Keepable.{AscendFrom, IsKeepable, IsKeepableJournal}
use Rattle.laws_resume.specs.Resumed.{KeepsDigests}
use Rattle.laws_resume.specs.SavedForm.{HasDevice, IsCounted, SavedFormLaw}
use Rattle.laws_resume.proofs.FormParts.{least_is, small_word}
use Rattle.laws_resume.proofs.SavedAccepted.{saved_contents}
use Rattle.laws_resume.proofs.SavedHarts.{flag_has, harts_have}
use Rattle.laws_resume.proofs.SavedJournals.{counts_have, notes_have, verdict_has}
use Rattle.laws_resume.proofs.SavedPages.{loading_has, modules_have, protections_have, text_has}
use Rattle.laws_resume.proofs.SavedResumes.{contents_are, contents_of, length_saved}
use Rattle.laws_resume.proofs.TakenPages.{AllBelow}
use Rattle.laws_simulation.proofs.Lookups.{length_pages}
use Rattle.sv_types.proofs.PolicyLimits.{few_pages, few_harts}

-- ---- harts and pages are as many as the policy says

record AreWithin (rules : Rules) : Type 0 where
  harts : harts_within rules.harts ≡ true
  pages : ram_pages_within rules.ram_pages ≡ true
  few : rules.ram_pages ≤ 262144
  four : rules.harts ≤ 4

within_parts : (rules : Rules) → IsTrue (rules_within rules) → AreWithin rules
within_parts rules within =
    let numbers : numbers_within rules ≡ true =
    first_true (numbers_within rules) (lists_within rules)
    (first_true (numbers_within rules && lists_within rules) (init_within rules.ram_pages rules.init)
    (first_true (numbers_within rules && lists_within rules && init_within rules.ram_pages rules.init) (modules_count_within (length rules.modules))
    (first_true (numbers_within rules && lists_within rules && init_within rules.ram_pages rules.init && modules_count_within (length rules.modules))
    (modules_within (length rules.exports) rules.modules) within))) in
    let both = first_true (format_within rules.format && harts_within rules.harts) (ram_pages_within rules.ram_pages) numbers in
    let harts = second_true (format_within rules.format) (harts_within rules.harts) both in
    let pages = second_true (format_within rules.format && harts_within rules.harts) (ram_pages_within rules.ram_pages) numbers in
    record {
      harts = harts;
      pages = pages;
      few = few_pages rules within;
      four = few_harts rules within;
    }

-- ---- the parts

console_has : (bytes : List ℕ) → length bytes ≤ 256 → console.has bytes ≡ true
unfolding console
console_has bytes few =
    both_true _ (length bytes == length bytes)
    (both_true (is_word (length bytes)) (nat_le (length bytes) 256) (small_word (length bytes) (omega (arith, few))) (least_is (length bytes) 256 few))
    (eq-eqb (length bytes) (length bytes) refl)

-- what is saved of a state, for any harts and pages that are as many
record HasSizes (r : State) (c : Contents) : Type 0 where
  harts : length c.harts ≡ r.rules.harts
  pages : length c.protection ≡ r.rules.ram_pages

header_has : (r : State) (c : Contents) → AreWithin r.rules → HasSizes r c → c.events ≤ max_events → is_word c.time ≡ true → header.has (whole_header c) ≡ true
unfolding header
header_has r c w k few time =
    both_true (magic_form.has (kind_of c.port)) _ refl
    (both_true (events_made.has c.events) _ (both_true (is_word c.events) _ (small_word c.events (omega (arith, few))) (least_is c.events max_events few))
    (both_true (hart_count.has (length c.harts)) _
    (subst (λ (n : ℕ). hart_count.has n ≡ true) (sym k.harts) (both_true (is_word r.rules.harts) _ (small_word r.rules.harts (let most = w.four in omega (arith, most))) w.harts))
    (both_true (page_count.has (length c.protection)) _
    (subst (λ (n : ℕ). page_count.has n ≡ true) (sym k.pages) (both_true (is_word r.rules.ram_pages) _ (small_word r.rules.ram_pages (let most = w.few in omega (arith, most))) w.pages))
    time)))

sizes : (r : State) (events : ℕ) (ts : List TextPage) (p : PortState) (d : List ℕ) → IsSound r → HasSizes r (saved_contents r events ts p d)
sizes r events ts p d sound = record {
  harts = length_saved r.devices.clock 0 r.harts ∙ sound.number;
  pages = length_pages (protection_in r.approved r.held) 0 r.rules.ram_pages;
}

harts_part : (r : State) (events : ℕ) (ts : List TextPage) (p : PortState) (d : List ℕ) → IsSound r → IsKeepable r → AreWithin r.rules
    → IsTyped (saved_contents r events ts p d) → (harts (length (protections_of r)) (length (saved_harts r.devices.clock 0 r.harts))).has (saved_harts r.devices.clock 0 r.harts) ≡ true
unfolding harts
harts_part r events ts p d sound keepable w typed =
    let k = sizes r events ts p d sound in
    subst (λ (n : ℕ). (harts n (length (saved_harts r.devices.clock 0 r.harts))).has (saved_harts r.devices.clock 0 r.harts) ≡ true) (sym k.pages)
    (subst (λ (n : ℕ). (harts r.rules.ram_pages n).has (saved_harts r.devices.clock 0 r.harts) ≡ true) (sym (length_saved r.devices.clock 0 r.harts))
    (harts_have r.rules r.devices.clock 0 [] r.harts sound.within w.few sound.harts keepable.harts typed.harts))

whole : (r : State) (events : ℕ) (ts : List TextPage) (p : PortState) (d : List ℕ) → IsSound r → IsKeepable r → KeepsDigests r ts
    → IsTyped (saved_contents r events ts p d) → HasDevice (saved_contents r events ts p d) → IsCounted (saved_contents r events ts p d) → snapshot.has (saved_contents r events ts p d) ≡ true
unfolding snapshot body pages gate devices journal
whole r events ts p d sound keepable digests typed device counted =
    let c : Contents = saved_contents r events ts p d in
    let w = within_parts r.rules sound.within in
    let k = sizes r events ts p d sound in
    let text_is : (text r.rules.ram_pages).has ts ≡ true =
    text_has r.rules.ram_pages ts w.few (subst (AscendFrom 0) (sym digests.pages) keepable.text.ascends) (subst (AllBelow r.rules.ram_pages) (sym digests.pages) keepable.text.inside) typed.text in
    let journal_is : IsKeepableJournal (length c.harts) r.journal.notes r.journal.counts.notes r.journal.verdict =
    subst (λ (n : ℕ). IsKeepableJournal n r.journal.notes r.journal.counts.notes r.journal.verdict) (sym k.harts) keepable.journal in
    both_true (header.has (whole_header c)) _ (header_has r c w k counted.few typed.time)
    (both_true ((harts (length c.protection) (length c.harts)).has c.harts) _ (harts_part r events ts p d sound keepable w typed)
    (both_true _ _ (both_true ((protections (length c.protection)).has c.protection) _ (protections_have c.protection)
    (subst (λ (n : ℕ). (text n).has ts ≡ true) (sym k.pages) text_is))
    (both_true _ _ (both_true (modules.has r.loaded) _ (modules_have r sound keepable.modules typed.modules)
    (both_true (flag.has r.retired) _ (flag_has r.retired) (loading_has r sound keepable.load typed.loading)))
    (both_true _ _ (both_true (console.has r.devices.console) _ (console_has r.devices.console keepable.console)
    (both_true ((port (kind_of p)).has p) _ device.port device.disk))
    (both_true _ _ (both_true ((counts events).has r.journal.counts) _ (counts_have events r.journal.counts counted.few counted.counts)
    (both_true _ _ (notes_have (length c.harts) r.journal.counts.notes r.journal.notes r.journal.verdict journal_is typed.notes)
    (verdict_has (length c.harts) r.journal.verdict journal_is.last typed.verdict)))
    (eq-eqb (length r.ram) (page_size * length c.protection) (sound.size ∙ ap (λ (n : ℕ). page_size * n) (sym k.pages))))))))

pub saved_form_law : SavedFormLaw
saved_form_law r s sound keepable saved digests typed device counted =
    let same : contents s ≡ saved_contents r s.events s.text.items s.«machine».port s.«machine».disk.items =
    contents_are r s saved ∙ ap (λ (ps : List Protection). contents_of r s.events s.text.items ps s.«machine».port s.«machine».disk.items) saved.protection in
    subst (λ (c : Contents). snapshot.has c ≡ true) (sym same)
    (whole r s.events s.text.items s.«machine».port s.«machine».disk.items sound keepable digests (subst IsTyped same typed) (subst HasDevice same device) (subst IsCounted same counted))
