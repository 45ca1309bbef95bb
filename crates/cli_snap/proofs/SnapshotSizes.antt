-- A snapshot's RAM has no more pages than any.
use Rattle.std.proofs.Common.{◌≡◌, ◌≤◌, true, length}
use Rattle.std.specs.Prelude.{nat_le}
use Rattle.std.proofs.lemmas.Bool.{leb-true}
use Rattle.spec_processor.specs.Regions.{max_ram_pages}
use Rattle.sv_types.specs.Limits.{min_ram_pages}
use Rattle.sv_types.specs.Policies.{ram_pages_within}
use Rattle.snapshot_format.specs.Forms.{is_word}
use Rattle.snapshot_format.specs.Snapshots.{Contents, body, events_made, hart_count, header, magic_form, page_count, snapshot, whole_body, whole_header}
use Rattle.snapshot_format.proofs.FormLaws.{first_true, second_true}

pub few_pages : (s : Contents) → snapshot.has s ≡ true → length s.protection ≤ max_ram_pages
unfolding snapshot header
few_pages s h =
    let h0 = whole_header s in
    let head = first_true (header.has h0) ((body h0).has (whole_body s)) h in
    let from_harts = second_true (events_made.has h0.events) _ (second_true (magic_form.has h0.kind) _ head) in
    let from_pages = second_true (hart_count.has h0.harts) _ from_harts in
    let good = second_true (is_word h0.ram_pages) (ram_pages_within h0.ram_pages) (first_true (page_count.has h0.ram_pages) _ from_pages) in
    leb-true h0.ram_pages max_ram_pages (second_true (nat_le min_ram_pages h0.ram_pages) (nat_le h0.ram_pages max_ram_pages) good)
