use Rattle.std.proofs.Common.{◌≡◌, ◌-◌, ◌<◌, ◌≤◌, ℕ, filter, Some}
use Rattle.std.specs.Prelude.{slice_get}
use Rattle.std.specs.List.{list_any}
use Rattle.sv_types.specs.ApprovedPages.{numbers_from}
use Rattle.sv_types.specs.Kernel.{is_text_of}
use Rattle.sv_types.specs.declared.protection.Protection.TheVariants.{Free, Approved}
use Rattle.spec_reference.specs.Protections.{with_each}
use Rattle.page_guard.specs.Guarded.{TablesStayMatched}
use Rattle.elf64_load.specs.Images.{segments_of}
use Rattle.secvisor_core.proofs.boot.text.approve_text.Given as goal

-- the pages from here on are free, and those of the text are left to approve
abbrev pub invariant-pages : goal.invariant-pages
invariant-pages l =
    (with_each l.guard.pages (filter (λ page. list_any (is_text_of page) (segments_of l.image)) (numbers_from l.page (l.pages - l.page))) Approved
    ≡ with_each l.fn.guard.pages (filter (λ page. list_any (is_text_of page) (segments_of l.image)) (numbers_from 0 l.pages)) Approved)
    × (((q : ℕ) → l.page ≤ q → q < l.pages → slice_get l.guard.pages q ≡ Some Free)
    × TablesStayMatched l.fn.mem l.mem l.fn.guard l.guard)
