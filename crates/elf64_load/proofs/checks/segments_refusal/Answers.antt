use Rattle.std.proofs.Common.{◌∙◌, sym}
use Rattle.sv_types.specs.Kernel.{segment_checks}
use Rattle.elf64_load.proofs.FirstRefusals.{place_passed, place_refused}
use Rattle.elf64_load.proofs.checks.segments_refusal.Goals as goal

pub returns-in-Some : goal.returns-in-Some
returns-in-Some c =
    sym (sym c.headers.invariant
    ∙ place_refused (segment_checks c.args.file_size c.args.ram_pages) c.args.headers.now c.headers.header-index _ c.in-Some.fault
    c.headers-test.true
    (sym c.segment_refusal.ensures ∙ c.in-Some.is))

pub headers-preserved : goal.headers-preserved
headers-preserved c =
    place_passed (segment_checks c.args.file_size c.args.ram_pages) c.args.headers.now c.headers.header-index _ c.headers-test.true
    (sym c.segment_refusal.ensures ∙ c.in_default.is)
    ∙ c.headers.invariant
