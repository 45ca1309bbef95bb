use Rattle.std.proofs.Common.{map, sym, ◌∙◌}
use Rattle.sv_types.specs.declared.image_fault.ImageFault.{ImageFault}
use Rattle.sv_types.specs.Kernel.{image_check, header_checks, file_checks, table_checks}
use Rattle.elf64_load.proofs.FirstRefusals.{refused, image_passed, image_refused}
use Rattle.elf64_load.proofs.checks.header_refusal.Goals as goal
use Rattle.sv_types.proofs.FileChecks.{passed}

pub returns-in-Some-clause-first : goal.returns-in-Some-clause-first
unfolding header_checks
returns-in-Some-clause-first c =
    let header = image_refused (file_checks 2 c.args.file.now) c.in-Some.fault (sym c.file_refusal.ensures.first ∙ c.in-Some.is) in
    sym (refused (map image_check (file_checks 2 c.args.file.now)) (table_checks c.args.file.now) (ImageFault.Header c.in-Some.fault) header)

pub returns-clause-first : goal.returns-clause-first
unfolding header_checks
returns-clause-first c =
    c.table_refusal.ensures.first
    ∙ sym (passed (map image_check (file_checks 2 c.args.file.now)) (table_checks c.args.file.now)
    (image_passed (file_checks 2 c.args.file.now) (sym c.file_refusal.ensures.first ∙ c.in_default.is)))
