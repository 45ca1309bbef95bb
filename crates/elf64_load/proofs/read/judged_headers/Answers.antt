use Rattle.std.proofs.Common.{◌∙◌, List, sym, ap}
use Rattle.sv_types.specs.Kernel.{first_refusal, image_checks}
use Rattle.sv_types.specs.declared.kernel.ProgramHeader.{ProgramHeader}
use Rattle.elf64_load.proofs.FirstRefusals.{header_refused, segment_refused, image_judged}
use Rattle.elf64_load.proofs.read.judged_headers.Goals as goal

pub returns-in-Some-clause-refused : goal.returns-in-Some-clause-refused
returns-in-Some-clause-refused c =
    header_refused c.args.file.now c.args.ram_pages c.in-Some.fault (sym c.header_refusal.ensures.first ∙ c.in-Some.is)

pub returns-in-Some-segments_refusal-clause-refused : goal.returns-in-Some-segments_refusal-clause-refused
returns-in-Some-segments_refusal-clause-refused c =
    segment_refused c.args.file.now c.args.ram_pages c.in-Some-segments_refusal.fault c.deref.result.now
    (c.deref.ensures.value ∙ c.in-Ok.ensures.loaded)
    (sym c.header_refusal.ensures.first ∙ c.in_default.is)
    (sym c.segments_refusal.ensures ∙ c.in-Some-segments_refusal.is)

pub returns-in-Some-whole-clause-refused : goal.returns-in-Some-whole-clause-refused
returns-in-Some-whole-clause-refused c =
    image_judged c.args.file.now c.args.ram_pages c.deref.result.now (c.deref.ensures.value ∙ c.in-Ok.ensures.loaded)
    (sym c.header_refusal.ensures.first ∙ c.in_default.is)
    (sym c.segments_refusal.ensures ∙ c.in_default-segments_refusal.is)
    ∙ ap (λ (hs : List ProgramHeader). first_refusal (image_checks hs)) (c.deref.ensures.value ∙ sym c.deref-2.ensures.value)
    ∙ sym c.in-Ok-image_refusal.ensures
    ∙ c.in-Some-whole.is

pub returns-clause-accepted : goal.returns-clause-accepted
returns-clause-accepted c =
    image_judged c.args.file.now c.args.ram_pages c.deref.result.now (c.deref.ensures.value ∙ c.in-Ok.ensures.loaded)
    (sym c.header_refusal.ensures.first ∙ c.in_default.is)
    (sym c.segments_refusal.ensures ∙ c.in_default-segments_refusal.is)
    ∙ ap (λ (hs : List ProgramHeader). first_refusal (image_checks hs)) (c.deref.ensures.value ∙ sym c.deref-2.ensures.value)
    ∙ sym c.in-Ok-image_refusal.ensures
    ∙ c.in_default-whole.is
