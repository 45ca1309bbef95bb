use Rattle.std.proofs.Common.{◌∙◌, List, map, ap}
use Rattle.sv_types.specs.Kernel.{kernel_segments, loaded_segment}
use Rattle.sv_types.specs.declared.kernel.ProgramHeader.{ProgramHeader}
use Rattle.elf64_load.proofs.read.read_kernel.Goals as goal

pub returns-clause-segments : goal.returns-clause-segments
unfolding kernel_segments
returns-clause-segments c =
    c.in-Ok.ensures
    ∙ ap (λ (hs : List ProgramHeader). map (loaded_segment c.args.bytes.now) hs) (c.deref.ensures.value ∙ c.in_ok-headers.ensures.headers)
