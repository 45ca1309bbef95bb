use Rattle.std.proofs.Common.{◌≡◌, flat_map}
use Rattle.sv_types.specs.Kernel.{text_page}
use Rattle.sv_types.specs.ApprovedPages.{numbers_from}
use Rattle.elf64_load.specs.Images.{segments_of}
use Rattle.elf64_load.proofs.image.KernelImage.text.Given as goal

abbrev pub invariant-pages : goal.invariant-pages
invariant-pages l = l.text.items ≡ flat_map (text_page (segments_of l.self)) (numbers_from 0 l.page)
