-- What callers see of a module.
use Rattle.elf64_reloc.specs.Modules.{Module}
use Rattle.elf64_reloc.specs.declared.read.ModuleImage.{ModuleImage}

abbrev pub module_view : ModuleImage → Module
module_view image = record { text = image.text.items; sites = image.sites.items }
