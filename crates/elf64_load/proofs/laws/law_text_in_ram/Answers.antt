use Rattle.elf64_load.proofs.LoadedText.{text_in_ram}
use Rattle.elf64_load.proofs.laws.law_text_in_ram.Goals as goal

pub returns : goal.returns
returns c = text_in_ram
