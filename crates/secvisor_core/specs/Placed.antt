-- The segments of an image that lie in RAM, and what their bytes leave of a region.
use Rattle.std.specs.Prelude.{◌≡◌, ℕ, ◌*◌, List, length}
use Rattle.std.specs.List.{All}
use Rattle.spec_processor.specs.Bytes.{page_size}
use Rattle.spec_processor.specs.Regions.{Region}
use Rattle.sv_types.specs.Kernel.{LoadedSegment}
use Rattle.elf64_load.specs.Images.{IsPlaced}

-- all of them in so many pages of RAM
abbrev pub ArePlaced : ℕ → List LoadedSegment → Type 0
ArePlaced ram_pages ss = All (IsPlaced (page_size * ram_pages)) ss

-- the tables are as they were, and RAM has the same size
pub record KeepsShape (before after : Region) : Type 0 where
  pub tables : after.tables ≡ before.tables
  pub size : length after.ram ≡ length before.ram
