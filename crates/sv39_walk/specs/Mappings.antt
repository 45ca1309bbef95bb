-- Where the G-stage maps an address, whichever the access. This project's own.
use Rattle.std.specs.Prelude.{ℕ, if◌then◌else◌, Option, Some, None}
use Rattle.spec_processor.specs.Translation.{is_leaf, leaf_address}
use Rattle.spec_processor.specs.GStage.{permits_guest}
use Rattle.spec_processor.specs.declared.pte_bits.PteBits.{PteBits}
use Rattle.spec_processor.specs.declared.access.Access.{Access}
use Rattle.sv39_walk.specs.declared.g_stage.Mapping.{Mapping}

-- the host place where the leaf permits an access
abbrev pub mapping_answer : Option Mapping → Access → Option ℕ
mapping_answer None access = None
mapping_answer (Some mapping) access = if permits_guest access mapping.leaf.0 then Some mapping.hpa else None

-- what an entry that is no pointer maps
abbrev pub found_mapping : ℕ → PteBits → ℕ → Option Mapping
found_mapping below entry address =
    if is_leaf below entry.0 then Some (record { leaf = entry; hpa = leaf_address below entry.0 address }) else None
