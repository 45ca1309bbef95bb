-- What keeps a policy within its limits: words in their ranges, and short files. This project's own.
use Rattle.std.specs.Prelude.{◌≤◌, ◌^◌, Bool, ◌&&◌, length}
use Rattle.sv_types.specs.Policies.{harts_within, ram_pages_within, entries_count_within, entries_within, init_within}
use Rattle.policy_making.specs.Making.{ModuleFile, Terms}

abbrev pub terms_within : Terms → Bool
terms_within s =
    harts_within s.harts && ram_pages_within s.ram_pages && entries_count_within (length s.entries) &&
    entries_within s.entries && init_within s.ram_pages s.init

-- the file of an object is at most 4 GiB
abbrev pub IsShort : ModuleFile → Type 0
IsShort o = length o.bytes ≤ 2 ^ 32
