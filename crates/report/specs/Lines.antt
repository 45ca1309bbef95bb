-- The lines of a survey's findings. This project's own.
use Rattle.std.specs.Prelude.{ℕ, List, [], ◌++◌, ◌==◌, if◌then◌else◌, flat_map, Option, Some, None, codes, slice_get}
use Rattle.std.specs.Fmt.{decimal}
use Rattle.sv_types.specs.Output.{line_end, address_text}
use Rattle.elf64_load.specs.Symbols.{Location}
use Rattle.elf64_load.specs.Names.{KernelNames, name_of_gpa, name_of_pc}
use Rattle.elf64_load.specs.Printed.{escaped, location_text}
use Rattle.page_measure.specs.declared.fields.wrong.WrongField.{WrongField}
use Rattle.sv_types.specs.Policies.{ModuleRule}
use Rattle.sv_types.specs.declared.event.Note.{Note}
use Rattle.report.specs.Findings.{FoundByNotes, PassedWrites, RefusedLoads, found_by}
use Rattle.report.specs.declared.findings.findings.Finding.{Finding}
use Rattle.report.specs.declared.findings.loads.RefusedLoad.{RefusedLoad}

-- the name of an address, or a dash
unfoldable pub name_text : Option Location → List ℕ
name_text None = codes "-"
name_text (Some location) = location_text location

-- who wrote, how often, and when first
unfoldable pub write_head : Finding → List ℕ
write_head f =
    codes "write pc " ++
    (address_text f.key ++ (codes " times " ++ (decimal f.times ++ (codes " hart " ++ (decimal f.hart ++ (codes " turn " ++ decimal f.turn))))))

-- and where
unfoldable pub write_range : Finding → List ℕ
write_range f = codes " gpa " ++ (address_text f.low ++ (codes " to " ++ (address_text f.high ++ codes " by ")))

-- the parts of a line, one after another
abbrev pub joined_line : (head range by at : List ℕ) → List ℕ
joined_line head range by at = ((((head ++ range) ++ by) ++ codes " at ") ++ at) ++ line_end

-- the names are those of the pc and of the lowest address
unfoldable pub write_line : KernelNames → Finding → List ℕ
write_line names f = joined_line (write_head f) (write_range f) (name_text (name_of_pc names f.key)) (name_text (name_of_gpa names f.low))

unfoldable pub write_lines : KernelNames → List Finding → List ℕ
write_lines names findings = flat_map (write_line names) findings

-- how many writes there were, where there were any
unfoldable pub total_line : (total : ℕ) → List ℕ
total_line total = if total == 0 then [] else codes "writes " ++ (decimal total ++ line_end)

-- ---- demotions and denied moves

unfoldable pub fetch_head : Finding → List ℕ
fetch_head f = codes "fetch gpa " ++ (address_text f.key ++ (codes " times " ++ (decimal f.times ++ (codes " hart " ++ decimal f.hart))))

unfoldable pub fetch_first : Finding → List ℕ
fetch_first f = codes " turn " ++ (decimal f.turn ++ (codes " pc " ++ (address_text f.first ++ codes " by ")))

abbrev pub joined_fetch : (head first by : List ℕ) → List ℕ
joined_fetch head first by = ((head ++ first) ++ by) ++ line_end

unfoldable pub fetch_line : KernelNames → Finding → List ℕ
fetch_line names f = joined_fetch (fetch_head f) (fetch_first f) (name_text (name_of_pc names f.first))

unfoldable pub fetch_lines : KernelNames → List Finding → List ℕ
fetch_lines names findings = flat_map (fetch_line names) findings

unfoldable pub denied_line : Finding → List ℕ
denied_line f = codes "denied gpa " ++ (address_text f.key ++ (codes " times " ++ (decimal f.times ++ line_end)))

unfoldable pub denied_lines : List Finding → List ℕ
denied_lines findings = flat_map denied_line findings

-- ---- refused loads

-- the name of a module of the policy, its bytes that aren't seen characters escaped
unfoldable pub module_text : Option ModuleRule → List ℕ
module_text None = codes "-"
module_text (Some rule) = flat_map escaped rule.name

-- the text isn't the one that was measured, or else its first wrong field: where it stands in the text, what it holds, and what is due
unfoldable pub fault_text : Option WrongField → List ℕ
fault_text None = codes " measure"
fault_text (Some f) =
    codes " field " ++ (address_text f.offset ++ (codes " holds " ++ (address_text f.holds ++ (codes " due " ++ address_text f.due))))

unfoldable pub load_end : RefusedLoad → List ℕ
load_end l = codes " hart " ++ (decimal l.hart ++ (codes " turn " ++ (decimal l.turn ++ line_end)))

abbrev pub joined_load : (name fault rest : List ℕ) → List ℕ
joined_load name fault rest = ((codes "load " ++ name) ++ fault) ++ rest

unfoldable pub load_line : List ModuleRule → RefusedLoad → List ℕ
load_line modules l = joined_load (module_text (slice_get modules l.id)) (fault_text l.wrong) (load_end l)

unfoldable pub load_lines : List ModuleRule → List RefusedLoad → List ℕ
load_lines modules loads = flat_map (load_line modules) loads

-- how many loads were refused, where any were
unfoldable pub loads_line : (total : ℕ) → List ℕ
loads_line total = if total == 0 then [] else codes "loads " ++ (decimal total ++ line_end)

-- all that is said of refused loads
unfoldable pub all_loads : List ModuleRule → RefusedLoads → List ℕ
all_loads modules loads = load_lines modules loads.kept ++ loads_line loads.total

-- ---- all of a survey: the writes that it passed over, the loads that were refused, and what its notes say

unfoldable pub found_lines : KernelNames → List ModuleRule → PassedWrites → RefusedLoads → FoundByNotes → List ℕ
found_lines names modules writes loads found =
    (((write_lines names writes.findings ++ total_line writes.total) ++ fetch_lines names found.demotions) ++ all_loads modules loads)
    ++ denied_lines found.denied

abbrev pub survey_lines : KernelNames → List ModuleRule → PassedWrites → RefusedLoads → List Note → List ℕ
survey_lines names modules writes loads notes = found_lines names modules writes loads (found_by notes)
