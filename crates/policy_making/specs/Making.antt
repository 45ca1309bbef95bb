-- The policy of a kernel and its modules: its exports are the names that the modules want, its digests and relocated
-- fields those of the files. The judgements come in the order of the stages. This project's own.
use Rattle.std.specs.Prelude.{ℕ, Bool, List, [], ◌∷◌, ◌++◌, length, map, ◌==◌, nat_le, if◌then◌else◌}
use Rattle.std.specs.Prelude.{Option, Some, None, Ok, Err}
use Rattle.std.specs.BTreeSet.{replace_key}
use Rattle.std.specs.Cmp.Lexicographic.{slice_cmp}
use Rattle.std.specs.Ordering.{nat_cmp}
use Rattle.sv_types.specs.Kernel.{kernel_refusal, kernel_segments, text_of}
use Rattle.sv_types.specs.Limits.{max_sites, plain_format}
use Rattle.sv_types.specs.Measure.{measure}
use Rattle.sv_types.specs.Policies.{Rules, ModuleRule, sites_of}
use Rattle.sv_types.specs.declared.image_fault.ImageFault.{ImageFault}
use Rattle.sv_types.specs.declared.module.Span.{Span}
use Rattle.sv_types.specs.declared.policy.Export.{Export}
use Rattle.spec_reference.specs.Relocations.{masked_text}
use Rattle.sv_types.specs.Steps.{◌>>=◌}
use Rattle.elf64_load.specs.Judged.{each}
use Rattle.elf64_load.specs.Exports.{exports_judged}
use Rattle.elf64_reloc.specs.Modules.{Module, pages_of, names_judged, module_judged}
use Rattle.policy_making.specs.Refusals.{Judged, in_image, in_module}
use Rattle.policy_making.specs.declared.object_file.ObjectFile.{ObjectFile}
use Rattle.policy_making.specs.declared.policy.Settings.{Settings}
use Rattle.policy_making.specs.declared.refusal.MakingFault.TheVariants.{Image, TooManySites}

-- ---- what is given

-- the name and the bytes of a module's object
pub record ModuleFile : Type 0 where
  pub name : List ℕ
  pub bytes : List ℕ

abbrev pub file_of : ObjectFile → ModuleFile
file_of o = record { name = o.name; bytes = o.bytes.items }

abbrev pub file_names : List ModuleFile → List (List ℕ)
file_names objects = map (λ object. object.name) objects

-- what a policy says besides its files
pub record Terms : Type 0 where
  pub harts : ℕ
  pub ram_pages : ℕ
  pub entries : List ℕ
  pub init : Option Span

abbrev pub terms_of : Settings → Terms
terms_of s = record { harts = s.harts; ram_pages = s.ram_pages; entries = s.entries.items; init = s.init }

-- ---- the kernel

abbrev pub digest_after : Option ImageFault → List ℕ → Judged (List ℕ)
digest_after (Some fault) kernel = Err (Image fault)
digest_after None kernel = Ok (measure (text_of (kernel_segments kernel)))

-- the measure of its text
unfoldable pub kernel_digest : List ℕ → ℕ → Judged (List ℕ)
kernel_digest kernel ram_pages = digest_after (kernel_refusal kernel ram_pages) kernel

-- ---- wanted names

-- those of an object stand after those of the objects before it
unfoldable pub names_with : List (List ℕ) → List ℕ → Judged (List (List ℕ))
names_with names object = in_module (names_judged object) >>= λ wanted. Ok (names ++ wanted)

abbrev pub once_from : List (List ℕ) → List (List ℕ) → List (List ℕ)
once_from once [] = once
once_from once (name ∷ names) = once_from (replace_key (slice_cmp nat_cmp) once name) names

-- each once, in the order of their bytes
abbrev pub each_once : List (List ℕ) → List (List ℕ)
each_once = once_from []

-- ---- exports

-- the kernel's symbols matter only where a name is wanted
unfoldable pub exports_for : List ℕ → List (List ℕ) → Judged (List Export)
exports_for kernel names = if length names == 0 then Ok [] else in_image (exports_judged kernel names)

abbrev pub exports_wanted : List ℕ → List (List ℕ) → Judged (List Export)
exports_wanted kernel names = exports_for kernel (each_once names)

-- ---- modules

-- the measure is that of the text with each field cleared
abbrev pub rule_of : List ℕ → Module → ModuleRule
rule_of name m = record {
  name = name;
  pages = pages_of m.text;
  measure = measure (masked_text m.text m.sites);
  sites = m.sites;
}

unfoldable pub module_made : List Export → ModuleFile → Judged ModuleRule
module_made exports o = in_module (module_judged o.bytes exports) >>= λ m. Ok (rule_of o.name m)

abbrev pub modules_made : List Export → List ModuleFile → Judged (List ModuleRule)
modules_made exports objects = each (module_made exports) [] objects

-- ---- the policy

abbrev pub rules_with : Terms → List ℕ → List Export → List ModuleRule → Rules
rules_with s digest exports modules = record {
  format = plain_format;
  harts = s.harts;
  ram_pages = s.ram_pages;
  entries = s.entries;
  bound = [];
  exports = exports;
  kernel = digest;
  init = s.init;
  modules = modules;
}

-- the modules' sites together are few enough
abbrev pub few_sites : List ModuleRule → Bool
few_sites modules = nat_le (sites_of modules) max_sites

abbrev pub if_few_sites : Rules → Judged Rules
if_few_sites r = if few_sites r.modules then Ok r else Err TooManySites

-- the stages after those of the kernel and of the wanted names
unfoldable pub policy_after : Terms → (kernel digest : List ℕ) → List (List ℕ) → List ModuleFile → Judged Rules
policy_after s kernel digest names objects =
    exports_wanted kernel names >>= λ exports. modules_made exports objects >>= λ modules.
    if_few_sites (rules_with s digest exports modules)
