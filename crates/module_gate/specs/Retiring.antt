-- Which init pages are freed: those that are approved and no loaded module's. This project's own.
use Rattle.std.specs.Prelude.{ℕ, ◌&&◌, Bool, not, List, filter}
use Rattle.std.specs.List.{list_any}
use Rattle.sv_types.specs.Policies.{Rules}
use Rattle.sv_types.specs.declared.module.Span.{Span}
use Rattle.sv_types.specs.declared.saved.ModulePlacement.{ModulePlacement}
use Rattle.sv_types.specs.declared.protection.Protection.{Protection}
use Rattle.spec_reference.specs.Answers.{span_pages}
use Rattle.spec_reference.specs.Protections.{protection_at}
use Rattle.spec_reference.specs.States.{has_number, module_pages}
use Rattle.sv_types.specs.Protections.{is_approved}

abbrev pub is_modules : Rules → List ModulePlacement → ℕ → Bool
is_modules rules loaded page = list_any (λ (about : ModulePlacement). has_number (module_pages rules about) page) loaded

abbrev pub is_kernels : Rules → List ModulePlacement → ℕ → Protection → Bool
is_kernels rules loaded page protection = is_approved protection && not (is_modules rules loaded page)

abbrev pub kernel_pages : Rules → List ModulePlacement → List Protection → Span → List ℕ
kernel_pages rules loaded guard span = filter (λ page. is_kernels rules loaded page (protection_at guard page)) (span_pages span)
