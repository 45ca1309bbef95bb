-- What a machine asks of a file and a policy before it starts. This project's own.
use Rattle.std.specs.Prelude.{◌≡◌, ℕ, List, None, ◌==◌, IsTrue}
use Rattle.std.specs.List.{list_any}
use Rattle.sv_types.specs.Kernel.{header_entry, kernel_refusal, kernel_segments, text_of}
use Rattle.sv_types.specs.Measure.{measure}
use Rattle.sv_types.specs.Policies.{Rules}

-- the file is a kernel for the policy's RAM, its text has the policy's measure, and it begins at a permitted entry
pub record IsMeasuredKernel (file : List ℕ) (rules : Rules) : Type 0 where
  pub accepted : kernel_refusal file rules.ram_pages ≡ None
  pub measured : measure (text_of (kernel_segments file)) ≡ rules.kernel
  pub permitted : IsTrue (list_any (λ entry. entry == header_entry file) rules.entries)
