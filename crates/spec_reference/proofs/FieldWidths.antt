-- The bytes of a relocated field, by its kind.
use Rattle.std.proofs.Common.{◌≡◌, ◌⊎◌, inl, inr, refl}
use Rattle.sv_types.specs.Policies.{site_size}
use Rattle.sv_types.specs.declared.relocation_kind.RelocationKind.{RelocationKind}
use Rattle.sv_types.specs.declared.relocation_kind.RelocationKind.TheVariants.{Word64, Branch, Jal, PcrelHi20, PcrelLo12I, PcrelLo12S, Hi20, Lo12I, Lo12S}

pub sizes : (kind : RelocationKind) → (site_size kind ≡ 4) ⊎ (site_size kind ≡ 8)
sizes Word64 = inr refl
sizes Branch = inl refl
sizes Jal = inl refl
sizes PcrelHi20 = inl refl
sizes PcrelLo12I = inl refl
sizes PcrelLo12S = inl refl
sizes Hi20 = inl refl
sizes Lo12I = inl refl
sizes Lo12S = inl refl
