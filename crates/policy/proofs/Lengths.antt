-- Inner lists of a wrong length.
use Rattle.std.proofs.Common.{◌≡◌, ℕ, List, [], ◌∷◌, length, refl, Err}
use Rattle.toml.specs.View.{items_view}
use Rattle.toml.specs.declared.value.Value.{Value}
use Rattle.sv_types.specs.declared.module.Site.{Site}
use Rattle.sv_types.specs.declared.policy.Export.{Export}
use Rattle.policy.specs.Bindings.{binding_of_items}
use Rattle.policy.specs.declared.binding.Binding.{Binding}
use Rattle.policy.specs.Text.{export_of_items, init_of_items, site_of_items}
use Rattle.policy_limits.specs.declared.policy_fault.PolicyFault.{PolicyFault}

pub export_of_others : (before : List Export) (vs : List Value) → ¬ (length vs ≡ 2) → Err PolicyFault.WrongKind ≡ export_of_items before (items_view vs)
export_of_others before [] h = refl
export_of_others before (_ ∷ []) h = refl
export_of_others before (_ ∷ _ ∷ []) h = absurd (h refl)
export_of_others before (_ ∷ _ ∷ _ ∷ vs) h = refl

pub binding_of_others : (ram_pages : ℕ) (before : List Binding) (vs : List Value) → ¬ (length vs ≡ 2) → Err PolicyFault.WrongKind ≡ binding_of_items ram_pages before (items_view vs)
binding_of_others ram_pages before [] h = refl
binding_of_others ram_pages before (_ ∷ []) h = refl
binding_of_others ram_pages before (_ ∷ _ ∷ []) h = absurd (h refl)
binding_of_others ram_pages before (_ ∷ _ ∷ _ ∷ vs) h = refl

pub init_of_others : (ram_pages : ℕ) (vs : List Value) → ¬ (length vs ≡ 2) → Err PolicyFault.WrongKind ≡ init_of_items ram_pages (items_view vs)
init_of_others ram_pages [] h = refl
init_of_others ram_pages (_ ∷ []) h = refl
init_of_others ram_pages (_ ∷ _ ∷ []) h = absurd (h refl)
init_of_others ram_pages (_ ∷ _ ∷ _ ∷ vs) h = refl

pub site_of_others : (pages exports : ℕ) (before : List Site) (vs : List Value) → ¬ (length vs ≡ 5) → Err PolicyFault.WrongKind ≡ site_of_items pages exports before (items_view vs)
site_of_others pages exports before [] h = refl
site_of_others pages exports before (_ ∷ []) h = refl
site_of_others pages exports before (_ ∷ _ ∷ []) h = refl
site_of_others pages exports before (_ ∷ _ ∷ _ ∷ []) h = refl
site_of_others pages exports before (_ ∷ _ ∷ _ ∷ _ ∷ []) h = refl
site_of_others pages exports before (_ ∷ _ ∷ _ ∷ _ ∷ _ ∷ []) h = absurd (h refl)
site_of_others pages exports before (_ ∷ _ ∷ _ ∷ _ ∷ _ ∷ _ ∷ vs) h = refl
