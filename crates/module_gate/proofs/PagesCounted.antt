-- A load with one page more, from its parts.
use Rattle.std.proofs.Common.{◌≡◌, ℕ, ◌-◌, ◌*◌, List, [], ◌∷◌, ◌++◌, sym, ◌∙◌, ap, subst, Bool, ◌&&◌}
use Rattle.spec_processor.specs.Bytes.{page_size}
use Rattle.std.specs.Prelude.{Option, Some}
use Rattle.sv_types.specs.Measure.{page_digest}
use Rattle.sv_types.specs.Policies.{Rules, ModuleRule}
use Rattle.sv_types.specs.declared.module.Site.{Site}
use Rattle.spec_reference.specs.Loads.{module_bases}
use Rattle.spec_reference.specs.Relocations.{masked_text, fields_right}
use Rattle.spec_hardware.specs.HwExits.{page_counted, page_sites}
use Rattle.spec_hardware.specs.Machine.{HwLoad}
use Rattle.page_measure.specs.Pieces.{piece_sites}
use Rattle.module_gate.specs.Gates.{next_counted}
use Rattle.module_gate.proofs.PagePieces.{piece_is_page}

pub counted_where : (rules : Rules) (rule : ModuleRule) (load : HwLoad) (found : Option ModuleRule) (bytes : List ℕ) (n size : ℕ) (digest : List ℕ) (right : Bool) (digests : List (List ℕ))
    → found ≡ Some rule → n ≡ rule.pages - load.left → size ≡ page_size
    → digest ≡ page_digest (masked_text bytes (piece_sites (page_size * n) page_size rule.sites))
    → right ≡ fields_right rules.exports (module_bases load.about) (piece_sites (page_size * n) size rule.sites) bytes
    → digests ≡ load.digests ++ digest ∷ []
    → record { hart = load.hart; about = load.about; left = load.left - 1; digests = digests; right = load.right && right } ≡ next_counted rules bytes load found
unfolding next_counted page_counted
counted_where rules rule load found bytes n size digest right digests there number whole digested judged pushed =
    let here : List Site = page_sites (rule.pages - load.left) rule.sites in
    let sites : piece_sites (page_size * n) page_size rule.sites ≡ here = piece_is_page n rule.sites ∙ ap (λ (k : ℕ). page_sites k rule.sites) number in
    let of_page : digest ≡ page_digest (masked_text bytes here) = digested ∙ ap (λ (ss : List Site). page_digest (masked_text bytes ss)) sites in
    let all : digests ≡ load.digests ++ page_digest (masked_text bytes here) ∷ [] = pushed ∙ ap (λ (d : List ℕ). load.digests ++ d ∷ []) of_page in
    let good : right ≡ fields_right rules.exports (module_bases load.about) here bytes =
    judged
    ∙ ap (λ (k : ℕ). fields_right rules.exports (module_bases load.about) (piece_sites (page_size * n) k rule.sites) bytes) whole
    ∙ ap (λ (ss : List Site). fields_right rules.exports (module_bases load.about) ss bytes) sites in
    let made : List (List ℕ) → Bool → HwLoad = λ ds r. record { hart = load.hart; about = load.about; left = load.left - 1; digests = ds; right = load.right && r } in
    subst (λ (o : Option ModuleRule). made digests right ≡ next_counted rules bytes load o) (sym there)
    (ap (λ (ds : List (List ℕ)). made ds right) all ∙ ap (λ (r : Bool). made (load.digests ++ page_digest (masked_text bytes here) ∷ []) r) good)
