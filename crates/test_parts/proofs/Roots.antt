-- Under the roots of both views every walk reads the tables alone and leads to RAM.
use Rattle.std.proofs.Common.{◌≡◌, ℕ, ◌*◌, ◌⊎◌, inl, inr, [], length, refl}
use Rattle.spec_processor.specs.Bytes.{page_size}
use Rattle.spec_processor.specs.Regions.{Region}
use Rattle.sv_types.specs.Views.{AreViews, OfKernel, OfUser, view_hgatp}
use Rattle.spec_processor.specs.GStage.{WalksApart}
use Rattle.sv_types.specs.declared.protection.Protection.{Protection}
use Rattle.sv_types.specs.declared.view.View.TheVariants.{Kernel, User}
use Rattle.laws_simulation.proofs.Views.{view_walks_apart}

pub roots_walk_apart : (r : Region) (ram_pages hgatp : ℕ) (protections : ℕ → Protection) → AreViews r.tables ram_pages [] protections
    → length r.ram ≡ page_size * ram_pages → (hgatp ≡ view_hgatp Kernel) ⊎ (hgatp ≡ view_hgatp User) → WalksApart r hgatp
roots_walk_apart r ram_pages hgatp protections views size (inl kernel) =
    rw kernel (view_walks_apart r.tables r.ram ram_pages (view_hgatp Kernel) protections OfKernel (views.each Kernel OfKernel refl) size)
roots_walk_apart r ram_pages hgatp protections views size (inr user) =
    rw user (view_walks_apart r.tables r.ram ram_pages (view_hgatp User) protections OfUser (views.each User OfUser refl) size)
