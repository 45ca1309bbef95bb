-- The bytes of parts as a sum.
use Rattle.std.proofs.Common.{◌≡◌, ℕ, ◌+◌, List, [], ◌∷◌, map, sum, refl, ◌∙◌, ap}
use Rattle.std.proofs.lemmas.List.Sums.{sum_by-cons}
use Rattle.spec_reference.specs.VirtioRequests.{bytes_in}
use Rattle.sv_types.specs.declared.virtio.VirtioPart.{VirtioPart}

pub sum_of_bytes : (parts : List VirtioPart) → sum (map (λ (part : VirtioPart). part.len) parts) ≡ bytes_in parts
sum_of_bytes [] = refl
sum_of_bytes (part ∷ parts) =
    sum_by-cons (λ (n : ℕ). n) part.len (map (λ (p : VirtioPart). p.len) parts)
    ∙ ap (λ (n : ℕ). part.len + n) (sum_of_bytes parts)
