-- Reading a request's descriptors, and its data.
use Rattle.std.proofs.Common.{◌≡◌, ℕ, ◌+◌, ◌-◌, ◌<◌, ◌≤◌, List, [], ◌∷◌, length, take, drop, map, sum, refl, sym, ap, subst, ◌∙◌, arith}
use Rattle.std.proofs.lemmas.List.{length-take, take_all, length-drop}
use Rattle.std.proofs.lemmas.List.Sums.{sum_by-cons}
use Rattle.spec_reference.specs.VirtioRequests.{bytes_in}
use Rattle.sv_types.specs.declared.virtio.VirtioPart.{VirtioPart}
use Rattle.snapshot_format.specs.Forms.{Form, Taken, all_taken, within}
use Rattle.snapshot_format.specs.VirtioForms.{descriptor, may_stand, next_descriptor}
use Rattle.snapshot_format.proofs.ReadLists.{with_front}
use Rattle.snapshot_format.proofs.ReadRows.{HasRow}

pub descriptor_at : (count reached i : ℕ) (parts : List VirtioPart) (bytes : List ℕ) (read : Taken VirtioPart) → i < 34 → length parts ≡ 34
    → (within (may_stand count reached i) descriptor).taken bytes ≡ read → (next_descriptor count reached (take i parts)).taken bytes ≡ read
unfolding next_descriptor
descriptor_at count reached i parts bytes read lt size h =
    let place : length (take i parts) ≡ i = omega (arith, length-take i parts, size) in
    subst (λ (p : ℕ). (within (may_stand count reached p) descriptor).taken bytes ≡ read) (sym place) h

pub sum_of_bytes : (parts : List VirtioPart) → sum (map (λ (part : VirtioPart). part.len) parts) ≡ bytes_in parts
sum_of_bytes [] = refl
sum_of_bytes (part ∷ parts) =
    sum_by-cons (λ (n : ℕ). n) part.len (map (λ (p : VirtioPart). p.len) parts)
    ∙ ap (λ (n : ℕ). part.len + n) (sum_of_bytes parts)

-- the descriptors after the header, of which so many are data
after_header : (parts : List VirtioPart) → length parts ≡ 34 → take 33 (drop 1 parts) ≡ drop 1 parts
after_header parts size = let rest = length-drop 1 parts in take_all 33 (drop 1 parts) (omega (arith, rest, size))

pub data_first : (count most : ℕ) (parts : List VirtioPart) → length parts ≡ 34 → most ≡ count - 2
    → take most (take 33 (drop 1 parts)) ≡ take (count - 1 - 1) (drop 1 parts)
data_first count most parts size is =
    ap (take most) (after_header parts size) ∙ ap (λ (n : ℕ). take n (drop 1 parts)) (omega (arith, is))

pub data_whole : (count most : ℕ) (parts : List VirtioPart) → length parts ≡ 34 → most ≡ count - 2 → 33 ≤ most
    → take 33 (drop 1 parts) ≡ take (count - 1 - 1) (drop 1 parts)
data_whole count most parts size is all =
    let rest = length-drop 1 parts in
    after_header parts size ∙ sym (take_all (count - 1 - 1) (drop 1 parts) (omega (arith, rest, size, is, all)))
