-- A chain of which a first part is read already.
use Rattle.std.proofs.Common.{◌≡◌, ℕ, suc, ◌+◌, ◌-◌, ◌*◌, ◌<◌, true, false, nat_lt, List, [], ◌∷◌, ◌++◌, Option, Some, None, option_map, refl, ◌∙◌, sym, ap, append_assoc, arith}
use Rattle.spec_reference.specs.VirtioChain.{descriptor_at, with_rest, chain, max_parts}
use Rattle.sv_types.specs.declared.virtio.VirtioDescriptor.{VirtioDescriptor}
use Rattle.sv_types.specs.declared.virtio.VirtioPart.{VirtioPart}

-- what was read, before the rest
abbrev pub before : List VirtioPart → Option (List VirtioPart) → Option (List VirtioPart)
before parts rest = option_map (λ more. parts ++ more) rest

pub before_none : (rest : Option (List VirtioPart)) → before [] rest ≡ rest
before_none None = refl
before_none (Some parts) = refl

pub before_one_more : (parts : List VirtioPart) (part : VirtioPart) (rest : Option (List VirtioPart)) → before (parts ++ part ∷ []) rest ≡ before parts (option_map (λ more. part ∷ more) rest)
before_one_more parts part None = refl
before_one_more parts part (Some more) = ap Some (append_assoc parts (part ∷ []) more)

-- the step of a chain
chain_step : (n : ℕ) (ram : List ℕ) (table size index : ℕ) (d : VirtioDescriptor) → d ≡ descriptor_at ram (table + 16 * index) → index < size →
    chain (suc n) ram table size index ≡ with_rest d (chain n ram table size d.next)
unfolding chain
chain_step n ram table size index d is below =
    let test : nat_lt index size ≡ true = grind (arith, below) in
    rw (test, is) refl

after_place : (place : ℕ) → place < max_parts → max_parts - place ≡ suc (max_parts - (place + 1))
after_place place below = omega (arith, below)

pub chain_ends : (place : ℕ) (parts : List VirtioPart) (ram : List ℕ) (table size index : ℕ) (d : VirtioDescriptor) (whole : Option (List VirtioPart)) → place < max_parts →
    index < size → d ≡ descriptor_at ram (table + 16 * index) → d.is_indirect ≡ false → d.goes_on ≡ false → before parts (chain (max_parts - place) ram table size index) ≡ whole →
    Some (parts ++ d.part ∷ []) ≡ whole
unfolding with_rest
chain_ends place parts ram table size index d whole below inside is direct ends chained =
    let step = chain_step (max_parts - (place + 1)) ram table size index d is inside in
    let one : chain (max_parts - place) ram table size index ≡ Some (d.part ∷ []) = rw (after_place place below, step, direct, ends) refl in
    sym (ap (before parts) one) ∙ chained

pub chain_goes_on : (place : ℕ) (parts : List VirtioPart) (ram : List ℕ) (table size index : ℕ) (d : VirtioDescriptor) (whole : Option (List VirtioPart)) → place < max_parts →
    index < size → d ≡ descriptor_at ram (table + 16 * index) → d.is_indirect ≡ false → d.goes_on ≡ true → before parts (chain (max_parts - place) ram table size index) ≡ whole →
    before (parts ++ d.part ∷ []) (chain (max_parts - (place + 1)) ram table size d.next) ≡ whole
unfolding with_rest
chain_goes_on place parts ram table size index d whole below inside is direct goes chained =
    let step = chain_step (max_parts - (place + 1)) ram table size index d is inside in
    let rest = chain (max_parts - (place + 1)) ram table size d.next in
    let more : chain (max_parts - place) ram table size index ≡ option_map (λ more. d.part ∷ more) rest = rw (after_place place below, step, direct, goes) refl in
    before_one_more parts d.part rest ∙ sym (ap (before parts) more) ∙ chained
