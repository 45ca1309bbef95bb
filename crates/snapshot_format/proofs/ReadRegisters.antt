-- Registers 1 to 31, read into an array after register 0.
use Rattle.std.proofs.Common.{◌≡◌, ℕ, ◌+◌, ◌-◌, ◌≤◌, ◌<◌, List, [], ◌∷◌, ◌++◌, length, take, drop, set, Ok, ap, ◌∙◌, arith}
use Rattle.std.proofs.lemmas.List.{take_all, take_more_set, drop-append-le, length-take}
use Rattle.snapshot_format.specs.Forms.{Taken, number, number_at, all_taken}
use Rattle.snapshot_format.proofs.ReadLists.{with_front, goes_on, is_done}

-- those that are read, of an array that is filled up to one place
abbrev pub registers_up_to : ℕ → List ℕ → List ℕ
registers_up_to i registers = drop 1 (take (i + 1) registers)

abbrev pub HasRead : (i : ℕ) (registers bytes : List ℕ) → Taken (List ℕ) → Type 0
HasRead i registers bytes total = with_front (registers_up_to i registers) (all_taken (λ before. number) (registers_up_to i registers) (31 - i) bytes) ≡ total

filled_more : (i value : ℕ) (registers : List ℕ) → i < 31 → length registers ≡ 32 → registers_up_to (i + 1) (set registers (i + 1) value) ≡ registers_up_to i registers ++ value ∷ []
filled_more i value registers lt size =
    let some : 1 ≤ length (take (i + 1) registers) = omega (arith, length-take (i + 1) registers, size) in
    let inside : i + 1 < length registers = omega (arith, size) in
    ap (λ (l : List ℕ). drop 1 l) (take_more_set registers (i + 1) value inside) ∙ drop-append-le 1 (take (i + 1) registers) (value ∷ []) some

pub register_read : (i value : ℕ) (registers bytes after : List ℕ) (total : Taken (List ℕ)) → i < 31 → length registers ≡ 32
    → number_at bytes ≡ Ok (value, after) → HasRead i registers bytes total → HasRead (i + 1) (set registers (i + 1) value) after total
register_read i value registers bytes after total lt size h so_far =
    rw (filled_more i value registers lt size) (goes_on (λ before. number) (registers_up_to i registers) 31 i bytes value after total lt h so_far)

pub registers_done : (i : ℕ) (registers bytes : List ℕ) (total : Taken (List ℕ)) → 31 ≤ i → length registers ≡ 32
    → HasRead i registers bytes total → total ≡ Ok (drop 1 registers, bytes)
registers_done i registers bytes total le size so_far =
    let whole : take (i + 1) registers ≡ registers = take_all (i + 1) registers (omega (arith, size)) in
    is_done (λ before. number) (registers_up_to i registers) 31 i bytes total le so_far ∙ ap (λ (l : List ℕ). Ok (drop 1 l, bytes)) whole
