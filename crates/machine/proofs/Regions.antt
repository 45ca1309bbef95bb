-- A region whose RAM is copied in.
use Rattle.std.proofs.Common.{◌≡◌, ℕ, ◌+◌, ◌-◌, ◌≤◌, List, ◌++◌, length, replicate, ◌∙◌, ap, arith, length-append}
use Rattle.std.proofs.lemmas.List.{append-nil, drop_all, length-replicate}
use Rattle.spec_processor.specs.Bytes.{overwrite}
use Rattle.spec_processor.specs.Regions.{Region, host_bytes}

pub length_both : (n k : ℕ) → length (replicate {A = ℕ} n 0 ++ replicate {A = ℕ} k 0) ≡ n + k
length_both n k = simp (length-append, length-replicate) (omega arith)

-- RAM has room for the bytes
pub bytes_fit : (r : Region) (tables n : ℕ) (bytes : List ℕ) → r ≡ record { tables = replicate tables 0; ram = replicate n 0 } → length bytes ≡ n
    → tables + length bytes ≤ length (host_bytes r)
bytes_fit r tables n bytes fresh same =
    let size : length (host_bytes r) ≡ tables + n = ap (λ (r : Region). length (host_bytes r)) fresh ∙ length_both tables n in
    omega (arith, size, same)

pub tables_sized : (r : Region) (tables n : ℕ) → r ≡ record { tables = replicate tables 0; ram = replicate n 0 } → length r.tables ≡ tables
tables_sized r tables n fresh = ap (λ (r : Region). length r.tables) fresh ∙ length-replicate tables 0

over_all : (n : ℕ) (bytes : List ℕ) → length bytes ≡ n → overwrite (replicate n 0) 0 bytes ≡ bytes
unfolding overwrite
over_all n bytes same =
    let size : length (replicate {A = ℕ} n 0) ≡ n = length-replicate n 0 in
    ap (λ (rest : List ℕ). bytes ++ rest) (drop_all (0 + length bytes) (replicate n 0) (omega (arith, size, same))) ∙ append-nil bytes

-- the bytes are RAM's
pub bytes_copied : (before after : Region) (tables n : ℕ) (bytes : List ℕ) → before ≡ record { tables = replicate tables 0; ram = replicate n 0 } → length bytes ≡ n
    → (length before.tables ≤ tables → after ≡ record before { ram = overwrite before.ram (tables - length before.tables) bytes }) → after.ram ≡ bytes
bytes_copied before after tables n bytes fresh same copied =
    let size = tables_sized before tables n fresh in
    let none : tables - length before.tables ≡ 0 = omega (arith, size) in
    ap (λ (r : Region). r.ram) (copied (omega (arith, size)))
    ∙ ap (λ (k : ℕ). overwrite before.ram k bytes) none
    ∙ ap (λ (r : Region). overwrite r.ram 0 bytes) fresh
    ∙ over_all n bytes same
