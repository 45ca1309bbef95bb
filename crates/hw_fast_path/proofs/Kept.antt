-- A write to RAM leaves walks of the G-stage as they are.
use Rattle.std.proofs.Common.{◌≡◌, ℕ, ◌-◌, ◌/◌, ◌^◌, ◌<◌, ◌≤◌, List, length, refl, sym, ◌∙◌, ap, subst, arith, Bool, true, false}
use Rattle.std.specs.Prelude.{Option, None, if◌then◌else◌, ◌==◌, nat_lt}
use Rattle.std.proofs.lemmas.Bool.Decides.{nat_tests}
use Rattle.spec_processor.specs.Regions.{Region, write_host, IsHostPlace}
use Rattle.spec_processor.specs.Translation.{Destination}
use Rattle.spec_processor.specs.GStage.{walk_guest, address_at, entry_in_region, entry_in_tables, guest_destination, ReadsTablesAlone, WalksApart, guest_address_bits}
use Rattle.spec_processor.specs.declared.access.Access.{Access}
use Rattle.laws_processor.proofs.ByteLemmas.{length_write_word}
use Rattle.hw_tlb.proofs.Walks.{IsReadable, leads_in_region, region_readable}

tables_lead : (r after : Region) (hgatp gpa : ℕ) (access : Access) → after.tables ≡ r.tables → WalksApart r hgatp → gpa < 2 ^ guest_address_bits
    → guest_destination (entry_in_tables after.tables) hgatp gpa access ≡ guest_destination (entry_in_region r) hgatp gpa access
tables_lead r after hgatp gpa access same apart near =
    ap (λ (t : List ℕ). guest_destination (entry_in_tables t) hgatp gpa access) same ∙ apart.reads gpa access near

reads_kept : (r after : Region) (hgatp gpa : ℕ) (access : Access) → after.tables ≡ r.tables → WalksApart r hgatp → gpa < 2 ^ guest_address_bits
    → ReadsTablesAlone after hgatp gpa access
reads_kept r after hgatp gpa access same apart near =
    let readable : IsReadable (guest_destination (entry_in_tables after.tables) hgatp gpa access) =
    subst (λ (d : Destination). IsReadable d) (sym (tables_lead r after hgatp gpa access same apart near)) (region_readable r hgatp gpa access) in
    sym (leads_in_region after hgatp gpa access readable)

choose_same : (b : Bool) (x y : Option ℕ) → (b ≡ true → x ≡ y) → (if b then x else None) ≡ (if b then y else None)
choose_same true x y same = same refl
choose_same false x y same = refl

near_by : (gpa : ℕ) → (gpa / 2 ^ guest_address_bits == 0) ≡ true → gpa < 2 ^ guest_address_bits
near_by gpa test = grind (arith, nat_tests)

-- where the tables stay, every walk leads where it led
pub walks_kept : (r after : Region) (hgatp gpa : ℕ) (access : Access) → after.tables ≡ r.tables → WalksApart r hgatp
    → walk_guest after hgatp gpa access ≡ walk_guest r hgatp gpa access
unfolding walk_guest
walks_kept r after hgatp gpa access same apart =
    choose_same (gpa / 2 ^ guest_address_bits == 0) (address_at (guest_destination (entry_in_region after) hgatp gpa access)) (address_at (guest_destination (entry_in_region r) hgatp gpa access))
    (λ test. ap address_at (sym (reads_kept r after hgatp gpa access same apart (near_by gpa test)) ∙ tables_lead r after hgatp gpa access same apart (near_by gpa test)))

pub apart_kept : (r after : Region) (hgatp : ℕ) → after.tables ≡ r.tables → length after.ram ≡ length r.ram → WalksApart r hgatp → WalksApart after hgatp
apart_kept r after hgatp same size apart = record {
  reads = λ gpa access near. reads_kept r after hgatp gpa access same apart near;
  leads = λ gpa hpa access e.
      let old = apart.leads gpa hpa access (sym (walks_kept r after hgatp gpa access same apart) ∙ e) in
      let tables : length after.tables ≡ length r.tables = ap (λ (t : List ℕ). length t) same in
      (omega (arith, tables, old.0), omega (arith, tables, size, old.1));
}

-- a write after the tables leaves the size of RAM
pub write_size : (r : Region) (at n value : ℕ) → length r.tables ≤ at → IsHostPlace r at n → length (write_host r at n value).ram ≡ length r.ram
unfolding write_host
write_size r at n value behind place =
    let test : nat_lt at (length r.tables) ≡ false = grind (arith, nat_tests) in
    let inside = place.inside in
    rw test (length_write_word r.ram (at - length r.tables) n value (omega (arith, behind, inside)))
