-- A write into a free page leaves what is kept of a load under way.
use Rattle.std.proofs.Common.{◌≡◌, ℕ, zero, suc, ◌+◌, ◌*◌, ◌%◌, ◌/◌, ◌<◌, ◌≤◌, ◌⊎◌, inl, inr, List, length, refl, sym, ◌∙◌, ap, Bool, true, false, ◌||◌, arith}
use Rattle.sv_types.proofs.InPages.{aligned_in_page}
use Rattle.std.specs.Prelude.{Option, Some, None, option_map, ◌==◌, nat_le, slice_get, ◌&&◌}
use Rattle.std.proofs.lemmas.Bool.Decides.{nat_tests}
use Rattle.spec_processor.specs.Bytes.{part, write_word, low_bytes, ram_base, ram_offset, page_of, page_size}
use Rattle.sv_types.specs.Policies.{ModuleRule}
use Rattle.sv_types.specs.ApprovedPages.{numbers_from}
use Rattle.spec_processor.specs.Regions.{IsWidth}
use Rattle.laws_processor.proofs.ByteLemmas.{part_before, part_after, length_low_bytes, lt_or_le}
use Rattle.spec_reference.specs.States.{State, Loading, has_number, is_protected, is_approved_in, pages_in_rule}
use Rattle.spec_reference.specs.Loads.{module_text}
use Rattle.spec_hardware.specs.StandsFor.{load_kept_by, load_kept}
use Rattle.spec_reference.specs.Soundness.{IsSound, IsSoundLoad}
use Rattle.laws_simulation.proofs.StoresAgree.{FreeKeeps}
use Rattle.laws_simulation.proofs.Under.{whole_access}

pub or_second : (a b : Bool) → (a || b) ≡ false → b ≡ false
or_second true b e = cc
or_second false b e = e

pub or_first : (a b : Bool) → (a || b) ≡ false → a ≡ false
or_first true b e = e
or_first false b e = refl

-- a number that isn't one of those from first on lies before or after them
pub elsewhere : (first n q : ℕ) → has_number (numbers_from first n) q ≡ false → (q < first) ⊎ (first + n ≤ q)
elsewhere first zero q e = grind (arith, lt_or_le q first)
elsewhere first (suc n) q e =
    let here : (first == q) ≡ false = or_first (first == q) (has_number (numbers_from (first + 1) n) q) e in
    let apart : (q < first) ⊎ (first < q) = grind (arith, nat_tests) in
    elim (elsewhere (first + 1) n q (or_second (first == q) (has_number (numbers_from (first + 1) n) q) e)) [
      | inl before ↦ elim apart [ inl less ↦ inl less | inr more ↦ absurd (omega arith) ]
      | inr behind ↦ inr (omega arith)
    ]

text_kept : (ram : List ℕ) (from n p width value : ℕ) → IsWidth width → p % width ≡ 0 → p + width ≤ length ram → from % page_size ≡ 0
    → (p / page_size < from / page_size) ⊎ (from / page_size + n ≤ p / page_size) → part ram from (page_size * n) ≡ part (write_word ram p width value) from (page_size * n)
text_kept ram from n p width value whole aligned inside page (inl before) =
    let room = aligned_in_page width p whole aligned in
    let size : length (low_bytes width value) ≡ width = length_low_bytes width value in
    let far : p + width ≤ from = omega arith in
    sym (part_after ram (low_bytes width value) p from (page_size * n) (rw size inside) (rw size far))
text_kept ram from n p width value whole aligned inside page (inr behind) =
    let size : length (low_bytes width value) ≡ width = length_low_bytes width value in
    let far : from + page_size * n ≤ p = omega arith in
    sym (part_before ram (low_bytes width value) p from (page_size * n) (rw size inside) far)

pub rule_kept : (r : State) (load : Loading) (ram : List ℕ) (rule : Option ModuleRule)
    → module_text r.ram load.about (pages_in_rule rule) ≡ module_text ram load.about (pages_in_rule rule)
    → load_kept_by r.rules r.ram load rule ≡ load_kept_by r.rules ram load rule
unfolding load_kept_by
rule_kept r load ram None same = refl
rule_kept r load ram (Some rule) same = rw same refl

loading_stays : (r : State) (x : Option Loading) (p width value : ℕ) → IsSoundLoad r.rules r.approved r.loaded r.held x → IsWidth width → p % width ≡ 0 → p + width ≤ length r.ram
    → has_number r.held (p / page_size) ≡ false
    → option_map (load_kept r.rules r.ram) x ≡ option_map (load_kept r.rules (write_word r.ram p width value)) x
loading_stays r None p width value sound whole aligned inside free = refl
loading_stays r (Some load) p width value sound whole aligned inside free =
    let n : ℕ = pages_in_rule (slice_get r.rules.modules load.about.id) in
    let apart = elsewhere (page_of load.about.gpa) n (p / page_size) (rw sound.pages at free) in
    ap Some (rule_kept r load (write_word r.ram p width value) (slice_get r.rules.modules load.about.id)
    (text_kept r.ram (ram_offset load.about.gpa) n p width value whole aligned inside sound.aligned apart))

pub free_keeps : (r : State) (width value : ℕ) → IsSound r → IsWidth width → FreeKeeps r width value
unfolding is_protected
free_keeps r width value sound whole gpa inside free aligned =
    let p : ℕ = ram_offset gpa in
    let tests : (nat_le ram_base gpa && nat_le (p + width) (page_size * r.rules.ram_pages)) ≡ true =
    ap (λ (b : Bool). nat_le ram_base gpa && b) (whole_access width p r.rules.ram_pages whole aligned) ∙ inside in
    let fits : p + width ≤ page_size * r.rules.ram_pages = grind (arith, nat_tests) in
    let room : p + width ≤ length r.ram = rw sound.size fits in (
      room,
      loading_stays r r.loading p width value sound.load whole aligned room
          (or_second (is_approved_in r.approved (page_of gpa)) (has_number r.held (page_of gpa)) free),
    )
