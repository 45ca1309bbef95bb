-- Under a view, a first-stage entry is read as it stands in RAM. So translation through both stages is the plain one
-- followed by the G-stage's answer for the page that it leads to.
use Rattle.std.proofs.Common.{◌≡◌, ℕ, ◌+◌, ◌*◌, ◌/◌, ◌%◌, ◌^◌, ◌<◌, ◌≤◌, inl, inr, List, length, refl, sym, ◌∙◌, ap, arith, Bool, true, false, ◌&&◌, lit<}
use Rattle.std.specs.Prelude.{Some, None, if◌then◌else◌, nat_le, nat_lt, ◌==◌}
use Rattle.std.proofs.lemmas.Bool.Decides.{nat_tests}
use Rattle.spec_processor.specs.Bytes.{word, in_ram, ram_base, ram_offset, page_of, page_size}
use Rattle.spec_processor.specs.Regions.{Region, host_word}
use Rattle.spec_processor.specs.Translation.{Destination, At, PageFault, Unreadable, entry_in_ram, first_stage, place, Settings}
use Rattle.sv_types.specs.Views.{IsView, Sight, with_ram, page_in_ram, view_permits, view_answer, under_view}
use Rattle.spec_processor.specs.GStage.{WalksInside, WalksApart, walk_guest, entry_there, entry_through, place_through, after_first_stage, two_stages, guest_address_bits}
use Rattle.spec_processor.specs.declared.access.Access.{Access}
use Rattle.spec_processor.specs.declared.access.Access.TheVariants.{Load}
use Rattle.spec_processor.specs.declared.mode.Mode.{Mode}
use Rattle.sv_types.specs.declared.protection.Protection.{Protection}
use Rattle.laws_processor.proofs.ByteLemmas.{lt_or_le}
use Rattle.laws_processor.proofs.RegionLemmas.{word_in_ram}
use Rattle.laws_processor.proofs.Walks.{Agree, first_stage_agrees}
use Rattle.laws_processor.proofs.GuestViews.{and_false, and_true}

-- 8 aligned bytes from p on are in n pages exactly where p's page is one of them
pub whole_entry : (p n : ℕ) → p % 8 ≡ 0 → nat_le (p + 8) (page_size * n) ≡ nat_lt (p / page_size) n
whole_entry p n h = grind (arith, nat_tests)

place_aligned : (a : ℕ) → a % 8 ≡ 0 → ram_offset a % 8 ≡ 0
place_aligned a h = grind arith

-- what is read where a gpa leads, as a choice
read_choice : (r : Region) (b : Bool) (at : ℕ) → entry_there r (if b then Some at else None) ≡ (if b then Some (host_word r at 8) else None)
read_choice r true at = refl
read_choice r false at = refl

pub entries_agree : (tables ram : List ℕ) (ram_pages hgatp : ℕ) (protections : ℕ → Protection) (sight : Sight)
    → IsView tables ram_pages protections sight hgatp → length ram ≡ page_size * ram_pages
    → Agree (entry_in_ram ram) (entry_through (with_ram tables ram) hgatp)
unfolding entry_in_ram entry_through view_answer
entries_agree tables ram ram_pages hgatp protections sight is_view size a aligned small =
    let p : ℕ = ram_offset a in
    let r : Region = with_ram tables ram in
    let tests : in_ram ram a 8 ≡ page_in_ram ram_pages a =
    ap (λ (n : ℕ). nat_le ram_base a && nat_le (p + 8) n) size
    ∙ ap (λ (b : Bool). nat_le ram_base a && b) (whole_entry p ram_pages (place_aligned a aligned)) in
    let left : entry_in_ram ram a ≡ (if page_in_ram ram_pages a then Some (host_word r (length tables + p) 8) else None) =
    ap (λ (b : Bool). if b then Some (word ram p 8) else None) tests
    ∙ ap (λ (x : ℕ). if page_in_ram ram_pages a then Some x else None) (sym (word_in_ram r p 8)) in
    let right : entry_through r hgatp a ≡ (if page_in_ram ram_pages a then Some (host_word r (length tables + p) 8) else None) =
    ap (entry_there r) (is_view.answers ram a Load size small)
    ∙ read_choice r (page_in_ram ram_pages a && true) (length tables + p)
    ∙ ap (λ (b : Bool). if b then Some (host_word r (length tables + p) 8) else None) (and_true (page_in_ram ram_pages a)) in
    left ∙ sym right

-- so under a view the hardware's first stage is the plain translation over RAM
pub first_stage_is_plain : (tables ram : List ℕ) (ram_pages hgatp : ℕ) (protections : ℕ → Protection) (sight : Sight)
    → IsView tables ram_pages protections sight hgatp → length ram ≡ page_size * ram_pages
    → (s : Settings) (mode : Mode) (va : ℕ) (access : Access)
    → place ram s mode va access ≡ first_stage (entry_through (with_ram tables ram) hgatp) s mode va access
unfolding place
first_stage_is_plain tables ram ram_pages hgatp protections sight is_view size s mode va access =
    first_stage_agrees (entry_in_ram ram) (entry_through (with_ram tables ram) hgatp) s mode va access
    (entries_agree tables ram ram_pages hgatp protections sight is_view size)

none_chosen : (b : Bool) (at : ℕ) → None ≡ (if b && true then Some at else None) → b ≡ false
none_chosen true at e = absurd (cc)
none_chosen false at e = refl

beyond : (n gpa : ℕ) → page_in_ram n (2 ^ guest_address_bits) ≡ false → 2 ^ 64 ≤ gpa → page_in_ram n gpa ≡ false
beyond n gpa e far = grind (arith, nat_tests)

far_walk : (r : Region) (hgatp gpa : ℕ) (access : Access) → 2 ^ 64 ≤ gpa → walk_guest r hgatp gpa access ≡ None
unfolding walk_guest
far_walk r hgatp gpa access far =
    let test : (gpa / 2 ^ guest_address_bits == 0) ≡ false = grind (arith, nat_tests) in rw test refl

walk_at_limit : (r : Region) (hgatp : ℕ) (access : Access) → walk_guest r hgatp (2 ^ guest_address_bits) access ≡ None
unfolding walk_guest
walk_at_limit r hgatp access = refl

-- every gpa at all is answered as the view says: since 2 ^ 41 faults, RAM ends below it
pub view_answers : (tables ram : List ℕ) (ram_pages hgatp : ℕ) (protections : ℕ → Protection) (sight : Sight)
    → IsView tables ram_pages protections sight hgatp → length ram ≡ page_size * ram_pages
    → (gpa : ℕ) (access : Access)
    → walk_guest (with_ram tables ram) hgatp gpa access ≡ view_answer (length tables) ram_pages sight protections gpa access
unfolding view_answer
view_answers tables ram ram_pages hgatp protections sight is_view size gpa access = elim (lt_or_le gpa (2 ^ 64)) [
  | inl near ↦ is_view.answers ram gpa access size near
  | inr far ↦
      let limit : None ≡ (if page_in_ram ram_pages (2 ^ guest_address_bits) && true then Some (length tables + ram_offset (2 ^ guest_address_bits)) else None) =
      sym (walk_at_limit (with_ram tables ram) hgatp Load) ∙ is_view.answers ram (2 ^ guest_address_bits) Load size (lit< tt) in
      let none : page_in_ram ram_pages gpa ≡ false =
      beyond ram_pages gpa (none_chosen (page_in_ram ram_pages (2 ^ guest_address_bits)) (length tables + ram_offset (2 ^ guest_address_bits)) limit) far in
      rw none (far_walk (with_ram tables ram) hgatp gpa access far)
]

then_view : (tables ram : List ℕ) (ram_pages hgatp : ℕ) (protections : ℕ → Protection) (sight : Sight)
    → IsView tables ram_pages protections sight hgatp → length ram ≡ page_size * ram_pages
    → (access : Access) (d : Destination)
    → after_first_stage (with_ram tables ram) hgatp access d ≡ under_view (length tables) ram_pages sight protections access d
unfolding after_first_stage
then_view tables ram ram_pages hgatp protections sight is_view size access (At gpa) =
    ap (place_through gpa) (view_answers tables ram ram_pages hgatp protections sight is_view size gpa access)
then_view tables ram ram_pages hgatp protections sight is_view size access PageFault = refl
then_view tables ram ram_pages hgatp protections sight is_view size access (Unreadable entry) = refl

-- and translation through both stages the plain one, followed by the view's answer, for every virtual address at all
pub two_stages_under_view : (tables ram : List ℕ) (ram_pages hgatp : ℕ) (protections : ℕ → Protection) (sight : Sight)
    → IsView tables ram_pages protections sight hgatp → length ram ≡ page_size * ram_pages
    → (s : Settings) (mode : Mode) (va : ℕ) (access : Access)
    → two_stages (with_ram tables ram) hgatp s mode va access ≡ under_view (length tables) ram_pages sight protections access (place ram s mode va access)
unfolding two_stages
two_stages_under_view tables ram ram_pages hgatp protections sight is_view size s mode va access =
    then_view tables ram ram_pages hgatp protections sight is_view size access (first_stage (entry_through (with_ram tables ram) hgatp) s mode va access)
    ∙ ap (under_view (length tables) ram_pages sight protections access)
    (sym (first_stage_is_plain tables ram ram_pages hgatp protections sight is_view size s mode va access))

-- ---- walks stay inside

chosen_inside : (b : Bool) (at n x : ℕ) → (b ≡ true → at < n) → (if b then Some at else None) ≡ Some x → x < n
chosen_inside true at n x h e = let same : at ≡ x = cc in let below = h refl in omega arith
chosen_inside false at n x h e = absurd (cc)

page_inside : (t n gpa : ℕ) (c : Bool) → (page_in_ram n gpa && c) ≡ true → t + ram_offset gpa < t + page_size * n
page_inside t n gpa true h = let k : page_in_ram n gpa ≡ true = sym (and_true (page_in_ram n gpa)) ∙ h in grind (arith, nat_tests)
page_inside t n gpa false h = let k = sym (and_false (page_in_ram n gpa)) ∙ h in absurd (cc)

-- under a view every walk leads into the region
pub view_walks_inside : (tables ram : List ℕ) (ram_pages hgatp : ℕ) (protections : ℕ → Protection) (sight : Sight)
    → IsView tables ram_pages protections sight hgatp → length ram ≡ page_size * ram_pages → WalksInside (with_ram tables ram) hgatp
unfolding view_answer
view_walks_inside tables ram ram_pages hgatp protections sight is_view size = record {
  inside = λ gpa hpa access e.
      let answer : (if page_in_ram ram_pages gpa && view_permits sight (page_of gpa) (protections (page_of gpa)) access then Some (length tables + ram_offset gpa) else None) ≡ Some hpa =
      sym (view_answers tables ram ram_pages hgatp protections sight is_view size gpa access) ∙ e in
      let below : hpa < length tables + page_size * ram_pages =
      chosen_inside (page_in_ram ram_pages gpa && view_permits sight (page_of gpa) (protections (page_of gpa)) access) (length tables + ram_offset gpa) (length tables + page_size * ram_pages) hpa
      (page_inside (length tables) ram_pages gpa (view_permits sight (page_of gpa) (protections (page_of gpa)) access)) answer in omega arith;
}

-- after the tables
chosen_after : (b : Bool) (t n x : ℕ) → (if b then Some (t + n) else None) ≡ Some x → t ≤ x
chosen_after true t n x e = let same : t + n ≡ x = cc in omega arith
chosen_after false t n x e = absurd (cc)

-- and reads the tables alone
pub view_walks_apart : (tables ram : List ℕ) (ram_pages hgatp : ℕ) (protections : ℕ → Protection) (sight : Sight)
    → IsView tables ram_pages protections sight hgatp → length ram ≡ page_size * ram_pages → WalksApart (with_ram tables ram) hgatp
unfolding view_answer
view_walks_apart tables ram ram_pages hgatp protections sight is_view size = record {
  reads = λ gpa access small. is_view.reads ram gpa access size small;
  leads = λ gpa hpa access e. (
    chosen_after (page_in_ram ram_pages gpa && view_permits sight (page_of gpa) (protections (page_of gpa)) access) (length tables) (ram_offset gpa) hpa
        (sym (view_answers tables ram ram_pages hgatp protections sight is_view size gpa access) ∙ e),
    (view_walks_inside tables ram ram_pages hgatp protections sight is_view size).inside gpa hpa access e,
  );
}
