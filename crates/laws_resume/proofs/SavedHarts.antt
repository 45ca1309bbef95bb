-- The harts that were saved of a state have an encoding.
use Rattle.std.proofs.Common.{◌≡◌, ℕ, zero, suc, ◌+◌, ◌-◌, ◌*◌, ◌%◌, ◌<◌, ◌≤◌, List, [], ◌∷◌, ◌++◌, length, drop, refl, ◌∙◌, ap, subst, Bool, true, false, not, ◌&&◌, ◌||◌, arith, slice_get}
use Rattle.std.specs.Prelude.{Option, Some, None, option_map, ◌==◌, nat_le, IsTrue}
use Rattle.std.specs.List.{list_all}
use Rattle.std.proofs.lemmas.Bool.{eq-eqb, ne_eqb, or_right}
use Rattle.std.proofs.lemmas.List.{length-drop}
use Rattle.spec_processor.specs.Bits.{flag as bit_of}
use Rattle.spec_processor.specs.Bytes.{page_size, ram_base, is_ram_address}
use Rattle.spec_processor.specs.Registers.{software_bit, legal_status, legal_interrupts, legal_tvec, legal_counteren, legal_epc, legal_satp}
use Rattle.spec_processor.specs.Requests.{reserved_bytes}
use Rattle.spec_processor.specs.declared.mode.Mode.{Mode}
use Rattle.spec_processor.specs.declared.mode.Mode.TheVariants.{Kernel, User}
use Rattle.sv_types.specs.Clock.{Clock}
use Rattle.sv_types.specs.Policies.{Rules, rules_within}
use Rattle.spec_reference.specs.Soundness.{IsSoundEntry, IsSoundHart}
use Rattle.spec_reference.specs.States.{Hart, Binding, binding_at, binding_of}
use Rattle.spec_reference.specs.SavedStates.{gpa_at, saved_hart, saved_harts}
use Rattle.spec_reference.specs.declared.saved_machine.harts.SavedHart.{SavedHart}
use Rattle.snapshot_format.specs.Forms.{number, is_word, has_all}
use Rattle.snapshot_format.specs.HartForms.{multiple_of, begins_with_0, flag, hart, legal, mode, place, registers, reservation, is_reservable, privilege, status, trap_status}
use Rattle.snapshot_format.specs.Typed.{are_registers, are_words, is_typed_hart, supervisor_numbers}
use Rattle.snapshot_format.proofs.FormLaws.{both_true, first_true, second_true}
use Rattle.laws_resume.specs.Keepable.{AreKeepable, IsKeepableHart, IsReservable}
use Rattle.laws_resume.proofs.FormParts.{least_is, less_is, small_word}
use Rattle.std.proofs.lemmas.Bool.{eqb-true}
use Rattle.sv_types.proofs.PolicyLimits.{few_entries}

-- ---- numbers

pub word_at : (xs : List ℕ) (i n : ℕ) → are_words xs ≡ true → slice_get xs i ≡ Some n → is_word n ≡ true
word_at [] i n all at = cc
word_at (x ∷ xs) zero n all at = let same : x ≡ n = cc in subst (λ (k : ℕ). is_word k ≡ true) same (first_true (is_word x) (are_words xs) all)
word_at (x ∷ xs) (suc i) n all at = word_at xs i n (second_true (is_word x) (are_words xs) all) at

pub words_after : (xs : List ℕ) (k : ℕ) → are_words xs ≡ true → are_words (drop k xs) ≡ true
words_after xs zero all = all
words_after [] (suc k) all = refl
words_after (x ∷ xs) (suc k) all = words_after xs k (second_true (is_word x) (are_words xs) all)

numbers_have : (before xs : List ℕ) → are_words xs ≡ true → has_all (λ before. number) before (length xs) xs ≡ true
unfolding has_all
numbers_have before [] all = refl
numbers_have before (x ∷ xs) all =
    both_true (is_word x) _ (first_true (is_word x) (are_words xs) all) (numbers_have (before ++ x ∷ []) xs (second_true (is_word x) (are_words xs) all))

legal_has : (bits : ℕ → ℕ) (n : ℕ) → is_word n ≡ true → bits n ≡ n → (legal bits).has n ≡ true
unfolding legal
legal_has bits n w e = both_true (is_word n) (bits n == n) w (eq-eqb (bits n) n e)

pub aligned_has : (size n : ℕ) → is_word n ≡ true → n % size ≡ 0 → (multiple_of size).has n ≡ true
unfolding multiple_of
aligned_has size n w e = both_true (is_word n) (n % size == 0) w (eq-eqb (n % size) 0 e)

pub flag_has : (b : Bool) → flag.has b ≡ true
unfolding flag
flag_has true = refl
flag_has false = refl

-- ---- mode and entry

bound_inside : (xs ys : List ℕ) (i : ℕ) (b : Binding) → binding_of (slice_get xs i) (slice_get ys i) ≡ Some b → i < length xs
bound_inside [] ys i b e = cc
bound_inside (x ∷ xs) ys zero b e = omega arith
bound_inside (x ∷ xs) [] (suc i) b e = absurd (none_bound (slice_get xs i) b e)
  where
    none_bound : (x : Option ℕ) (b : Binding) → binding_of x None ≡ Some b → ⊥
    none_bound None b e = cc
    none_bound (Some n) b e = cc
bound_inside (x ∷ xs) (y ∷ ys) (suc i) b e = let less = bound_inside xs ys i b e in omega (arith, less)

place_has : (rules : Rules) (i : ℕ) (b : Binding) → IsTrue (rules_within rules) → binding_at rules i ≡ Some b → place.has (Some i) ≡ true
unfolding place binding_at
place_has rules i b within e =
    let less = bound_inside rules.entries rules.bound i b e in
    let most = few_entries rules within in
    both_true (is_word (i + 1)) (nat_le (i + 1) 64) (small_word (i + 1) (omega (arith, less, most))) (least_is (i + 1) 64 (omega (arith, less, most)))

privilege_has : (rules : Rules) (started : Bool) (m : Mode) (entry : Option ℕ) → IsTrue (rules_within rules) → IsSoundEntry rules m entry
    → (started ≡ false → (m ≡ Kernel) × (entry ≡ None)) → privilege.has (started, (m, entry)) ≡ true
unfolding privilege flag mode place
privilege_has rules true Kernel None within k still = refl
privilege_has rules true Kernel (Some i) within k still = both_true _ _ (place_has rules i k.0 within k.1) refl
privilege_has rules true User None within k still = refl
privilege_has rules true User (Some i) within k still = absurd k
privilege_has rules false Kernel None within k still = refl
privilege_has rules false Kernel (Some i) within k still = let none : Some i ≡ None = (still refl).1 in cc
privilege_has rules false User entry within k still = let kernel : User ≡ Kernel = (still refl).0 in cc

-- ---- the reservation

reservation_has : (pages : ℕ) (x : Option ℕ) → pages ≤ 262144 → IsReservable (page_size * pages) x → (reservation pages).has (option_map gpa_at x) ≡ true
unfolding reservation
reservation_has pages None few k = refl
reservation_has pages (Some place) few k =
    let gpa : ℕ = ram_base + place in
    let inside : place < page_size * pages = k.1 in
    let whole : gpa % reserved_bytes ≡ 0 = eight place k.0 in
    both_true (not (gpa == 0)) _ (ap not (ne_eqb gpa 0 (λ e. omega (arith, e))))
    (both_true (is_word gpa) (is_reservable pages gpa) (small_word gpa (omega (arith, inside, few)))
    (or_right (gpa == 0) _ (both_true (is_ram_address pages gpa) _
    (both_true (nat_le ram_base gpa) _ (least_is ram_base gpa (omega arith)) (less_is gpa (ram_base + page_size * pages) (omega (arith, inside))))
    (eq-eqb (gpa % reserved_bytes) 0 whole))))
  where
    eight : (place : ℕ) → place % reserved_bytes ≡ 0 → (ram_base + place) % reserved_bytes ≡ 0
    eight place e = omega (arith, e)

-- ---- one hart

zero_first : (registers : List ℕ) → slice_get registers 0 ≡ Some 0 → begins_with_0 registers ≡ true
zero_first [] e = cc
zero_first (n ∷ rest) e = let same : n ≡ 0 = cc in eq-eqb n 0 same

registers_have : (xs : List ℕ) → are_registers xs ≡ true → registers.has (drop 1 xs) ≡ true
unfolding registers
registers_have xs typed =
    let long = eqb-true (length xs) 32 (first_true (length xs == 32) (are_words xs) typed) in
    let words = second_true (length xs == 32) (are_words xs) typed in
    let left : length (drop 1 xs) ≡ 31 = length-drop 1 xs ∙ less (length xs) long in
    subst (λ (n : ℕ). has_all (λ before. number) [] n (drop 1 xs) ≡ true) left (numbers_have [] (drop 1 xs) (words_after xs 1 words))
  where
    less : (n : ℕ) → n ≡ 32 → n - 1 ≡ 31
    less n e = omega (arith, e)

sip_has : (b : Bool) → (is_word (software_bit * bit_of b) && (software_bit * bit_of b == 0 || software_bit * bit_of b == software_bit)) ≡ true
sip_has true = refl
sip_has false = refl

hart_has : (rules : Rules) (clock : Clock) (h : ℕ) (one : Hart) → IsTrue (rules_within rules) → rules.ram_pages ≤ 262144 → IsSoundHart rules one
    → IsKeepableHart (page_size * rules.ram_pages) one → is_typed_hart (saved_hart clock h one) ≡ true → (hart rules.ram_pages).has (saved_hart clock h one) ≡ true
unfolding hart status trap_status
hart_has rules clock h one within few sound kept typed =
    let x : SavedHart = saved_hart clock h one in
    let ns : List ℕ = supervisor_numbers x in
    let numbers : (are_registers one.registers && are_words ns) ≡ true = first_true (are_registers one.registers && are_words ns) (is_word x.timer) typed in
    let words : are_words ns ≡ true = second_true (are_registers one.registers) (are_words ns) numbers in
    let s = one.supervisor in
    both_true (begins_with_0 one.registers) _ (zero_first one.registers kept.zero)
    (both_true (privilege.has (one.started, (one.mode, one.entry))) _
    (privilege_has rules one.started one.mode one.entry within sound.entry (λ off. let still = sound.stopped off in (still.mode, still.entry)))
    (both_true ((multiple_of 4).has one.pc) _ (aligned_has 4 one.pc (small_word one.pc sound.small) sound.aligned)
    (both_true (registers.has (drop 1 one.registers)) _ (registers_have one.registers (first_true (are_registers one.registers) (are_words ns) numbers))
    (both_true _ ((reservation rules.ram_pages).has x.reservation && is_word x.timer)
    (both_true ((legal legal_status).has s.sstatus) _ (legal_has legal_status s.sstatus (word_at ns 0 s.sstatus words refl) sound.legal.sstatus)
    (both_true ((legal legal_interrupts).has s.sie) _ (legal_has legal_interrupts s.sie (word_at ns 1 s.sie words refl) sound.legal.sie)
    (both_true ((legal legal_tvec).has s.stvec) _ (legal_has legal_tvec s.stvec (word_at ns 2 s.stvec words refl) sound.legal.stvec)
    (both_true ((legal legal_counteren).has s.scounteren) _ (legal_has legal_counteren s.scounteren (word_at ns 3 s.scounteren words refl) sound.legal.scounteren)
    (both_true (is_word s.sscratch) _ (word_at ns 4 s.sscratch words refl)
    (both_true ((legal legal_epc).has s.sepc) _ (legal_has legal_epc s.sepc (word_at ns 5 s.sepc words refl) sound.legal.sepc)
    (both_true (is_word s.scause) _ (word_at ns 6 s.scause words refl)
    (both_true (is_word s.stval) _ (word_at ns 7 s.stval words refl)
    (both_true (is_word x.sip && (x.sip == 0 || x.sip == software_bit)) _ (sip_has s.software)
    (legal_has (legal_satp 0) s.satp (word_at ns 8 s.satp words refl) sound.legal.satp))))))))))
    (both_true ((reservation rules.ram_pages).has x.reservation) (is_word x.timer) (reservation_has rules.ram_pages one.reservation few kept.reservation)
    (second_true (are_registers one.registers && are_words ns) (is_word x.timer) typed))))))

-- ---- all of them

pub harts_have : (rules : Rules) (clock : Clock) (h : ℕ) (before : List SavedHart) (hs : List Hart) → IsTrue (rules_within rules) → rules.ram_pages ≤ 262144
    → ((i : ℕ) (one : Hart) → slice_get hs i ≡ Some one → IsSoundHart rules one) → AreKeepable (page_size * rules.ram_pages) hs
    → list_all is_typed_hart (saved_harts clock h hs) ≡ true → has_all (λ before. hart rules.ram_pages) before (length hs) (saved_harts clock h hs) ≡ true
unfolding has_all saved_harts
harts_have rules clock h before [] within few sound kept typed = refl
harts_have rules clock h before (one ∷ hs) within few sound kept typed =
    both_true ((hart rules.ram_pages).has (saved_hart clock h one)) _
    (hart_has rules clock h one within few (sound 0 one refl) kept.0 (first_true (is_typed_hart (saved_hart clock h one)) _ typed))
    (harts_have rules clock (h + 1) (before ++ saved_hart clock h one ∷ []) hs within few (λ i x at. sound (suc i) x at) kept.1 (second_true (is_typed_hart (saved_hart clock h one)) _ typed))
