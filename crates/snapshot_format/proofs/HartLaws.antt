-- A hart has a form.
use Rattle.std.proofs.Common.{◌≡◌, ℕ, zero, suc, ◌+◌, ◌-◌, Bool, true, false, eqb, leb, List, [], ◌∷◌, length, drop, Option, Some, None, refl, sym, ap, arith}
use Rattle.std.specs.Prelude.{◌&&◌, ◌||◌, not, nat_le, ◌==◌, ◌%◌}
use Rattle.std.proofs.lemmas.Bool.{eqb-true, leb-true, not-true, ne_eqb}
use Rattle.spec_processor.specs.Registers.{legal_status, legal_interrupts, legal_tvec, legal_counteren, legal_epc, legal_satp}
use Rattle.spec_processor.specs.declared.mode.Mode.{Mode}
use Rattle.spec_processor.specs.declared.mode.Mode.TheVariants.{Kernel, User}
use Rattle.spec_reference.specs.declared.saved_machine.harts.SavedHart.{SavedHart}
use Rattle.snapshot_format.specs.FormLaw.{IsForm}
use Rattle.snapshot_format.specs.Forms.{is_word, number, within, always}
use Rattle.snapshot_format.specs.HartForms.{flag_number, flag, mode_of, is_user, mode, place_number, place_of, place, address_number}
use Rattle.snapshot_format.specs.HartForms.{address_of, is_nonzero, is_reservable, reservation, multiple_of, legal, privilege, trap_status}
use Rattle.snapshot_format.specs.HartForms.{status, registers, hart_parts, hart_of, begins_with_0, hart, harts}
use Rattle.snapshot_format.specs.JournalForms.{count}
use Rattle.snapshot_format.proofs.FormLaws.{second_true, number_is, within_is, and_then_is, made_is, listed_is, has_all_length, pair_is, numbers_are}

-- ---- small values

suc_not_0 : (n : ℕ) → eqb (suc n) 0 ≡ false
suc_not_0 n = ne_eqb (suc n) 0 (λ e. omega (arith, e))

flag_back : (b : Bool) → eqb (flag_number b) 1 ≡ b
flag_back true = refl
flag_back false = refl

flag_again : (n : ℕ) → leb n 1 ≡ true → flag_number (eqb n 1) ≡ n
flag_again zero h = refl
flag_again (suc zero) h = refl
flag_again (suc (suc n)) h = absurd (omega (arith, leb-true (suc (suc n)) 1 h))

pub flag_is : IsForm flag
unfolding flag
flag_is =
    made_is (λ n. n == 1) flag_number always (within (λ n. nat_le n 1) number) (numbers_are (λ n. nat_le n 1))
    (record { back = λ b p h. flag_back b; again = λ n h. flag_again n (second_true (is_word n) (leb n 1) h); stays = λ n h. refl })

mode_back : (m : Mode) → mode_of (is_user m) ≡ m
mode_back Kernel = refl
mode_back User = refl

mode_again : (b : Bool) → is_user (mode_of b) ≡ b
mode_again true = refl
mode_again false = refl

pub mode_is : IsForm mode
unfolding mode
mode_is = made_is mode_of is_user always flag flag_is (record { back = λ m p h. mode_back m; again = λ b h. mode_again b; stays = λ b h. refl })

place_back : (o : Option ℕ) → place_of (place_number o) ≡ o
place_back None = refl
place_back (Some n) =
    let next : n + 1 ≡ suc n = omega arith in
    let back : suc n - 1 ≡ n = omega arith in
    rw next (rw (suc_not_0 n, back) refl)

place_again : (n : ℕ) → place_number (place_of n) ≡ n
place_again zero = refl
place_again (suc n) = rw (suc_not_0 n) (omega arith)

pub place_is : IsForm place
unfolding place
place_is =
    made_is place_of place_number always (within (λ n. nat_le n 64) number) (numbers_are (λ n. nat_le n 64))
    (record { back = λ o p h. place_back o; again = λ n h. place_again n; stays = λ n h. refl })

address_back : (o : Option ℕ) → is_nonzero o ≡ true → address_of (address_number o) ≡ o
address_back None p = refl
address_back (Some n) p = rw (not-true (eqb n 0) p) refl

address_again : (n : ℕ) → address_number (address_of n) ≡ n
address_again zero = refl
address_again (suc n) = rw (suc_not_0 n) refl

address_stays : (n : ℕ) → is_nonzero (address_of n) ≡ true
address_stays zero = refl
address_stays (suc n) = rw (suc_not_0 n, suc_not_0 n) refl

pub reservation_is : (ram_pages : ℕ) → IsForm (reservation ram_pages)
unfolding reservation
reservation_is ram_pages =
    made_is address_of address_number is_nonzero (within (is_reservable ram_pages) number) (numbers_are (is_reservable ram_pages))
    (record { back = λ o p h. address_back o p; again = λ n h. address_again n; stays = λ n h. address_stays n })

pub aligned_is : (size : ℕ) → IsForm (multiple_of size)
unfolding multiple_of
aligned_is size = numbers_are (λ n. n % size == 0)

pub legal_is : (bits : ℕ → ℕ) → IsForm (legal bits)
unfolding legal
legal_is bits = numbers_are (λ n. bits n == n)

-- ---- a hart

pub privilege_is : IsForm privilege
unfolding privilege
privilege_is =
    and_then_is flag _ flag_is (λ started h.
    and_then_is (within (λ m. started || not (is_user m)) mode) _ (within_is (λ m. started || not (is_user m)) mode mode_is) (λ m p.
    within_is (λ entry. (started && not (is_user m)) || place_number entry == 0) place place_is))

pub trap_status_is : IsForm trap_status
unfolding trap_status
trap_status_is =
    pair_is _ _ (legal_is legal_epc) (pair_is _ _ number_is (pair_is _ _ number_is (pair_is _ _ (numbers_are (λ n. n == 0 || n == 2)) (legal_is (legal_satp 0)))))

pub status_is : IsForm status
unfolding status
status_is =
    pair_is _ _ (legal_is legal_status) (pair_is _ _ (legal_is legal_interrupts) (pair_is _ _ (legal_is legal_tvec)
    (pair_is _ _ (legal_is legal_counteren) (pair_is _ _ number_is trap_status_is))))

pub registers_is : IsForm registers
unfolding registers
registers_is = listed_is (λ before. number) [] 31 (λ before. number_is)

zero_first : (xs : List ℕ) → begins_with_0 xs ≡ true → 0 ∷ drop 1 xs ≡ xs
zero_first [] h = absurd cc
zero_first (n ∷ rest) h = ap (λ (m : ℕ). m ∷ rest) (sym (eqb-true n 0 h))

pub hart_is : (ram_pages : ℕ) → IsForm (hart ram_pages)
unfolding hart
hart_is ram_pages =
    made_is hart_of hart_parts (λ h. begins_with_0 h.registers) _
    (pair_is _ _ privilege_is (pair_is _ _ (aligned_is 4) (pair_is _ _ registers_is (pair_is _ _ status_is (pair_is _ _ (reservation_is ram_pages) number_is)))))
    (record {
      back = λ h p has. ap (λ (regs : List ℕ). record h { registers = regs }) (zero_first h.registers p);
      again = λ x h. refl;
      stays = λ x h. refl;
    })

pub harts_are : (ram_pages count : ℕ) → IsForm (harts ram_pages count)
unfolding harts
harts_are ram_pages count = listed_is (λ before. hart ram_pages) [] count (λ before. hart_is ram_pages)

pub harts_number : (ram_pages count : ℕ) (hs : List SavedHart) → (harts ram_pages count).has hs ≡ true → length hs ≡ count
unfolding harts
harts_number ram_pages count hs h = has_all_length (λ before. hart ram_pages) [] count hs h
