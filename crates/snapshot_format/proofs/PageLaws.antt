-- What pages are, and the modules in them, have forms.
use Rattle.std.proofs.Common.{◌≡◌, ℕ, zero, suc, Bool, true, false, leb, List, [], length, Option, Some, None, refl, ap, arith}
use Rattle.std.specs.Prelude.{◌&&◌, not, nat_lt, nat_le, is_some}
use Rattle.std.proofs.lemmas.Bool.{leb-true, not-true}
use Rattle.spec_processor.specs.Bytes.{page_size}
use Rattle.sv_types.specs.Policies.{modules_count_within}
use Rattle.sv_types.specs.declared.protection.Protection.{Protection}
use Rattle.sv_types.specs.declared.protection.Protection.TheVariants.{Free, Held, Approved}
use Rattle.spec_reference.specs.declared.saved_machine.harts.SavedHart.{SavedHart}
use Rattle.spec_reference.specs.declared.saved_machine.whole.SavedLoad.{SavedLoad}
use Rattle.snapshot_format.specs.declared.whole.TextPage.{TextPage}
use Rattle.snapshot_format.specs.FormLaw.{IsForm}
use Rattle.snapshot_format.specs.Forms.{byte, within, and_then, ◌⨾◌, always}
use Rattle.snapshot_format.specs.HartForms.{flag}
use Rattle.snapshot_format.specs.PageForms.{protection_number, protection_of, protection_form, protections, is_above, last_page}
use Rattle.snapshot_format.specs.PageForms.{text_page_of, text_page_parts, text_page, text, Pages, pages, module_of, module_parts}
use Rattle.snapshot_format.specs.PageForms.{module_within, last_id, next_module, modules, load_of, load_parts, load, some_or, nowhere}
use Rattle.snapshot_format.specs.PageForms.{load_after, load_under_way, gate}
use Rattle.snapshot_format.proofs.FormLaws.{first_true, second_true, number_is, plain_is, byte_is, nothing_is, within_is, and_then_is}
use Rattle.snapshot_format.proofs.FormLaws.{made_is, listed_is, has_all_length, counted_is, pair_is, numbers_are}
use Rattle.snapshot_format.proofs.HartLaws.{flag_is, aligned_is}

-- ---- protections

protection_back : (p : Protection) → protection_of (protection_number p) ≡ p
protection_back Free = refl
protection_back Held = refl
protection_back Approved = refl

protection_again : (n : ℕ) → leb n 2 ≡ true → protection_number (protection_of n) ≡ n
protection_again zero h = refl
protection_again (suc zero) h = refl
protection_again (suc (suc zero)) h = refl
protection_again (suc (suc (suc n))) h = absurd (omega (arith, leb-true (suc (suc (suc n))) 2 h))

pub protection_is : IsForm protection_form
unfolding protection_form
protection_is =
    made_is protection_of protection_number always (within (λ n. nat_le n 2) byte) (within_is (λ n. nat_le n 2) byte byte_is)
    (record {
      back = λ p q h. protection_back p;
      again = λ n h. protection_again n (second_true (nat_lt n 256) (leb n 2) h);
      stays = λ n h. refl;
    })

pub protections_are : (ram_pages : ℕ) → IsForm (protections ram_pages)
unfolding protections
protections_are ram_pages = listed_is (λ before. protection_form) [] ram_pages (λ before. protection_is)

pub protections_number : (ram_pages : ℕ) (ps : List Protection) → (protections ram_pages).has ps ≡ true → length ps ≡ ram_pages
unfolding protections
protections_number ram_pages ps h = has_all_length (λ before. protection_form) [] ram_pages ps h

-- ---- text

pub text_page_is : (ram_pages : ℕ) (before : List TextPage) → IsForm (text_page ram_pages before)
unfolding text_page
text_page_is ram_pages before =
    made_is text_page_of text_page_parts always _
    (pair_is _ _ (numbers_are (λ n. nat_lt n ram_pages && is_above (last_page before) n)) (plain_is 32))
    (record { back = λ t p h. refl; again = λ x h. refl; stays = λ x h. refl })

pub text_is : (ram_pages : ℕ) → IsForm (text ram_pages)
unfolding text
text_is ram_pages = counted_is (λ n. nat_le n ram_pages) (text_page ram_pages) (λ before. text_page_is ram_pages before)

pub pages_are : (ram_pages : ℕ) → IsForm (pages ram_pages)
unfolding pages
pages_are ram_pages = pair_is (protections ram_pages) (text ram_pages) (protections_are ram_pages) (text_is ram_pages)

pub pages_number : (ram_pages : ℕ) (p : Pages) → (pages ram_pages).has p ≡ true → length p.0 ≡ ram_pages
unfolding pages
pages_number ram_pages p has = protections_number ram_pages p.0 (first_true ((protections ram_pages).has p.0) ((text ram_pages).has p.1) has)

-- ---- modules

pub module_is : (good : ℕ → Bool) → IsForm (module_within good)
unfolding module_within
module_is good =
    made_is module_of module_parts always _
    (pair_is _ _ (numbers_are good) (pair_is _ _ (aligned_is page_size) (pair_is _ _ (aligned_is page_size) number_is)))
    (record { back = λ m p h. refl; again = λ x h. refl; stays = λ x h. refl })

pub modules_are : IsForm modules
unfolding modules
modules_are = counted_is modules_count_within next_module (λ before. module_is (is_above (last_id before)))

-- ---- the load under way

pub load_is : (harts : List SavedHart) → IsForm (load harts)
unfolding load
load_is harts =
    made_is load_of load_parts always _
    (pair_is _ _ (numbers_are _) (pair_is _ _ (module_is (is_above None)) (numbers_are (λ n. nat_le n 1024))))
    (record { back = λ m p h. refl; again = λ x h. refl; stays = λ x h. refl })

some_back : (o : Option SavedLoad) → is_some o ≡ true → Some (some_or nowhere o) ≡ o
some_back None h = absurd cc
some_back (Some a) h = refl

none_back : (o : Option SavedLoad) → not (is_some o) ≡ true → None ≡ o
none_back None h = refl
none_back (Some a) h = absurd cc

pub load_after_is : (harts : List SavedHart) (b : Bool) → IsForm (load_after harts b)
unfolding load_after
load_after_is harts true =
    made_is Some (some_or nowhere) is_some (load harts) (load_is harts)
    (record { back = λ o p h. some_back o p; again = λ a h. refl; stays = λ a h. refl })
load_after_is harts false = nothing_is None (λ o. not (is_some o)) none_back refl

load_flag : (harts : List SavedHart) (b : Bool) (o : Option SavedLoad) → (load_after harts b).has o ≡ true → is_some o ≡ b
unfolding load_after
load_flag harts true o h = first_true (is_some o) _ h
load_flag harts false o h = not-true (is_some o) h

pub loading_is : (harts : List SavedHart) → IsForm (load_under_way harts)
unfolding load_under_way
loading_is harts =
    made_is (λ (x : Bool × Option SavedLoad). x.1) (λ o. (is_some o, o)) always (and_then flag (load_after harts))
    (and_then_is flag (load_after harts) flag_is (λ b h. load_after_is harts b))
    (record {
      back = λ o p h. refl;
      again = λ x h. ap (λ (b : Bool). (b, x.1)) (load_flag harts x.0 x.1 (second_true (flag.has x.0) ((load_after harts x.0).has x.1) h));
      stays = λ x h. refl;
    })

pub gate_is : (harts : List SavedHart) → IsForm (gate harts)
unfolding gate
gate_is harts = pair_is modules (flag ⨾ load_under_way harts) modules_are (pair_is flag (load_under_way harts) flag_is (loading_is harts))
