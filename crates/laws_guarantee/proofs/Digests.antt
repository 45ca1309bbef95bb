-- The digests of the kernel's text: those of a measured start, and each page's own.
use Rattle.std.proofs.Common.{◌≡◌, ℕ, suc, List, [], ◌∷◌, map, refl, sym, ◌∙◌, ap, subst, Bool, true, false, not, ◌&&◌, ◌||◌, slice_get}
use Rattle.std.specs.Prelude.{Option, Some, None, option_map, ◌==◌}
use Rattle.std.proofs.lemmas.Bool.{eqb-true}
use Rattle.std.proofs.lemmas.Option.{slice_get-map}
use Rattle.spec_processor.specs.Bytes.{page_bytes}
use Rattle.sv_types.specs.Measure.{page_digest, joined_digests}
use Rattle.spec_reference.specs.Origins.{is_init, is_kernel_text, ownership}
use Rattle.spec_reference.specs.States.{State, has_number}
use Rattle.snapshot_format.specs.declared.whole.TextPage.{TextPage}
use Rattle.snapshot_format.proofs.FormLaws.{first_true}
use Rattle.laws_resume.specs.Resumed.{KeepsDigests}
use Rattle.laws_guarantee.specs.Reached.{HasDigests, HasMeasuredText}
use Rattle.laws_guarantee.specs.Guarantee.{HasItsDigest}

abbrev pages_of : List TextPage → List ℕ
pages_of kept = map (λ (t : TextPage). t.page) kept

abbrev digests_in : List TextPage → List (List ℕ)
digests_in kept = map (λ (t : TextPage). t.digest) kept

-- ---- a page's own digest

record StandsThere (kept : List TextPage) (page : ℕ) : Type 0 where
  number : ℕ
  it : TextPage
  there : slice_get kept number ≡ Some it
  its : it.page ≡ page

in_front : (t : TextPage) (kept : List TextPage) (page : ℕ) → StandsThere kept page → StandsThere (t ∷ kept) page
in_front t kept page k = record { number = suc k.number; it = k.it; there = k.there; its = k.its }

stands_by : (t : TextPage) (kept : List TextPage) (page : ℕ) (b : Bool) → (t.page == page) ≡ b → (has_number (pages_of kept) page ≡ true → StandsThere kept page)
    → (b || has_number (pages_of kept) page) ≡ true → StandsThere (t ∷ kept) page
stands_by t kept page true same later e = record { number = 0; it = t; there = refl; its = eqb-true t.page page same }
stands_by t kept page false other later e = in_front t kept page (later e)

stands : (kept : List TextPage) (page : ℕ) → has_number (pages_of kept) page ≡ true → StandsThere kept page
stands [] page e = absurd (cc)
stands (t ∷ kept) page e = stands_by t kept page (t.page == page) refl (stands kept page) e

text_page : (t : TextPage) (page : ℕ) (found : List ℕ) → t.page ≡ page → found ≡ t.digest → Some t ≡ Some (record t { page = page; digest = found })
text_page t page found same at = rw (sym same, at) refl

its_by : (r : State) (page : ℕ) (kept : List TextPage) → KeepsDigests r kept → is_kernel_text (ownership r) page ≡ true → StandsThere kept page → HasItsDigest r page
its_by r page kept k text s = record {
  digests = kept;
  pages = k.pages;
  joined = k.joined;
  number = s.number;
  there = s.there ∙ text_page s.it page (page_digest (page_bytes r.ram page)) s.its
      (ap (λ (n : ℕ). page_digest (page_bytes r.ram n)) (sym s.its)
      ∙ k.each s.number s.it s.there (subst (λ (n : ℕ). is_kernel_text (ownership r) n ≡ true) (sym s.its) text));
}

pub its_digest : (r : State) (page : ℕ) → HasDigests r → is_kernel_text (ownership r) page ≡ true → HasItsDigest r page
its_digest r page k text =
    its_by r page k.0 k.1 text
    (stands k.0 page (subst (λ (l : List ℕ). has_number l page ≡ true) (sym k.1.pages)
    (first_true (has_number r.text page) (not (r.retired && is_init r.rules.init page)) text)))

-- ---- those of a measured start

abbrev digested : List ℕ → ℕ → TextPage
digested ram page = record { page = page; digest = page_digest (page_bytes ram page) }

same_pages : (ram pages : List ℕ) → pages_of (map (digested ram) pages) ≡ pages
same_pages ram [] = refl
same_pages ram (page ∷ pages) = ap (◌∷◌ page) (same_pages ram pages)

same_digests : (ram pages : List ℕ) → digests_in (map (digested ram) pages) ≡ map (λ (page : ℕ). page_digest (page_bytes ram page)) pages
same_digests ram [] = refl
same_digests ram (page ∷ pages) = ap (◌∷◌ (page_digest (page_bytes ram page))) (same_digests ram pages)

digest_is : (ram : List ℕ) (x : Option ℕ) (t : TextPage) → option_map (digested ram) x ≡ Some t → page_digest (page_bytes ram t.page) ≡ t.digest
digest_is ram None t e = absurd (cc)
digest_is ram (Some page) t e =
    let same : digested ram page ≡ t = cc in
    subst (λ (x : TextPage). page_digest (page_bytes ram x.page) ≡ x.digest) same refl

pub start_digests : (s : State) → HasMeasuredText s → HasDigests s
start_digests s measured = (
  map (digested s.ram) s.text,
  record {
    pages = same_pages s.ram s.text;
    each = λ i t at e. digest_is s.ram (slice_get s.text i) t (sym (slice_get-map (digested s.ram) s.text i) ∙ at);
    joined = ap joined_digests (same_digests s.ram s.text) ∙ measured;
  },
)
