-- The protections of all pages of RAM, as a list, and the list with those of some pages changed. This project's own.
use Rattle.std.specs.Prelude.{ℕ, zero, suc, ◌+◌, Bool, not, List, [], ◌∷◌, if◌then◌else◌, Option, Some, None, slice_get, slice_set}
use Rattle.sv_types.specs.Protections.{is_free}
use Rattle.sv_types.specs.declared.protection.Protection.{Protection}
use Rattle.sv_types.specs.declared.protection.Protection.TheVariants.{Free}

-- a page past the end counts as free
abbrev pub or_free : Option Protection → Protection
or_free None = Free
or_free (Some protection) = protection

abbrev pub protection_at : List Protection → ℕ → Protection
protection_at guard page = or_free (slice_get guard page)

-- a page is approved or held
abbrev pub is_taken : List Protection → ℕ → Bool
is_taken guard page = not (is_free (protection_at guard page))

-- so many pages from the first on, with a protection
unfoldable pub with_pages : List Protection → (first count : ℕ) → Protection → List Protection
with_pages guard first zero protection = guard
with_pages guard first (suc count) protection = slice_set (with_pages guard first count protection) (first + count) protection

-- the pages of a list with a protection
unfoldable pub with_each : List Protection → List ℕ → Protection → List Protection
with_each guard [] protection = guard
with_each guard (page ∷ pages) protection = with_each (slice_set guard page protection) pages protection

-- the page becomes free where a test picks it, by its number and its protection
abbrev pub freed_one : (ℕ → Protection → Bool) → List Protection → ℕ → List Protection
freed_one picks guard page = if picks page (protection_at guard page) then slice_set guard page Free else guard

-- the same for so many pages from the first on, one after another
unfoldable pub freed_by : (ℕ → Protection → Bool) → List Protection → (first count : ℕ) → List Protection
freed_by picks guard first zero = guard
freed_by picks guard first (suc count) = freed_one picks (freed_by picks guard first count) (first + count)
