-- The protections of all pages of RAM as a list, spans of pages, and the region whose tables follow what is guarded.
-- This project's own.
use Rattle.std.specs.Prelude.{◌≡◌, ℕ, ◌+◌, ◌*◌, ◌≤◌, ◌<◌, not, List, length, find, Option, Some, slice_get}
use Rattle.spec_processor.specs.Bytes.{page_size}
use Rattle.sv_types.specs.ApprovedPages.{numbers_from}
use Rattle.spec_processor.specs.Regions.{Region}
use Rattle.sv_types.specs.Views.{AreViews}
use Rattle.sv_types.specs.declared.module.Span.{Span}
use Rattle.sv_types.specs.declared.protection.Protection.{Protection}
use Rattle.gstage_tables.specs.Layout.{HoldsTrees}
use Rattle.spec_reference.specs.Protections.{protection_at, with_pages}
use Rattle.sv_types.specs.Protections.{is_free}

-- what is guarded: the protection of each page of RAM, and the page that each entry is bound to
pub record Guarded : Type 0 where
  pub pages : List Protection
  pub bound : List ℕ

-- ---- spans of pages

abbrev pub with_span : List Protection → Span → Protection → List Protection
with_span pages span protection = with_pages pages span.first span.count protection

abbrev pub IsInRam : List Protection → Span → Type 0
IsInRam pages span = span.first + span.count ≤ length pages

-- each page of a span has a protection
pub record AllAre (pages : List Protection) (span : Span) (protection : Protection) : Type 0 where
  pub each : (i : ℕ) → i < span.count → slice_get pages (span.first + i) ≡ Some protection

-- the first page of a span that isn't free
unfoldable pub first_taken : List Protection → Span → Option ℕ
first_taken pages span = find (λ page. not (is_free (protection_at pages page))) (numbers_from span.first span.count)

-- ---- the region

-- the region's RAM has the pages of the list, and its tables are the views for their protections and for each entry that is
-- bound, whatever RAM holds
pub record TablesMatchGuard (r : Region) (guard : Guarded) : Type 0 where
  pub ram : length r.ram ≡ page_size * length guard.pages
  pub views : AreViews r.tables (length guard.pages) guard.bound (protection_at guard.pages)
  pub trees : HoldsTrees r.tables (length guard.pages) guard.bound (protection_at guard.pages)

-- entries are bound to these pages, and the tables follow
pub record Guards (r : Region) (places : List ℕ) (guard : Guarded) : Type 0 where
  pub bound : guard.bound ≡ places
  pub tables_match : TablesMatchGuard r guard

-- after changes there are as many pages, entries are bound to the pages that they were, and the tables follow again; RAM is as
-- it was
pub record TablesStayMatched (before after : Region) (old new : Guarded) : Type 0 where
  pub size : length new.pages ≡ length old.pages
  pub bound : new.bound ≡ old.bound
  pub tables_match : TablesMatchGuard after new
  pub ram : after.ram ≡ before.ram
