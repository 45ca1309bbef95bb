-- What protecting a page asks and does. This project's own.
use Rattle.std.specs.Prelude.{◌≡◌, ◌<◌, ℕ, List, length}
use Rattle.spec_processor.specs.Regions.{Region}
use Rattle.sv_types.specs.Views.{AreViews, protect}
use Rattle.sv_types.specs.declared.protection.Protection.{Protection}
use Rattle.gstage_tables.specs.Layout.{Shape, AreDrawn, MapsBlocks, table_size}

-- a page may be protected: it is one of RAM, and the table part has the size of the trees
pub record MayProtect (tables : List ℕ) (trees : Shape) (page : ℕ) : Type 0 where
  pub inside : page < trees.ram_pages
  pub size : length tables ≡ table_size trees.ram_pages (length trees.bound)

-- The page has this protection in every tree, and all others keep theirs: whatever protections were drawn, now these are, with
-- that of the page.
pub record Protects (before after : Region) (trees new : Shape) (page : ℕ) (protection : Protection) : Type 0 where
  pub same : new ≡ record trees { counts = new.counts }
  pub ram : after.ram ≡ before.ram
  pub drawn : (old : ℕ → Protection) → AreDrawn before.tables trees old → AreDrawn after.tables new (protect old page protection)
  pub views : (old : ℕ → Protection) → AreDrawn before.tables trees old → AreViews after.tables trees.ram_pages trees.bound (protect old page protection)
  pub blocks : (old : ℕ → Protection) → AreDrawn before.tables trees old → MapsBlocks after.tables trees.ram_pages trees.bound (protect old page protection)
