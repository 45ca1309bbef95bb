-- Changes of what is guarded, one after another.
use Rattle.std.proofs.Common.{◌∙◌, refl}
use Rattle.spec_processor.specs.Regions.{Region}
use Rattle.page_guard.specs.Guarded.{Guarded, TablesMatchGuard, TablesStayMatched}

pub stays_same : (r : Region) (guard : Guarded) → TablesMatchGuard r guard → TablesStayMatched r r guard guard
stays_same r guard tables_match = record { size = refl; bound = refl; tables_match = tables_match; ram = refl }

pub stays_further : (a b c : Region) (g h k : Guarded) → TablesStayMatched a b g h → TablesStayMatched b c h k → TablesStayMatched a c g k
stays_further a b c g h k first second = record {
  size = second.size ∙ first.size;
  bound = second.bound ∙ first.bound;
  tables_match = second.tables_match;
  ram = second.ram ∙ first.ram;
}
