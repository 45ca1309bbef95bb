-- The first field of a module's text that isn't right, as it is told to a reader. This project's own.
use Rattle.std.specs.Prelude.{ℕ, List, [], ◌∷◌, Option, Some, None, bit_and, if◌then◌else◌}
use Rattle.sv_types.specs.declared.module.Bases.{Bases}
use Rattle.sv_types.specs.declared.module.Site.{Site}
use Rattle.sv_types.specs.declared.policy.Export.{Export}
use Rattle.spec_reference.specs.Relocations.{Field, field_of, field_bits, field_word, in_field, value_fits, site_value, field_right}
use Rattle.page_measure.specs.declared.fields.wrong.WrongField.{WrongField}

-- the value as it would stand in the field, or the value itself where it doesn't fit
abbrev pub due_in : Field → ℕ → ℕ
due_in field value = if value_fits field value then in_field field value else value

-- where the field stands in the text, the bits that it holds there, and what is due
abbrev pub wrong_field : List Export → Bases → List ℕ → Site → WrongField
wrong_field exports bases text site = record {
  offset = site.offset;
  holds = bit_and (field_word text site) (field_bits (field_of site.kind));
  due = due_in (field_of site.kind) (site_value exports bases site);
}

unfoldable pub first_wrong : List Export → Bases → List ℕ → List Site → Option WrongField
first_wrong exports bases text [] = None
first_wrong exports bases text (site ∷ sites) =
    if field_right exports bases text site then first_wrong exports bases text sites else Some (wrong_field exports bases text site)
