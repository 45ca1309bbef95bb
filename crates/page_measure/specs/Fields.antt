-- What callers see of a field.
use Rattle.spec_reference.specs.Relocations as spec
use Rattle.page_measure.specs.declared.fields.field.Field.{Field}
use Rattle.page_measure.specs.declared.fields.field.Field.TheVariants.{DoubleWord, Branch, Jump, Upper, Immediate, Store}

abbrev pub field_view : Field → spec.Field
field_view DoubleWord = spec.DoubleWord
field_view Branch = spec.BField
field_view Jump = spec.JField
field_view Upper = spec.UField
field_view Immediate = spec.IField
field_view Store = spec.SField
