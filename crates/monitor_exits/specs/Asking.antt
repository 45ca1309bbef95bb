-- What a call asks, as the definitions have it, and whether it is one about modules. This project's own.
use Rattle.std.specs.Prelude.{Bool, true, false, Option, Some}
use Rattle.spec_reference.specs.Calls.{Asked, extension_of}
use Rattle.spec_reference.specs.declared.answers.Extension.{Extension}
use Rattle.monitor_exits.specs.declared.asked.Asked.TheInside.{Inside}

abbrev pub call_of : Inside → Asked
call_of a = record { extension = a.extension; function = a.function; a0 = a.a0; a1 = a.a1; a2 = a.a2; a3 = a.a3 }

abbrev pub fields_of : Asked → Inside
fields_of a = record { extension = a.extension; function = a.function; a0 = a.a0; a1 = a.a1; a2 = a.a2; a3 = a.a3 }

abbrev pub is_modules : Option Extension → Bool
is_modules (Some Extension.Modules) = true
is_modules _ = false

abbrev pub is_about_modules : Asked → Bool
is_about_modules ask = is_modules (extension_of ask.extension)
