-- What the words of a command are, by value.
use Rattle.std.specs.Prelude.{map, string_bytes}
use Rattle.std.specs.Option.{option_copied}
use Rattle.cli_plans.specs.Commands.{Named, ShowSplit, ConvertSplit}
use Rattle.cli_plans.specs.declared.command_words.naming.Naming.{Naming}
use Rattle.cli_plans.specs.declared.command_words.command.ShowWords.{ShowWords}
use Rattle.cli_plans.specs.declared.command_words.command.ConvertWords.{ConvertWords}

abbrev pub show_split_of : ShowWords → ShowSplit
show_split_of w = record { saved = w.saved.now; kernel = option_copied w.kernel }

abbrev pub convert_split_of : ConvertWords → ConvertSplit
convert_split_of w = record { kernel = w.kernel.now; given = w.given.now; out = w.out.now }

abbrev pub named_of : Naming → Named
named_of n = record { command = n.command; rest = map string_bytes n.rest.now }
