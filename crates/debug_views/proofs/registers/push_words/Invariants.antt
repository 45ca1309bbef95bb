use Rattle.std.proofs.Common.{◌≡◌, ◌++◌, drop}
use Rattle.std.specs.Prelude.{flat_map}
use Rattle.debug_views.specs.Looks.{word_text}
use Rattle.debug_views.proofs.registers.push_words.Given as goal

-- what is put so far and the numbers that are left
abbrev pub invariant-numbers : goal.invariant-numbers
invariant-numbers l = l.out.items ++ flat_map word_text (drop l.number-index l.numbers) ≡ l.fn.out.items ++ flat_map word_text l.numbers
