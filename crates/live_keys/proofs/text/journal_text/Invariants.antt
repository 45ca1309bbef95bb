use Rattle.std.proofs.Common.{◌≡◌, ◌++◌, drop, string_bytes}
use Rattle.live_keys.specs.JournalText.{text_of, journal_lines}
use Rattle.live_keys.proofs.text.journal_text.Given as goal

-- the text so far and the lines that are left are the text
abbrev pub invariant-keys : goal.invariant-keys
invariant-keys l =
    string_bytes l.text ++ text_of (journal_lines l.made (drop l.key-index l.journal.keys.items) l.journal.autos)
    ≡ text_of (journal_lines 0 l.journal.keys.items l.journal.autos)
