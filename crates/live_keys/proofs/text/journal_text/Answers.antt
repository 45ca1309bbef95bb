use Rattle.std.proofs.Common.{◌≤◌, ◌+◌, ◌*◌, ◌∙◌, ℕ, List, length, string_bytes, ap, sym, subst, arith}
use Rattle.script.specs.AutoScripts.{events_of_text, first_refused}
use Rattle.live_keys.proofs.JournalLines.{journal_reads, journal_accepted, journal_size, text_whole}
use Rattle.live_keys.proofs.text.journal_text.Goals as goal

pub returns-clause-reads : goal.returns-clause-reads
returns-clause-reads c =
    let journal = c.args.journal.now in
    let past : length journal.keys.items ≤ c.keys.key-index = omega arith in
    let is = text_whole (string_bytes c.keys.text) (string_bytes c.push_autos-2.new.text) c.keys.made journal.keys.items c.keys.key-index journal.autos past
    c.in_ok-push_autos-2.ensures c.keys.invariant in
    λ harts. ap (λ (bytes : List ℕ). events_of_text harts bytes) is ∙ journal_reads harts journal.keys.items journal.autos journal.placed journal.bytes c.requires.few

pub returns-clause-accepted : goal.returns-clause-accepted
returns-clause-accepted c =
    let journal = c.args.journal.now in
    let past : length journal.keys.items ≤ c.keys.key-index = omega arith in
    let is = text_whole (string_bytes c.keys.text) (string_bytes c.push_autos-2.new.text) c.keys.made journal.keys.items c.keys.key-index journal.autos past
    c.in_ok-push_autos-2.ensures c.keys.invariant in
    ap (λ (bytes : List ℕ). first_refused bytes) is ∙ journal_accepted journal.keys.items journal.autos journal.placed journal.bytes c.requires.few

pub returns-clause-size : goal.returns-clause-size
returns-clause-size c =
    let journal = c.args.journal.now in
    let past : length journal.keys.items ≤ c.keys.key-index = omega arith in
    let is = text_whole (string_bytes c.keys.text) (string_bytes c.push_autos-2.new.text) c.keys.made journal.keys.items c.keys.key-index journal.autos past
    c.in_ok-push_autos-2.ensures c.keys.invariant in
    subst (λ (bytes : List ℕ). length bytes ≤ 24 * length journal.keys.items + 16) (sym is)
    (journal_size journal.keys.items journal.autos journal.placed journal.bytes c.requires.few)
