use Rattle.std.proofs.Common.{ℕ, sym, ◌∙◌, ap}
use Rattle.sv_types.specs.Schedule.{Schedule, first_events}
use Rattle.live_keys.specs.Placed.{keys_among}
use Rattle.cli_live.specs.LiveRuns.{harts_of, events_made}
use Rattle.cli_live.proofs.MadeEvents.{on_then, both_on, both_break, broke_taken, err_map, ok_gives, ok_map}
use Rattle.cli_live.proofs.SettledKeys.{has_keys}
use Rattle.cli_live.proofs.live_run.LiveRun.run.Goals as goal

pub returns-clause-on : goal.returns-clause-on
returns-clause-on g c = λ done.
    both_on c.feed_and_drive-fed.result.1 c.drive_again-ended.result _ _ _ (λ one two. on_then one.went two) c.drive_again-ended.ensures.first
    c.feed_and_drive-fed.ensures.drives.on c.drive_again-ended.ensures.on
    (sym c.is_err.ensures.value ∙ done)

pub returns-clause-broke : goal.returns-clause-broke
returns-clause-broke g c = λ broke.
    both_break c.feed_and_drive-fed.result.1 c.drive_again-ended.result c.args.self.now (record c.feed_and_drive-fed.new.self { taker = c.settle.new.taker }) c.drive_again-ended.new.self _ _ _
    (sym c.is_err.ensures.value ∙ broke) (ok_map c.feed_and_drive-fed.result.1 _ _ (λ on. on.went) c.feed_and_drive-fed.ensures.drives.on)
    (err_map c.feed_and_drive-fed.result.1 _ _ (broke_taken c.args.self.now c.feed_and_drive-fed.new.self c.settle.new.taker _ _) c.feed_and_drive-fed.ensures.drives.broke)
    c.drive_again-ended.ensures.stays c.drive_again-ended.ensures.broke

pub returns-clause-keys : goal.returns-clause-keys
returns-clause-keys g c =
    let last = c.drive_again-ended.new.self in
    has_keys _ _ _ c.feed_and_drive-fed.result.0.feeder (record { read_failed = c.feed_and_drive-fed.result.0.failed; write_failed = c.is_err.result }) last.taker (keys_among (events_made last))
    c.feed_and_drive-fed.ensures.fed (c.drive_again-ended.ensures.under.all ∙ c.settle.ensures.all) c.law_taken.ensures.prefix
    (λ done. ok_gives c.drive_again-ended.result _ c.drive_again-ended.ensures.whole (sym c.is_err.ensures.value ∙ done))
    (c.law_journal_events.ensures.keys (harts_of last.script) 0 last.journal.keys.items last.journal.autos ∙ c.drive_again-ended.ensures.under.way.keys)

pub returns-clause-events : goal.returns-clause-events
returns-clause-events g c = c.drive_again-ended.ensures.under.events ∙ c.feed_and_drive-fed.ensures.drives.stays.events

pub returns-clause-others : goal.returns-clause-others
returns-clause-others g c =
    let last = c.drive_again-ended.new.self in
    c.law_journal_events.ensures.others (harts_of last.script) last.journal.keys.items last.journal.autos last.journal.placed
    ∙ ap (λ (h : ℕ). first_events last.journal.autos (Schedule.Auto h 0)) (c.drive_again-ended.ensures.under.harts ∙ c.feed_and_drive-fed.ensures.drives.stays.harts)
