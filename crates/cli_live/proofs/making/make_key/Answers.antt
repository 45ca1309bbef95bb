use Rattle.std.proofs.Common.{sym}
use Rattle.live_keys.specs.Journal.{events_of}
use Rattle.cli_live.proofs.MadeEvents.{key_comes, on_to, breaks_to, ok_map, err_map}
use Rattle.cli_live.proofs.making.make_key.Goals as goal

pub make-requires-clause-came : goal.make-requires-clause-came
make-requires-clause-came g c = key_comes c.args.machine.now.journal.verdict c.args.byte

pub returns-clause-verdict : goal.returns-clause-verdict
returns-clause-verdict g c = c.make.ensures.key tt

pub returns-clause-on : goal.returns-clause-on
returns-clause-on g c = ok_map c.make.result _ _ (λ on harts. on_to (on (events_of harts c.args.journal.now)) (sym (c.add_key.ensures.events harts))) c.make.ensures.on

pub returns-clause-broke : goal.returns-clause-broke
returns-clause-broke g c = err_map c.make.result _ _ (λ off harts. breaks_to (off (events_of harts c.args.journal.now)) (sym (c.add_key.ensures.events harts))) c.make.ensures.broke
