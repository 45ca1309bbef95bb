-- A live run that has made no event.
use Rattle.std.proofs.Common.{◌≡◌, ℕ, List, [], length, sym, ◌∙◌, ap, arith}
use Rattle.sv_types.specs.Schedule.{Schedule, random_at}
use Rattle.spec_reference.specs.Counting.{CountsAtMost}
use Rattle.machine.proofs.Repeated.{counts_within}
use Rattle.live_keys.specs.Journal.{HasRoom}
use Rattle.live_keys.specs.Placed.{bytes_of}
use Rattle.live_keys.specs.declared.live_key.LiveKey.{LiveKey}
use Rattle.cli_live.specs.LiveRuns.{harts_of, IsUnderWay, count_of}
use Rattle.cli_live.specs.declared.live_run.LiveRun.{LiveRun}
use Rattle.machine.specs.Standing.{HasState}

script_drawn : (harts : ℕ) (script : Schedule) → script ≡ Schedule.Auto harts 0 → script ≡ Schedule.Auto (harts_of script) (random_at 0 0)
unfolding random_at
script_drawn harts script is = is ∙ ap (λ (h : ℕ). Schedule.Auto h 0) (sym (ap harts_of is))

pub fresh_way : (l : LiveRun) (harts : ℕ) → l.journal.keys.items ≡ [] → l.journal.autos ≡ 0 → HasRoom l.journal → l.taker.bytes ≡ [] → l.script ≡ Schedule.Auto harts 0 → HasState l.machine →
    CountsAtMost 0 l.machine.journal.counts → IsUnderWay l
fresh_way l harts keys autos room none script state counts =
    let long : length l.taker.bytes ≡ 0 = ap (λ (bytes : List ℕ). length bytes) none in
    record {
      keys = ap (λ (all : List LiveKey). bytes_of all) keys ∙ sym none;
      few = omega arith;
      places = room;
      drawn = script_drawn harts l.script script ∙ ap (λ (n : ℕ). Schedule.Auto (harts_of l.script) (random_at 0 n)) (sym autos);
      state = state;
      counts = counts_within 0 (count_of l.journal) l.machine.journal.counts (omega arith) counts;
    }
