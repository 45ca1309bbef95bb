-- The laws together, in each state that a run reaches.
use Rattle.laws_simulation.proofs.EntriesHold.{entry_law}
use Rattle.laws_guarantee.specs.Guarded.{GuardedLaw}
use Rattle.laws_guarantee.proofs.LawsHold.{kernel_words_law, entries_law, exits_law, protected_bytes_law}
use Rattle.laws_guarantee.proofs.StopsHold.{stops_law}
use Rattle.laws_guarantee.proofs.TurnCases.{user_turns_law}

pub guarded_law : GuardedLaw
guarded_law s r reached = record {
  kernel_words = kernel_words_law s r reached.sound reached.origins reached.digests;
  user_turns = record {
    free = user_turns_law.free s r reached;
    turns = user_turns_law.turns r reached.sound;
    traps = user_turns_law.traps r reached.sound;
  };
  entries = record {
    permitted = entries_law s r reached;
    bound = λ between h format k others. entry_law r between h reached.sound format k others;
  };
  exits = exits_law r reached.sound;
  protected_bytes = λ e. protected_bytes_law r e reached.sound;
  stops = record {
    only = stops_law.only r reached.sound;
    traps = stops_law.traps r reached.sound;
    writes = stops_law.writes r;
  };
}
