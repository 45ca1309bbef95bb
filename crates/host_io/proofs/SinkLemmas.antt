-- How what a sink took grows.
use Rattle.std.proofs.Common.{◌≡◌, ◌≢◌, ◌<◌, ◌-◌, ℕ, List, [], ◌++◌, take, drop, length, refl, sym, ◌∙◌, ap, subst, append_assoc, Option, Some, None, Result, Ok, Err, OnErr}
use Rattle.std.proofs.lemmas.List.{take-append-drop, take_rest, append-nil}
use Rattle.host_io.specs.Outside.{SinkState, append_bytes, after_taking, WriteFails, TookPrefix, BreaksOff}

pub appended-append : (taken : Option (List ℕ)) (a b : List ℕ) → append_bytes (append_bytes taken a) b ≡ append_bytes taken (a ++ b)
appended-append None a b = refl
appended-append (Some taken) a b = ap Some (append_assoc taken a b)

pub appended-nil : (taken : Option (List ℕ)) → append_bytes taken [] ≡ taken
appended-nil None = refl
appended-nil (Some taken) = ap Some (append-nil taken)

pub after_taking-append : (sink : SinkState) (a b : List ℕ) → after_taking (after_taking sink a) b ≡ after_taking sink (a ++ b)
after_taking-append sink a b = ap (λ (taken : Option (List ℕ)). record sink { taken = taken }) (appended-append sink.taken a b)

pub after_taking-nil : (sink : SinkState) → after_taking sink [] ≡ sink
after_taking-nil sink = ap (λ (taken : Option (List ℕ)). record sink { taken = taken }) (appended-nil sink.taken)

-- the sink took this much of the bytes, and the rest is left
pub record TookTo (old new : SinkState) (bytes rest : List ℕ) : Type 0 where
  pub written : List ℕ
  pub whole : written ++ rest ≡ bytes
  pub state : new ≡ after_taking old written

pub took_none : (sink : SinkState) (bytes : List ℕ) → TookTo sink sink bytes bytes
took_none sink bytes = record { written = []; whole = refl; state = sym (after_taking-nil sink) }

-- a piece more
pub took_more : (old now new : SinkState) (bytes rest : List ℕ) (n : ℕ) → TookTo old now bytes rest → new ≡ after_taking now (take n rest) → TookTo old new bytes (take (length rest - n) (drop n rest))
took_more old now new bytes rest n to took = record {
  written = to.written ++ take n rest;
  whole =
      ap (λ (r : List ℕ). (to.written ++ take n rest) ++ r) (take_rest rest n) ∙ append_assoc to.written (take n rest) (drop n rest) ∙
      ap (λ (r : List ℕ). to.written ++ r) (take-append-drop n rest) ∙ to.whole;
  state = took ∙ ap (λ (s : SinkState). after_taking s (take n rest)) to.state ∙ after_taking-append old to.written (take n rest);
}

pub breaks_off : (old now new : SinkState) (bytes rest : List ℕ) → TookTo old now bytes rest → rest ≢ [] → WriteFails now new → BreaksOff old new bytes
breaks_off old now new bytes rest to some fails = record {
  prefix = record { written = to.written; left = rest; whole = to.whole; taken = fails.taken ∙ ap (λ (s : SinkState). s.taken) to.state };
  some_left = some;
  faults = subst (λ (n : ℕ). n < new.faults) (ap (λ (s : SinkState). s.faults) to.state) fails.faults;
}

-- ---- prefixes

-- bytes that were taken whole, and a prefix of more
pub prefix_after : (old now new : SinkState) (a b : List ℕ) → now ≡ after_taking old a → TookPrefix now new b → TookPrefix old new (a ++ b)
prefix_after old now new a b taken part = record {
  written = a ++ part.written;
  left = part.left;
  whole = append_assoc a part.written part.left ∙ ap (λ (r : List ℕ). a ++ r) part.whole;
  taken = part.taken ∙ ap (λ (s : SinkState). append_bytes s.taken part.written) taken ∙ appended-append old.taken a part.written;
}

-- bytes that were taken whole, and more of which a write failed
pub breaks_after : (old now new : SinkState) (a b : List ℕ) → now ≡ after_taking old a → BreaksOff now new b → BreaksOff old new (a ++ b)
unfolding prefix_after
breaks_after old now new a b taken broke = record {
  prefix = prefix_after old now new a b taken broke.prefix;
  some_left = broke.some_left;
  faults = subst (λ (n : ℕ). n < new.faults) (ap (λ (s : SinkState). s.faults) taken) broke.faults;
}

pub prefix_of_front : (old new : SinkState) (a b : List ℕ) → TookPrefix old new a → TookPrefix old new (a ++ b)
prefix_of_front old new a b part = record {
  written = part.written;
  left = part.left ++ b;
  whole = sym (append_assoc part.written part.left b) ∙ ap (λ (r : List ℕ). r ++ b) part.whole;
  taken = part.taken;
}

pub prefix_whole : (old new : SinkState) (bytes : List ℕ) → new ≡ after_taking old bytes → TookPrefix old new bytes
prefix_whole old new bytes taken = record { written = bytes; left = []; whole = append-nil bytes; taken = ap (λ (s : SinkState). s.taken) taken }

pub prefix_none : (sink : SinkState) (bytes : List ℕ) → TookPrefix sink sink bytes
prefix_none sink bytes = record { written = []; left = bytes; whole = refl; taken = sym (appended-nil sink.taken) }

pub prefix_same : (old new : SinkState) (a b : List ℕ) → a ≡ b → TookPrefix old new a → TookPrefix old new b
prefix_same old new a b same part = subst (λ (bytes : List ℕ). TookPrefix old new bytes) same part

pub on_err : {T E : Type 0} (r : Result T E) (P : Type 0) → P → OnErr r P
on_err (Ok x) P p = tt
on_err (Err e) P p = p
