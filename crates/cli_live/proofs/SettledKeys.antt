-- What a settled taker took, and so the keys of a live run.
use Rattle.std.proofs.Common.{◌≡◌, ℕ, List, false, Option, Some, sym, ◌∙◌, subst}
use Rattle.atomic_table.specs.Seated.{TableId}
use Rattle.live_keys.specs.Feeding.{Feeds}
use Rattle.live_keys.specs.Keys.{KeysState}
use Rattle.live_keys.specs.Line.{Feeding, StartsWith, TookPrefixOf, TookAllOf, Taking}
use Rattle.cli_live.specs.declared.threads.LiveEnd.{LiveEnd}
use Rattle.cli_live.specs.Inputs.{HasKeys}

took_all : (all : Option (List ℕ)) (bytes sent keys : List ℕ) → TookAllOf all bytes → all ≡ Some sent → keys ≡ bytes → keys ≡ sent
took_all all bytes sent keys took is same = same ∙ subst (λ (o : Option (List ℕ)). TookAllOf o bytes) is took

took_front : (all : Option (List ℕ)) (bytes sent keys : List ℕ) → TookPrefixOf all bytes → all ≡ Some sent → keys ≡ bytes → StartsWith sent keys
took_front all bytes sent keys took is same =
    subst (λ (l : List ℕ). StartsWith sent l) (sym same) (subst (λ (o : Option (List ℕ)). TookPrefixOf o bytes) is took)

pub has_keys : (own : TableId) (old new : KeysState) (fed : Feeding) (ended : LiveEnd) (taker : Taking) (keys : List ℕ) → Feeds own old new fed ended.read_failed → taker.all ≡ Some fed.bytes →
    TookPrefixOf taker.all taker.bytes → (ended.write_failed ≡ false → TookAllOf taker.all taker.bytes) → keys ≡ taker.bytes → HasKeys old new keys ended
has_keys own old new fed ended taker keys feeds is front whole same = record {
  bytes = fed.bytes;
  read = record { taken = feeds.taken; few = feeds.few; all = feeds.all; failed = feeds.failed; no_fault = feeds.no_fault };
  front = took_front taker.all taker.bytes fed.bytes keys front is same;
  whole = λ done. took_all taker.all taker.bytes fed.bytes keys (whole done) is same;
}
