-- What the proofs of an attempt's stages use, and what they look into.
use Rattle.spec_processor.specs.HardwareAttempt.{attempt, after_pending, after_word, after_instruction, after_effect}
use Rattle.laws_processor.proofs.EffectRequests.{is_request}
use Rattle.hw_tlb.specs.Fills.{nothing_filled, filled_further}

pub ruleset fills = (nothing_filled, filled_further)

pub ruleset fills_by_request = (nothing_filled, is_request)

unfoldable pub first_stage : Unit {0}
unfolding attempt after_pending
first_stage = tt

unfoldable pub word_stages : Unit {0}
unfolding after_word after_instruction after_effect
word_stages = tt
