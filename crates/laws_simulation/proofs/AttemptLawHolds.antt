-- The law of attempts, by what a word tells of its instruction and by what a write leaves of a load under way.
use Rattle.laws_simulation.specs.Agree.{AttemptLaw}
use Rattle.laws_simulation.proofs.AttemptsAgree.{turn_agrees}
use Rattle.laws_simulation.proofs.AllTold.{all_told}
use Rattle.laws_simulation.proofs.LoadsKept.{free_keeps}

pub attempt_law : AttemptLaw
attempt_law o r h hart c at other =
    turn_agrees o r h hart c at (λ width value whole. free_keeps r width value at.sound whole) (all_told hart) other
