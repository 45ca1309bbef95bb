use Rattle.laws_guarantee.proofs.LawsHold.{kernel_words_law}
use Rattle.laws_guarantee.proofs.law_kernel_words.Goals as goal

pub returns : goal.returns
returns c = kernel_words_law
