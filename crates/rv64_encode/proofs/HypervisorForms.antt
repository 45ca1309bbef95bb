-- What the proof of the words of hypervisor loads and stores looks into.
use Rattle.spec_processor.specs.Encoding.{fits, word_of, is_hyper_load, hyper_number}

unfoldable pub hypervisor_words : Unit {0}
unfolding fits word_of is_hyper_load hyper_number
hypervisor_words = tt
