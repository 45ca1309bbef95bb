use Rattle.std.proofs.Common.{ℕ, List, take, ◌∙◌, ap, refl, rules, get_or}
use Rattle.host_mem.proofs.WordFacts.{word_put, byte_put}
use Rattle.laws_processor.proofs.LibraryBytes.{low_bytes_8}
use Rattle.host_mem.proofs.words.put_word.Goals as goal

pub returns-in-1 : goal.returns-in-1
returns-in-1 c =
    byte_put _ _ _ c.args.value _ c.in-1.is (ap (λ (bytes : List ℕ). get_or bytes 0 0) (c.to_le_bytes-word.ensures)) (search rules)

pub returns-in-2 : goal.returns-in-2
returns-in-2 c =
    word_put _ _ _ _ 2 _ c.args.value c.in-2.is
    (c.copy_from_slice.ensures.after ∙ ap (λ (bytes : List ℕ). take 2 bytes) (c.to_le_bytes-word.ensures ∙ low_bytes_8 c.args.value)) refl

pub returns-in-4 : goal.returns-in-4
returns-in-4 c =
    word_put _ _ _ _ 4 _ c.args.value c.in-4.is
    (c.copy_from_slice-in-4.ensures.after ∙ ap (λ (bytes : List ℕ). take 4 bytes) (c.to_le_bytes-word.ensures ∙ low_bytes_8 c.args.value)) refl

pub returns-in_default : goal.returns-in_default
returns-in_default c =
    word_put _ _ _ _ 8 _ c.args.value (search rules)
    (c.copy_from_slice-in_default.ensures.after ∙ (c.to_le_bytes-word.ensures ∙ low_bytes_8 c.args.value)) refl
