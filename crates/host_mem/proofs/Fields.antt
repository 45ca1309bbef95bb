-- What a `&` to the owner of bytes shows: its two fields and the bytes.
use mathlib.Core.List.{[], ◌∷◌}
use Prim.Native.Nat.{ℕ, ◌+◌}
use seplogic.Ra.Ura.{Ura}
use mir.Syntax.{w64}
use base.Logic.{ent, sep}
use base.Fml.{Lft, Fml}
use types.Logic.{Logic, sem}
use types.Kit.{‵, ◌$◌, ◌∵◌, !, qed, keep, drop, fsplit, done}
use denote.Builtin.{usize}
use denote.RattleType.{RattleType, RowLaws}
use denote.Memory.{hidden_shr}
use denote.Opens.{shr_dup, unhide, hide}
use denote.Plain.{uint_row_laws}
use denote.RawPtr.{RawPtr, ptr_row_laws}
use denote.Struct.Struct.{Struct, Struct-row_laws}
use denote.Struct.Owning.{shape, to}
use Rattle.host_mem.specs.contracts.raw_bytes.memory.Bytes as Bytes

abbrev pub Owner : RattleType
Owner = Bytes.the_row

abbrev pub Words : RattleType
Words = Struct (shape Bytes.the_type)

words_laws : RowLaws Words
words_laws = Struct-row_laws (shape Bytes.the_type) (ptr_row_laws, (uint_row_laws w64, tt))

abbrev pub words : Owner.Denot → Words.Denot
words d = to Bytes.the_type d

module _ {M : Type 1} {𝓤 : Ura M} (𝓛 : Logic 𝓤) (κ : Lft) (b o : ℕ) (d : Owner.Denot) where
  abbrev pub words_shared : Fml
  words_shared = hidden_shr Words κ (words d) b o

  pub shows_at : ent 𝓤 (sem 𝓛 words_shared) (sep 𝓤 (sem 𝓛 (hidden_shr RawPtr κ d.at b (o + 0))) (sem 𝓛 words_shared))
  shows_at = qed 𝓛 (‵ words_shared ∷ []) ∵ shr_dup ! Words words_laws (words d) b o κ $ unhide ! $ fsplit ! $ fsplit ! $ hide ! $ keep ! (0 ∷ 3 ∷ []) $ done !

  pub shows_size : ent 𝓤 (sem 𝓛 words_shared) (sep 𝓤 (sem 𝓛 (hidden_shr usize κ d.size b (o + 8))) (sem 𝓛 words_shared))
  shows_size = qed 𝓛 (‵ words_shared ∷ []) ∵ shr_dup ! Words words_laws (words d) b o κ $ unhide ! $ fsplit ! $ fsplit ! $ drop ! $ fsplit ! $ hide ! $ keep ! (0 ∷ 3 ∷ []) $ done !
