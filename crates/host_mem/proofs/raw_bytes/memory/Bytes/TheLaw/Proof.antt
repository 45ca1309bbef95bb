-- A `&` to the bytes is made where one to an array of them is.
use contract.BorrowLft.{⊑_static}
use denote.Array.{Array, Array-row_laws}
use denote.Builtin.{u8}
use denote.Shares.{Shares-less, Shares-Array}
use denote.Param.Shared.{copy_shared}
use denote.Struct.Field.{RawPtr-field, usize-field}
use denote.Struct.Laws.{RawPtr-copy, usize-copy}
use denote.Struct.Lending.{lent_at_shr_laws, Lends-lies, of_Lends}
use Rattle.host_mem.proofs.ByteLaws.{byte_laws}
use Rattle.host_mem.specs.contracts.raw_bytes.memory.Bytes as C
use Rattle.host_mem.proofs.raw_bytes.memory.Bytes.TheLaw.Statement.{statement}

pub shares : statement
shares = of_Lends C.struct C.the_codes C.the_heap C.the_lent
    (λ d p. lent_at_shr_laws (Array u8 d.size) (Array-row_laws u8 byte_laws.shr_laws d.size) d.at d.items)
    (copy_shared RawPtr-field RawPtr-copy, (copy_shared usize-field usize-copy, tt))
    (λ M 𝓤 𝓛 d p. let l = C.the_row.lives in
    Lends-lies 𝓛 (Array u8 d.size) l d.at d.items (Shares-Array 𝓛 u8 tt d.size l (Shares-less 𝓛 u8 u8.lives l (⊑_static l) (byte_laws.shares 𝓛)) d.items))
