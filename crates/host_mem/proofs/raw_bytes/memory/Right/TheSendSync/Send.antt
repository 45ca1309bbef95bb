-- The right to give memory back crosses threads where the allocator frees from any of them.
use denote.Param.Send.{IsSend, Frees, AllSend, owning_send, struct_send, sendable}
use denote.RattleType.{RattleType}
use denote.Struct.Owning.{shape, fields, to}
use denote.Struct.Struct.{exits_of}
use Rattle.core.specs.declared.alloc.Allocator.{Ghosts}
use Rattle.std_alloc.proofs.SendSync.{quiet}
use Rattle.host_mem.specs.contracts.raw_bytes.memory.Right.{the_row, the_type}

pub send : (A : RattleType) (g : Ghosts A.Denot) → IsSend A → Frees g g.dealloc_token → IsSend (the_row A g)
send A g s f =
    let O = the_type A g in let all : AllSend (fields O) = (search sendable, tt) in
    owning_send O all (λ d. f.frees d.alloc _ d.at) (λ k. quiet (to O) (exits_of k (fields O)) ((struct_send (shape O) all).leaving k))
