-- Bytes in memory say the same to every thread.
use denote.Array.{Array}
use denote.Builtin.{u8}
use denote.Param.Send.{IsSend, AllSend, owning_send, struct_send, sendable}
use denote.Struct.Owning.{shape, fields, to}
use denote.Struct.Struct.{exits_of}
use Rattle.std_alloc.proofs.SendSync.{quiet, lies}
use Rattle.host_mem.specs.contracts.raw_bytes.memory.Bytes.{the_row, the_type}

pub send : IsSend the_row
send =
    let all : AllSend (fields the_type) = (search sendable, (search sendable, tt)) in
    owning_send the_type all (λ d. lies (Array u8 d.size) (search sendable) d.at d.items) (λ k. quiet (to the_type) (exits_of k (fields the_type)) ((struct_send (shape the_type) all).leaving k))
