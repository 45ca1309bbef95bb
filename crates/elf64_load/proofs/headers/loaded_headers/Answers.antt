use Rattle.std.proofs.Common.{◌∙◌, sym}
use Rattle.sv_types.specs.Kernel.{loaded_among}
use Rattle.std.proofs.lemmas.List.Elements.{All-same}
use Rattle.elf64_load.specs.Headers.{HasMemory}
use Rattle.elf64_load.proofs.Pages.{one_more_loaded, one_more_passed, memory_of_loaded}
use Rattle.elf64_load.proofs.headers.loaded_headers.Goals as goal
use Rattle.elf64_load.proofs.headers.loaded_headers.Goals.{then-is_loaded+in_ok-push, else-is_loaded}

pub headers-init : goal.headers-init
unfolding loaded_among
headers-init c = c.new-headers.ensures.items

pub headers-preserved : goal.headers-preserved
headers-preserved c =
    elim c.if-is_loaded.branch [
      | then-is_loaded+in_ok-push w ↦
          let test = sym c.is_loaded.ensures ∙ w.if-is_loaded.true in
          let more = one_more_loaded c.args.file.now c.headers.i c.double-table.result c.header_at-header.result c.headers.headers.items
          c.double-table.ensures c.header_at-header.ensures test c.headers.invariant in
          let is = w.headers-is in
          let items = w.in_ok-push.ensures.items in
          cc
      | else-is_loaded w ↦
          let test = sym c.is_loaded.ensures ∙ w.if-is_loaded.false in
          let more = one_more_passed c.args.file.now c.headers.i c.double-table.result c.header_at-header.result c.headers.headers.items
          c.double-table.ensures c.header_at-header.ensures test c.headers.invariant in
          let is = w.headers-is in
          cc
    ]

pub returns-clause-memory : goal.returns-clause-memory
returns-clause-memory c = All-same HasMemory c.headers.headers.items (loaded_among c.args.file.now c.headers.i) c.headers.invariant (memory_of_loaded c.args.file.now c.headers.i)
