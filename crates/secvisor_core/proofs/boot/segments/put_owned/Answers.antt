use Rattle.std.proofs.Common.{◌/◌, ◌∙◌, ℕ, length, map, get_or, ap, sym}
use Rattle.std.proofs.lemmas.List.{length-map}
use Rattle.spec_processor.specs.Bytes.{page_size}
use Rattle.elf64_load.specs.Images.{segment_of}
use Rattle.secvisor_core.specs.Whole.{loaded_byte}
use Rattle.secvisor_core.proofs.Loaded.{next_owned}
use Rattle.secvisor_core.proofs.boot.segments.put_owned.Goals as goal

pub pages-preserved : goal.pages-preserved
pages-preserved c =
    let size = length c.args.mem.now.ram in
    let segments = c.args.segments.now in
    let ss = map segment_of segments in
    let owners = c.args.owners.now in
    let page = c.pages.page in
    let before = c.pages.invariant in
    let ensures = c.put_owner.ensures in (
      record { tables = ensures.shape.tables ∙ before.0.tables; size = ensures.shape.size ∙ before.0.size },
      λ at below. next_owned size ss (length segments) page (get_or owners page 0) at (get_or c.pages.mem.ram at 0) (get_or c.put_owner.new.mem.ram at 0)
          (loaded_byte size ss (get_or owners (at / page_size) 0) at) (sym (length-map segments segment_of)) c.requires.placed (c.requires.owners page c.pages-test.true) (before.1 at below)
          (λ same. ap (λ (p : ℕ). loaded_byte size ss (get_or owners p 0) at) same) (ensures.bytes at),
    )
