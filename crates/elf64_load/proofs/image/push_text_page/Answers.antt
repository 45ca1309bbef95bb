use Rattle.std.proofs.Common.{◌∙◌, ◌++◌, List, ℕ, refl, sym, ap, Option}
use Rattle.std.proofs.lemmas.List.{append-nil}
use Rattle.std.proofs.lemmas.Option.{slice_get_read, slice_get_past}
use Rattle.std.specs.Prelude.{option_map}
use Rattle.elf64_load.specs.Images.{segment_of}
use Rattle.elf64_load.specs.declared.image.Segment.{Segment}
use Rattle.sv_types.specs.Kernel.{text_page_in}
use Rattle.elf64_load.proofs.Owners.{owned}
use Rattle.elf64_load.proofs.image.push_text_page.Goals as goal

pub returns-in_ok-push_filled_page : goal.returns-in_ok-push_filled_page
returns-in_ok-push_filled_page c =
    let ss = c.args.segments.now in
    let lookup = c.in-Some.ensures.lookup in
    let found = slice_get_read ss _ c.args.owner c.in-Some.segment.now refl lookup.3.0 lookup.1 in
    let page = owned c.args.page ss c.args.owner c.requires.owner ∙ ap (λ (o : Option Segment). text_page_in c.args.page (option_map segment_of o)) found in
    c.in_ok-push_filled_page.ensures ∙ ap (λ (bytes : List ℕ). c.args.text.now.items ++ bytes) (sym page)

pub returns-in_default : goal.returns-in_default
returns-in_default c =
    let ss = c.args.segments.now in
    let none = slice_get_past ss c.args.owner c.in_default.ensures.lookup.3 in
    let page = owned c.args.page ss c.args.owner c.requires.owner ∙ ap (λ (o : Option Segment). text_page_in c.args.page (option_map segment_of o)) none in
    sym (ap (λ (bytes : List ℕ). c.args.text.now.items ++ bytes) page ∙ append-nil c.args.text.now.items)
