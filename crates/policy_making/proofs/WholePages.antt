-- Texts are whole pages.
use Rattle.std.proofs.Common.{◌≡◌, ℕ, ◌+◌, ◌-◌, ◌*◌, ◌%◌, ◌≤◌, Bool, true, false, List, [], ◌∷◌, length, take, drop, replicate, Ok, Err}
use Rattle.std.proofs.Common.{Some, None, Option, refl, ap, sym, subst, ◌∙◌, arith, length-append, length-take}
use Rattle.sv_types.proofs.InPages.{IsWhole}
use Rattle.std.specs.Prelude.{flat_map, find, ◌==◌, if◌then◌else◌}
use Rattle.std.specs.List.{list_all}
use Rattle.std.proofs.lemmas.List.{length-replicate}
use Rattle.spec_processor.specs.Bytes.{with_padding, page_of, page_size}
use Rattle.sv_types.specs.Kernel as kernels
use Rattle.sv_types.specs.Kernel.{LoadedSegment, is_text_of, text_page, text_page_in}
use Rattle.sv_types.specs.ApprovedPages.{numbers_from}
use Rattle.spec_processor.specs.Regions.{max_ram_pages}
use Rattle.sv_types.specs.declared.module.Site.{Site}
use Rattle.sv_types.specs.declared.policy.Export.{Export}
use Rattle.sv_types.specs.Steps.{◌>>=◌}
use Rattle.elf64_load.proofs.Steps.{ok_same}
use Rattle.elf64_reloc.specs.Layouts.{padding, is_good_alignment, text_size}
use Rattle.elf64_reloc.specs.Objects.{Object, object_judged}
use Rattle.elf64_reloc.specs.Modules.{Module, text_of, text_from, whole_pages, zeros, is_too_large, fields_overlap, ordered_sites, module_with, module_of, sites_of, module_judged}
use Rattle.elf64_reloc.specs.Refusals.{Judged}
use Rattle.elf64_reloc.specs.declared.fault.ObjectFault.{ObjectFault}

-- ---- a kernel

full : (bytes : List ℕ) → length bytes ≤ page_size → length (with_padding bytes page_size) ≡ page_size
full bytes short =
    let behind : length {A = ℕ} (replicate (page_size - length bytes) 0) ≡ page_size - length bytes = length-replicate (page_size - length bytes) 0 in
    length-append bytes (replicate (page_size - length bytes) 0) ∙ ap (λ (n : ℕ). length bytes + n) behind ∙ omega arith

page_is_whole : (page : ℕ) (o : Option LoadedSegment) → IsWhole (text_page_in page o)
page_is_whole page None = refl
page_is_whole page (Some s) =
    let rest : List ℕ = drop (page_size * (page - page_of s.gpa)) s.bytes in
    let short : length (take page_size rest) ≤ page_size = subst (λ (n : ℕ). n ≤ page_size) (sym (length-take page_size rest)) (omega arith) in
    ap (λ (n : ℕ). n % page_size) (full (kernels.filled_part page s) short)

pages_are_whole : (ss : List LoadedSegment) (pages : List ℕ) → IsWhole (flat_map (text_page ss) pages)
pages_are_whole ss [] = refl
pages_are_whole ss (page ∷ pages) =
    let one : IsWhole (text_page ss page) = page_is_whole page (find (is_text_of page) ss) in
    let rest : IsWhole (flat_map (text_page ss) pages) = pages_are_whole ss pages in
    ap (λ (n : ℕ). n % page_size) (length-append (text_page ss page) (flat_map (text_page ss) pages)) ∙ omega arith

segments_are_whole : (ss : List LoadedSegment) → IsWhole (kernels.text_of ss)
unfolding kernels.text_of
segments_are_whole ss = pages_are_whole ss (numbers_from 0 max_ram_pages)

pub text_is_whole : (text : List ℕ) (ss : List LoadedSegment) → text ≡ kernels.text_of ss → length text % page_size ≡ 0
text_is_whole text ss is = subst IsWhole (sym is) (segments_are_whole ss)

-- ---- a module

filled : (text : List ℕ) → IsWhole (whole_pages text)
filled text =
    let added : length (zeros (padding (length text) page_size)) ≡ padding (length text) page_size = length-replicate (padding (length text) page_size) 0 in
    ap (λ (n : ℕ). n % page_size) (length-append text (zeros (padding (length text) page_size)) ∙ ap (λ (n : ℕ). length text + n) added) ∙ omega arith

object_is_whole : (o : Object) → IsWhole (text_of o)
unfolding text_of
object_is_whole o = filled (text_from o.file [] o.sections)

by_tests : (o : Object) (a b c : Bool) (sites : List Site) (m : Module)
    → (if a then Err ObjectFault.TooLarge else if b then Err ObjectFault.Overlap else if c then Err ObjectFault.NoText else Ok (record { text = text_of o; sites = sites })) ≡ Ok m
    → IsWhole m.text
by_tests o true b c sites m e = absurd (cc e)
by_tests o false true c sites m e = absurd (cc e)
by_tests o false false true sites m e = absurd (cc e)
by_tests o false false false sites m e =
    subst (λ (n : Module). IsWhole n.text) (ok_same (record { text = text_of o; sites = sites }) m e) (object_is_whole o)

by_sites : (o : Object) (good : Bool) (judged : Judged (List Site)) (m : Module) → (if good then (judged >>= module_with o) else Err ObjectFault.Alignment) ≡ Ok m → IsWhole m.text
by_sites o true (Ok sites) m e =
    by_tests o (is_too_large o.sections sites) (fields_overlap sites (ordered_sites sites)) (text_size o.sections == 0) (ordered_sites sites) m e
by_sites o true (Err x) m e = absurd (cc e)
by_sites o false judged m e = absurd (cc e)

by_object : (exports : List Export) (judged : Judged Object) (m : Module) → (judged >>= module_of exports) ≡ Ok m → IsWhole m.text
by_object exports (Ok o) m e = by_sites o (list_all is_good_alignment o.sections) (sites_of exports o) m e
by_object exports (Err x) m e = absurd (cc e)

pub module_is_whole : (file : List ℕ) (exports : List Export) (m : Module) → module_judged file exports ≡ Ok m → length m.text % page_size ≡ 0
unfolding module_judged
module_is_whole file exports m e = by_object exports (object_judged file) m e
