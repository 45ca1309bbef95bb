use Rattle.std.proofs.Common.{refl, sym, ◌∙◌, arith, length-take}
use Rattle.elf64_load.proofs.Fronts.{front_found, no_front, empty_front, name_of_front}
use Rattle.elf64_load.proofs.sections.names.name_in.Goals as goal

pub returns-in_default-clause-name : goal.returns-in_default-clause-name
returns-in_default-clause-name c = sym (no_front c.args.bytes.now _ c.min-most.result refl c.min-most.ensures (sym c.zero_byte.ensures ∙ c.in_default.is))

pub returns-then-length-eq0-clause-name : goal.returns-then-length-eq0-clause-name
returns-then-length-eq0-clause-name c =
    let front = front_found c.args.bytes.now _ c.min-most.result c.in-Some.length refl c.min-most.ensures (sym c.zero_byte.ensures ∙ c.in-Some.is) in
    sym (empty_front c.args.bytes.now (front.0 ∙ c.if-length-eq0.true))

pub slice_bounds-text_of-end : goal.slice_bounds-text_of-end
slice_bounds-text_of-end c =
    let front = front_found c.args.bytes.now _ c.min-most.result c.in-Some.length refl c.min-most.ensures (sym c.zero_byte.ensures ∙ c.in-Some.is) in
    let size = length-take c.in-Some.length c.args.bytes.now in
    omega arith

pub returns-clause-name : goal.returns-clause-name
returns-clause-name c =
    let front = front_found c.args.bytes.now _ c.min-most.result c.in-Some.length refl c.min-most.ensures (sym c.zero_byte.ensures ∙ c.in-Some.is) in
    c.text_of.ensures.text ∙ sym (name_of_front c.args.bytes.now c.in-Some.length front.0 front.1 front.2 c.if-length-eq0.false)
