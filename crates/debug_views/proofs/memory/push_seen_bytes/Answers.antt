use Rattle.std.proofs.Common.{rules, ◌≡◌, ◌+◌, ◌-◌, ◌<◌, ◌≤◌, ◌^◌, ◌++◌, ◌∷◌, [], sym, ◌∙◌, ap, arith}
use Rattle.debug_views.specs.Memory.{seen_byte, seen_bytes}
use Rattle.debug_views.proofs.SeenBytes.{none_left, past_the_end, unseen, seen, all_put, one_put}
use Rattle.debug_views.proofs.memory.push_seen_bytes.Goals as goal

pub returns-in_default : goal.returns-in_default
returns-in_default c =
    let past : 2 ^ 64 ≤ c.args.va + c.bytes.i = search rules in
    all_put c.bytes.out.items _ _ (past_the_end c.args.ram.now c.args.satp (c.args.va + c.bytes.i) (c.args.count - c.bytes.i) past) c.bytes.invariant

pub returns-in_default-seen_byte : goal.returns-in_default-seen_byte
returns-in_default-seen_byte c =
    let at : c.in-Some.at ≡ c.args.va + c.bytes.i = search rules in
    let within : c.args.va + c.bytes.i < 2 ^ 64 = search rules in
    let some : 0 < c.args.count - c.bytes.i = search rules in
    all_put c.bytes.out.items _ _
    (unseen c.args.ram.now c.args.satp (c.args.va + c.bytes.i) (c.args.count - c.bytes.i) some within
    (ap (λ a. seen_byte c.args.ram.now c.args.satp a) (sym at) ∙ sym c.seen_byte.ensures ∙ c.in_default-seen_byte.is))
    c.bytes.invariant

pub bytes-preserved : goal.bytes-preserved
bytes-preserved c =
    let at : c.in-Some.at ≡ c.args.va + c.bytes.i = search rules in
    let within : c.args.va + c.bytes.i < 2 ^ 64 = search rules in
    let some : 0 < c.args.count - c.bytes.i = search rules in
    let pushed : c.push.new.self.items ≡ c.bytes.out.items ++ c.in-Some-seen_byte.byte ∷ [] = search rules in
    let place : c.args.va + (c.bytes.i + 1) ≡ c.args.va + c.bytes.i + 1 = omega arith in
    let left : c.args.count - (c.bytes.i + 1) ≡ c.args.count - c.bytes.i - 1 = omega arith in
    let more = seen c.args.ram.now c.args.satp (c.args.va + c.bytes.i) (c.args.count - c.bytes.i) c.in-Some-seen_byte.byte some within
    (ap (λ a. seen_byte c.args.ram.now c.args.satp a) (sym at) ∙ sym c.seen_byte.ensures ∙ c.in-Some-seen_byte.is) in
    ap (λ xs. xs ++ seen_bytes c.args.ram.now c.args.satp (c.args.va + (c.bytes.i + 1)) (c.args.count - (c.bytes.i + 1))) pushed
    ∙ ap (λ va. c.bytes.out.items ++ c.in-Some-seen_byte.byte ∷ [] ++ seen_bytes c.args.ram.now c.args.satp va (c.args.count - (c.bytes.i + 1))) place
    ∙ ap (λ n. c.bytes.out.items ++ c.in-Some-seen_byte.byte ∷ [] ++ seen_bytes c.args.ram.now c.args.satp (c.args.va + c.bytes.i + 1) n) left
    ∙ one_put c.bytes.out.items _ _ (seen_bytes c.args.ram.now c.args.satp (c.args.va + c.bytes.i + 1) (c.args.count - c.bytes.i - 1)) c.in-Some-seen_byte.byte more c.bytes.invariant

pub returns : goal.returns
returns c =
    let none : c.args.count - c.bytes.i ≡ 0 = search rules in
    all_put c.bytes.out.items _ _ (none_left c.args.ram.now c.args.satp (c.args.va + c.bytes.i) (c.args.count - c.bytes.i) none) c.bytes.invariant
