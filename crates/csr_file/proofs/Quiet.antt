-- Where no interrupt is both pending and enabled, none is taken.
use Rattle.std.proofs.Common.{◌≡◌, ℕ, zero, suc, ◌/◌, ◌%◌, ◌^◌, ◌<◌, refl, sym, ◌∙◌, ap, arith, lit<, Bool, false, not, ◌&&◌, ◌||◌}
use Rattle.std.specs.Prelude.{◌==◌, min, None, bit_and}
use Rattle.std.specs.Int.{bit_at}
use Rattle.std.proofs.Math.Nat.{mod-lt, zero-div}
use Rattle.std.proofs.lemmas.Nat.Bits.{bit_at_and}
use Rattle.spec_processor.specs.Bits.{bit}
use Rattle.spec_processor.specs.Traps.{takes_interrupts}
use Rattle.spec_processor.specs.HypervisorRegisters.{HypervisorRegisters, hip_value, virtual_number, is_taken, pending}
use Rattle.spec_processor.specs.declared.hregs.HRegs.{HRegs}
use Rattle.spec_processor.specs.declared.mode.Mode.{Mode}
use Rattle.spec_processor.specs.declared.lines.Lines.{Lines}
use Rattle.spec_processor.specs.declared.interrupt.Interrupt.{Interrupt}
use Rattle.spec_processor.specs.declared.interrupt.Interrupt.TheVariants.{External, Software, Timer}

no_bit : (i : ℕ) → bit_at 0 i ≡ 0
no_bit i = ap (λ (n : ℕ). n % 2) (zero-div (2 ^ i))

not_both : (x y : ℕ) → x < 2 → y < 2 → min x y ≡ 0 → (x == 1 && y == 1) ≡ false
not_both zero y h k e = refl
not_both (suc zero) zero h k e = refl
not_both (suc zero) (suc zero) h k e = absurd (cc)
not_both (suc zero) (suc (suc y)) h k e = absurd (omega arith)
not_both (suc (suc x)) y h k e = absurd (omega arith)

bits_apart : (a b i : ℕ) → bit_and a b ≡ 0 → (bit a i && bit b i) ≡ false
bits_apart a b i e =
    let low : min (bit_at a i) (bit_at b i) ≡ bit_at 0 i = sym (bit_at_and a b i) ∙ ap (λ (n : ℕ). bit_at n i) e in
    not_both (bit_at a i) (bit_at b i) (mod-lt (a / 2 ^ i) (lit< tt)) (mod-lt (b / 2 ^ i) (lit< tt)) (low ∙ no_bit i)

none_taken : (hideleg : ℕ) (mode : Mode) (c : HypervisorRegisters) (lines : Lines) (interrupt : Interrupt) → bit_and (hip_value c.hvip lines) c.hie ≡ 0
    → is_taken hideleg mode c lines interrupt ≡ false
unfolding is_taken
none_taken hideleg mode c lines interrupt e =
    ap (λ (b : Bool). b && (not (bit hideleg (virtual_number interrupt)) || takes_interrupts mode c.vsstatus))
    (bits_apart (hip_value c.hvip lines) c.hie (virtual_number interrupt) e)

pub none_pending : (regs : HRegs) (c : HypervisorRegisters) (lines : Lines) → bit_and (hip_value c.hvip lines) c.hie ≡ 0 → pending regs c lines ≡ None
unfolding pending
none_pending regs c lines e =
    rw (none_taken regs.hideleg regs.mode c lines External e, none_taken regs.hideleg regs.mode c lines Software e, none_taken regs.hideleg regs.mode c lines Timer e) refl
