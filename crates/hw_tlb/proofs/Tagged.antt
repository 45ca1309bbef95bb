-- The tag tells what it was made of.
use Rattle.std.proofs.Common.{◌≡◌, ℕ, ◌+◌, ◌*◌, ◌<◌, refl, sym, ◌∙◌, ap, arith, Bool, true, false}
use Rattle.spec_processor.specs.Bytes.{page_size}
use Rattle.spec_processor.specs.declared.access.Access.{Access}
use Rattle.spec_processor.specs.declared.access.Access.TheVariants.{Fetch, Load, Store}
use Rattle.spec_processor.specs.declared.mode.Mode.{Mode}
use Rattle.spec_processor.specs.declared.mode.Mode.TheVariants.{Kernel, User}
use Rattle.sv39_walk.specs.declared.first_stage.Regime.{Regime}
use Rattle.hw_tlb.specs.declared.line.Line.{Line}
use Rattle.hw_tlb.specs.Kept.{IsFor}
use Rattle.hw_tlb.specs.Tags.{kind_number, mode_number, bit_number, tag_of}

-- ---- each part

few_kinds : (a : Access) → kind_number a < 3
few_kinds Fetch = omega arith
few_kinds Load = omega arith
few_kinds Store = omega arith

few_modes : (m : Mode) → mode_number m < 2
few_modes Kernel = omega arith
few_modes User = omega arith

few_bits : (b : Bool) → bit_number b < 2
few_bits false = omega arith
few_bits true = omega arith

kind_told : (a b : Access) → kind_number a ≡ kind_number b → a ≡ b
kind_told Fetch Fetch e = refl
kind_told Fetch Load e = absurd (omega arith)
kind_told Fetch Store e = absurd (omega arith)
kind_told Load Fetch e = absurd (omega arith)
kind_told Load Load e = refl
kind_told Load Store e = absurd (omega arith)
kind_told Store Fetch e = absurd (omega arith)
kind_told Store Load e = absurd (omega arith)
kind_told Store Store e = refl

mode_told : (a b : Mode) → mode_number a ≡ mode_number b → a ≡ b
mode_told Kernel Kernel e = refl
mode_told Kernel User e = absurd (omega arith)
mode_told User Kernel e = absurd (omega arith)
mode_told User User e = refl

bit_told : (a b : Bool) → bit_number a ≡ bit_number b → a ≡ b
bit_told false false e = refl
bit_told false true e = absurd (omega arith)
bit_told true false e = absurd (omega arith)
bit_told true true e = refl

-- ---- all parts

parts_told : (p q a b m n x y s t : ℕ) → a < 3 → b < 3 → m < 2 → n < 2 → x < 2 → y < 2 → s < 2 → t < 2
    → page_size * p + (8 * a + (4 * m + (2 * x + s))) ≡ page_size * q + (8 * b + (4 * n + (2 * y + t)))
    → (p ≡ q) × ((a ≡ b) × ((m ≡ n) × ((x ≡ y) × (s ≡ t))))
parts_told p q a b m n x y s t fa fb fm fn fx fy fs ft e = (omega arith, (omega arith, (omega arith, (omega arith, omega arith))))

abbrev regime_by : (hgatp vsatp : ℕ) → Mode → (sum mxr : Bool) → Regime
regime_by hgatp vsatp mode sum mxr = record { hgatp = hgatp; vsatp = vsatp; mode = mode; sum = sum; mxr = mxr }

same_regime : (a b : Regime) → a.hgatp ≡ b.hgatp → a.vsatp ≡ b.vsatp → a.mode ≡ b.mode → a.sum ≡ b.sum → a.mxr ≡ b.mxr → a ≡ b
same_regime a b hgatp vsatp mode sum mxr =
    ap (λ (n : ℕ). regime_by n a.vsatp a.mode a.sum a.mxr) hgatp
    ∙ ap (λ (n : ℕ). regime_by b.hgatp n a.mode a.sum a.mxr) vsatp
    ∙ ap (λ (m : Mode). regime_by b.hgatp b.vsatp m a.sum a.mxr) mode
    ∙ ap (λ (t : Bool). regime_by b.hgatp b.vsatp b.mode t a.mxr) sum
    ∙ ap (λ (t : Bool). regime_by b.hgatp b.vsatp b.mode b.sum t) mxr

-- a line of the same tag and roots is one of such accesses to the page
pub found_by : (line : Line) (regime : Regime) (access : Access) (page : ℕ) → line.tag ≡ tag_of regime access page → line.regime.hgatp ≡ regime.hgatp
    → line.regime.vsatp ≡ regime.vsatp → IsFor regime access page line
found_by line regime access page e hgatp vsatp =
    let parts = parts_told line.page page (kind_number line.access) (kind_number access) (mode_number line.regime.mode) (mode_number regime.mode)
    (bit_number line.regime.mxr) (bit_number regime.mxr) (bit_number line.regime.sum) (bit_number regime.sum)
    (few_kinds line.access) (few_kinds access) (few_modes line.regime.mode) (few_modes regime.mode)
    (few_bits line.regime.mxr) (few_bits regime.mxr) (few_bits line.regime.sum) (few_bits regime.sum) (sym line.tagged ∙ e) in
    record {
      regime = same_regime line.regime regime hgatp vsatp (mode_told line.regime.mode regime.mode parts.1.1.0)
          (bit_told line.regime.sum regime.sum parts.1.1.1.1) (bit_told line.regime.mxr regime.mxr parts.1.1.1.0);
      access = kind_told line.access access parts.1.0;
      page = parts.0;
    }

-- and the other way round
pub tagged_alike : (line : Line) (regime : Regime) (access : Access) (page : ℕ) → IsFor regime access page line → line.tag ≡ tag_of regime access page
tagged_alike line regime access page found = line.tagged ∙ (rw (found.regime, found.access, found.page) refl)
