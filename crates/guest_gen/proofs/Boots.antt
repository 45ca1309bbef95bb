-- The generated guest is never refused.
use Rattle.std.proofs.Common.{◌≡◌, ◌==◌, ℕ, None, refl, ap}
use Rattle.std.specs.List.{list_any}
use Rattle.spec_processor.specs.Bytes.{word}
use Rattle.sv_types.specs.Kernel.{kernel_refusal, file_checks, header_checks, header_at, loaded_among, segment_checks, image_checks, kernel_segments, text_of, header_entry}
use Rattle.sv_types.specs.Measure.{measure}
use Rattle.guest_gen.specs.Booting.{IsMeasuredKernel}
use Rattle.guest_gen.specs.Images.{file_header, program_header, segment, headers, laid_out, text_address}
use Rattle.guest_gen.specs.GuestCode.{setup, trap_handler, user_loop}
use Rattle.guest_gen.specs.Generated.{generated_text, generated_image, policy_of_text, generated_policy}

-- the bytes of the generated file, which all that follows looks into
unfoldable generated_bytes : Unit {0}
unfolding file_header program_header segment headers laid_out generated_image generated_text setup trap_handler user_loop
generated_bytes = tt

pub begins : (n : ℕ) → header_entry (generated_image n) ≡ text_address
unfolding word generated_bytes
begins n = refl

pub accepted : (n : ℕ) → kernel_refusal (generated_image n) 64 ≡ None
unfolding word kernel_refusal file_checks header_checks header_at loaded_among segment_checks image_checks generated_bytes
accepted n = refl

pub same_text : (n : ℕ) → text_of (kernel_segments (generated_image n)) ≡ generated_text n
unfolding word text_of kernel_segments header_at loaded_among generated_bytes
same_text n = refl

pub bootable : (n : ℕ) → IsMeasuredKernel (generated_image n) (generated_policy n)
unfolding policy_of_text
bootable n = record {
  accepted = accepted n;
  measured = ap measure (same_text n);
  permitted = ap (λ (entry : ℕ). list_any (λ e. e == entry) (policy_of_text (generated_text n)).entries) (begins n);
}
