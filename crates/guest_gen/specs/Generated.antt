-- The generated guest as a file, and its policy. This project's own.
use Rattle.std.specs.Prelude.{ℕ, ◌+◌, List, [], ◌∷◌, ◌++◌, None}
use Rattle.spec_processor.specs.Bytes.{with_padding, page_size}
use Rattle.sv_types.specs.Limits.{plain_format}
use Rattle.sv_types.specs.Measure.{measure}
use Rattle.sv_types.specs.Policies.{Rules}
use Rattle.guest_gen.specs.Images.{code_bytes, laid_out, text_address}
use Rattle.guest_gen.specs.GuestCode.{setup, trap_handler, trap_offset, user_loop}

-- the page of text, with zeros between its two parts and after them
unfoldable pub generated_text : ℕ → List ℕ
generated_text n = with_padding (with_padding (code_bytes (setup n)) trap_offset ++ code_bytes trap_handler) page_size

unfoldable pub generated_image : ℕ → List ℕ
generated_image n = laid_out (generated_text n) (code_bytes user_loop)

-- the pages of RAM
abbrev pub generated_pages : ℕ
generated_pages = 64

-- one hart; the kernel may be entered at its begin and at its trap vector
unfoldable pub policy_of_text : List ℕ → Rules
policy_of_text text = record {
  format = plain_format;
  harts = 1;
  ram_pages = generated_pages;
  entries = text_address ∷ (text_address + trap_offset) ∷ [];
  bound = [];
  exports = [];
  kernel = measure text;
  init = None;
  modules = [];
}

abbrev pub generated_policy : ℕ → Rules
generated_policy n = policy_of_text (generated_text n)
