-- A byte of RAM, by what it asks of an address.
use Rattle.std.proofs.Common.{◌≡◌, ℕ, ◌*◌, arith}
use Rattle.std.proofs.lemmas.Bool.Decides.{nat_tests}
use Rattle.spec_processor.specs.Bytes.{page_size, is_in_ram, is_ram_address}

-- one byte lies in RAM where its address is below RAM's end
pub byte_in_ram : (gpa ram_pages : ℕ) → is_in_ram gpa 1 (page_size * ram_pages) ≡ is_ram_address ram_pages gpa
byte_in_ram gpa ram_pages = grind (arith, nat_tests)
