use Rattle.std.proofs.Common.{rules, ◌≡◌, true, ◌∙◌, ap}
use Rattle.std.specs.Result.{result_ok}
use Rattle.sv_types.specs.Addresses.{is_hexadecimal}
use Rattle.text_numbers.proofs.HexadecimalRead.{hexadecimal_read}
use Rattle.text_numbers.proofs.addresses.hexadecimal_number.Goals as goal

pub returns : goal.returns
returns c =
    let is : is_hexadecimal c.args.digits.now ≡ true = search rules in
    rw (is) (c.ok.ensures.value ∙ ap result_ok (hexadecimal_read c.args.digits.now c.from_str_radix.result is c.from_str_radix.ensures.value))
