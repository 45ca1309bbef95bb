use Rattle.std.proofs.Common.{string_bytes}
use Rattle.std.proofs.lemmas.Str.{IsUtf8-string_bytes}
use Rattle.sv_types.specs.Policies.{rules_of}
use Rattle.policy.proofs.Texts.{table_of_text_valid}
use Rattle.policy.proofs.WrittenRules.{text_back}
use Rattle.policy.proofs.printing.write.Goals as goal

pub returns-clause-table : goal.returns-clause-table
returns-clause-table c = rw c.into_bytes.ensures.value (table_of_text_valid (string_bytes c.in_ok-text.text) _ (IsUtf8-string_bytes c.in_ok-text.text) c.in_ok-text.ensures.printed)

pub returns-clause-reads_back : goal.returns-clause-reads_back
returns-clause-reads_back c = text_back (rules_of c.args.policy.now) c.in_ok-text.ensures.typed c.requires _ (returns-clause-table c)
