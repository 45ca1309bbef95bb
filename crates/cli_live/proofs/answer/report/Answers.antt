use Rattle.std.proofs.Common.{refl, Err}
use Rattle.host_io.specs.declared.trouble.Trouble.TheVariants.{Write}
use Rattle.cli_live.proofs.answer.report.Goals as goal

pub returns-then-end : goal.returns-then-end
returns-then-end g c = record {
  written = Err Write;
  broke = λ _. (refl, refl);
  writes = λ done. absurd (cc (c.if-end.true, done));
  saved = Err Write;
  saves = (refl, refl);
  status = refl;
}

pub returns : goal.returns
returns g c =
    let it = c.report_and_save-saved.ensures in
    record {
      written = it.0;
      broke = λ broke. absurd (cc (c.if-end.false, broke));
      writes = λ _. it.1;
      saved = c.report_and_save-saved.result;
      saves = it.2;
      status = c.after_reading.ensures;
    }
