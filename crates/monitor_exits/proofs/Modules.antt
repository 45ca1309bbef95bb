-- A call about modules is answered as one.
use Rattle.std.proofs.Common.{◌≡◌, true, Option, Some, None, refl}
use Rattle.spec_reference.specs.Calls.{Asked, Facts, extension_of}
use Rattle.spec_reference.specs.ModuleCalls.{call_answer_by, answer_of, module_call}
use Rattle.spec_reference.specs.declared.answers.Extension.{Extension}
use Rattle.monitor_exits.specs.Asking.{is_modules, is_about_modules}

by_extension : (f : Facts) (ask : Asked) (e : Option Extension) → is_modules e ≡ true → call_answer_by f ask e ≡ module_call f ask
unfolding call_answer_by
by_extension f ask None is = cc
by_extension f ask (Some Extension.SetTimer) is = cc
by_extension f ask (Some Extension.PutChar) is = cc
by_extension f ask (Some Extension.GetChar) is = cc
by_extension f ask (Some Extension.ShutDown) is = cc
by_extension f ask (Some Extension.Base) is = cc
by_extension f ask (Some Extension.Timer) is = cc
by_extension f ask (Some Extension.Interrupt) is = cc
by_extension f ask (Some Extension.Fence) is = cc
by_extension f ask (Some Extension.HartState) is = cc
by_extension f ask (Some Extension.Reset) is = cc
by_extension f ask (Some Extension.Modules) is = refl

pub modules_answer : (f : Facts) (ask : Asked) → is_about_modules ask ≡ true → answer_of f ask ≡ module_call f ask
modules_answer f ask is = by_extension f ask (extension_of ask.extension) is
