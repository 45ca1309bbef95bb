-- Which answers set protections of pages. This project's own.
use Rattle.std.specs.Prelude.{Bool, true, false}
use Rattle.spec_reference.specs.declared.answers.SideEffect.{SideEffect}
use Rattle.spec_reference.specs.declared.answers.SideEffect.TheVariants.{BeginsLoad, ApprovesModule, ReleasesModule, UnloadsModule, RetiresInit}

unfoldable pub sets_protections : SideEffect → Bool
sets_protections (BeginsLoad about pages) = true
sets_protections (ApprovesModule about) = true
sets_protections (ReleasesModule about) = true
sets_protections (UnloadsModule about) = true
sets_protections (RetiresInit span) = true
sets_protections _ = false
