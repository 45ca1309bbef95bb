use Rattle.std.proofs.Common.{◌≡◌, ◌==◌, ◌%◌, List, ℕ, length, true, false, Option, Some, Err, Vec, Global, subst, sym, ◌∙◌}
use Rattle.std.specs.Borrow.{Bor}
use Rattle.std.specs.Option.{option_copied}
use Rattle.cli_plans.specs.declared.file_fault.FileFault.{FileFault}
use Rattle.cli_plans.specs.declared.refusal.Refusal.TheVariants.{File}
use Rattle.secvisor_cli.specs.declared.ready.Stop.TheVariants.{Refused}
use Rattle.cli_plans.specs.Plans.{disk_part}
use Rattle.cli_plans.specs.Reading.{MayFollow}
use Rattle.secvisor_cli.specs.Ready.{Passes, Prepares, Staged}
use Rattle.secvisor_cli.proofs.ReadyLemmas.{err_by}
use Rattle.secvisor_cli.proofs.StageLemmas.{no_disk, disk_read, disk_refused, disk_unread, disk_asked}
use Rattle.secvisor_cli.proofs.image_run.read_disk.Goals as goal

pub returns-in_default-clause-stage : goal.returns-in_default-clause-stage
returns-in_default-clause-stage g c =
    subst (λ (n : Option (Bor (List ℕ))). Passes (disk_part (option_copied n)) c.new.result.items (g.F.Files.state c.args.files.now) (g.F.Files.state c.args.files.now)) (sym c.in_default.is)
    (no_disk c.new.result.items _ c.new.ensures.items)

pub read_part-requires-clause-permitted : goal.read_part-requires-clause-permitted
read_part-requires-clause-permitted g c =
    disk_asked c.in-Some.name.now c.requires.permitted.next _
    (subst (λ (n : Option (Bor (List ℕ))). MayFollow (disk_part (option_copied n) c.requires.permitted.next) (g.F.Files.state c.args.files.now)) c.in-Some.is c.requires.permitted.may)

pub returns-in_err-disk-clause-stage : goal.returns-in_err-disk-clause-stage
returns-in_err-disk-clause-stage g c =
    subst (λ (n : Option (Bor (List ℕ))). Staged {T = Vec ℕ Global} (disk_part (option_copied n)) (λ (v : Vec ℕ Global). v.items) (g.F.Files.state c.args.files.now)
    (g.F.Files.state c.read_part.new.files) c.from_residual.result)
    (sym c.in-Some.is)
    (err_by _ c.in_err-disk.field-0.0
    (λ r. Staged {T = Vec ℕ Global} (disk_part (Some c.in-Some.name.now)) (λ (v : Vec ℕ Global). v.items) (g.F.Files.state c.args.files.now) (g.F.Files.state c.read_part.new.files) r)
    c.from_residual.ensures.1 (disk_unread c.in-Some.name.now _ _ c.in_err-disk.field-0.0 c.in_err-disk.ensures))

pub returns-then-not-is_whole_sectors-clause-stage : goal.returns-then-not-is_whole_sectors-clause-stage
returns-then-not-is_whole_sectors-clause-stage g c =
    let part : (length c.deref.result.now % 512 == 0) ≡ false = sym c.is_whole_sectors.ensures.value ∙ c.if-not-is_whole_sectors.true in λ next.
    subst (λ (n : Option (Bor (List ℕ))). Prepares (disk_part (option_copied n) next) (g.F.Files.state c.args.files.now) (g.F.Files.state c.read_part.new.files)
    (Err (Refused (File FileFault.DiskSectors))))
    (sym c.in-Some.is)
    (disk_refused c.in-Some.name.now c.in_ok-disk.disk.items _ _ c.in_ok-disk.ensures (subst (λ (b : List ℕ). (length b % 512 == 0) ≡ false) c.deref.ensures.value part) next)

pub returns-clause-stage : goal.returns-clause-stage
returns-clause-stage g c =
    let whole : (length c.deref.result.now % 512 == 0) ≡ true = sym c.is_whole_sectors.ensures.value ∙ c.if-not-is_whole_sectors.false in
    subst (λ (n : Option (Bor (List ℕ))). Passes (disk_part (option_copied n)) c.in_ok-disk.disk.items (g.F.Files.state c.args.files.now) (g.F.Files.state c.read_part.new.files))
    (sym c.in-Some.is)
    (disk_read c.in-Some.name.now c.in_ok-disk.disk.items _ _ c.in_ok-disk.ensures (subst (λ (b : List ℕ). (length b % 512 == 0) ≡ true) c.deref.ensures.value whole))
