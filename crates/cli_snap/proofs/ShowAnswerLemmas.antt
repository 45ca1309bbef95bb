-- What follows of an answer from what was read.
use Rattle.std.proofs.Common.{◌≡◌, ◌<◌, ◌≤◌, ℕ, List, IsTrue, true, false, length, nat_lt, arith, refl, ap, subst, Option, Some, None, Result, Ok, Err, IsErrOf, Vec, sym, inl, inr, ◌∙◌, ◌⊎◌}
use Rattle.std.specs.Result.{is_ok}
use Rattle.cli_plans.specs.declared.refusal.Refusal.{Refusal}
use Rattle.std.proofs.lemmas.Bool.Decides.{nat_tests}
use Rattle.std.specs.declared.alloc.Global.{Global}
use Rattle.sv_types.specs.declared.status.Status.{Status}
use Rattle.host_io.specs.declared.FileRefusal.{FileRefusal}
use Rattle.host_io.specs.declared.FileRefusal.TheVariants.{Absent, Failed, TooLong, Memory as ReadMemory}
use Rattle.host_io.specs.Endings.{status_of_end}
use Rattle.host_io.specs.Outside.{FilesState, SinkState, ReadTells, ReadLeaves, after_asking}
use Rattle.snapshot_format.specs.Snapshots.{Contents, max_snapshot_bytes, snapshot_read}
use Rattle.snapshot_format.specs.declared.refusal.SnapRefusal.{SnapRefusal}
use Rattle.cli_plans.specs.Commands.{ShowSplit}
use Rattle.cli_plans.specs.Plans.{max_image_bytes}
use Rattle.cli_snap.specs.SnapshotTexts.{snapshot_text}
use Rattle.cli_snap.specs.Showing.{Due, asked_of, due_with_kernel, held_kernel, held_shown, read_shown, shown}
use Rattle.cli_snap.specs.Answers.{Answers, Ends, EndsAfter, EndsBytes, EndsJudged, EndsUnread, EndsWithKernel, Refuses, ShowEnds, ShowsFiles, ShowsRead, Shows, MayAsk, MayAskKernel}
use Rattle.host_io.specs.declared.trouble.Trouble.{Trouble}
use Rattle.host_io.specs.declared.trouble.Trouble.TheVariants.{Write, Memory}
use Rattle.cli_plans.specs.declared.file_fault.FileFault.{FileFault}
use Rattle.cli_plans.specs.declared.file_fault.Part.{Part}
use Rattle.cli_plans.specs.declared.refusal.Refusal.TheVariants.{NoCommand, ReadFault, File}

-- ---- what is due for what the names hold

-- more bytes than a snapshot has are none
too_long : (bytes : List ℕ) → max_snapshot_bytes < length bytes → snapshot_read bytes ≡ Err SnapRefusal.TooLong
unfolding snapshot_read
too_long bytes longer =
    let is : nat_lt max_snapshot_bytes (length bytes) ≡ true = grind (arith, nat_tests) in
    rw is refl

-- where memory ran out, nothing was written
unread : (due : Due) (old new : SinkState) (result : Result Status Trouble) → IsErrOf result Memory → new ≡ old → Ends due old new result
unread due old new (Ok status) wants same = cc wants
unread due old new (Err Write) wants same = cc wants
unread due old new (Err Memory) wants same = same

is_short : (file : List ℕ) → length file ≤ max_image_bytes → nat_lt max_image_bytes (length file) ≡ false
is_short file short = grind (arith, nat_tests)

is_long : (file : List ℕ) → max_image_bytes < length file → nat_lt max_image_bytes (length file) ≡ true
is_long file long = grind (arith, nat_tests)

kernel_held : (s : Contents) (name : List ℕ) (files read : FilesState) (found : Result (Vec ℕ Global) FileRefusal) (old new : SinkState) (result : Result Status Trouble) → IsTrue files.tells →
    read.read_faults ≡ files.read_faults → ReadTells files name max_image_bytes found → ReadLeaves files read name max_image_bytes found → EndsWithKernel s found old new result →
    Ends (held_kernel s (files.held name)) old new result
kernel_held s name files read (Ok file) old new result tells same told leaves ends = rw (told.1 tells, is_short file.items told.0) ends
kernel_held s name files read (Err Absent) old new result tells same told leaves ends = rw told.1 ends
kernel_held s name files read (Err Failed) old new result tells same told leaves ends = absurd (omega (arith, same, leaves.0))
kernel_held s name files read (Err TooLong) old new result tells same told leaves ends = rw (told.2 tells, is_long told.0 told.1) ends
kernel_held s name files read (Err ReadMemory) old new result tells same told leaves ends = unread (held_kernel s (files.held name)) old new result ends.0 ends.1

read_held : (s : Contents) (kernel : Option (List ℕ)) (files read : FilesState) (old new : SinkState) (result : Result Status Trouble) → IsTrue files.tells →
    read.read_faults ≡ files.read_faults → ShowsRead s kernel files read old new result → Ends (shown files.held kernel s) old new result
read_held s None files read old new result tells same it = it.1
read_held s (Some name) files read old new result tells same it = kernel_held s name files read it.found old new result tells same it.tells it.leaves it.ends

judged_held : (kernel : Option (List ℕ)) (judged : Result Contents SnapRefusal) (files read : FilesState) (old new : SinkState) (result : Result Status Trouble) → IsTrue files.tells →
    read.read_faults ≡ files.read_faults → EndsJudged kernel judged files read old new result → Ends (read_shown files.held kernel judged) old new result
judged_held kernel (Ok s) files read old new result tells same it = read_held s kernel files read old new result tells same it
judged_held kernel (Err refusal) files read old new result tells same it = it.refuses.ends

bytes_held : (kernel : Option (List ℕ)) (bytes : List ℕ) (files read : FilesState) (old new : SinkState) (result : Result Status Trouble) → IsTrue files.tells →
    read.read_faults ≡ files.read_faults → EndsBytes kernel bytes files read old new result → Ends (read_shown files.held kernel (snapshot_read bytes)) old new result
bytes_held kernel bytes files read old new result tells same (inl wants) = unread (read_shown files.held kernel (snapshot_read bytes)) old new result wants.wants wants.quiet
bytes_held kernel bytes files read old new result tells same (inr it) = judged_held kernel (snapshot_read bytes) files read old new result tells same it

ends_for_held : (asked : ShowSplit) (files between read : FilesState) (found : Result (Vec ℕ Global) FileRefusal) (old new : SinkState) (result : Result Status Trouble) → IsTrue files.tells →
    read.read_faults ≡ files.read_faults → ReadTells files asked.saved max_snapshot_bytes found → ReadLeaves files between asked.saved max_snapshot_bytes found →
    EndsAfter asked.kernel found between read old new result → Ends (held_shown files.held asked) old new result
ends_for_held asked files between read (Ok bytes) old new result tells same told leaves ends =
    let tells_then : IsTrue between.tells = subst (λ (f : FilesState). IsTrue f.tells) (sym leaves) tells in
    let same_then : read.read_faults ≡ between.read_faults = same ∙ sym (ap (λ f. f.read_faults) leaves) in
    let due : Ends (read_shown between.held asked.kernel (snapshot_read bytes.items)) old new result =
    bytes_held asked.kernel bytes.items between read old new result tells_then same_then ends in
    let due_now : Ends (read_shown files.held asked.kernel (snapshot_read bytes.items)) old new result =
    subst (λ (f : FilesState). Ends (read_shown f.held asked.kernel (snapshot_read bytes.items)) old new result) leaves due in
    rw (told.1 tells) due_now
ends_for_held asked files between read (Err Absent) old new result tells same told leaves ends = rw told.1 ends.1.ends
ends_for_held asked files between read (Err Failed) old new result tells same told leaves ends =
    let then : read.read_faults ≡ between.read_faults = ap (λ f. f.read_faults) ends.0 in
    absurd (omega (arith, same, then, leaves.0))
ends_for_held asked files between read (Err TooLong) old new result tells same told leaves ends = rw (told.2 tells, too_long told.0 told.1) ends.1.ends
ends_for_held asked files between read (Err ReadMemory) old new result tells same told leaves ends =
    unread (held_shown files.held asked) old new result ends.1.0 ends.1.1

pub answers_held : (asked : ShowSplit) (words : Option ShowSplit) (files read : FilesState) (old new : SinkState) (result : Result Status Trouble) → words ≡ Some asked → IsTrue files.tells →
    read.read_faults ≡ files.read_faults → Shows words files read old new result → Ends (held_shown files.held asked) old new result
answers_held asked None files read old new result is tells same shows = cc is
answers_held asked (Some other) files read old new result is tells same (inl wants) = unread (held_shown files.held asked) old new result wants.wants wants.quiet
answers_held asked (Some other) files read old new result is tells same (inr shows) =
    let it : ShowsFiles asked files read old new result = subst (λ (a : ShowSplit). ShowsFiles a files read old new result) (cc is) shows in
    ends_for_held asked files it.between read it.found old new result tells same it.tells it.leaves it.ends

-- ---- what becomes of the files

-- nothing changes but what may be asked for and how often a read failed
pub record Keeps (files read : FilesState) : Type 0 where
  pub held : read.held ≡ files.held
  pub saves : read.save_faults ≡ files.save_faults
  pub reads : files.read_faults ≤ read.read_faults

keeps_by : (files read : FilesState) → read.held ≡ files.held → read.save_faults ≡ files.save_faults → read.read_faults ≡ files.read_faults → Keeps files read
keeps_by files read held saves reads = record { held = held; saves = saves; reads = omega (arith, reads) }

same_keeps : (files read : FilesState) → read ≡ files → Keeps files read
same_keeps files read same = keeps_by files read (ap (λ f. f.held) same) (ap (λ f. f.save_faults) same) (ap (λ f. f.read_faults) same)

keeps_on : (files between read : FilesState) → Keeps files between → Keeps between read → Keeps files read
keeps_on files between read first then = record { held = then.held ∙ first.held; saves = then.saves ∙ first.saves; reads = omega (arith, first.reads, then.reads) }

read_keeps : (name : List ℕ) (limit : ℕ) (files read : FilesState) (found : Result (Vec ℕ Global) FileRefusal) → ReadLeaves files read name limit found → Keeps files read
read_keeps name limit files read (Ok bytes) leaves = keeps_by files read (ap (λ f. f.held) leaves) (ap (λ f. f.save_faults) leaves) (ap (λ f. f.read_faults) leaves)
read_keeps name limit files read (Err Absent) leaves = keeps_by files read (ap (λ f. f.held) leaves) (ap (λ f. f.save_faults) leaves) (ap (λ f. f.read_faults) leaves)
read_keeps name limit files read (Err TooLong) leaves = keeps_by files read (ap (λ f. f.held) leaves) (ap (λ f. f.save_faults) leaves) (ap (λ f. f.read_faults) leaves)
read_keeps name limit files read (Err ReadMemory) leaves = keeps_by files read (ap (λ f. f.held) leaves) (ap (λ f. f.save_faults) leaves) (ap (λ f. f.read_faults) leaves)
read_keeps name limit files read (Err Failed) leaves =
    record { held = ap (λ f. f.held) leaves.1; saves = ap (λ f. f.save_faults) leaves.1; reads = omega (arith, leaves.0) }

shown_keeps : (s : Contents) (kernel : Option (List ℕ)) (files read : FilesState) (old new : SinkState) (result : Result Status Trouble) →
    ShowsRead s kernel files read old new result → Keeps files read
shown_keeps s None files read old new result it = same_keeps files read it.0
shown_keeps s (Some name) files read old new result it = read_keeps name max_image_bytes files read it.found it.leaves

judged_keeps : (kernel : Option (List ℕ)) (judged : Result Contents SnapRefusal) (files read : FilesState) (old new : SinkState) (result : Result Status Trouble) →
    EndsJudged kernel judged files read old new result → Keeps files read
judged_keeps kernel (Ok s) files read old new result it = shown_keeps s kernel files read old new result it
judged_keeps kernel (Err refusal) files read old new result it = same_keeps files read it.same

after_keeps : (kernel : Option (List ℕ)) (found : Result (Vec ℕ Global) FileRefusal) (files read : FilesState) (old new : SinkState) (result : Result Status Trouble) →
    EndsAfter kernel found files read old new result → Keeps files read
after_keeps kernel (Ok bytes) files read old new result (inl wants) = same_keeps files read wants.same
after_keeps kernel (Ok bytes) files read old new result (inr it) = judged_keeps kernel (snapshot_read bytes.items) files read old new result it
after_keeps kernel (Err found) files read old new result it = same_keeps files read it.0

pub keeps_files : (asked : Option ShowSplit) (files read : FilesState) (old new : SinkState) (result : Result Status Trouble) → Shows asked files read old new result → Keeps files read
keeps_files None files read old new result shows = same_keeps files read shows.same
keeps_files (Some asked) files read old new result (inl wants) = same_keeps files read wants.same
keeps_files (Some asked) files read old new result (inr shows) =
    keeps_on files shows.between read (read_keeps asked.saved max_snapshot_bytes files shows.between shows.found shows.leaves)
    (after_keeps asked.kernel shows.found shows.between read old new result shows.ends)

-- ---- what becomes of the sink

ends_writes : (due : Due) (old new : SinkState) (result : Result Status Trouble) → Ends due old new result → old.faults ≤ new.faults
ends_writes due old new (Ok status) ends = let same : new.faults ≡ old.faults = ap (λ s. s.faults) ends.1 in omega (arith, same)
ends_writes due old new (Err Write) ends = omega (arith, ends.faults)
ends_writes due old new (Err Memory) ends = let same : new.faults ≡ old.faults = ap (λ s. s.faults) ends in omega (arith, same)

same_writes : (old new : SinkState) → new ≡ old → old.faults ≤ new.faults
same_writes old new quiet = let same : new.faults ≡ old.faults = ap (λ s. s.faults) quiet in omega (arith, same)

kernel_writes : (s : Contents) (found : Result (Vec ℕ Global) FileRefusal) (old new : SinkState) (result : Result Status Trouble) → EndsWithKernel s found old new result → old.faults ≤ new.faults
kernel_writes s (Ok file) old new result ends = ends_writes (due_with_kernel s file.items) old new result ends
kernel_writes s (Err Absent) old new result ends = ends_writes (Err (ReadFault Part.Image)) old new result ends
kernel_writes s (Err Failed) old new result ends = ends_writes (Err (ReadFault Part.Image)) old new result ends
kernel_writes s (Err TooLong) old new result ends = ends_writes (Err (File (FileFault.Longer Part.Image))) old new result ends
kernel_writes s (Err ReadMemory) old new result ends = same_writes old new ends.1

shown_writes : (s : Contents) (kernel : Option (List ℕ)) (files read : FilesState) (old new : SinkState) (result : Result Status Trouble) → ShowsRead s kernel files read old new result →
    old.faults ≤ new.faults
shown_writes s None files read old new result it = ends_writes (Ok (snapshot_text None s)) old new result it.1
shown_writes s (Some name) files read old new result it = kernel_writes s it.found old new result it.ends

judged_writes : (kernel : Option (List ℕ)) (judged : Result Contents SnapRefusal) (files read : FilesState) (old new : SinkState) (result : Result Status Trouble) →
    EndsJudged kernel judged files read old new result → old.faults ≤ new.faults
judged_writes kernel (Ok s) files read old new result it = shown_writes s kernel files read old new result it
judged_writes kernel (Err refusal) files read old new result it = ends_writes (Err (File (FileFault.Snapshot refusal))) old new result it.refuses.ends

unread_writes : (found : FileRefusal) (old new : SinkState) (result : Result Status Trouble) → EndsUnread found old new result → old.faults ≤ new.faults
unread_writes Absent old new result it = ends_writes (Err (ReadFault Part.Snapshot)) old new result it.ends
unread_writes Failed old new result it = ends_writes (Err (ReadFault Part.Snapshot)) old new result it.ends
unread_writes TooLong old new result it = ends_writes (Err (File (FileFault.Snapshot SnapRefusal.TooLong))) old new result it.ends
unread_writes ReadMemory old new result it = same_writes old new it.1

after_writes : (kernel : Option (List ℕ)) (found : Result (Vec ℕ Global) FileRefusal) (files read : FilesState) (old new : SinkState) (result : Result Status Trouble) →
    EndsAfter kernel found files read old new result → old.faults ≤ new.faults
after_writes kernel (Ok bytes) files read old new result (inl wants) = same_writes old new wants.quiet
after_writes kernel (Ok bytes) files read old new result (inr it) = judged_writes kernel (snapshot_read bytes.items) files read old new result it
after_writes kernel (Err found) files read old new result it = unread_writes found old new result it.1

pub writes : (asked : Option ShowSplit) (files read : FilesState) (old new : SinkState) (result : Result Status Trouble) → Shows asked files read old new result → old.faults ≤ new.faults
writes None files read old new result shows = ends_writes (Err NoCommand) old new result shows.refuses.ends
writes (Some asked) files read old new result (inl wants) = same_writes old new wants.quiet
writes (Some asked) files read old new result (inr shows) = after_writes asked.kernel shows.found shows.between read old new result shows.ends

-- ---- what may be asked for

may_ask_kernel : (kernel : Option (List ℕ)) (files : FilesState) → ((asked : List (List ℕ × ℕ)) → IsTrue (files.permits asked)) → MayAskKernel kernel files
may_ask_kernel None files all = tt
may_ask_kernel (Some name) files all = all _

-- where all names may be asked for
pub may_ask : (asked : Option ShowSplit) (files : FilesState) → ((names : List (List ℕ × ℕ)) → IsTrue (files.permits names)) → MayAsk asked files
may_ask None files all = tt
may_ask (Some asked) files all = (all _, may_ask_kernel asked.kernel (after_asking asked.saved max_snapshot_bytes files) (λ names. all _))

-- ---- a snapshot that isn't read

pub files_unread : (asked : ShowSplit) (files between : FilesState) (old new : SinkState) (result : Result Status Trouble) (found : FileRefusal) →
    ReadTells files asked.saved max_snapshot_bytes (Err found) → ReadLeaves files between asked.saved max_snapshot_bytes (Err found) →
    EndsUnread found old new result → ShowsFiles asked files between old new result
files_unread asked files between old new result found tells leaves it =
    record { found = Err found; between = between; tells = tells; leaves = leaves; ends = (refl, it) }

-- ---- the words

pub may_ok : (judged : Result ShowSplit Refusal) (asked : ShowSplit) (files : FilesState) → judged ≡ Ok asked → MayAsk (asked_of judged) files → MayAsk (Some asked) files
may_ok judged asked files is may = subst (λ (j : Result ShowSplit Refusal). MayAsk (asked_of j) files) is may

pub shows_ok : (judged : Result ShowSplit Refusal) (asked : ShowSplit) (files read : FilesState) (old new : SinkState) (result : Result Status Trouble) → judged ≡ Ok asked →
    ShowsFiles asked files read old new result →
    Shows (asked_of judged) files read old new result
shows_ok judged asked files read old new result is it = subst (λ (j : Result ShowSplit Refusal). Shows (asked_of j) files read old new result) (sym is) (inr it)

pub shows_refused : (judged : Result ShowSplit Refusal) (why : Refusal) (files : FilesState) (old new : SinkState) (result : Result Status Trouble) → judged ≡ Err why →
    Refuses NoCommand old new result →
    Shows (asked_of judged) files files old new result
shows_refused judged why files old new result is it =
    subst (λ (j : Result ShowSplit Refusal). Shows (asked_of j) files files old new result) (sym is) (record { same = refl; refuses = it })

pub shows_want : (judged : Result ShowSplit Refusal) (files : FilesState) (old : SinkState) → IsTrue (is_ok judged) → Shows (asked_of judged) files files old old (Err Memory)
shows_want (Ok asked) files old good = inl (record { same = refl; wants = refl; quiet = refl })
shows_want (Err why) files old good = absurd (cc good)

-- ---- how it ends

ends_by : (text : List ℕ) (old new : SinkState) (answer : Status) (result : Result Status Trouble) → Ends (Ok text) old new result → answer ≡ status_of_end result →
    (answer ≡ Status.Done) ⊎ (((answer ≡ Status.WriteFault) × (old.faults < new.faults)) ⊎ (answer ≡ Status.Memory))
ends_by text old new answer (Ok status) ends is = inl (is ∙ ends.0)
ends_by text old new answer (Err Write) ends is = inr (inl (is, ends.faults))
ends_by text old new answer (Err Memory) ends is = inr (inr is)

pub show_ends : ShowEnds
show_ends text old new answer it = ends_by text old new answer it.result it.ends it.status
