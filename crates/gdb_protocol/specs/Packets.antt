-- What a packet asks for, by its payload. GDB manual, "gdb Remote Serial Protocol", "Packets", "General Query Packets", "vCont" and
-- "Reverse Execution".
use Rattle.std.specs.Prelude.{ℕ, ◌&&◌, ◌||◌, ◌==◌, if◌then◌else◌, List, [], ◌∷◌, codes, Option, Some, None}
use Rattle.std.specs.Str.{bytes_eq}
use Rattle.gdb_protocol.specs.Digits.{number_of}
use Rattle.gdb_protocol.specs.Words.{letter, before, after, is_colon, is_comma, is_semicolon, is_separator}
use Rattle.gdb_protocol.specs.declared.packet.Thread.{Thread}
use Rattle.gdb_protocol.specs.declared.packet.Thread.TheVariants.{Any, Number}
use Rattle.gdb_protocol.specs.declared.packet.Range.{Range}
use Rattle.gdb_protocol.specs.declared.packet.Motion.{Motion}
use Rattle.gdb_protocol.specs.declared.packet.Motion.TheVariants.{Continue, Step, ContinueBack, StepBack}
use Rattle.gdb_protocol.specs.declared.packet.Packet.{Packet}
use Rattle.gdb_protocol.specs.declared.packet.Packet.TheVariants as asks

-- ---- arguments

abbrev pub range_by : Option ℕ → Option ℕ → Option Range
range_by None length = None
range_by (Some start) None = None
range_by (Some start) (Some length) = Some (record { start = start; length = length })

-- ADDRESS,LENGTH
unfoldable pub range_of : List ℕ → Option Range
range_of text = range_by (number_of (before is_comma text)) (number_of (after is_comma text))

abbrev pub thread_by : Option ℕ → Option Thread
thread_by None = None
thread_by (Some number) = if number == 0 then Some Any else Some (Number number)

-- -1 and 0 are any thread
unfoldable pub thread_of : List ℕ → Option Thread
thread_of text = if bytes_eq text (codes "-1") then Some Any else thread_by (number_of text)

-- a packet with an argument that may be of no form
abbrev pub with_argument : {A : Type 0} → (A → Packet) → Option A → Packet
with_argument packet None = asks.Malformed
with_argument packet (Some argument) = packet argument

-- a packet without arguments
abbrev pub alone : Packet → List ℕ → Packet
alone packet [] = packet
alone packet (c ∷ cs) = asks.Malformed

-- ---- packets of one letter

-- Hg and Hc
unfoldable pub choice_of : List ℕ → Packet
choice_of [] = asks.Malformed
choice_of (c ∷ text) =
    if c == letter (codes "g") then with_argument asks.Choose (thread_of text)
    else if c == letter (codes "c") then with_argument asks.ChooseToMove (thread_of text)
    else asks.Malformed

-- 0 and 1 are breaks, 2 is a watch of writes
unfoldable pub point_of : (breaks watch : Range → Packet) → List ℕ → Packet
point_of breaks watch text =
    if bytes_eq (before is_comma text) (codes "0") || bytes_eq (before is_comma text) (codes "1") then with_argument breaks (range_of (after is_comma text))
    else if bytes_eq (before is_comma text) (codes "2") then with_argument watch (range_of (after is_comma text))
    else asks.Unknown

-- with an address a run would go on elsewhere
abbrev pub motion_here : Motion → List ℕ → Packet
motion_here motion [] = asks.Resume motion Any
motion_here motion (c ∷ cs) = asks.Changes

-- bc and bs
unfoldable pub motion_back : List ℕ → Packet
motion_back text =
    if bytes_eq text (codes "c") then asks.Resume ContinueBack Any
    else if bytes_eq text (codes "s") then asks.Resume StepBack Any
    else asks.Unknown

-- ---- packets of several letters

-- a part of `features:read:target.xml:OFFSET,LENGTH`
unfoldable pub part_of : List ℕ → Packet
part_of text =
    if bytes_eq (before is_colon text) (codes "read") && bytes_eq (before is_colon (after is_colon text)) (codes "target.xml")
    then with_argument asks.Description (range_of (after is_colon (after is_colon text)))
    else asks.Malformed

unfoldable pub transfer_of : List ℕ → Packet
transfer_of text = if bytes_eq (before is_colon text) (codes "features") then part_of (after is_colon text) else asks.Unknown

-- c and s, and with a signal C and S
unfoldable pub motion_of : List ℕ → Option Motion
motion_of [] = None
motion_of (c ∷ cs) =
    if c == letter (codes "c") || c == letter (codes "C") then Some Continue
    else if c == letter (codes "s") || c == letter (codes "S") then Some Step
    else None

abbrev pub action_thread : List ℕ → Option Thread
action_thread [] = Some Any
action_thread (c ∷ cs) = thread_of (c ∷ cs)

abbrev pub action_by : Option Motion → Option Thread → Packet
action_by None thread = asks.Malformed
action_by (Some motion) None = asks.Malformed
action_by (Some motion) (Some thread) = asks.Resume motion thread

-- the first action of `vCont;ACTION:THREAD;..` decides
unfoldable pub action_of : List ℕ → Packet
action_of text = action_by (motion_of text) (action_thread (after is_colon (before is_semicolon text)))

-- by the name, and what stands after it
unfoldable pub named : (name text : List ℕ) → Packet
named name text =
    if bytes_eq name (codes "qSupported") then asks.Supported
    else if bytes_eq name (codes "QStartNoAckMode") then asks.StartNoAcks
    else if bytes_eq name (codes "qXfer") then transfer_of text
    else if bytes_eq name (codes "qAttached") then asks.IsAttached
    else if bytes_eq name (codes "qC") then asks.CurrentThread
    else if bytes_eq name (codes "qfThreadInfo") then asks.FirstThreads
    else if bytes_eq name (codes "qsThreadInfo") then asks.NextThreads
    else if bytes_eq name (codes "qThreadExtraInfo") then with_argument asks.ThreadText (thread_of text)
    else if bytes_eq name (codes "qRcmd") then asks.Command
    else if bytes_eq name (codes "vCont?") then asks.MotionsAsked
    else if bytes_eq name (codes "vCont") then action_of text
    else asks.Unknown

-- ---- all packets

-- those that look at the machine, by their letter
unfoldable pub looking : ℕ → List ℕ → Packet
looking c text =
    if c == letter (codes "?") then alone asks.StopReason text
    else if c == letter (codes "g") then alone asks.Registers text
    else if c == letter (codes "p") then with_argument asks.Register (number_of text)
    else if c == letter (codes "m") then with_argument asks.Memory (range_of text)
    else if c == letter (codes "H") then choice_of text
    else if c == letter (codes "T") then with_argument asks.IsAlive (thread_of text)
    else asks.Unknown

-- those that move it, or would change it
unfoldable pub moving : ℕ → List ℕ → Packet
moving c text =
    if c == letter (codes "c") then motion_here Continue text
    else if c == letter (codes "s") then motion_here Step text
    else if c == letter (codes "b") then motion_back text
    else if c == letter (codes "Z") then point_of asks.SetBreak asks.SetWatch text
    else if c == letter (codes "z") then point_of asks.ClearBreak asks.ClearWatch text
    else if c == letter (codes "D") then asks.Detach
    else if c == letter (codes "k") then asks.Kill
    else if c == letter (codes "G") || c == letter (codes "P") || c == letter (codes "M") || c == letter (codes "X") then asks.Changes
    else looking c text

unfoldable pub packet_of : List ℕ → Packet
packet_of [] = asks.Unknown
packet_of (c ∷ text) =
    if c == letter (codes "q") || c == letter (codes "Q") || c == letter (codes "v")
    then named (before is_separator (c ∷ text)) (after is_separator (c ∷ text)) else moving c text
