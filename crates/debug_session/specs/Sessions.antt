-- A debugging session: what each packet does, and what it is answered. This project's own, over GDB's remote serial protocol.
use Rattle.std.specs.Prelude.{ℕ, zero, suc, ◌+◌, ◌-◌, ◌/◌, ◌%◌, max, Bool, true, false, not, ◌&&◌, ◌==◌, nat_lt, nat_le, if◌then◌else◌, List, []}
use Rattle.std.specs.Prelude.{◌∷◌, ◌++◌, length, take, drop, filter, flat_map, codes, is_some, unwrap_or, option_map, option_and_then, slice_get, Option, Some}
use Rattle.std.specs.Prelude.{None}
use Rattle.sv_types.specs.declared.event.Verdict.{Verdict}
use Rattle.sv_types.specs.declared.event.Verdict.TheVariants.{Running, Shutdown, Stopped}
use Rattle.spec_processor.specs.declared.lines.Lines.{Lines}
use Rattle.spec_reference.specs.Devices.{lines_at}
use Rattle.spec_reference.specs.States.{has_number, protections_of}
use Rattle.spec_reference.specs.SavedStates.{saved_hart}
use Rattle.spec_reference.specs.declared.saved_machine.harts.SavedHart.{SavedHart}
use Rattle.gdb_protocol.specs.Answers.{stop_text, console_text, part_text}
use Rattle.gdb_protocol.specs.Digits.{byte_digits}
use Rattle.gdb_protocol.specs.Framing.{frame}
use Rattle.gdb_protocol.specs.Reading.{Arrived, plus, minus}
use Rattle.gdb_protocol.specs.Packets.{packet_of}
use Rattle.gdb_protocol.specs.declared.arrival.Arrival.{Arrival}
use Rattle.gdb_protocol.specs.declared.arrival.Arrival.TheVariants as kind
use Rattle.gdb_protocol.specs.declared.packet.Thread.{Thread}
use Rattle.gdb_protocol.specs.declared.packet.Thread.TheVariants.{Any, Number}
use Rattle.gdb_protocol.specs.declared.packet.Range.{Range}
use Rattle.gdb_protocol.specs.declared.packet.Motion.{Motion}
use Rattle.gdb_protocol.specs.declared.packet.Motion.TheVariants.{Continue, Step, ContinueBack, StepBack}
use Rattle.gdb_protocol.specs.declared.packet.Packet.{Packet}
use Rattle.gdb_protocol.specs.declared.packet.Packet.TheVariants as asks
use Rattle.gdb_protocol.specs.declared.stop.Stop.{Stop}
use Rattle.gdb_protocol.specs.declared.stop.Stop.TheVariants as by
use Rattle.debug_views.specs.Description.{description, supported_text}
use Rattle.debug_views.specs.Looks.{error_text, hart_words, register_text, registers_text}
use Rattle.debug_views.specs.Memory.{seen_bytes}
use Rattle.debug_session.specs.Runs.{Run, state, ahead, behind, at_event, found_behind, last_change, meets_break, next_turn}
use Rattle.debug_views.specs.Pages.{pages_text}
use Rattle.debug_session.specs.Reasons.{reason_names, reason_text}
use Rattle.debug_views.specs.Walks.{translation_text}
use Rattle.debug_session.specs.Questions.{events_text, question_of, text_of, usage_text}
use Rattle.debug_session.specs.declared.questions.Question.{Question}
use Rattle.debug_session.specs.declared.questions.Question.TheVariants as question
use Rattle.gdb_protocol.specs.Words.{after as text_after, is_comma}
use Rattle.debug_session.specs.Watches.{watch_of, with_watch, without_watch}
use Rattle.debug_session.specs.declared.motion.Change.{Change}
use Rattle.debug_session.specs.declared.motion.Found.{Found}
use Rattle.debug_session.specs.declared.watches.Watch.{Watch}

-- what is kept between packets
pub record Desk : Type 0 where
  -- the hart whose registers and memory are asked for, and the one that goes on
  pub looks : ℕ
  pub moves : ℕ
  pub breaks : List ℕ
  pub watches : List Watch
  -- how many of the console's bytes were told
  pub told : ℕ
  -- whether packets are acknowledged
  pub acks : Bool
  -- the last answer
  pub last : List ℕ
  pub goes_on : Bool

-- nothing is set, and packets are acknowledged
abbrev pub first_desk : Desk
first_desk = record { looks = 0; moves = 0; breaks = []; watches = []; told = 0; acks = true; last = []; goes_on = true }

-- ---- harts

abbrev pub hart_count : Run → ℕ
hart_count run = length (state run).harts

-- a hart as a snapshot keeps it
abbrev pub hart_at : Run → ℕ → Option SavedHart
hart_at run hart = option_map (saved_hart (state run).devices.clock hart) (slice_get (state run).harts hart)

-- and what its wires tell it
abbrev pub lines_of : Run → ℕ → Option Lines
lines_of run hart = option_map (λ _. lines_at (state run).devices hart) (slice_get (state run).harts hart)

-- threads are harts, numbered from 1 on. Any thread is the one that was chosen before
abbrev pub hart_of : (harts chosen : ℕ) → Thread → Option ℕ
hart_of harts chosen Any = Some chosen
hart_of harts chosen (Number number) = if nat_lt 0 number && nat_le number harts then Some (number - 1) else None

-- a byte; a machine has few harts
abbrev pub thread_of_hart : ℕ → ℕ
thread_of_hart hart = (hart + 1) % 256

-- ---- breaks

abbrev pub with_break : List ℕ → ℕ → List ℕ
with_break breaks place = if has_number breaks place then breaks else breaks ++ place ∷ []

abbrev pub without_break : List ℕ → ℕ → List ℕ
without_break breaks place = filter (λ b. not (b == place)) breaks

-- ---- why a run stands where it does

pub record Halt : Type 0 where
  pub stop : Stop
  pub hart : ℕ

abbrev pub running_halt : (breaks : List ℕ) → (hart : ℕ) → Run → Halt
running_halt breaks hart run =
    if meets_break breaks run then record { stop = by.Break; hart = unwrap_or (next_turn run) hart } else record { stop = by.Step; hart = hart }

-- by a change of what is watched, where there is one
abbrev pub changed_halt : Option Change → (breaks : List ℕ) → (hart : ℕ) → Run → Halt
changed_halt None breaks hart run = running_halt breaks hart run
changed_halt (Some change) breaks hart run = record { stop = by.Write change.address; hart = unwrap_or change.turn hart }

-- a broken rule is the fault of the hart that broke it
abbrev pub halt_by : Verdict → Option Change → (breaks : List ℕ) → (hart : ℕ) → Run → Halt
halt_by Running change breaks hart run = changed_halt change breaks hart run
halt_by Shutdown change breaks hart run = record { stop = by.End; hart = hart }
halt_by (Stopped rule broke turn) change breaks hart run = record { stop = by.Fault; hart = broke }

unfoldable pub halt_of : Option Change → (breaks : List ℕ) → (hart : ℕ) → Run → Halt
halt_of change breaks hart run = halt_by (state run).journal.verdict change breaks hart run

abbrev pub halt_text : Halt → List ℕ
halt_text halt = stop_text halt.stop (thread_of_hart halt.hart)

-- ---- answers of packets that move nothing

abbrev pub ok_text : List ℕ
ok_text = codes "OK"

abbrev pub ok_or_error : Bool → List ℕ
ok_or_error true = ok_text
ok_or_error false = error_text

abbrev pub thread_digits : ℕ → List ℕ
thread_digits hart = byte_digits (thread_of_hart hart ∷ [])

-- so many threads from one on, a comma before each
unfoldable pub more_threads : (hart count : ℕ) → List ℕ
more_threads hart zero = []
more_threads hart (suc count) = codes "," ++ thread_digits hart ++ more_threads (hart + 1) count

-- all threads
unfoldable pub threads_text : ℕ → List ℕ
threads_text count = if count == 0 then codes "m" else codes "m" ++ thread_digits 0 ++ more_threads 1 (count - 1)

abbrev pub of_hart : (SavedHart → List ℕ) → Option SavedHart → List ℕ
of_hart text None = error_text
of_hart text (Some hart) = text hart

abbrev pub of_wired_hart : (SavedHart → Lines → List ℕ) → Option SavedHart → Option Lines → List ℕ
of_wired_hart text None lines = error_text
of_wired_hart text (Some hart) None = error_text
of_wired_hart text (Some hart) (Some lines) = text hart lines

abbrev pub of_thread : (ℕ → List ℕ) → Option ℕ → List ℕ
of_thread text None = error_text
of_thread text (Some hart) = text hart

abbrev pub bytes_text : List ℕ → List ℕ
bytes_text [] = error_text
bytes_text (byte ∷ bytes) = byte_digits (byte ∷ bytes)

-- the most bytes of memory in an answer
abbrev pub max_bytes : ℕ
max_bytes = 8000

abbrev pub at_most : ℕ → ℕ → ℕ
at_most most n = if nat_lt n most then n else most

unfoldable pub memory_text : List ℕ → Range → SavedHart → List ℕ
memory_text ram range hart = bytes_text (seen_bytes ram hart.satp range.start (at_most max_bytes range.length))

-- the watch that is asked for, of the memory that the chosen hart sees
abbrev pub watch_in : Run → Desk → Range → Option Watch
watch_in run desk range = option_and_then (watch_of (state run).ram range) (hart_at run desk.looks)

-- about the harts of a run
abbrev pub reply_about : Run → Desk → Packet → List ℕ
reply_about run desk asks.StopReason = halt_text (halt_of None desk.breaks desk.looks run)
reply_about run desk asks.Registers = of_wired_hart registers_text (hart_at run desk.looks) (lines_of run desk.looks)
reply_about run desk (asks.Register number) =
    of_wired_hart (λ hart lines. register_text hart lines number) (hart_at run desk.looks) (lines_of run desk.looks)
reply_about run desk (asks.Memory range) = of_hart (memory_text (state run).ram range) (hart_at run desk.looks)
reply_about run desk (asks.Choose thread) = ok_or_error (is_some (hart_of (hart_count run) desk.looks thread))
reply_about run desk (asks.ChooseToMove thread) = ok_or_error (is_some (hart_of (hart_count run) desk.moves thread))
reply_about run desk (asks.IsAlive thread) = ok_or_error (is_some (hart_of (hart_count run) desk.looks thread))
reply_about run desk (asks.SetWatch range) = ok_or_error (is_some (watch_in run desk range))
reply_about run desk asks.FirstThreads = threads_text (hart_count run)
reply_about run desk (asks.ThreadText thread) =
    of_thread (λ hart. of_hart (λ h. byte_digits (hart_words h)) (hart_at run hart)) (hart_of (hart_count run) desk.looks thread)
reply_about run desk packet = []

-- and about this side; others get the empty answer
abbrev pub reply : Run → Desk → Packet → List ℕ
reply run desk asks.Malformed = error_text
reply run desk asks.Changes = error_text
reply run desk (asks.Resume motion thread) = error_text
reply run desk asks.Supported = supported_text
reply run desk (asks.Description part) = part_text description part
reply run desk asks.CurrentThread = codes "QC" ++ thread_digits desk.looks
reply run desk asks.NextThreads = codes "l"
reply run desk asks.IsAttached = codes "1"
reply run desk asks.StartNoAcks = ok_text
reply run desk (asks.SetBreak place) = ok_text
reply run desk (asks.ClearBreak place) = ok_text
reply run desk (asks.ClearWatch range) = ok_text
reply run desk asks.Detach = ok_text
reply run desk asks.MotionsAsked = codes "vCont;c;C;s;S"
reply run desk packet = reply_about run desk packet

-- what is kept after such a packet
abbrev pub desk_after : Run → Desk → Packet → Desk
desk_after run desk (asks.Choose thread) = record desk { looks = unwrap_or (hart_of (hart_count run) desk.looks thread) desk.looks }
desk_after run desk (asks.ChooseToMove thread) = record desk { moves = unwrap_or (hart_of (hart_count run) desk.moves thread) desk.moves }
desk_after run desk (asks.SetBreak place) = record desk { breaks = with_break desk.breaks place.start }
desk_after run desk (asks.ClearBreak place) = record desk { breaks = without_break desk.breaks place.start }
desk_after run desk (asks.SetWatch range) = record desk { watches = with_watch desk.watches (watch_in run desk range) }
desk_after run desk (asks.ClearWatch range) = record desk { watches = without_watch desk.watches range.start }
desk_after run desk asks.StartNoAcks = record desk { acks = false }
desk_after run desk asks.Detach = record desk { goes_on = false }
desk_after run desk asks.Kill = record desk { goes_on = false }
desk_after run desk _ = desk

-- ---- packets that move a run

-- where a motion of a hart leads
abbrev pub moved : Motion → (breaks : List ℕ) → List Watch → (hart : ℕ) → Run → Run
moved Continue breaks watches hart run = ahead breaks watches None run
moved Step breaks watches hart run = ahead breaks watches (Some hart) run
moved ContinueBack breaks watches hart run = behind breaks watches None run
moved StepBack breaks watches hart run = behind breaks watches (Some hart) run

-- why it halts there, forwards
abbrev pub halt_ahead : (breaks : List ℕ) → List Watch → (steps : Option ℕ) → (hart : ℕ) → Run → Halt
halt_ahead breaks watches steps hart run =
    halt_of (last_change watches run (ahead breaks watches steps run).made) breaks hart (ahead breaks watches steps run)

-- and backwards
abbrev pub halt_back : Option Found → (breaks : List ℕ) → (hart : ℕ) → Run → Halt
halt_back None breaks hart run = record { stop = by.Beginning; hart = hart }
halt_back (Some found) breaks hart run = halt_of found.change breaks hart run

abbrev pub halt_behind : (breaks : List ℕ) → List Watch → (steps : Option ℕ) → (hart : ℕ) → Run → Halt
halt_behind breaks watches steps hart run = halt_back (found_behind breaks watches steps run) breaks hart (behind breaks watches steps run)

abbrev pub halt_after : Motion → (breaks : List ℕ) → List Watch → (hart : ℕ) → Run → Halt
halt_after Continue breaks watches hart run = halt_ahead breaks watches None hart run
halt_after Step breaks watches hart run = halt_ahead breaks watches (Some hart) hart run
halt_after ContinueBack breaks watches hart run = halt_behind breaks watches None hart run
halt_after StepBack breaks watches hart run = halt_behind breaks watches (Some hart) hart run

-- bytes of the console that weren't told yet
abbrev pub told_now : (told : ℕ) → (printed : List ℕ) → List (List ℕ)
told_now told printed = if nat_lt told (length printed) then console_text (drop told printed) ∷ [] else []

abbrev pub standing : Halt → Run → Desk → Desk
standing halt run desk = record desk { looks = halt.hart; moves = halt.hart; told = max desk.told (length (state run).journal.printed) }

-- ---- what a packet leads to

-- a run, what is kept, and the answers one after the other
pub record Outcome : Type 0 where
  pub run : Run
  pub desk : Desk
  pub answers : List (List ℕ)

abbrev pub error_outcome : Run → Desk → Outcome
error_outcome run desk = record { run = run; desk = desk; answers = error_text ∷ [] }

-- a run stands there, and tells why
abbrev pub halted_outcome : Run → Halt → Desk → Outcome
halted_outcome run halt desk = record {
  run = run;
  desk = standing halt run desk;
  answers = told_now desk.told (state run).journal.printed ++ halt_text halt ∷ [];
}

abbrev pub motion_outcome : Motion → (hart : ℕ) → Run → Desk → Outcome
motion_outcome motion hart run desk =
    halted_outcome (moved motion desk.breaks desk.watches hart run) (halt_after motion desk.breaks desk.watches hart run) desk

abbrev pub by_motion : Motion → Option ℕ → Run → Desk → Outcome
by_motion motion None run desk = error_outcome run desk
by_motion motion (Some hart) run desk = motion_outcome motion hart run desk

abbrev pub still_outcome : Packet → Run → Desk → Outcome
still_outcome packet run desk = record { run = run; desk = desk_after run desk packet; answers = reply run desk packet ∷ [] }

-- `k` has no answer
abbrev pub by_packet : Packet → Run → Desk → Outcome
by_packet (asks.Resume motion thread) run desk = by_motion motion (hart_of (hart_count run) desk.moves thread) run desk
by_packet asks.Kill run desk = record { run = run; desk = record desk { goes_on = false }; answers = [] }
by_packet packet run desk = still_outcome packet run desk

-- ---- what `monitor` asks

-- the run that it is about. It moves to an event where that is asked
abbrev pub asked_run : Question → Run → Run
asked_run question.Events run = run
asked_run (question.At number) run = at_event number run
asked_run question.Pages run = run
asked_run question.Why run = run
asked_run (question.Translate address) run = run
asked_run question.Unknown run = run

-- the text that answers it but for names, about a run and its hart
abbrev pub plain_text : Question → Run → (hart : ℕ) → List ℕ
plain_text question.Events run hart = events_text run.made
plain_text (question.At number) run hart = events_text run.made
plain_text question.Pages run hart = pages_text (protections_of (state run))
plain_text question.Why run hart = reason_text (state run).journal
plain_text (question.Translate address) run hart =
    of_hart (λ h. translation_text (state run).ram (protections_of (state run)) h address) (hart_at run hart)
plain_text question.Unknown run hart = usage_text

-- the names of the addresses in a reason
abbrev pub text_names : Question → Run → List ℕ
text_names question.Events run = []
text_names (question.At number) run = []
text_names question.Pages run = []
text_names question.Why run = reason_names run.kernel (state run).journal
text_names (question.Translate address) run = []
text_names question.Unknown run = []

abbrev pub asked_text : Question → Run → (hart : ℕ) → List ℕ
asked_text q run hart = plain_text q run hart ++ text_names q run

-- the most bytes of text in an answer
abbrev pub max_text : ℕ
max_text = 8000

-- so many parts of a text as the console's, each as long as may be, and what is left after them as the answer
unfoldable pub text_answers : (parts : ℕ) → List ℕ → List (List ℕ)
text_answers zero text = byte_digits text ∷ []
text_answers (suc parts) text = console_text (take max_text text) ∷ text_answers parts (drop max_text text)

-- as many as leave some for the answer
abbrev pub parts_of : List ℕ → ℕ
parts_of text = (length text - 1) / max_text

abbrev pub given_text : List ℕ → Run → Desk → Outcome
given_text text run desk = record { run = run; desk = desk; answers = text_answers (parts_of text) text }

abbrev pub by_question : Question → Run → Desk → Outcome
by_question q run desk = given_text (asked_text q (asked_run q run) desk.looks) (asked_run q run) desk

-- the question stands after the name of the packet
abbrev pub by_payload : Packet → (payload : List ℕ) → Run → Desk → Outcome
by_payload asks.Command payload run desk = by_question (question_of (text_of (text_after is_comma payload))) run desk
by_payload packet payload run desk = by_packet packet run desk

-- ---- whatever arrives

abbrev pub with_answers : List (List ℕ) → Run → Desk → Outcome
with_answers answers run desk = record { run = run; desk = desk; answers = answers }

-- a packet with a wrong checksum is asked for once more by an acknowledgment; where there are none it is answered as an error
abbrev pub by_arrival : Arrival → (payload : List ℕ) → Run → Desk → Outcome
by_arrival kind.Packet payload run desk = by_payload (packet_of payload) payload run desk
by_arrival kind.Broken payload run desk = with_answers (if desk.acks then [] else error_text ∷ []) run desk
by_arrival kind.TooLong payload run desk = with_answers (error_text ∷ []) run desk
by_arrival kind.Interrupt payload run desk = with_answers (halt_text (halt_of None desk.breaks desk.looks run) ∷ []) run desk
by_arrival kind.Received payload run desk = with_answers [] run desk
by_arrival kind.Again payload run desk = with_answers (desk.last ∷ []) run desk

-- the acknowledgment of what arrived
abbrev pub acknowledgment : Arrival → List ℕ
acknowledgment kind.Packet = plus ∷ []
acknowledgment kind.Broken = minus ∷ []
acknowledgment kind.TooLong = plus ∷ []
acknowledgment kind.Interrupt = []
acknowledgment kind.Received = []
acknowledgment kind.Again = []

abbrev pub acknowledged : Arrival → Desk → List ℕ
acknowledged arrival desk = if desk.acks then acknowledgment arrival else []

-- the last answer is kept
abbrev pub last_of : List (List ℕ) → List ℕ → List ℕ
last_of [] before = before
last_of (answer ∷ answers) before = last_of answers answer

abbrev pub remembered : Outcome → Desk
remembered o = record o.desk { last = last_of o.answers o.desk.last }

-- the bytes of answers
abbrev pub frames : List (List ℕ) → List ℕ
frames answers = flat_map frame answers

-- ---- a session

-- the bytes that are written on what arrives, one after the other, as long as it goes on
unfoldable pub written : Run → Desk → List Arrived → List ℕ
written run desk [] = []
written run desk (arrived ∷ rest) =
    if desk.goes_on
    then acknowledged arrived.kind desk ++ frames (by_arrival arrived.kind arrived.payload run desk).answers
    ++ written (by_arrival arrived.kind arrived.payload run desk).run (remembered (by_arrival arrived.kind arrived.payload run desk)) rest
    else []
