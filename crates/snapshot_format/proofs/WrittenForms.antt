-- What the proofs of written notes, verdicts and queues look into.
use Rattle.snapshot_format.specs.HartForms.{multiple_of}
use Rattle.snapshot_format.specs.JournalForms.{note_form, note_after, demote_form, denied_note, load_note, unload, retire, answer, code, hart_number}
use Rattle.snapshot_format.specs.JournalForms.{verdict, verdict_after, stopped_entry, stopped_write}
use Rattle.snapshot_format.specs.VirtioForms.{queue, register, aligned, ring_index}

unfoldable pub note_forms : Unit {0}
unfolding note_form note_after demote_form denied_note load_note unload retire answer code hart_number multiple_of
note_forms = tt

unfoldable pub verdict_forms : Unit {0}
unfolding verdict verdict_after stopped_entry stopped_write hart_number multiple_of
verdict_forms = tt

unfoldable pub queue_forms : Unit {0}
unfolding queue register aligned ring_index
queue_forms = tt
