-- The parts that are read, as a form sees them. This project's own.
use Rattle.snapshot_format.specs.declared.reader.devices.Devices.{Devices}
use Rattle.snapshot_format.specs.declared.reader.journal.Recorded.{Recorded}
use Rattle.snapshot_format.specs.declared.reader.modules.Gate.{Gate}
use Rattle.snapshot_format.specs.declared.reader.pages.Pages.{Pages}
use Rattle.snapshot_format.specs.declared.reader.whole.Body.{Body}
use Rattle.snapshot_format.specs.declared.reader.whole.Header.{Header}
use Rattle.snapshot_format.specs.DeviceForms as device
use Rattle.snapshot_format.specs.JournalForms as recorded
use Rattle.snapshot_format.specs.PageForms as page
use Rattle.snapshot_format.specs.Snapshots as whole

abbrev pub pages_parts : Pages → page.Pages
pages_parts p = (p.protection.items, p.text.items)

abbrev pub gate_parts : Gate → page.Gate
gate_parts g = (g.modules.items, (g.retired, g.loading))

abbrev pub devices_parts : Devices → device.Devices
devices_parts d = (d.console.items, (d.port, d.disk.items))

abbrev pub recorded_parts : Recorded → recorded.JournalParts
recorded_parts r = (r.counts, (r.notes.items, r.verdict))

abbrev pub header_view : Header → whole.Header
header_view h = whole.header_by h.kind h.events h.harts h.ram_pages h.time

abbrev pub body_parts : Body → whole.Body
body_parts b = (b.harts.items, (pages_parts b.pages, (gate_parts b.gate, (devices_parts b.devices, (recorded_parts b.recorded, b.ram.items)))))
