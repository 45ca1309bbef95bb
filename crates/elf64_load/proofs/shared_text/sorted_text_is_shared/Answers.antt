use Rattle.std.proofs.Common.{◌≡◌, ◌∙◌, ℕ, ◌+◌, sym, ap, max}
use Rattle.std.proofs.lemmas.List.{take_all}
use Rattle.std.specs.Prelude.{if◌then◌else◌}
use Rattle.sv_types.specs.Kernel.{text_is_shared}
use Rattle.elf64_load.proofs.Sweeps.{shared_there, text_there, data_there}
use Rattle.elf64_load.proofs.shared_text.sorted_text_is_shared.Goals as goal
use Rattle.elf64_load.proofs.shared_text.sorted_text_is_shared.Goals.{then-is_text, else-is_text, then-is_text-2, else-is_text-2}

pub returns-then-first_page-reached : goal.returns-then-first_page-reached
returns-then-first_page-reached c =
    let reached : c.if-is_text.reached ≡ (if c.is_executable-is_text.result then c.headers.end else c.headers.text_end) =
    elim c.if-is_text.branch [ then-is_text w ↦ rw w.if-is_text.true w.reached-is | else-is_text w ↦ rw w.if-is_text.false w.reached-is ] in
    sym (shared_there c.args.headers.now c.headers.header-index _ c.headers.end c.headers.text_end c.first_page.result c.if-is_text.reached
    c.is_executable-is_text.result c.requires.order c.requires.memory c.headers-test.true c.headers.invariant
    (record { first_is = c.first_page.ensures; text_is = c.is_executable-is_text.ensures; reached_is = reached }) c.if-first_page-reached.true)

pub headers-preserved : goal.headers-preserved
headers-preserved c =
    let hs = c.args.headers.now in
    let i = c.headers.header-index in
    let reached : c.if-is_text.reached ≡ (if c.is_executable-is_text.result then c.headers.end else c.headers.text_end) =
    elim c.if-is_text.branch [ then-is_text w ↦ rw w.if-is_text.true w.reached-is | else-is_text w ↦ rw w.if-is_text.false w.reached-is ] in
    let end_is = c.max-end.ensures ∙ ap (λ (page : ℕ). max c.headers.end (page + 1)) c.last_page.ensures.page in
    elim c.if-is_text-2.branch [
      | then-is_text-2 w ↦
          rw (w.text_end-is, end_is)
          (text_there hs i _ c.headers.end c.headers.text_end c.first_page.result c.if-is_text.reached
          c.is_executable-is_text.result c.requires.order c.requires.memory c.headers-test.true c.headers.invariant
          (record { first_is = c.first_page.ensures; text_is = c.is_executable-is_text.ensures; reached_is = reached }) c.if-first_page-reached.false
          w.if-is_text-2.true)
      | else-is_text-2 w ↦
          rw (w.text_end-is, end_is)
          (data_there hs i _ c.headers.end c.headers.text_end c.first_page.result c.if-is_text.reached
          c.is_executable-is_text.result c.requires.order c.requires.memory c.headers-test.true c.headers.invariant
          (record { first_is = c.first_page.ensures; text_is = c.is_executable-is_text.ensures; reached_is = reached }) c.if-first_page-reached.false
          w.if-is_text-2.false)
    ]

pub returns : goal.returns
returns c =
    sym (ap text_is_shared (sym (take_all c.headers.header-index c.args.headers.now c.headers-test.false)) ∙ c.headers.invariant.apart)
