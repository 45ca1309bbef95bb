use Rattle.std.proofs.Common.{◌≡◌, ℕ, List, Ok, Err, IfOk, IfErr, sym, subst, ap}
use Rattle.toml.specs.Data.{Members}
use Rattle.toml.specs.View.{table_view}
use Rattle.sv_types.specs.Policies.{Rules, rules_of}
use Rattle.sv_types.specs.Steps.{◌>>=◌}
use Rattle.policy.specs.Refusals.{Judged, Refuses}
use Rattle.policy.specs.Text.{format_of, known_keys, key_harts, key_ram_pages, key_entries, rules_after, rules_of_members}
use Rattle.policy.proofs.Judging.{then_ok, then_err, refuses_fault, refuses_on}
use Rattle.policy.proofs.text.read_table.Goals as goal
use Rattle.policy_limits.specs.declared.policy_fault.PolicyFault.{PolicyFault}

module _ (ms : Members) where
  no_format : (fault : PolicyFault) → format_of ms ≡ Err fault → rules_of_members ms ≡ Err fault
  unfolding rules_of_members
  no_format fault bad = then_err (format_of ms) _ fault bad

  unknown_key : (format : ℕ) (fault : PolicyFault) → format_of ms ≡ Ok format → known_keys ms ≡ Err fault → rules_of_members ms ≡ Err fault
  unfolding rules_of_members
  unknown_key format fault formed bad = then_ok (format_of ms) _ format _ formed (then_err (known_keys ms) _ fault bad)

  no_harts : (format : ℕ) (known : Members) (fault : PolicyFault) → format_of ms ≡ Ok format → known_keys ms ≡ Ok known → key_harts known ≡ Err fault → rules_of_members ms ≡ Err fault
  unfolding rules_of_members
  no_harts format known fault formed listed bad =
      then_ok (format_of ms) _ format _ formed (then_ok (known_keys ms) _ known _ listed (then_err (key_harts known) _ fault bad))

  no_pages : (format : ℕ) (known : Members) (harts : ℕ) (fault : PolicyFault) → format_of ms ≡ Ok format → known_keys ms ≡ Ok known → key_harts known ≡ Ok harts
      → key_ram_pages known ≡ Err fault → rules_of_members ms ≡ Err fault
  unfolding rules_of_members
  no_pages format known harts fault formed listed run bad =
      then_ok (format_of ms) _ format _ formed (then_ok (known_keys ms) _ known _ listed (then_ok (key_harts known) _ harts _ run (then_err (key_ram_pages known) _ fault bad)))

  -- after the pages of RAM
  by_entries : (format : ℕ) (known : Members) (harts ram_pages : ℕ) (judged : Judged (List ℕ × List ℕ)) → format_of ms ≡ Ok format → known_keys ms ≡ Ok known → key_harts known ≡ Ok harts
      → key_ram_pages known ≡ Ok ram_pages → key_entries format ram_pages known ≡ judged → rules_of_members ms ≡ (judged >>= λ entries. rules_after format harts ram_pages entries known)
  unfolding rules_of_members
  by_entries format known harts ram_pages judged formed listed run paged is =
      then_ok (format_of ms) _ format _ formed (then_ok (known_keys ms) _ known _ listed (then_ok (key_harts known) _ harts _ run (then_ok (key_ram_pages known) _ ram_pages _ paged
      (ap (λ (j : Judged (List ℕ × List ℕ)). j >>= λ entries. rules_after format harts ram_pages entries known) is))))

pub returns-in_err-format-clause-refused : goal.returns-in_err-format-clause-refused
returns-in_err-format-clause-refused c =
    let fault = c.in_err-format.field-0.0 in
    refuses_fault c.from_residual.result _ fault c.from_residual.ensures.1 (no_format (table_view c.args.table.now) fault (sym c.in_err-format.ensures))

pub returns-in_err-table-clause-refused : goal.returns-in_err-table-clause-refused
returns-in_err-table-clause-refused c =
    let fault = c.in_err-table.field-0.0 in
    refuses_fault c.from_residual-in_err-table.result _ fault c.from_residual-in_err-table.ensures.1
    (unknown_key (table_view c.args.table.now) c.in_ok-format.format fault (sym c.in_ok-format.ensures) (sym c.in_err-table.ensures))

pub returns-in_err-harts-clause-refused : goal.returns-in_err-harts-clause-refused
returns-in_err-harts-clause-refused c =
    let fault = c.in_err-harts.field-0.0 in
    refuses_fault c.from_residual-in_err-harts.result _ fault c.from_residual-in_err-harts.ensures.1
    (no_harts (table_view c.args.table.now) c.in_ok-format.format (table_view c.in_ok-table.table.now) fault
    (sym c.in_ok-format.ensures) (sym c.in_ok-table.ensures) (sym c.in_err-harts.ensures))

pub returns-in_err-ram_pages-clause-refused : goal.returns-in_err-ram_pages-clause-refused
returns-in_err-ram_pages-clause-refused c =
    let fault = c.in_err-ram_pages.field-0.0 in
    refuses_fault c.from_residual-in_err-ram_pages.result _ fault c.from_residual-in_err-ram_pages.ensures.1
    (no_pages (table_view c.args.table.now) c.in_ok-format.format (table_view c.in_ok-table.table.now) c.in_ok-harts.harts fault
    (sym c.in_ok-format.ensures) (sym c.in_ok-table.ensures) (sym c.in_ok-harts.ensures) (sym c.in_err-ram_pages.ensures))

pub returns-in_err-entries-clause-refused : goal.returns-in_err-entries-clause-refused
returns-in_err-entries-clause-refused c =
    let known = table_view c.in_ok-table.table.now in
    refuses_on c.from_residual-in_err-entries.result (key_entries c.in_ok-format.format c.in_ok-ram_pages.ram_pages known) _ c.in_err-entries.field-0.0
    c.from_residual-in_err-entries.ensures.1 c.in_err-entries.ensures.refused (λ fault bad.
    by_entries (table_view c.args.table.now) c.in_ok-format.format known c.in_ok-harts.harts c.in_ok-ram_pages.ram_pages (Err fault)
    (sym c.in_ok-format.ensures) (sym c.in_ok-table.ensures) (sym c.in_ok-harts.ensures) (sym c.in_ok-ram_pages.ensures) bad)

pub returns-clause-ok : goal.returns-clause-ok
returns-clause-ok c =
    let P : Judged Rules → Type 0 = λ j. IfOk c.read_after.result (λ policy. j ≡ Ok (rules_of policy)) in
    subst P
    (sym (by_entries (table_view c.args.table.now) c.in_ok-format.format (table_view c.in_ok-table.table.now) c.in_ok-harts.harts c.in_ok-ram_pages.ram_pages
    (Ok (c.in_ok-entries.entries.list.items, c.in_ok-entries.entries.bound.items))
    (sym c.in_ok-format.ensures) (sym c.in_ok-table.ensures) (sym c.in_ok-harts.ensures) (sym c.in_ok-ram_pages.ensures) c.in_ok-entries.ensures.ok))
    c.read_after.ensures.ok

pub returns-clause-refused : goal.returns-clause-refused
returns-clause-refused c =
    let P : Judged Rules → Type 0 = λ j. IfErr c.read_after.result (Refuses j) in
    subst P
    (sym (by_entries (table_view c.args.table.now) c.in_ok-format.format (table_view c.in_ok-table.table.now) c.in_ok-harts.harts c.in_ok-ram_pages.ram_pages
    (Ok (c.in_ok-entries.entries.list.items, c.in_ok-entries.entries.bound.items))
    (sym c.in_ok-format.ensures) (sym c.in_ok-table.ensures) (sym c.in_ok-harts.ensures) (sym c.in_ok-ram_pages.ensures) c.in_ok-entries.ensures.ok))
    c.read_after.ensures.refused
