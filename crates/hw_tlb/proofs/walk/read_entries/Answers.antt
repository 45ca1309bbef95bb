use Rattle.std.proofs.Common.{◌≡◌, ◌+◌, ◌-◌, ◌*◌, ◌%◌, ◌<◌, ◌∙◌, suc, sym, subst, arith}
use Rattle.hw_tlb.specs.Fills.{filled_further}
use Rattle.hw_tlb.specs.declared.entries.Entries.{Entries}
use Rattle.hw_tlb.specs.Kept.{Above, IsThere, IsPlace, EndsAt}
use Rattle.hw_tlb.proofs.Levels.{GoOn, with_more, with_all, goes_on, ends_there, nowhere_over, nowhere_unread}
use Rattle.hw_tlb.proofs.walk.read_entries.Goals as goal

pub returns-then-not-is_pointer-clause-ends : goal.returns-then-not-is_pointer-clause-ends
returns-then-not-is_pointer-clause-ends c =
    let more : c.levels.below ≡ suc (c.levels.below - 1) = omega arith in
    let few : c.levels.below - 1 < 3 = omega arith in
    subst (λ (e : Entries). EndsAt c.args.mem.now.tables c.args.hgatp c.args.root c.args.va e (c.levels.below - 1) c.in-Some.seen.word) (sym c.with_entry-entries.ensures)
    (ends_there c.args.mem.now.tables c.args.hgatp c.args.root c.args.va c.levels.below (c.levels.below - 1) c.levels.table c.index.result c.levels.entries c.in-Some.seen
    more few c.index.ensures.value c.in-Some.ensures.leads (sym c.is_pointer.ensures ∙ c.if-not-is_pointer.true) c.levels.invariant.same)

pub returns-then-not-is_pointer-clause-there : goal.returns-then-not-is_pointer-clause-there
returns-then-not-is_pointer-clause-there c =
    let more : c.levels.below ≡ suc (c.levels.below - 1) = omega arith in
    let few : c.levels.below - 1 < 3 = omega arith in
    subst (λ (e : Entries). Above 0 (IsThere c.args.mem.now) e) (sym c.with_entry-entries.ensures)
    (with_all (IsThere c.args.mem.now) (c.levels.below - 1) c.levels.entries c.in-Some.seen few
    (with_more (IsThere c.args.mem.now) c.levels.below (c.levels.below - 1) c.levels.entries c.in-Some.seen more few c.levels.invariant.there c.in-Some.ensures.there))

pub returns-then-not-is_pointer-clause-places : goal.returns-then-not-is_pointer-clause-places
returns-then-not-is_pointer-clause-places c =
    let more : c.levels.below ≡ suc (c.levels.below - 1) = omega arith in
    let few : c.levels.below - 1 < 3 = omega arith in
    let aligned : (c.levels.table + 8 * c.index.result) % 8 ≡ 0 = let whole = c.levels.invariant.table.aligned in omega arith in
    let place : IsPlace c.args.mem.now.tables c.args.hgatp c.in-Some.seen = (c.levels.table + 8 * c.index.result, (aligned, c.in-Some.ensures.leads)) in
    subst (λ (e : Entries). Above 0 (IsPlace c.args.mem.now.tables c.args.hgatp) e) (sym c.with_entry-entries.ensures)
    (with_all (IsPlace c.args.mem.now.tables c.args.hgatp) (c.levels.below - 1) c.levels.entries c.in-Some.seen few
    (with_more (IsPlace c.args.mem.now.tables c.args.hgatp) c.levels.below (c.levels.below - 1) c.levels.entries c.in-Some.seen more few c.levels.invariant.places place))

pub levels-preserved : goal.levels-preserved
levels-preserved c =
    let more : c.levels.below ≡ suc (c.levels.below - 1) = omega arith in
    let few : c.levels.below - 1 < 3 = omega arith in
    let aligned : (c.levels.table + 8 * c.index.result) % 8 ≡ 0 = let whole = c.levels.invariant.table.aligned in omega arith in
    let place : IsPlace c.args.mem.now.tables c.args.hgatp c.in-Some.seen = (c.levels.table + 8 * c.index.result, (aligned, c.in-Some.ensures.leads)) in
    record {
      table = record { aligned = c.entry_page-table.ensures.whole; small = (let small = c.entry_page-table.ensures.small in omega arith) };
      same = subst (λ (e : Entries). GoOn c.args.mem.now.tables c.args.hgatp c.args.root c.args.va (c.levels.below - 1) c.entry_page-table.result e) (sym c.with_entry-entries.ensures)
          (goes_on c.args.mem.now.tables c.args.hgatp c.args.root c.args.va c.levels.below (c.levels.below - 1) c.levels.table c.index.result c.entry_page-table.result
          c.levels.entries c.in-Some.seen more few c.index.ensures.value c.in-Some.ensures.leads (sym c.is_pointer.ensures ∙ c.if-not-is_pointer.false)
          c.entry_page-table.ensures.value c.levels.invariant.same);
      there = subst (λ (e : Entries). Above (c.levels.below - 1) (IsThere c.args.mem.now) e) (sym c.with_entry-entries.ensures)
          (with_more (IsThere c.args.mem.now) c.levels.below (c.levels.below - 1) c.levels.entries c.in-Some.seen more few c.levels.invariant.there c.in-Some.ensures.there);
      places = subst (λ (e : Entries). Above (c.levels.below - 1) (IsPlace c.args.mem.now.tables c.args.hgatp) e) (sym c.with_entry-entries.ensures)
          (with_more (IsPlace c.args.mem.now.tables c.args.hgatp) c.levels.below (c.levels.below - 1) c.levels.entries c.in-Some.seen more few c.levels.invariant.places place);
      walked = record {
        agrees = c.in-Some.ensures.walked.agrees;
        filled = filled_further c.args.mem.now.tables c.args.hgatp c.args.cache.now c.levels.cache c.read_entry.new.cache c.levels.invariant.walked.filled c.in-Some.ensures.walked.filled;
      };
    }

pub returns-in_default-clause-nowhere : goal.returns-in_default-clause-nowhere
returns-in_default-clause-nowhere c = λ none.
    let more : c.levels.below ≡ suc (c.levels.below - 1) = omega arith in
    nowhere_unread c.args.mem.now c.args.hgatp c.args.root c.args.va c.levels.below (c.levels.below - 1) c.levels.table c.index.result c.levels.entries more c.index.ensures.value
    (c.read_entry.ensures.missing c.in_default.is) c.levels.invariant.there c.levels.invariant.same

pub returns-clause-nowhere : goal.returns-clause-nowhere
returns-clause-nowhere c = λ none.
    nowhere_over c.args.mem.now c.args.hgatp c.args.root c.args.va c.levels.below c.levels.table c.levels.entries (omega arith) c.levels.invariant.there c.levels.invariant.same
