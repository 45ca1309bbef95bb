-- Walks through a cache. This project's own.
use Rattle.std.specs.Prelude.{◌≡◌, ℕ, ◌/◌, true, List, Option, Result, IfOk}
use Rattle.std.specs.Option.{ok_or}
use Rattle.spec_processor.specs.Bytes.{page_size}
use Rattle.spec_processor.specs.Regions.{Region}
use Rattle.spec_processor.specs.Roots.{IsSv39x4}
use Rattle.spec_processor.specs.GStage.{walk_guest, WalksApart}
use Rattle.spec_processor.specs.CachedWalks.{CacheAgrees, FilledUnder}
use Rattle.spec_processor.specs.declared.access.Access.{Access}
use Rattle.spec_processor.specs.declared.cached.CacheLine.{CacheLine}
use Rattle.spec_processor.specs.declared.translation.GuestFault.{GuestFault}
use Rattle.hw_tlb.specs.Lookup.{line_for, is_held}

-- Walks under an hgatp value may go through a cache: it has mode 8 (Sv39x4), they read the tables alone and lead to RAM, and every
-- line agrees with the tables.
pub record MayWalk (r : Region) (hgatp : ℕ) (lines : List (Option CacheLine)) : Type 0 where
  pub second : IsSv39x4 hgatp
  pub apart : WalksApart r hgatp
  pub agrees : CacheAgrees r.tables lines

-- walks under an hgatp value leave a cache that agrees with the tables
pub record Walked (tables : List ℕ) (hgatp : ℕ) (before after : List (Option CacheLine)) : Type 0 where
  pub agrees : CacheAgrees tables after
  pub filled : FilledUnder tables hgatp before after

-- the answer of a walk is that of the tables, and the page of an address that leads somewhere is held from then on
pub record Led (r : Region) (hgatp gpa : ℕ) (access : Access) (before after : List (Option CacheLine)) (answer : Result ℕ GuestFault) : Type 0 where
  pub value : answer ≡ ok_or (walk_guest r hgatp gpa access) (record { gpa = gpa })
  pub walked : Walked r.tables hgatp before after
  pub held : IfOk answer (λ _. is_held (line_for after hgatp (gpa / page_size)) ≡ true)
