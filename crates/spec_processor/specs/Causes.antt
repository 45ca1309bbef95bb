-- The numbers of causes: RISC-V Privileged manual, "Supervisor Cause (scause) Register", with the H
-- extension's "Trap Cause Codes".
use Rattle.std.specs.Prelude.{ℕ}
use Rattle.spec_processor.specs.declared.cause.Cause.{Cause}
use Rattle.spec_processor.specs.declared.cause.Cause.TheVariants.{InstrMisaligned, InstrAccess, Illegal, Breakpoint, LoadMisaligned}
use Rattle.spec_processor.specs.declared.cause.Cause.TheVariants.{LoadAccess, StoreMisaligned, StoreAccess, UserCall, GuestCall, InstrPage}
use Rattle.spec_processor.specs.declared.cause.Cause.TheVariants.{LoadPage, StorePage, GuestFetch, GuestLoad, Virtual, GuestStore}

abbrev pub cause_number : Cause → ℕ
cause_number InstrMisaligned = 0
cause_number InstrAccess = 1
cause_number Illegal = 2
cause_number Breakpoint = 3
cause_number LoadMisaligned = 4
cause_number LoadAccess = 5
cause_number StoreMisaligned = 6
cause_number StoreAccess = 7
cause_number UserCall = 8
cause_number GuestCall = 10
cause_number InstrPage = 12
cause_number LoadPage = 13
cause_number StorePage = 15
cause_number GuestFetch = 20
cause_number GuestLoad = 21
cause_number Virtual = 22
cause_number GuestStore = 23
