-- The file of registers as its contracts see it: the hypervisor's registers, field by field.
use Rattle.spec_processor.specs.HypervisorRegisters.{HypervisorRegisters, IsLegal}
use Rattle.csr_file.specs.declared.csrs.Csrs.TheInside.{Inside}

abbrev pub registers_of : Inside → HypervisorRegisters
registers_of c = record {
  vsstatus = c.vsstatus;
  vstvec = c.vstvec;
  vsscratch = c.vsscratch;
  vsepc = c.vsepc;
  vscause = c.vscause;
  vstval = c.vstval;
  vsatp = c.vsatp;
  scounteren = c.scounteren;
  hie = c.hie;
  hvip = c.hvip;
  sepc = c.sepc;
  scause = c.scause;
  stval = c.stval;
  htval = c.htval;
  htinst = c.htinst;
}

abbrev pub fields_of : HypervisorRegisters → Inside
fields_of c = record {
  vsstatus = c.vsstatus;
  vstvec = c.vstvec;
  vsscratch = c.vsscratch;
  vsepc = c.vsepc;
  vscause = c.vscause;
  vstval = c.vstval;
  vsatp = c.vsatp;
  scounteren = c.scounteren;
  hie = c.hie;
  hvip = c.hvip;
  sepc = c.sepc;
  scause = c.scause;
  stval = c.stval;
  htval = c.htval;
  htinst = c.htinst;
}

-- each register holds only bits that may stand
abbrev pub HoldsLegalBits : Inside → Type 0
HoldsLegalBits c = IsLegal (registers_of c)
