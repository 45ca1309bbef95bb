-- What this side tells gdb of itself. GDB manual, "General Query Packets" (qSupported) and "Target Descriptions".
use Rattle.std.specs.Prelude.{ℕ, List, ◌++◌, codes}

-- what is supported
abbrev pub supported_text : List ℕ
supported_text = codes "PacketSize=4000;ReverseStep+;ReverseContinue+;qXfer:features:read+;hwbreak+;swbreak+;vContSupported+;QStartNoAckMode+"

-- the registers, in the order of their numbers
unfoldable pub description : List ℕ
description =
    codes "<?xml version='1.0'?><!DOCTYPE target SYSTEM 'gdb-target.dtd'><target version='1.0'><architecture>riscv:rv64</architecture>" ++
    codes "<feature name='org.gnu.gdb.riscv.cpu'>" ++
    codes "<reg name='zero' bitsize='64' type='int'/><reg name='ra' bitsize='64' type='code_ptr'/><reg name='sp' bitsize='64' type='data_ptr'/>" ++
    codes "<reg name='gp' bitsize='64' type='data_ptr'/><reg name='tp' bitsize='64' type='data_ptr'/><reg name='t0' bitsize='64' type='int'/>" ++
    codes "<reg name='t1' bitsize='64' type='int'/><reg name='t2' bitsize='64' type='int'/><reg name='fp' bitsize='64' type='data_ptr'/>" ++
    codes "<reg name='s1' bitsize='64' type='int'/><reg name='a0' bitsize='64' type='int'/><reg name='a1' bitsize='64' type='int'/>" ++
    codes "<reg name='a2' bitsize='64' type='int'/><reg name='a3' bitsize='64' type='int'/><reg name='a4' bitsize='64' type='int'/>" ++
    codes "<reg name='a5' bitsize='64' type='int'/><reg name='a6' bitsize='64' type='int'/><reg name='a7' bitsize='64' type='int'/>" ++
    codes "<reg name='s2' bitsize='64' type='int'/><reg name='s3' bitsize='64' type='int'/><reg name='s4' bitsize='64' type='int'/>" ++
    codes "<reg name='s5' bitsize='64' type='int'/><reg name='s6' bitsize='64' type='int'/><reg name='s7' bitsize='64' type='int'/>" ++
    codes "<reg name='s8' bitsize='64' type='int'/><reg name='s9' bitsize='64' type='int'/><reg name='s10' bitsize='64' type='int'/>" ++
    codes "<reg name='s11' bitsize='64' type='int'/><reg name='t3' bitsize='64' type='int'/><reg name='t4' bitsize='64' type='int'/>" ++
    codes "<reg name='t5' bitsize='64' type='int'/><reg name='t6' bitsize='64' type='int'/><reg name='pc' bitsize='64' type='code_ptr'/>" ++
    codes "</feature><feature name='org.gnu.gdb.riscv.csr'>" ++
    codes "<reg name='sstatus' bitsize='64' type='int'/><reg name='sie' bitsize='64' type='int'/><reg name='stvec' bitsize='64' type='int'/>" ++
    codes "<reg name='scounteren' bitsize='64' type='int'/><reg name='sscratch' bitsize='64' type='int'/><reg name='sepc' bitsize='64' type='int'/>" ++
    codes "<reg name='scause' bitsize='64' type='int'/><reg name='stval' bitsize='64' type='int'/><reg name='satp' bitsize='64' type='int'/>" ++
    codes "<reg name='sip' bitsize='64' type='int'/><reg name='time' bitsize='64' type='int'/></feature></target>"
