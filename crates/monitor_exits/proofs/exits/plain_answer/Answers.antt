use Rattle.monitor_exits.proofs.exits.plain_answer.Goals as goal

pub returns-in-Exception-GuestLoad-clause-possible : goal.returns-in-Exception-GuestLoad-clause-possible
returns-in-Exception-GuestLoad-clause-possible c = c.load_answer.ensures.possible c.args.mode

pub returns-in-Exception-GuestStore-clause-possible : goal.returns-in-Exception-GuestStore-clause-possible
returns-in-Exception-GuestStore-clause-possible c = c.write_answer.ensures.possible c.args.mode
