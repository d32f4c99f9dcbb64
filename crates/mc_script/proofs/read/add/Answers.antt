use Rattle.mc_script.proofs.read.add.Goals as goal

pub returns-in-Strikes-clause-allowed : goal.returns-in-Strikes-clause-allowed
returns-in-Strikes-clause-allowed c = rw c.in-Strikes.is c.strike.ensures.allowed

pub returns-in-Strikes-clause-refused : goal.returns-in-Strikes-clause-refused
returns-in-Strikes-clause-refused c = rw c.in-Strikes.is c.strike.ensures.refused

pub returns-in-Sets-clause-allowed : goal.returns-in-Sets-clause-allowed
returns-in-Sets-clause-allowed c = rw c.in-Sets.is c.give.ensures.allowed

pub returns-in-Sets-clause-refused : goal.returns-in-Sets-clause-refused
returns-in-Sets-clause-refused c = rw c.in-Sets.is c.give.ensures.refused
