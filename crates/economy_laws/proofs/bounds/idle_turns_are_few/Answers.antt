use Rattle.economy_laws.proofs.Idle.{count_most, few_turns, many_on}
use Rattle.economy_laws.proofs.bounds.idle_turns_are_few.Goals as goal

pub returns-clause-turns : goal.returns-clause-turns
returns-clause-turns c = few_turns

pub returns-clause-crowd : goal.returns-clause-crowd
returns-clause-crowd c = λ A s t us. many_on A us s t

pub returns-clause-most : goal.returns-clause-most
returns-clause-most c = λ A s. count_most s.point.flat.processes
