use Rattle.source_commands.proofs.explaining.put_mistake.Goals as goal

pub returns-in-NoLiteral : goal.returns-in-NoLiteral
returns-in-NoLiteral c = rw c.in-NoLiteral.is c.put_no_literal.ensures

pub returns-in-ValueAlone : goal.returns-in-ValueAlone
returns-in-ValueAlone c = rw c.in-ValueAlone.is c.put_value_alone.ensures

pub returns-in-NoOperand : goal.returns-in-NoOperand
returns-in-NoOperand c = rw c.in-NoOperand.is c.put_two-in-NoOperand.ensures

pub returns-in-Other : goal.returns-in-Other
returns-in-Other c = rw c.in-Other.is c.put_other.ensures
