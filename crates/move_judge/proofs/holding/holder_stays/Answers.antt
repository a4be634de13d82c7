use Rattle.std.proofs.Common.{◌∙◌, subst}
use Rattle.move_judge.specs.Holders.{FoundHolder}
use Rattle.move_judge.proofs.Held.{some_holder, no_holder}
use Rattle.move_judge.proofs.holding.holder_stays.Goals as goal

pub returns-in-None : goal.returns-in-None
returns-in-None c = λ F t.
    let ps = c.processes.result.now in
    no_holder c.args.m.now.kernel ps F c.args.sid t c.processes.ensures.processes c.processes.ensures.residents (c.processes.ensures.records c.requires.runs)
    (c.processes.ensures.borrowers c.requires.runs) c.requires.holders c.requires.numbered.pids_differ (subst (FoundHolder ps c.args.sid) c.in-None.is c.holder_of.ensures)

pub returns-in-Some : goal.returns-in-Some
returns-in-Some c = λ F t.
    let ps = c.processes.result.now in
    c.record_stays.ensures
    ∙ some_holder c.args.m.now.kernel ps F c.args.sid t c.processes.ensures.processes c.processes.ensures.residents (c.processes.ensures.records c.requires.runs)
    (c.processes.ensures.borrowers c.requires.runs) c.requires.holders c.requires.numbered.pids_differ c.in-Some.holder
    (subst (FoundHolder ps c.args.sid) c.in-Some.is c.holder_of.ensures)
