use Rattle.std.proofs.Common.{sym, ap, ◌∙◌}
use Rattle.std.specs.Option.{option_copied}
use Rattle.move_judge.proofs.records.record_of.Goals as goal

pub returns-in-Some : goal.returns-in-Some
returns-in-Some c = record {
  table = c.processes.result.now;
  processes = c.processes.ensures.processes;
  residents = c.processes.ensures.residents;
  records = c.processes.ensures.records c.requires.runs;
  marked = c.processes.ensures.borrowers c.requires.runs;
  found = sym c.get.ensures.value ∙ ap option_copied c.in-Some.is;
}

pub returns-in-None : goal.returns-in-None
returns-in-None c = record {
  table = c.processes.result.now;
  processes = c.processes.ensures.processes;
  residents = c.processes.ensures.residents;
  records = c.processes.ensures.records c.requires.runs;
  marked = c.processes.ensures.borrowers c.requires.runs;
  found = sym c.get.ensures.value ∙ ap option_copied c.in-None.is;
}
