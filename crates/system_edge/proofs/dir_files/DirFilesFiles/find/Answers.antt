use Rattle.system_edge.proofs.Learning.{answer_counts}
use Rattle.system_edge.proofs.dir_files.DirFilesFiles.find.Goals as goal

pub returns-in-Ok-clause-open_faults : goal.returns-in-Ok-clause-open_faults
returns-in-Ok-clause-open_faults g c =
    answer_counts c.in-Ok.found c.args.self.now.open_faults c.look.new.self.open_faults c.in-Ok.ensures.found c.in-Ok.ensures.open_faults
