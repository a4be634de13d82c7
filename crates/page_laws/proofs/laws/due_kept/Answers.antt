use Rattle.page_laws.proofs.Due.Entries.{entry_due, force_due, serve_due, start_due}
use Rattle.page_laws.proofs.Due.Spaces.{fork_due, enter_due}
use Rattle.page_laws.proofs.Due.Changes.{touch_due, change_due}
use Rattle.page_laws.proofs.laws.due_kept.Goals as goal

pub returns : goal.returns
returns c = record {
  entry = entry_due;
  force = force_due;
  serve = serve_due;
  start = start_due;
  fork = fork_due;
  enter = enter_due;
  write = touch_due;
  changes = change_due;
}
