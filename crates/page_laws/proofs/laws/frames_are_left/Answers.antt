use Rattle.page_laws.proofs.Leaving.Changes.{change_frame}
use Rattle.page_laws.proofs.Leaving.Dirty.{change_dirty}
use Rattle.page_laws.proofs.Leaving.Entries.{entry_frame}
use Rattle.page_laws.proofs.Leaving.Held.{entry_held}
use Rattle.page_laws.proofs.laws.frames_are_left.Goals as goal

pub returns : goal.returns
returns c = record {
  entry = entry_frame;
  change = change_frame;
  dirty = change_dirty;
  written = entry_held;
}
