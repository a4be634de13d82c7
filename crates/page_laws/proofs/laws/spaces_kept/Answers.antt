use Rattle.page_laws.proofs.Bytes.Changes.{resize_coupled, removed_coupled}
use Rattle.page_laws.proofs.Bytes.Spaces.{fork_coupled, enter_coupled, leave_text_coupled}
use Rattle.page_laws.proofs.laws.spaces_kept.Goals as goal

pub returns : goal.returns
returns c = record {
  resize = resize_coupled;
  fork = fork_coupled;
  enter = enter_coupled;
  removed = removed_coupled;
  text = leave_text_coupled;
}
