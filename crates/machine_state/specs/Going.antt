-- When a machine can go on: it runs, and no pieces of swap wait. Most calls of the crates above ask for this.
use Rattle.std.specs.Prelude.{◌≡◌, ◌≤◌, false, length, map}
use Rattle.page_model.specs.Dues.{DueStand}
use Rattle.kernel_model.specs.Numbers.{Numbered}
use Rattle.kernel_model.specs.Sound.{Sound}
use Rattle.machine_state.specs.Holders.{HoldersStand}
use Rattle.table_steps.specs.Machine.{Standing}
use Rattle.table_steps.specs.New.{AreSound}
use Rattle.table_steps.specs.Sourced.{ImageNamed}
use Rattle.machine_state.specs.Texts.{TextsStand}

-- The machine runs. With the holdings before the pieces that were found last, each frame and block has one owner or is free;
-- numbers are given once; what is due may be filled; who holds a space holds one that is there, and alone. The journal is
-- within its bound. The images are those that it was made with: at most 16, each as a header may be, and the text of each has
-- as many pages as its header tells.
pub record IsRunning (m : Standing) : Type 0 where
  pub runs : m.kernel.stopped ≡ false
  pub sound : Sound m.params.swap_blocks (record m.kernel { holdings = m.before })
  pub numbered : Numbered m.kernel
  pub due : DueStand m.kernel.place
  pub holders : HoldersStand m.kernel
  pub within : length m.kernel.journal ≤ m.params.journal
  pub frames : length m.kernel.place.holds ≤ 4096
  pub few_images : length m.images ≤ 16
  pub images : AreSound (map (λ (image : ImageNamed). image.facts) m.images)
  pub texts : TextsStand m

-- it runs, and no pieces wait for an entry: any call may come next
pub record CanGoOn (m : Standing) : Type 0 where
  pub running : IsRunning m
  pub whole : m.before ≡ m.kernel.holdings
