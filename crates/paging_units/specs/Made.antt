-- Units of paging, one after another, from one kernel and swap image to another. Calls above the machine say by this what they did.
use Rattle.std.specs.Prelude.{◌≡◌, ℕ, List, [], ◌∷◌, Option}
use Rattle.vm_facts.specs.SwapImages.{SwapImage}
use Rattle.vm_facts.specs.declared.page.Page.{Page}
use Rattle.vm_facts.specs.declared.entry.Entry.{Entry}
use Rattle.vm_facts.specs.declared.entry.Entry.TheVariants as entries
use Rattle.io_edge.specs.FileHolding.{NamedFile}
use Rattle.kernel_model.specs.Kernel.{Kernel, StartBytes, starts_after, zero_step, copy_step, get_step, reclaim_step, hand_step, push_step}
use Rattle.kernel_model.specs.Requests.{ImageFile}
use Rattle.machine_state.specs.Machine.{Standing}
use Rattle.machine_state.specs.Sourced.{files_named}
use Rattle.machine_state.specs.Settled.{IsSameBeside}
use Rattle.machine_state.specs.Done.{Sources, sources, IsDone, ImageAfter}

-- what units are made by, that isn't the machine's: the pages over which the hands pass, and the images and files
pub record Ground : Type 0 where
  pub locked : List Page
  pub from : Sources

-- that of a machine, with these pages and files
abbrev pub ground : Standing → Option (List NamedFile) → List Page → Ground
ground m holds locked = record { locked = locked; from = sources m holds }

-- one unit, with the swap image before it, where that is told; of the others none is a unit of paging
abbrev pub MadeBy : Ground → Entry → Kernel → Option SwapImage → Kernel → Type 0
MadeBy g (entries.Zero q) k i l = l ≡ zero_step k q
MadeBy g (entries.Copy q) k i l = l ≡ copy_step k q
MadeBy g (entries.Get q lo n) k i l = l ≡ get_step k q lo n
MadeBy g (entries.Reclaim q) k i l = l ≡ reclaim_step k q
MadeBy g (entries.Hands n) k i l = (n ≡ 1) × (l ≡ hand_step k g.locked)
MadeBy g (entries.Put q n) k i l = l ≡ push_step k q n
MadeBy g entries.Done k i l = IsDone g.from i k l
MadeBy g _ k i l = ⊥

-- the swap image, where it is told, before a unit and after it: the end of a transfer alone may change it, or ask anything
abbrev pub ImageBy : List ImageFile → Entry → Kernel → Option SwapImage → Option SwapImage → Type 0
ImageBy files entries.Done k i j = ImageAfter files k i j
ImageBy files _ k i j = j ≡ i

-- a unit, and then something is so of the kernel and the image after it
pub record MadeFirst (g : Ground) (e : Entry) (k : Kernel) (i : Option SwapImage) (Rest : Kernel → Option SwapImage → Type 0) : Type 0 where
  pub next : Kernel
  pub image : Option SwapImage
  pub made : MadeBy g e k i next
  pub told : ImageBy (files_named g.from.images) e k i image
  pub rest : Rest next image

-- these units, in order, lead from a kernel with a swap image to another
abbrev pub Made : Ground → List Entry → Kernel → Option SwapImage → Kernel → Option SwapImage → Type 0
Made g [] k i l j = (k ≡ l) × (i ≡ j)
Made g (e ∷ us) k i l j = MadeFirst g e k i (λ m h. Made g us m h l j)

-- Of a machine: a call that makes one unit, and leaves its sizes and images.
pub record MakesUnit (g : Ground) (e : Entry) (old new : Standing) (i j : Option SwapImage) : Type 0 where
  pub made : MadeBy g e old.kernel i new.kernel
  pub told : ImageBy (files_named g.from.images) e old.kernel i j
  pub beside : IsSameBeside old new

-- a call that makes these units in order, and leaves the machine's sizes and images
pub record Makes (g : Ground) (us : List Entry) (old new : Standing) (i j : Option SwapImage) : Type 0 where
  pub made : Made g us old.kernel i new.kernel j
  pub beside : IsSameBeside old new

-- All but the pages, the journal and the bytes of frames is as before.
pub record SameBeside (k l : Kernel) : Type 0 where
  pub holdings : l.holdings ≡ k.holdings
  pub processes : l.processes ≡ k.processes
  pub next_pid : l.next_pid ≡ k.next_pid
  pub next_sid : l.next_sid ≡ k.next_sid
  pub stopped : l.stopped ≡ k.stopped

-- the bytes that are kept for stack pages that are due, after a unit: a fill with zeros takes its page's
abbrev pub starts_by : Entry → List StartBytes → List StartBytes
starts_by (entries.Zero q) ss = starts_after ss q
starts_by _ ss = ss

-- the bytes that are kept after these units
abbrev pub starts_behind : List Entry → List StartBytes → List StartBytes
starts_behind [] ss = ss
starts_behind (e ∷ us) ss = starts_behind us (starts_by e ss)
