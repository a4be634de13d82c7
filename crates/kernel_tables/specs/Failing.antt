-- How a call of a device that failed leaves the machine.
use Rattle.std.specs.Prelude.{◌≡◌, ℕ, ◌<◌, true, List, ◌∷◌, map, Bool, None, Result, Err}
use Rattle.vm_facts.specs.declared.stop.Stop.{Stop}
use Rattle.vm_facts.specs.declared.stop.Stop.TheVariants as stops
use Rattle.vm_facts.specs.Lists.{times}
use Rattle.page_model.specs.Placement.{Placement, Transfer, moving, flying, page_of, IsFrame}
use Rattle.kernel_tables.specs.Machine.{Standing}

-- the frames of a transfer's pages
abbrev pub frames_in : Transfer → List ℕ
frames_in t = flying (map (moving t.errand) t.parts)

-- A placement without its oldest transfer, which is out of the ring with its frames: they hold no page. All else is as it was.
pub record LosesOldest (old new : Placement) : Type 0 where
  pub transfer : Transfer
  pub oldest : old.transfers ≡ transfer ∷ new.transfers
  pub gone : (f : ℕ) → IsFrame old f → 0 < times f (frames_in transfer) → page_of new f ≡ None
  pub others : (f : ℕ) → IsFrame old f → times f (frames_in transfer) ≡ 0 → page_of new f ≡ page_of old f
  pub rest : new ≡ record old { transfers = new.transfers; holds = new.holds }

-- The machine stops, and the transfer that failed is lost with its frames. All else is as it was, but for the bytes of frames.
pub record HasLostOldest (old new : Standing) : Type 0 where
  pub place : LosesOldest old.kernel.place new.kernel.place
  pub kernel : new.kernel ≡ record old.kernel { place = new.kernel.place; frames = new.kernel.frames; stopped = true }
  pub before : new.before ≡ old.before

-- so it is where the end of the oldest transfer failed
abbrev pub LosesFor : Result Bool Stop → Standing → Standing → Type 0
LosesFor (Err stops.FileFault) old new = HasLostOldest old new
LosesFor (Err stops.SwapReadFault) old new = HasLostOldest old new
LosesFor (Err stops.SwapWriteFault) old new = HasLostOldest old new
LosesFor _ old new = Unit {0}

-- The machine stops, and all else is as it was.
pub record HasFailed (old new : Standing) : Type 0 where
  pub kernel : new.kernel ≡ record old.kernel { stopped = true }
  pub before : new.before ≡ old.before

-- so it is where a u page wasn't read or written
abbrev pub FailsFor : Result (Unit {0}) Stop → Standing → Standing → Type 0
FailsFor (Err stops.SwapReadFault) old new = HasFailed old new
FailsFor (Err stops.SwapWriteFault) old new = HasFailed old new
FailsFor _ old new = Unit {0}
