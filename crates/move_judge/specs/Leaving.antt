-- What a judged `O` or `I` comes to: the process went out or came in, or nothing was done.
use Rattle.std.specs.Prelude.{◌≡◌, ℕ, Option, Some, None}
use Rattle.vm_facts.specs.SwapImages.{SwapImage}
use Rattle.page_model.specs.Placement.{Placement}
use Rattle.page_model.specs.Place.{pages_of_space}
use Rattle.page_model.specs.Swapper.{is_settled, first_seated}
use Rattle.kernel_model.specs.Kernel.{out_step}
use Rattle.machine_state.specs.Machine.{Standing}
use Rattle.machine_state.specs.Settled.{IsSameBeside}
use Rattle.machine_state.specs.Swapping.{WritesU, IsIn, AsksU}
use Rattle.paged_model.specs.declared.reason.Reason.{Reason}
use Rattle.paged_model.specs.declared.reason.Reason.TheVariants as reasons
use Rattle.paged_model.specs.Reasons.{unless, or_reason}
use Rattle.paged_model.specs.Leaving.{still_seated}

-- the process is out, and its u page was written
pub record WentOut (pid : ℕ) (i j : Option SwapImage) (old new : Standing) : Type 0 where
  pub step : new.kernel ≡ out_step old.kernel pid
  pub wrote : WritesU old.kernel pid i j
  pub beside : IsSameBeside old new

-- with no reason it went out; with one nothing was done
abbrev pub JudgedOut : ℕ → Option SwapImage → Option SwapImage → Standing → Standing → Option Reason → Type 0
JudgedOut pid i j old new None = WentOut pid i j old new
JudgedOut pid i j old new (Some reason) = new ≡ old

-- the process is in, with the registers of its u page, which was read
pub record CameIn (pid : ℕ) (i j : Option SwapImage) (old new : Standing) : Type 0 where
  pub step : IsIn old.kernel new.kernel pid i
  pub asked : AsksU old.kernel pid i j
  pub beside : IsSameBeside old new

-- with no reason it came in; with one nothing was done
abbrev pub JudgedIn : ℕ → Option SwapImage → Option SwapImage → Standing → Standing → Option Reason → Type 0
JudgedIn pid i j old new None = CameIn pid i j old new
JudgedIn pid i j old new (Some reason) = new ≡ old

-- no transfer has a page of the space, and none of its pages is in a frame off the free list
abbrev pub space_left : Placement → ℕ → Option Reason
space_left p sid = or_reason (unless (is_settled p sid) reasons.Unsettled) (still_seated p (first_seated p (pages_of_space p sid)))
