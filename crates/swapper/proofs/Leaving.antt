-- What the last unit leaves of files and device, after those that went before it.
use Rattle.std.proofs.Common.{◌≡◌, ◌⊎◌, inl, inr, ℕ, List, Option, None, Result, Ok, Err, OnOk, OnErr, refl}
use Rattle.vm_facts.specs.declared.stop.Stop.{Stop}
use Rattle.vm_facts.specs.declared.stop.Stop.TheVariants as stops
use Rattle.io_edge.specs.FileHolding.{NamedFile}
use Rattle.io_edge.specs.declared.files.Files.{Ghosts as FilesGhosts}
use Rattle.io_edge.specs.declared.swap_dev.SwapDev.{Ghosts as SwapGhosts}
use Rattle.machine_state.specs.Machine.{Standing}
use Rattle.machine_state.specs.Going.{CanGoOn}
use Rattle.machine_state.specs.Settled.{IsSameBeside}
use Rattle.machine_state.specs.Outside.{CountsFileFaults, ReadsFilePages, MovesSwapPages, TransfersPages, Asks, stop_of}
use Rattle.machine_state.proofs.Transfers.{transfers_then}
use Rattle.machine_state.proofs.Backing.{asks_on}

-- no file failed
none_failed : {A : Type 0} (r : Result A Stop) (n : ℕ)
    → OnErr r ((r ≡ Err stops.JournalFull) ⊎ ((r ≡ Err stops.NoMemory) ⊎ (r ≡ Err stops.SwapWriteFault))) → CountsFileFaults (stop_of r) n n
none_failed (Ok x) n c = refl
none_failed (Err stops.JournalFull) n c = refl
none_failed (Err stops.NoMemory) n c = refl
none_failed (Err stops.SwapReadFault) n c = refl
none_failed (Err stops.SwapWriteFault) n c = refl
none_failed (Err stops.FileFault) n c = elim c [
  | inl e ↦ absurd cc
  | inr d ↦ elim d [
    | inl e ↦ absurd cc
    | inr e ↦ absurd cc
  ]
]

module _ {A F D : Type 0} (f : FilesGhosts F) (d : SwapGhosts D) (r : Result A Stop) where
  -- the unit calls the device alone
  pub left_outside : (x y : F) (u v w : D) → ((x y z : F) → f.leads x y → f.leads y z → f.leads x z)
      → ((u v w : D) → d.leads u v → d.leads v w → d.leads u w) → f.leads y y → TransfersPages f d None x y u v → MovesSwapPages d (stop_of r) v w
      → OnErr r ((r ≡ Err stops.JournalFull) ⊎ ((r ≡ Err stops.NoMemory) ⊎ (r ≡ Err stops.SwapWriteFault))) → TransfersPages f d (stop_of r) x y u w
  left_outside x y u v w files swap still before last cause =
      let same : ReadsFilePages f (stop_of r) y y =
      record { leads = still; holds = refl; open_faults = refl; page_faults = none_failed r (f.page_faults y) cause } in
      transfers_then files swap before (record { files = same; swap = last })

-- and where it doesn't stop, the machine asks no more than before it
pub left_asks : {A : Type 0} (r : Result A Stop) (old next : Standing) (holds : Option (List NamedFile)) (blocks more : ℕ) → more ≡ blocks
    → Asks old holds blocks → OnOk r (IsSameBeside old next) → OnOk r (CanGoOn next) → OnOk r (Asks next holds more)
left_asks (Ok x) old next holds blocks more many asks beside ready = asks_on old next holds holds blocks more beside refl many ready asks
left_asks (Err e) old next holds blocks more many asks beside ready = tt
