-- A run that ended before its first entry left both devices.
use Rattle.std.proofs.Common.{◌≡◌, ◌⊎◌, inl, inr, ℕ, Bool, true, List, Option, Ok, Err, refl, sym, ap, ◌∙◌}
use Rattle.std.specs.Prelude.{IfErr}
use Rattle.vm_facts.specs.declared.entry.Entry.{Entry}
use Rattle.io_edge.specs.declared.swap_dev.SwapDev.{Ghosts as SwapGhosts}
use Rattle.command_edge.specs.declared.fault.Fault.TheVariants.{FileFault, SwapReadFault, SwapWriteFault, NoMemory, JournalFull, NoSpace}
use Rattle.command_edge.specs.Command.{Writes, All, Prefix}
use Rattle.run_command.specs.Outside.{is_early, Early}
use Rattle.run_command.specs.Paired.{image_together, IsRunFault}
use Rattle.run_command.specs.Ends.{RunEnding, run_status, WritesRun}
use Rattle.run_command.specs.Loads.{WritesCounts}

-- two devices that are left make the image that they made
pub left_together : {D E : Type 0} (d : SwapGhosts D) (e : SwapGhosts E) (zero_old zero_new : D) (one_old one_new : E)
    → zero_new ≡ zero_old → one_new ≡ one_old
    → image_together (d.blocks zero_new) (e.blocks one_new) (d.image zero_new) (e.image one_new)
    ≡ image_together (d.blocks zero_old) (e.blocks one_old) (d.image zero_old) (e.image one_old)
left_together {D} {E} d e zero_old zero_new one_old one_new zero one =
    ap (λ (z : D). image_together (d.blocks z) (e.blocks one_new) (d.image z) (e.image one_new)) zero
    ∙ ap (λ (o : E). image_together (d.blocks zero_old) (e.blocks o) (d.image zero_old) (e.image o)) one

-- an early status is that of what was to be written whole
whole_early : (before after : Option (List ℕ)) (old new : ℕ) (text : List ℕ) (whole status : ℕ) → Writes before after old new text whole status
    → is_early status ≡ true → is_early whole ≡ true
whole_early before after old new text whole status (All same appends faults) early = ap is_early (sym same) ∙ early
whole_early before after old new text whole status (Prefix eight some rose) early = absurd (let no : is_early 8 ≡ true = ap is_early (sym eight) ∙ early in cc)

-- of the faults by which a run stops, only want of swap at its start has one
early_no_space : (r : RunEnding) → IfErr r IsRunFault → is_early (run_status r) ≡ true → (pid : ℕ) × (r ≡ Err (NoSpace pid))
early_no_space (Ok done) kind early = absurd cc
early_no_space (Err FileFault) kind early = absurd cc
early_no_space (Err (SwapReadFault device)) kind early = absurd cc
early_no_space (Err (SwapWriteFault device)) kind early = absurd cc
early_no_space (Err NoMemory) kind early = absurd cc
early_no_space (Err JournalFull) kind early = absurd cc
early_no_space (Err (NoSpace pid)) kind early = (pid, refl)
early_no_space (Err _) kind early = absurd kind

module _ (before after : Option (List ℕ)) (old new status : ℕ) (r : RunEnding) (kind : IfErr r IsRunFault) where
  -- so of a run that was written
  pub run_early : (traced : Bool) (es : List Entry) (same : Type 0) → WritesRun traced es r before after old new status
      → ((pid : ℕ) → r ≡ Err (NoSpace pid) → same) → Early status same
  run_early traced es same (inl writes) untouched early =
      let none = early_no_space r kind (whole_early before after old new _ (run_status r) status writes early) in
      untouched none.0 none.1
  run_early traced es same (inr (lost, writes)) untouched early = absurd (let no : is_early 9 ≡ true = whole_early before after old new _ 9 status writes early in cc)

  -- and of a load
  pub load_early : (number : ℕ) (es : List Entry) (same : Type 0) → WritesCounts number es r before after old new status
      → ((pid : ℕ) → r ≡ Err (NoSpace pid) → same) → Early status same
  load_early number es same (inl writes) untouched early =
      let none = early_no_space r kind (whole_early before after old new _ (run_status r) status writes early) in
      untouched none.0 none.1
  load_early number es same (inr (lost, writes)) untouched early = absurd (let no : is_early 9 ≡ true = whole_early before after old new _ 9 status writes early in cc)
