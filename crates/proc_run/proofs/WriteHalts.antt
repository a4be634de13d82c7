-- Where a write stops, and what it asks of the devices then: nothing.
use Rattle.std.proofs.Common.{◌≡◌, ◌⊎◌, inl, inr, ℕ, Option, Some, Result, Ok, Err, IfErr, refl, sym, subst}
use Rattle.vm_facts.specs.SwapImages.{SwapImage}
use Rattle.vm_facts.specs.declared.stop.Stop.{Stop}
use Rattle.vm_facts.specs.declared.stop.Stop.TheVariants as stops
use Rattle.io_edge.specs.declared.files.Files.{Ghosts as FilesGhosts}
use Rattle.io_edge.specs.declared.swap_dev.SwapDev.{Ghosts as SwapGhosts}
use Rattle.user_vax.specs.declared.refused.Refused.{Refused}
use Rattle.user_vax.specs.declared.refused.Refused.TheVariants.{Miss, Below, Signal}
use Rattle.flat_model.specs.declared.calls.Reply.{Reply}
use Rattle.machine_state.specs.Machine.{Standing}
use Rattle.machine_state.specs.Outside.{stop_of, TransfersPages}
use Rattle.machine_state.proofs.Transfers.{transfers_none}
use Rattle.step_units.specs.Answered.{StopsReading}
use Rattle.step_units.specs.Called.{Called}
use Rattle.step_units.specs.Writing.{reply_bytes, StopsOut}

-- how it stops by what it reads
abbrev WriteHalts : Result Reply Refused → Standing → Standing → ℕ → Option SwapImage → Stop → Type 0
WriteHalts read old new pid image stop = StopsReading read (λ reply before after. StopsOut old new pid (reply_bytes reply)) old new image image stop

write_cause : (read : Result Reply Refused) (old new : Standing) (pid : ℕ) (image : Option SwapImage) (stop : Stop) → WriteHalts read old new pid image stop
    → (stop ≡ stops.JournalFull) ⊎ (stop ≡ stops.NoMemory)
write_cause (Ok reply) old new pid image stop h = h.stops.cause
write_cause (Err (Miss address write)) old new pid image stop h = h.0.0.cause
write_cause (Err (Below address)) old new pid image stop h = h.0.cause
write_cause (Err (Signal number)) old new pid image stop h = h.0.cause

pub write_told : (r : Result Called Stop) (read : Result Reply Refused) (old new : Standing) (pid : ℕ) (image : Option SwapImage)
    → IfErr r (WriteHalts read old new pid image) → IfErr r (λ stop. WriteHalts read old new pid image stop × (image ≡ image))
write_told (Ok called) read old new pid image h = tt
write_told (Err stop) read old new pid image h = (h, refl)

pub write_outside : {F D : Type 0} {f : FilesGhosts F} {d : SwapGhosts D} (r : Result Called Stop) (read : Result Reply Refused) (old new : Standing)
    (pid : ℕ) (image : Option SwapImage) (x : F) (u : D) → ((x : F) → f.leads x x) → ((u : D) → d.leads u u)
    → IfErr r (WriteHalts read old new pid image) → TransfersPages f d (stop_of r) x x u u
write_outside (Ok called) read old new pid image x u files swap h = transfers_none files swap x u
write_outside {f = f} {d = d} (Err stop) read old new pid image x u files swap h = elim (write_cause read old new pid image stop h) [
  | inl e ↦ subst (λ (s : Stop). TransfersPages f d (Some s) x x u u) (sym e) (record {
    files = record { leads = files x; holds = refl; open_faults = refl; page_faults = refl };
    swap = record { leads = swap u; blocks = refl; read_faults = refl; write_faults = refl };
  })
  | inr e ↦ subst (λ (s : Stop). TransfersPages f d (Some s) x x u u) (sym e) (record {
    files = record { leads = files x; holds = refl; open_faults = refl; page_faults = refl };
    swap = record { leads = swap u; blocks = refl; read_faults = refl; write_faults = refl };
  })
]
