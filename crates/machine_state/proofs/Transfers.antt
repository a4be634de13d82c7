-- Calls that move pages, one after another.
use Rattle.std.proofs.Common.{ℕ, Option, None, refl, ◌∙◌, subst}
use Rattle.vm_facts.specs.declared.stop.Stop.{Stop}
use Rattle.io_edge.specs.declared.files.Files.{Ghosts as FilesGhosts}
use Rattle.io_edge.specs.declared.swap_dev.SwapDev.{Ghosts as SwapGhosts}
use Rattle.machine_state.specs.Outside.{CountsFileFaults, CountsReadFaults, CountsWriteFaults, ReadsFilePages, MovesSwapPages, TransfersPages}

files_then : {F : Type 0} {f : FilesGhosts F} {stop : Option Stop} {x y z : F} → ((x y z : F) → f.leads x y → f.leads y z → f.leads x z)
    → ReadsFilePages f None x y → ReadsFilePages f stop y z → ReadsFilePages f stop x z
files_then {f = f} {stop = stop} {x = x} {y = y} {z = z} through a b = record {
  leads = through x y z a.leads b.leads;
  holds = b.holds ∙ a.holds;
  open_faults = b.open_faults ∙ a.open_faults;
  page_faults = subst (λ (n : ℕ). CountsFileFaults stop n (f.page_faults z)) a.page_faults b.page_faults;
}

swap_then : {D : Type 0} {d : SwapGhosts D} {stop : Option Stop} {u v w : D} → ((u v w : D) → d.leads u v → d.leads v w → d.leads u w)
    → MovesSwapPages d None u v → MovesSwapPages d stop v w → MovesSwapPages d stop u w
swap_then {d = d} {stop = stop} {u = u} {v = v} {w = w} through a b = record {
  leads = through u v w a.leads b.leads;
  blocks = b.blocks ∙ a.blocks;
  read_faults = subst (λ (n : ℕ). CountsReadFaults stop n (d.read_faults w)) a.read_faults b.read_faults;
  write_faults = subst (λ (n : ℕ). CountsWriteFaults stop n (d.write_faults w)) a.write_faults b.write_faults;
}

module _ {F D : Type 0} {f : FilesGhosts F} {d : SwapGhosts D} where
  -- a call that went on, and then another
  pub transfers_then : {stop : Option Stop} {x y z : F} {u v w : D} → ((x y z : F) → f.leads x y → f.leads y z → f.leads x z)
      → ((u v w : D) → d.leads u v → d.leads v w → d.leads u w)
      → TransfersPages f d None x y u v → TransfersPages f d stop y z v w → TransfersPages f d stop x z u w
  transfers_then files swap a b = record { files = files_then files a.files b.files; swap = swap_then swap a.swap b.swap }

  -- nothing was done
  pub transfers_none : ((x : F) → f.leads x x) → ((u : D) → d.leads u u) → (x : F) (u : D) → TransfersPages f d None x x u u
  transfers_none files swap x u = record {
    files = record { leads = files x; holds = refl; open_faults = refl; page_faults = refl };
    swap = record { leads = swap u; blocks = refl; read_faults = refl; write_faults = refl };
  }
