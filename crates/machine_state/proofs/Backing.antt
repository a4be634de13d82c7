-- What backs a machine backs it further: the files stay, and the device has as many blocks.
use Rattle.std.proofs.Common.{◌≡◌, ℕ, List, Option, sym, ap, subst, arith}
use Rattle.vm_facts.specs.declared.params.Params.{Params}
use Rattle.io_edge.specs.FileHolding.{NamedFile}
use Rattle.table_steps.specs.Sourced.{ImageNamed}
use Rattle.table_steps.specs.Files.{AreFiles}
use Rattle.table_steps.specs.Machine.{Standing}
use Rattle.table_steps.specs.Settled.{IsSameBeside}
use Rattle.machine_state.specs.Going.{CanGoOn}
use Rattle.machine_state.specs.Outside.{IsBacked, Asks}

module _ (old next : Standing) (holds later : Option (List NamedFile)) (blocks more : ℕ) where
  -- a swap area as big as before, and the same images
  pub backed_by : next.params.swap_blocks ≡ old.params.swap_blocks → next.images ≡ old.images → later ≡ holds → more ≡ blocks
      → IsBacked old holds blocks → IsBacked next later more
  backed_by size images same many b = record {
    area = let area = b.area in omega (arith, size, many, area);
    files = subst (λ (ns : List ImageNamed). AreFiles ns later) (sym images) (subst (λ (x : Option (List NamedFile)). AreFiles old.images x) (sym same) b.files);
  }

  pub backed_on : next.params ≡ old.params → next.images ≡ old.images → later ≡ holds → more ≡ blocks → IsBacked old holds blocks
      → IsBacked next later more
  backed_on params images same many b = backed_by (ap (λ (x : Params). x.swap_blocks) params) images same many b

  -- a machine that can go on asks no more than the one before
  pub asks_on : IsSameBeside old next → later ≡ holds → more ≡ blocks → CanGoOn next → Asks old holds blocks → Asks next later more
  asks_on beside same many ready a = record { ready = ready; backed = backed_on beside.params beside.images same many a.backed }
