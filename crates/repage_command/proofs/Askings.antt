-- Inputs that are asked about are told.
use Rattle.std.proofs.Common.{◌≡◌, ℕ, List, Option, sym, subst}
use Rattle.vm_facts.specs.SwapImages.{SwapImage}
use Rattle.vm_facts.specs.declared.event.Event.{Event}
use Rattle.io_edge.specs.FileHolding.{NamedFile}
use Rattle.flat_state.specs.Flat.{Inputs}
use Rattle.machine_state.specs.Machine.{Standing}
use Rattle.repage_check.specs.Leading.{IsTold}
use Rattle.repage_check.specs.RunEnds.{IsAskedOf}

pub told_of : (A : Inputs) (m : Standing) (first ns : List ℕ) (lines : List Event) (holds : Option (List NamedFile)) (image : SwapImage) → ns ≡ first
    → IsAskedOf A m first lines holds image → IsTold A m ns holds image
told_of A m first ns lines holds image same asked =
    subst (λ (xs : List ℕ). IsTold A m xs holds image) (sym same)
    (record {
      starts = record { named = asked.named; first = asked.first; frames = asked.frames; blocks = asked.blocks };
      images = asked.images;
      fit = asked.fit;
      room = asked.room;
    })
