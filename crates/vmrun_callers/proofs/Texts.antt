-- What a call in memory with status 0 wrote, where its words ask for a run: the text of a run of the flat machine.
use Rattle.std.proofs.Common.{◌≡◌, ℕ, Bool, List, [], ◌++◌, Option, Some, Result, Ok, Err, sym, ◌∙◌, arith}
use Rattle.vm_facts.specs.SwapImages.{SwapImage}
use Rattle.vm_facts.specs.declared.entry.Entry.{Entry}
use Rattle.io_edge.specs.FileHolding.{NamedFile}
use Rattle.flat_state.specs.Flat.{Inputs}
use Rattle.run_text.specs.Text.{text_of}
use Rattle.command_edge.specs.ImageWords.{image_names, first_images}
use Rattle.command_edge.specs.declared.fault.Fault.{Fault}
use Rattle.command_edge.specs.Command.{All, Prefix}
use Rattle.command_edge.proofs.Statuses.{status_is_not_0}
use Rattle.run_opening.specs.Images.{images_found}
use Rattle.replay_command.specs.Replayed.{IsFlatText}
use Rattle.command_words.specs.Asked.{Request}
use Rattle.vm_run.specs.RunCommandEnds.{Writing, EndsTold}
use Rattle.vm_run.specs.InMemory.{seen_of, RunsTold}

-- the text of a run of the flat machine was written, whose images are those that the words name
pub record IsRunText (words : List (List ℕ)) (files : List NamedFile) (traced : Bool) (written : Option (List ℕ)) : Type 0 where
  pub inputs : Inputs
  pub journal : List Entry
  pub images : images_found files (image_names words) ≡ Ok inputs.images
  pub first : inputs.first ≡ first_images (image_names words) words
  pub flat : IsFlatText inputs traced journal
  pub wrote : written ≡ Some (text_of traced journal ++ [])

pub run_text : (request : Request) (files : List NamedFile) (zero_blocks one_blocks : ℕ) (swap : Option SwapImage) (written : Option (List ℕ)) (faults : ℕ)
    (image : SwapImage) (status : ℕ)
    → RunsTold request (seen_of files zero_blocks one_blocks swap written faults) files image status → status ≡ 0
    → IsRunText request.words files request.traced written
run_text request files zero_blocks one_blocks swap written faults image status told zero = go told.ending told.writes told.told
  where
    go : (ending : Result (Unit {0}) Fault) → Writing request.traced (seen_of files zero_blocks one_blocks swap written faults) told.journal ending status
        → EndsTold request (seen_of files zero_blocks one_blocks swap written faults) files told.journal image ending → IsRunText request.words files request.traced written
    go (Ok done) (All whole appends none) run =
        record { inputs = run.inputs; journal = told.journal; images = run.asks.images; first = run.asks.first; flat = run.replayed request.traced; wrote = appends }
    go (Ok done) (Prefix whole appends rose) run = absurd (omega (arith, whole, zero))
    go (Err fault) (All whole appends none) run = absurd (status_is_not_0 fault (sym whole ∙ zero))
    go (Err fault) (Prefix whole appends rose) run = absurd (omega (arith, whole, zero))
