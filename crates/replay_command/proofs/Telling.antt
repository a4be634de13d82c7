-- What is told of a transcript, by what is read.
use Rattle.std.proofs.Common.{◌≡◌, ℕ, List, Option, Some, None, Result, Ok, Err, IfOk, ap, ◌∙◌, sym, subst}
use Rattle.io_edge.specs.FileHolding.{NamedFile}
use Rattle.vm_facts.specs.declared.entry.Entry.{Entry}
use Rattle.vm_facts.specs.declared.stop.NoMemory.{NoMemory}
use Rattle.flat_state.specs.Flat.{Inputs}
use Rattle.command_edge.specs.ImageWords.{image_names}
use Rattle.replay_check.specs.Images.{FlatFile}
use Rattle.replay_check.specs.Expecting.{IsExplained}
use Rattle.replay_check.specs.declared.expecting.Misfit.{Misfit}
use Rattle.command_edge.specs.Told.{whole_told}
use Rattle.command_edge.specs.declared.answers.Unread.{Unread}
use Rattle.command_edge.specs.declared.fault.Fault.{Fault}
use Rattle.command_edge.specs.declared.fault.Fault.TheVariants as faults
use Rattle.command_edge.specs.Command.{Faults}
use Rattle.command_edge.specs.Named.{Why}
use Rattle.replay_command.specs.Reading.{Read, EndsTranscript, FaultsBy, images_told, read_of_transcript}
use Rattle.replay_command.specs.Explaining.{explanation, Explained, IsUnjudged}

pub told_some : (A : Inputs) (entries : List Entry) (r : Result (Option Misfit) NoMemory) (misfit : Misfit) (text : List ℕ)
    → IfOk r (λ (m : Option Misfit). IsExplained A entries m) → r ≡ Ok (Some misfit)
    → text ≡ explanation misfit → Explained A entries (Some text)
told_some A entries r misfit text h e is = (misfit, subst (λ (s : Result (Option Misfit) NoMemory). IfOk s (λ (m : Option Misfit). IsExplained A entries m)) e h, is)

pub told_none : (A : Inputs) (entries : List Entry) (r : Result (Option Misfit) NoMemory) → IfOk r (λ (m : Option Misfit). IsExplained A entries m)
    → r ≡ Ok None → Explained A entries None
told_none A entries r h e = subst (λ (s : Result (Option Misfit) NoMemory). IfOk s (λ (m : Option Misfit). IsExplained A entries m)) e h

-- the transcript and the images that were read are the told ones
pub read_is : (name : List ℕ) (words : List (List ℕ)) (files : List NamedFile) (transcript : Result (Option (List ℕ)) Unread)
    (images : Result (List FlatFile) Why)
    → transcript ≡ whole_told files name 67108864 → images_told files (image_names words) ≡ images
    → (let read : Read = record { transcript = transcript; images = images } in read) ≡ read_of_transcript name words files
read_is name words files transcript images t i =
    ap (λ (x : Result (Option (List ℕ)) Unread). let read : Read = record { transcript = x; images = images } in read) t
    ∙ ap (λ (y : Result (List FlatFile) Why). let read : Read = record { transcript = whole_told files name 67108864; images = y } in read) (sym i)

-- the fault of a transcript that isn't read, or of images that aren't, is no verdict
pub transcript_unjudged : (name : List ℕ) (read : Result (Option (List ℕ)) Unread) (f : Faults) (fault : Fault)
    → EndsTranscript name read f (Err fault) → IsUnjudged fault
transcript_unjudged name read f (faults.NotFlatRun line) ends = absurd ends
transcript_unjudged name read f _ ends = tt

pub images_unjudged : (A : Type 0) (f : Faults) (fault : Fault) → FaultsBy {A = A} (Err fault) f → IsUnjudged fault
images_unjudged A f (faults.NotFlatRun line) by = absurd by
images_unjudged A f _ by = tt
