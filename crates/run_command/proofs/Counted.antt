-- The lines of a load that is finished.
use Rattle.std.proofs.Common.{◌≡◌, ℕ, List, Option, Some, Ok, Err, refl, sym, ap, ◌∙◌, subst}
use Rattle.vm_facts.specs.SwapImages.{SwapImage}
use Rattle.vm_facts.specs.declared.entry.Entry.{Entry}
use Rattle.flat_state.specs.Flat.{Inputs}
use Rattle.command_edge.proofs.Statuses.{status_is_not_0}
use Rattle.io_edge.specs.Written.{Appends}
use Rattle.command_edge.specs.Command.{Writes, All, Prefix}
use Rattle.vm_core.specs.Lawful.{IsJournalOf, RunFinished}
use Rattle.load_maker.specs.Load.{load_images, load_pages}
use Rattle.load_maker.specs.Counts.{counts_of, load_text}
use Rattle.load_maker.specs.declared.counts.Counts.{Counts}
use Rattle.load_maker.specs.Left.{IsLoad, load_counts}
use Rattle.load_maker.proofs.Ending.{finished_counts}
use Rattle.io_edge.specs.FileRequests.{no_notes}
use Rattle.io_edge.specs.WithFiles.{image_with_files, with_files}
use Rattle.run_command.specs.Seen.{Seen}
use Rattle.run_command.specs.Ends.{RunEnding, run_status}
use Rattle.run_command.specs.Loads.{load_inputs, load_written, LoadEnded, LoadTold}

pub is_load : (number : ℕ) → IsLoad number (load_inputs number)
unfolding load_images
is_load number = record { images = refl; first = refl; swap = refl; limit = refl }

finished : (number : ℕ) (journal : List Entry) (image : SwapImage) (after : Option SwapImage) → RunFinished (load_inputs number) journal image after
    → counts_of 4 journal ≡ load_counts number
finished number journal image after f =
    let m : IsJournalOf (load_inputs number) journal f.state = f.made in
    finished_counts number (load_inputs number) m.holdings journal f.state (is_load number) m.can
    (record { holdings = m.holdings; found = (let can = m.can in can.pieces); units = m.units; follows = m.follows; joined = m.joined }) f.none

ended : (number : ℕ) (seen : Seen) (image : SwapImage) (after : Option SwapImage) (journal : List Entry) (ending : RunEnding) → 0 ≡ run_status ending
    → LoadEnded number seen journal image after ending
    → Appends seen.written_before (load_written number journal ending) seen.written_after
    → Appends seen.written_before (load_text number (load_counts number)) seen.written_after
ended number seen image after journal (Ok done) e f w = subst (λ (c : Counts). Appends seen.written_before (load_text number c) seen.written_after) (finished number journal image after f) w
ended number seen image after journal (Err fault) e f w = absurd (status_is_not_0 fault (sym e))

-- with status 0 the six lines are those of the number's counts
pub counted_by : (number : ℕ) (seen : Seen) (status : ℕ) (journal : List Entry) (ending : RunEnding)
    → Writes seen.written_before seen.written_after seen.sink_faults_before seen.sink_faults_after (load_written number journal ending)
    (run_status ending) status
    → LoadTold number seen journal ending
    → (image : SwapImage) → seen.swap_before ≡ Some image → status ≡ 0
    → Appends seen.written_before (load_text number (load_counts number)) seen.written_after
counted_by number seen status journal ending writes told image is zero = go (subst writes_with zero writes)
  where
    writes_with : ℕ → Type 0
    writes_with s =
        Writes seen.written_before seen.written_after seen.sink_faults_before seen.sink_faults_after (load_written number journal ending) (run_status ending) s

    go : writes_with 0 → Appends seen.written_before (load_text number (load_counts number)) seen.written_after
    go (All e w same) = ended number seen (image_with_files no_notes image) (with_files no_notes seen.swap_after) journal ending e (told image is) w
    go (Prefix e w rose) = absurd cc
