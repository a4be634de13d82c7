-- How a run over two devices ends, as the command's ending.
use Rattle.std.proofs.Common.{◌≡◌, inl, inr, ℕ, ◌≤◌, ◌<◌, Bool, List, [], Option, Ok, Err, sym, subst, arith}
use Rattle.std.specs.Prelude.{IfErr}
use Rattle.vm_facts.specs.SwapImages.{SwapImage}
use Rattle.vm_facts.specs.declared.entry.Entry.{Entry}
use Rattle.flat_state.specs.Flat.{Inputs}
use Rattle.run_model.specs.State.{State}
use Rattle.vm_core.specs.Lawful.{IsJournalOf}
use Rattle.vm_core.specs.RunEnds.{RunEnds}
use Rattle.run_text.specs.Transcript.{HaveNumbers}
use Rattle.replay_command.specs.Replayed.{IsFlatText}
use Rattle.replay_command.proofs.Texts.{text_flat, empty_flat}
use Rattle.command_words.specs.declared.limits.TheConstants.{MOST_LIMIT}
use Rattle.command_edge.specs.declared.fault.Fault.{Fault}
use Rattle.command_edge.specs.declared.fault.Fault.TheVariants.{FileFault, SwapReadFault, SwapWriteFault, NoMemory, JournalFull, NoSpace}
use Rattle.run_command.specs.Seen.{Seen}
use Rattle.run_command.specs.Ends.{RunEnding, NothingDone, Unbegun, NoneFaulted, RunCaused, FaultEnded, RunEnded, CanBeLost}
use Rattle.run_command.specs.Paired.{unfinished_of, IsRunFault}

-- the line of a fault of a device that there is isn't lost
at_hand : (A : Type 0) (device : ℕ) → 2 ≤ device → device < 2 → A
at_hand A device lost is = absurd (omega (arith, lost, is))

module _ (seen : Seen) (es : List Entry) where
  pub none_faulted : Unbegun seen es → NoneFaulted seen
  none_faulted u = let n : NothingDone seen es = u.nothing in record { files = u.files; reads = n.reads; writes = n.writes }

  -- Where the line of a halt is lost, that is want of memory, and no call failed.
  pub lost_caused : (r : RunEnding) → IfErr r IsRunFault → CanBeLost r → RunCaused seen es r → RunCaused seen es (Err NoMemory)
  lost_caused (Ok done) kind lost c = absurd lost
  lost_caused (Err (SwapReadFault device)) kind lost c = at_hand (NoneFaulted seen) device lost c.read.0
  lost_caused (Err (SwapWriteFault device)) kind lost c = at_hand (NoneFaulted seen) device lost c.write.0
  lost_caused (Err (NoSpace pid)) kind lost c = none_faulted c
  lost_caused (Err FileFault) kind lost c = absurd lost
  lost_caused (Err JournalFull) kind lost c = absurd lost
  lost_caused (Err NoMemory) kind lost c = absurd lost
  lost_caused (Err _) kind lost c = absurd kind

module _ (seen : Seen) (A : Inputs) (es : List Entry) (image : SwapImage) (after : Option SwapImage) where
  pub run_ended : (r : RunEnding) → IfErr r IsRunFault → RunCaused seen es r → RunEnds A es image (unfinished_of r) after → RunEnded seen A es image after r
  run_ended (Ok done) kind c e = e
  run_ended (Err FileFault) kind c e = e
  run_ended (Err (SwapReadFault device)) kind c e = e
  run_ended (Err (SwapWriteFault device)) kind c e = e
  run_ended (Err JournalFull) kind c e = e
  run_ended (Err (NoSpace pid)) kind c e = e
  run_ended (Err NoMemory) kind c e = (c, e)
  run_ended (Err _) kind c e = absurd kind

  pub lost_ended : (r : RunEnding) → IfErr r IsRunFault → CanBeLost r → RunCaused seen es r → RunEnded seen A es image after r → RunEnded seen A es image after (Err NoMemory)
  lost_ended (Ok done) kind lost c e = absurd lost
  lost_ended (Err (SwapReadFault device)) kind lost c e = at_hand (RunEnded seen A es image after (Err NoMemory)) device lost c.read.0
  lost_ended (Err (SwapWriteFault device)) kind lost c e = at_hand (RunEnded seen A es image after (Err NoMemory)) device lost c.write.0
  lost_ended (Err (NoSpace pid)) kind lost c e = (none_faulted seen es c, inl e.0)
  lost_ended (Err FileFault) kind lost c e = absurd lost
  lost_ended (Err JournalFull) kind lost c e = absurd lost
  lost_ended (Err NoMemory) kind lost c e = absurd lost
  lost_ended (Err _) kind lost c e = absurd kind

-- The text of the journal of a run that ended, over the images of its inputs.
module _ (A : Inputs) (es : List Entry) (image : SwapImage) (after : Option SwapImage) (limit : A.limit ≤ MOST_LIMIT) (numbers : HaveNumbers es) (traced : Bool) where
  made_flat : (s : State) → IsJournalOf A es s → IsFlatText A traced es
  made_flat s m = let made : IsJournalOf A es s = m in text_flat A made.holdings es s traced made.can made.lawful limit numbers

  none_flat : es ≡ [] → IsFlatText A traced es
  none_flat none = subst (IsFlatText A traced) (sym none) (empty_flat A traced)

  fault_flat : (fault : Fault) → FaultEnded A es image after fault → IsFlatText A traced es
  fault_flat FileFault e = made_flat e.state e.made
  fault_flat (SwapReadFault device) e = made_flat e.state e.made
  fault_flat (SwapWriteFault device) e = made_flat e.state e.made
  fault_flat JournalFull e = made_flat e.state e.made
  fault_flat (NoSpace pid) e = none_flat e.0.0
  fault_flat _ e = absurd e

pub ended_flat : (seen : Seen) (A : Inputs) (es : List Entry) (image : SwapImage) (after : Option SwapImage) (r : RunEnding) → A.limit ≤ MOST_LIMIT →
    HaveNumbers es
    → RunEnded seen A es image after r → (traced : Bool) → IsFlatText A traced es
ended_flat seen A es image after (Ok done) limit numbers e traced = made_flat A es image after limit numbers traced e.state e.made
ended_flat seen A es image after (Err NoMemory) limit numbers (calm, inl none) traced = none_flat A es image after limit numbers traced none.0
ended_flat seen A es image after (Err NoMemory) limit numbers (calm, inr starved) traced = made_flat A es image after limit numbers traced starved.state starved.made
ended_flat seen A es image after (Err FileFault) limit numbers e traced = fault_flat A es image after limit numbers traced FileFault e
ended_flat seen A es image after (Err (SwapReadFault device)) limit numbers e traced = fault_flat A es image after limit numbers traced (SwapReadFault device) e
ended_flat seen A es image after (Err (SwapWriteFault device)) limit numbers e traced = fault_flat A es image after limit numbers traced (SwapWriteFault device) e
ended_flat seen A es image after (Err JournalFull) limit numbers e traced = fault_flat A es image after limit numbers traced JournalFull e
ended_flat seen A es image after (Err (NoSpace pid)) limit numbers e traced = fault_flat A es image after limit numbers traced (NoSpace pid) e
ended_flat seen A es image after (Err _) limit numbers e traced = absurd e
