use Rattle.std.proofs.Common.{◌≡◌, ◌-◌, ◌≤◌, List, [], length, Option}
use Rattle.vm_facts.specs.SwapImages.{SwapImage}
use Rattle.vm_facts.specs.declared.entry.Entry.TheVariants as entries
use Rattle.io_edge.specs.FileHolding.{NamedFile}
use Rattle.flat_state.specs.Flat.{Inputs}
use Rattle.flat_state.specs.Journal.{repeated}
use Rattle.run_model.specs.State.{State}
use Rattle.run_model.specs.Wanted.{locked}
use Rattle.repage_check.specs.Past.{PastAt}
use Rattle.repage_check.specs.Lines.{GoesBy}
use Rattle.repage_check.proofs.MovesJudged.{AlongMoves}
use Rattle.repage_check.proofs.lines.judge_moves.Given as goal

abbrev pub invariant-loop-done : goal.invariant-loop-done
invariant-loop-done l = record {
  told : (holds : Option (List NamedFile)) (i : Option SwapImage) (A : Inputs) (s : State) (image : SwapImage)
      → PastAt l.past l.fn.m holds i A s image → l.pages ≡ locked A s
      → AlongMoves (repeated (entries.Hands 1) l.times []) (repeated (entries.Hands 1) (l.times - l.done) []) l.pages l.past l.m holds i A s image;
  on : GoesBy (repeated (entries.Hands 1) l.done []) l.fn.m l.m;
  frames : 64 ≤ length l.m.kernel.place.holds;
}
