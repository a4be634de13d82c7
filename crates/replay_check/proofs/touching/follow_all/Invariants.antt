use Rattle.std.proofs.Common.{◌≡◌, List, drop}
use Rattle.vm_facts.specs.declared.page.Page.{Page}
use Rattle.flat_state.specs.Flat.{Inputs}
use Rattle.flat_state.specs.Journal.{units_of}
use Rattle.replay_check.specs.Following.{IsOnWay}
use Rattle.replay_check.proofs.touching.follow_all.Given as goal

abbrev pub invariant-loop-entry : goal.invariant-loop-entry
invariant-loop-entry l = record {
  way : (A : Inputs) (whole : List Page) → A.images ≡ l.fn.follower.programs.now
      → IsOnWay A l.fn.follower.machine l.fn.follower.refused l.fn.follower.pages.items (units_of l.entries) whole
      → IsOnWay A l.follower.machine l.follower.refused l.follower.pages.items (units_of (drop l.entry-index l.entries)) whole;
  programs : l.follower.programs ≡ l.fn.follower.programs;
}
