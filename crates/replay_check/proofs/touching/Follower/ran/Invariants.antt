use Rattle.std.proofs.Common.{◌≡◌, ◌-◌, List}
use Rattle.vm_facts.specs.declared.page.Page.{Page}
use Rattle.vm_facts.specs.declared.entry.Entry.{Entry}
use Rattle.vm_facts.specs.declared.entry.Entry.TheVariants.{Ran}
use Rattle.flat_state.specs.Flat.{Inputs}
use Rattle.flat_state.specs.Journal.{repeated}
use Rattle.replay_check.specs.Following.{IsOnWay}
use Rattle.replay_check.proofs.touching.Follower.ran.Given as goal

abbrev pub invariant-loop : goal.invariant-loop
invariant-loop l = record {
  way : (A : Inputs) (units : List Entry) (whole : List Page) → A.images ≡ l.fn.self.programs.now
      → IsOnWay A l.fn.self.machine l.fn.self.refused l.fn.self.pages.items (repeated (Ran l.pid 1) l.count units) whole
      → IsOnWay A l.self.machine l.self.refused l.self.pages.items (repeated (Ran l.pid 1) (l.count - l.counter) units) whole;
  programs : l.self.programs ≡ l.fn.self.programs;
}
