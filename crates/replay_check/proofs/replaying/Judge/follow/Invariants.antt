use Rattle.std.proofs.Common.{◌≡◌, [], None, take}
use Rattle.flat_state.specs.Flat.{Inputs}
use Rattle.replay_check.specs.Judging.{HasTaken}
use Rattle.replay_check.specs.Verdicts.{first_bad}
use Rattle.replay_check.proofs.replaying.Judge.follow.Given as goal

abbrev pub invariant-loop-index : goal.invariant-loop-index
invariant-loop-index l = record {
  taken : (A : Inputs) → A.images ≡ l.fn.self.programs.now → HasTaken A l.fn.self.machine l.fn.self.last l.fn.self.count [] → first_bad A l.entries ≡ None
      → HasTaken A l.self.machine l.self.last l.self.count (take l.index l.entries);
  programs : l.self.programs ≡ l.fn.self.programs;
}
