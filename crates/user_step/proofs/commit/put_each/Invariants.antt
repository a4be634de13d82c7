use Rattle.std.proofs.Common.{◌≡◌, take}
use Rattle.vm_facts.specs.Answers.{writes_down}
use Rattle.vax_execute.specs.Outcomes.{lowest}
use Rattle.user_step.proofs.commit.put_each.Given as goal

-- the longwords so far were written, the last of them at the place, and the rest may be written as before
abbrev pub invariant-loop-longword : goal.invariant-loop-longword
invariant-loop-longword g l = record {
  wrote : g.M.Memory.wrote l.fn.memory (writes_down l.address (take l.longword-index l.longwords)) l.memory;
  tests : (g.M.Memory.answers l.memory).may_write ≡ (g.M.Memory.answers l.fn.memory).may_write;
  place : l.place ≡ lowest l.address (take l.longword-index l.longwords);
}
