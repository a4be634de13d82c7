use Rattle.std.proofs.Common.{sym, ◌∙◌}
use Rattle.move_judge.specs.Holders.{HoldsRecord}
use Rattle.move_judge.proofs.Held.{space_state}
use Rattle.move_judge.proofs.Residents.{bare_in, held_in_if}
use Rattle.move_judge.proofs.leaving.in_of.Goals as goal

pub in_held-requires-clause-holds : goal.in_held-requires-clause-holds
in_held-requires-clause-holds c = record {
  known = c.requires.known;
  holds = space_state c.args.process.now.state c.in-Some.sid (sym c.held_space.ensures ∙ c.in-Some.is);
}

pub returns-in-None-clause-judged : goal.returns-in-None-clause-judged
returns-in-None-clause-judged c = λ F t o.
    bare_in c.args.m.now.kernel F c.args.pid c.args.process.now t o c.requires.known (sym c.held_space.ensures ∙ c.in-None.is)

pub returns-in-Some-clause-judged : goal.returns-in-Some-clause-judged
returns-in-Some-clause-judged c = λ F t o.
    let holds : HoldsRecord c.args.m.now.kernel c.args.pid c.in-Some.sid c.args.process.now = record {
      known = c.requires.known;
      holds = space_state c.args.process.now.state c.in-Some.sid (sym c.held_space.ensures ∙ c.in-Some.is);
    } in
    c.in_held.ensures.told ∙ held_in_if c.args.m.now.kernel F c.args.pid c.in-Some.sid c.args.process.now t holds
