use Rattle.std.proofs.Common.{ℕ, sym, ap, ◌∙◌}
use Rattle.vm_facts.specs.declared.entry.Entry.TheVariants as entries
use Rattle.table_steps.specs.Joined.{instructions_in, last_says}
use Rattle.table_steps.proofs.Joins.{runs_kind, joined_not, alone_grows}
use Rattle.table_steps.proofs.joining.make_room_to_run.Goals as goal

pub returns-then-is_some-clause-full : goal.returns-then-is_some-clause-full
returns-then-is_some-clause-full c = (
  λ e. absurd (let x = e in cc),
  λ g. absurd (joined_not (instructions_in c.args.pid) (λ (count : ℕ). entries.Ran c.args.pid count) (runs_kind c.args.pid) c.args.journal.now.items c.last_instructions.result
      (c.last_instructions.ensures ∙ ap (last_says (instructions_in c.args.pid)) c.as_slice.ensures.value) (sym c.is_some.ensures ∙ c.if-is_some.true) g.1),
)

pub returns-clause-full : goal.returns-clause-full
returns-clause-full c =
    let l = alone_grows (instructions_in c.args.pid) (λ (count : ℕ). entries.Ran c.args.pid count) (runs_kind c.args.pid) c.args.journal.now.items c.last_instructions.result
    (c.last_instructions.ensures ∙ ap (last_says (instructions_in c.args.pid)) c.as_slice.ensures.value) (sym c.is_some.ensures ∙ c.if-is_some.false) in
    (λ e. (c.make_room.ensures.full.0 e, l), λ g. c.make_room.ensures.full.1 g.0)
