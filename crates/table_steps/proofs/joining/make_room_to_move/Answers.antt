use Rattle.std.proofs.Common.{ℕ, sym, ap, ◌∙◌}
use Rattle.vm_facts.specs.declared.entry.Entry.TheVariants as entries
use Rattle.table_steps.specs.Joined.{moves_in, last_says}
use Rattle.table_steps.proofs.Joins.{moves_kind, joined_not, alone_grows}
use Rattle.table_steps.proofs.joining.make_room_to_move.Goals as goal

pub returns-then-is_some-clause-full : goal.returns-then-is_some-clause-full
returns-then-is_some-clause-full c = (
  λ e. absurd (let x = e in cc),
  λ g. absurd (joined_not moves_in (λ (count : ℕ). entries.Hands count) moves_kind c.args.journal.now.items c.last_moves.result
      (c.last_moves.ensures ∙ ap (last_says moves_in) c.as_slice.ensures.value) (sym c.is_some.ensures ∙ c.if-is_some.true) g.1),
)

pub returns-clause-full : goal.returns-clause-full
returns-clause-full c =
    let l = alone_grows moves_in (λ (count : ℕ). entries.Hands count) moves_kind c.args.journal.now.items c.last_moves.result (c.last_moves.ensures ∙ ap (last_says moves_in) c.as_slice.ensures.value)
    (sym c.is_some.ensures ∙ c.if-is_some.false) in
    (λ e. (c.make_room.ensures.full.0 e, l), λ g. c.make_room.ensures.full.1 g.0)
