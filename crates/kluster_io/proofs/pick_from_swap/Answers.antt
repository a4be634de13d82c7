use Rattle.std.proofs.Common.{inl, inr}
use Rattle.kluster_io.proofs.Picks.{named, data_from_swap, stack_from_swap, text_from_swap}
use Rattle.kluster_io.proofs.pick_from_swap.Goals as goal

pub returns-in-Data : goal.returns-in-Data
returns-in-Data c = λ p h. elim c.in-Data.is [
  | inl e ↦ data_from_swap p c.args.page e.0 e.1 c.args.spare c.min.result (record { lo = c.both.result.0; n = c.both.result.1 }) e.2 c.min.ensures
      (c.both.ensures p (record { page = named c.args.space.now c.args.page c.requires.of_space; space = h; front = tt }))
  | inr e ↦ stack_from_swap p c.args.page e.0 e.1 c.args.spare c.min.result (record { lo = c.both.result.0; n = c.both.result.1 }) e.2 c.min.ensures
      (c.both.ensures p (record { page = named c.args.space.now c.args.page c.requires.of_space; space = h; front = tt }))
]

pub returns-in-Text : goal.returns-in-Text
returns-in-Text c = λ p h.
    text_from_swap p c.args.page c.in-Text.image c.in-Text.v c.args.spare c.min-in-Text.result c.up.result c.in-Text.is c.min-in-Text.ensures
    (c.up.ensures p (record { page = named c.args.space.now c.args.page c.requires.of_space; space = h; front = tt }))
