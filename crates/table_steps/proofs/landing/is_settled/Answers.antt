use Rattle.std.proofs.Common.{◌==◌, ◌&&◌, not, Bool, sym, ap, ◌∙◌}
use Rattle.table_steps.proofs.Settles.{image_range, settled_names, settled_none, settled_text}
use Rattle.table_steps.proofs.landing.is_settled.Goals as goal

pub returns-then-names : goal.returns-then-names
returns-then-names c = sym (settled_names c.args.tables.now c.args.sid (sym c.if-names.ensures))

pub sharers-requires-clause-from_one : goal.sharers-requires-clause-from_one
sharers-requires-clause-from_one c =
    (image_range c.args.tables.now c.args.sid c.in-Some.image c.requires (sym c.in-Some.ensures)).0

pub sharers-requires-clause-to_last : goal.sharers-requires-clause-to_last
sharers-requires-clause-to_last c =
    (image_range c.args.tables.now c.args.sid c.in-Some.image c.requires (sym c.in-Some.ensures)).1

pub returns-in-None : goal.returns-in-None
returns-in-None c = sym (settled_none c.args.tables.now c.args.sid c.requires (sym c.if-names.ensures) (sym c.in-None.ensures))

pub returns-in-Some : goal.returns-in-Some
returns-in-Some c =
    ap not (c.both.ensures ∙ ap (λ (b : Bool). (c.sharers.result == 1) && b) c.names_text-named.ensures)
    ∙ sym (settled_text c.args.tables.now c.args.sid c.in-Some.image c.sharers.result c.requires (sym c.if-names.ensures) (sym c.in-Some.ensures) c.sharers.ensures.count)
