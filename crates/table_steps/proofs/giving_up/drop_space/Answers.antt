use Rattle.std.proofs.Common.{◌-◌, sym, ◌∙◌, subst}
use Rattle.vm_facts.specs.declared.page.Page.TheVariants.{Data, Stack}
use Rattle.flat_state.specs.PageNames.{pages_from}
use Rattle.page_model.specs.Placement.{Placement, IsThere, state_of}
use Rattle.page_model.specs.Conditions.{EachPage, AtRest}
use Rattle.kernel_tables.specs.View.{placement_of}
use Rattle.kernel_tables.specs.Machine.{lists_of}
use Rattle.table_steps.proofs.WholeSpace.{data_counts, stack_counts, data_there, data_rest, stack_rest, stack_there_yet, settled_yet, space_dropped, dropped_numbers}
use Rattle.table_steps.proofs.giving_up.drop_space.Goals as goal

pub drop_pages-requires-clause-there : goal.drop_pages-requires-clause-there
drop_pages-requires-clause-there c =
    data_there (placement_of (lists_of c.args.tables.now)) c.args.sid c.sizes_at-data.result.0
    (data_counts (lists_of c.args.tables.now) c.args.sid c.args.index c.sizes_at-data.result.0 c.requires.known.differ c.requires.stands c.sizes_at-data.ensures.data_pages)

pub drop_pages-requires-clause-rest : goal.drop_pages-requires-clause-rest
drop_pages-requires-clause-rest c = data_rest (placement_of (lists_of c.args.tables.now)) c.args.sid (c.sizes_at-data.result.0 - 0) c.requires.settled

pub drop_pages-requires-2-clause-there : goal.drop_pages-requires-2-clause-there
drop_pages-requires-2-clause-there c =
    subst (λ (p : Placement). EachPage (IsThere p) (pages_from (Stack c.args.sid 0) 0 (c.sizes_at-data.result.1 - 0))) (sym c.drop_pages.ensures.shows.place)
    (stack_there_yet (placement_of (lists_of c.args.tables.now)) (pages_from (Data c.args.sid 0) 0 (c.sizes_at-data.result.0 - 0)) c.args.sid c.sizes_at-data.result.1
    (stack_counts (lists_of c.args.tables.now) c.args.sid c.args.index c.sizes_at-data.result.1 c.requires.known.differ c.requires.stands c.sizes_at-data.ensures.stack_pages))

pub drop_pages-requires-2-clause-rest : goal.drop_pages-requires-2-clause-rest
drop_pages-requires-2-clause-rest c =
    subst (λ (p : Placement). EachPage (λ q. AtRest (state_of p q)) (pages_from (Stack c.args.sid 0) 0 (c.sizes_at-data.result.1 - 0))) (sym c.drop_pages.ensures.shows.place)
    (stack_rest _ c.args.sid (c.sizes_at-data.result.1 - 0)
    (settled_yet (placement_of (lists_of c.args.tables.now)) (pages_from (Data c.args.sid 0) 0 (c.sizes_at-data.result.0 - 0)) c.args.sid c.requires.settled))

pub returns-clause-dropped : goal.returns-clause-dropped
returns-clause-dropped c =
    space_dropped c.args.tables.now c.drop_pages.new.tables c.drop_pages-2.new.tables c.args.sid c.sizes_at-data.result.0 c.sizes_at-data.result.1
    (data_counts (lists_of c.args.tables.now) c.args.sid c.args.index c.sizes_at-data.result.0 c.requires.known.differ c.requires.stands c.sizes_at-data.ensures.data_pages)
    (stack_counts (lists_of c.args.tables.now) c.args.sid c.args.index c.sizes_at-data.result.1 c.requires.known.differ c.requires.stands c.sizes_at-data.ensures.stack_pages)
    c.drop_pages.ensures c.drop_pages-2.ensures

pub returns-clause-numbers : goal.returns-clause-numbers
returns-clause-numbers c =
    dropped_numbers c.drop_pages.new.tables c.drop_pages-2.new.tables _ c.drop_pages-2.ensures ∙ dropped_numbers c.args.tables.now c.drop_pages.new.tables _ c.drop_pages.ensures
