use Rattle.std.proofs.Common.{refl, ap, ◌∙◌}
use Rattle.swap_book.specs.declared.Owner.TheVariants.{Stack}
use Rattle.swap_book.specs.Holdings.{kept}
use Rattle.swap_book.specs.Book.{Book, with_holdings}
use Rattle.kernel_tables.specs.declared.tables.Tables.{Tables}
use Rattle.kernel_tables.specs.Machine.{lists_of}
use Rattle.kernel_tables.specs.Rising.{StandsAt}
use Rattle.table_steps.proofs.GivenUp.{Parts, space_there, still_stands, text_asks, given_up}
use Rattle.table_steps.proofs.giving_up.give_up.Goals as goal

pub unreachable-requires : goal.unreachable-requires
unreachable-requires c = space_there (lists_of c.args.tables.now) c.args.sid c.requires.there c.in_default.ensures.absent

pub leave_text-requires-clause-from_one : goal.leave_text-requires-clause-from_one
leave_text-requires-clause-from_one c =
    (text_asks c.args.tables.now c.drop_space.new.tables c.args.sid c.in-Some.index c.remove_at-image.result.0 c.remove_at-image.result.1
    c.drop_space.ensures.dropped.shows.known c.drop_space.ensures.numbers c.in-Some.ensures.found c.remove_at-image.ensures.image c.remove_at-image.ensures.pages).0

pub leave_text-requires-clause-to_last : goal.leave_text-requires-clause-to_last
leave_text-requires-clause-to_last c =
    (text_asks c.args.tables.now c.drop_space.new.tables c.args.sid c.in-Some.index c.remove_at-image.result.0 c.remove_at-image.result.1
    c.drop_space.ensures.dropped.shows.known c.drop_space.ensures.numbers c.in-Some.ensures.found c.remove_at-image.ensures.image c.remove_at-image.ensures.pages).1

pub leave_text-requires-clause-shared : goal.leave_text-requires-clause-shared
leave_text-requires-clause-shared c =
    (text_asks c.args.tables.now c.drop_space.new.tables c.args.sid c.in-Some.index c.remove_at-image.result.0 c.remove_at-image.result.1
    c.drop_space.ensures.dropped.shows.known c.drop_space.ensures.numbers c.in-Some.ensures.found c.remove_at-image.ensures.image c.remove_at-image.ensures.pages).2

pub returns : goal.returns
returns c =
    let u : Tables = c.drop_space.new.tables in
    let a : Tables = record u { spaces = c.remove_at-image.new.self; book = c.drop_owner-2.new.self } in
    let stands : StandsAt u.spaces c.args.sid c.in-Some.index =
    still_stands c.args.tables.now.spaces u.spaces c.args.sid c.in-Some.index c.drop_space.ensures.numbers c.in-Some.ensures.found in
    let parts : Parts c.args.tables.now u a c.leave_text.new.tables c.args.sid c.in-Some.index c.remove_at-image.result.0 c.remove_at-image.result.1 = record {
      known = c.requires.known;
      settled = c.requires.settled;
      forgets = c.requires.forgets;
      dropped = c.drop_space.ensures.dropped;
      stands = stands;
      removed = c.remove_at-image.ensures.gone c.args.sid stands;
      image_is = c.remove_at-image.ensures.image;
      pages_are = c.remove_at-image.ensures.pages;
      book = c.drop_owner-2.ensures ∙ ap (λ (b : Book). with_holdings b (kept (Stack c.args.sid) 0 b.holdings)) c.drop_owner.ensures;
      rest = refl;
    } in
    given_up c.args.tables.now u a c.leave_text.new.tables c.args.sid c.in-Some.index c.remove_at-image.result.0 c.remove_at-image.result.1 parts c.leave_text.ensures c.stands.ensures
