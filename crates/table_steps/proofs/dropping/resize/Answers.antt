use Rattle.std.proofs.Common.{◌≡◌, ◌-◌, ◌*◌, ℕ, List, length, ap, ◌∙◌}
use Rattle.swap_book.specs.Chunks.{pieces}
use Rattle.swap_book.specs.declared.Owner.TheVariants as owners
use Rattle.swap_book.specs.Holdings.{kept}
use Rattle.swap_book.specs.Book.{Book, with_holdings}
use Rattle.vm_facts.specs.declared.page.Page.TheVariants.{Data}
use Rattle.space_map.specs.Space.{Places}
use Rattle.flat_state.specs.PageNames.{pages_from}
use Rattle.kernel_tables.specs.declared.tables.Tables.{Tables}
use Rattle.kernel_tables.specs.Machine.{lists_of}
use Rattle.kernel_tables.specs.Changing.{Dropped}
use Rattle.page_laws.proofs.Ownership.Changes.{dropped_pages}
use Rattle.kernel_tables.specs.View.{placement_of}
use Rattle.table_steps.proofs.Sizing.{Sizing, no_space, data_go, data_rest, stack_go, stack_still, both_dropped, dropped_stands, cut_lists, sized_shows, sized_images}
use Rattle.table_steps.proofs.dropping.resize.Goals as goal

pub unreachable-requires : goal.unreachable-requires
unreachable-requires c = no_space (lists_of c.args.tables.now) c.args.sid c.requires.there c.in_default.ensures.absent

pub drop_pages-requires-clause-there : goal.drop_pages-requires-clause-there
drop_pages-requires-clause-there c =
    let z : Sizing c.args.tables.now c.in-Some.index c.args.sid c.args.data_pages c.args.stack_pages c.sizes_at-data.result.0 c.sizes_at-data.result.1 =
    record {
      known = c.requires.known;
      stands = c.in-Some.ensures.found;
      data_has = c.sizes_at-data.ensures.data_pages;
      stack_has = c.sizes_at-data.ensures.stack_pages;
      settled = c.requires.settled;
    } in
    data_go c.args.tables.now c.in-Some.index c.args.sid c.args.data_pages c.args.stack_pages c.sizes_at-data.result.0 c.sizes_at-data.result.1 z

pub drop_pages-requires-clause-rest : goal.drop_pages-requires-clause-rest
drop_pages-requires-clause-rest c =
    let z : Sizing c.args.tables.now c.in-Some.index c.args.sid c.args.data_pages c.args.stack_pages c.sizes_at-data.result.0 c.sizes_at-data.result.1 =
    record {
      known = c.requires.known;
      stands = c.in-Some.ensures.found;
      data_has = c.sizes_at-data.ensures.data_pages;
      stack_has = c.sizes_at-data.ensures.stack_pages;
      settled = c.requires.settled;
    } in
    data_rest c.args.tables.now c.in-Some.index c.args.sid c.args.data_pages c.args.stack_pages c.sizes_at-data.result.0 c.sizes_at-data.result.1 z

pub drop_pages-requires-2-clause-there : goal.drop_pages-requires-2-clause-there
drop_pages-requires-2-clause-there c =
    let z : Sizing c.args.tables.now c.in-Some.index c.args.sid c.args.data_pages c.args.stack_pages c.sizes_at-data.result.0 c.sizes_at-data.result.1 =
    record {
      known = c.requires.known;
      stands = c.in-Some.ensures.found;
      data_has = c.sizes_at-data.ensures.data_pages;
      stack_has = c.sizes_at-data.ensures.stack_pages;
      settled = c.requires.settled;
    } in
    stack_go c.args.tables.now c.drop_pages.new.tables c.in-Some.index c.args.sid c.args.data_pages c.args.stack_pages c.sizes_at-data.result.0 c.sizes_at-data.result.1
    (pages_from (Data c.args.sid 0) c.args.data_pages (c.sizes_at-data.result.0 - c.args.data_pages)) z c.drop_pages.ensures

pub drop_pages-requires-2-clause-rest : goal.drop_pages-requires-2-clause-rest
drop_pages-requires-2-clause-rest c =
    let z : Sizing c.args.tables.now c.in-Some.index c.args.sid c.args.data_pages c.args.stack_pages c.sizes_at-data.result.0 c.sizes_at-data.result.1 =
    record {
      known = c.requires.known;
      stands = c.in-Some.ensures.found;
      data_has = c.sizes_at-data.ensures.data_pages;
      stack_has = c.sizes_at-data.ensures.stack_pages;
      settled = c.requires.settled;
    } in
    stack_still c.args.tables.now c.drop_pages.new.tables c.in-Some.index c.args.sid c.args.data_pages c.args.stack_pages c.sizes_at-data.result.0 c.sizes_at-data.result.1
    (pages_from (Data c.args.sid 0) c.args.data_pages (c.sizes_at-data.result.0 - c.args.data_pages)) z c.drop_pages.ensures

pub resize_at-requires-clause-in_range : goal.resize_at-requires-clause-in_range
resize_at-requires-clause-in_range c =
    let z : Sizing c.args.tables.now c.in-Some.index c.args.sid c.args.data_pages c.args.stack_pages c.sizes_at-data.result.0 c.sizes_at-data.result.1 =
    record {
      known = c.requires.known;
      stands = c.in-Some.ensures.found;
      data_has = c.sizes_at-data.ensures.data_pages;
      stack_has = c.sizes_at-data.ensures.stack_pages;
      settled = c.requires.settled;
    } in
    let h : Dropped c.args.tables.now c.drop_pages-2.new.tables (dropped_pages (placement_of (lists_of c.args.tables.now)) c.args.sid c.args.data_pages c.args.stack_pages) =
    both_dropped c.args.tables.now c.drop_pages.new.tables c.drop_pages-2.new.tables c.in-Some.index c.args.sid c.args.data_pages c.args.stack_pages
    c.sizes_at-data.result.0 c.sizes_at-data.result.1 z c.drop_pages.ensures c.drop_pages-2.ensures in
    (dropped_stands c.args.tables.now c.drop_pages-2.new.tables (dropped_pages (placement_of (lists_of c.args.tables.now)) c.args.sid c.args.data_pages c.args.stack_pages) c.args.sid c.in-Some.index h
    c.in-Some.ensures.found).in_range

pub returns-clause-resized : goal.returns-clause-resized
returns-clause-resized c =
    let t : Tables = c.args.tables.now in
    let v : Tables = c.drop_pages-2.new.tables in
    let w : Tables = record v { spaces = c.resize_at.new.self; book = c.shrink-2.new.self } in
    let i : ℕ = c.in-Some.index in
    let sid : ℕ = c.args.sid in
    let d : ℕ = c.args.data_pages in
    let s : ℕ = c.args.stack_pages in
    let z : Sizing t i sid d s c.sizes_at-data.result.0 c.sizes_at-data.result.1 =
    record {
      known = c.requires.known;
      stands = c.in-Some.ensures.found;
      data_has = c.sizes_at-data.ensures.data_pages;
      stack_has = c.sizes_at-data.ensures.stack_pages;
      settled = c.requires.settled;
    } in
    let h : Dropped t v (dropped_pages (placement_of (lists_of t)) sid d s) =
    both_dropped t c.drop_pages.new.tables v i sid d s c.sizes_at-data.result.0 c.sizes_at-data.result.1 z c.drop_pages.ensures c.drop_pages-2.ensures in
    let is : lists_of w ≡ cut_lists (lists_of v) i d s = ap (λ (ss : List Places). record (lists_of v) { spaces = ss }) c.in_ok-resize_at.ensures.ok in
    let ns : ℕ = length (pieces (2 * s)) in
    let nd : ℕ = length (pieces (2 * d)) in
    record {
      shows = sized_shows t v w i sid d s c.sizes_at-data.result.0 c.sizes_at-data.result.1 z h c.requires.data_fits c.requires.stack_fits is;
      images = sized_images t v w i sid d s h c.in-Some.ensures.found is;
      book = c.shrink-2.ensures
          ∙ ap (λ (b : Book). with_holdings b (kept (owners.Stack sid) ns b.holdings)) c.shrink.ensures
          ∙ ap (λ (b : Book). with_holdings b (kept (owners.Stack sid) ns (kept (owners.Data sid) nd b.holdings))) (ap (λ (x : Tables). x.book) h.rest);
      rest = ap (λ (x : Tables). record x { spaces = c.resize_at.new.self; book = c.shrink-2.new.self }) h.rest;
    }
