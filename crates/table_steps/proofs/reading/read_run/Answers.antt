use Rattle.std.proofs.Common.{◌≡◌, Bool, List, ◌++◌, map, refl, sym, ap, ◌∙◌, subst}
use Rattle.vm_facts.specs.declared.page.Page.{Page}
use Rattle.transfer_ring.specs.declared.transfer.Inbound.{Inbound}
use Rattle.transfer_ring.specs.declared.transfer.Transfer.{Transfer as Flight}
use Rattle.transfer_ring.specs.declared.transfer.Transfer.TheVariants as flights
use Rattle.transfer_ring.specs.Sound.{IsRun, inbound_pages}
use Rattle.page_model.specs.Steps.{get_all}
use Rattle.page_model.specs.Placement.{Placement, Source, Reads, state_of}
use Rattle.page_model.specs.PageBytes.{ReadsFrom}
use Rattle.page_model.specs.Reading.{source_for}
use Rattle.flat_state.specs.PageNames.{pages_from, beside}
use Rattle.kernel_tables.specs.declared.tables.Tables.{Tables}
use Rattle.kernel_tables.specs.Known.{MayBring}
use Rattle.kernel_tables.specs.Machine.{lists_of, images_of, image_at}
use Rattle.kernel_tables.specs.Moves.{opened}
use Rattle.kernel_tables.specs.Sourced.{AreSourcedIn}
use Rattle.kernel_tables.specs.Steps.{source_by}
use Rattle.kernel_tables.specs.View.{in_part, source_shown, placement_of, frames_of}
use Rattle.table_steps.proofs.Gets.{Getting, began_read, may_bring, run_rises}
use Rattle.table_steps.proofs.Sources.{first_source, run_first, shown_source}
use Rattle.table_steps.proofs.reading.read_run.Goals as goal

pub bring_all-requires-clause-may : goal.bring_all-requires-clause-may
bring_all-requires-clause-may c =
    let s : Source = source_by c.comes_from_file-from_file.result in
    subst (λ (ys : List Inbound). MayBring (opened c.args.tables.now ys s c.args.page) c.args.page c.args.lo c.args.n) (sym c.requires.none)
    (may_bring c.args.tables.now s c.args.page c.args.lo c.args.n c.requires.known c.requires.can)

pub begin_read-requires : goal.begin_read-requires
begin_read-requires c =
    let pages : inbound_pages c.bring_all.new.parts.items ≡ pages_from c.args.page c.args.lo c.args.n =
    c.bring_all.ensures.pages ∙ ap (λ (ys : List Inbound). inbound_pages ys ++ pages_from c.args.page c.args.lo c.args.n) c.requires.none in
    (subst IsRun (sym pages) (run_rises c.args.page c.args.lo c.args.n c.requires.can.some c.requires.can.most), c.bring_all.ensures.from.ranges)

pub returns : goal.returns
returns c =
    let t : Tables = c.args.tables.now in
    let u : Tables = c.bring_all.new.tables in
    let w : Tables = record u { ring = c.begin_read.new.self } in
    let p : Placement = placement_of (lists_of t) in
    let ps : List Inbound = c.bring_all.new.parts.items in
    let b : Bool = c.comes_from_file-from_file.result in
    let x : Flight = flights.Read c.args.page c.bring_all.new.parts in
    let pages : inbound_pages ps ≡ pages_from c.args.page c.args.lo c.args.n =
    c.bring_all.ensures.pages ∙ ap (λ (ys : List Inbound). inbound_pages ys ++ pages_from c.args.page c.args.lo c.args.n) c.requires.none in
    let first = run_first (ReadsFrom p (source_for (state_of p c.args.page)) c.args.page) c.args.page c.args.lo c.args.n c.requires.can.some c.requires.can.reads in
    let from : source_by b ≡ source_for (state_of p c.args.page) =
    c.comes_from_file-from_file.ensures ∙ ap (λ (q : Page). source_for (state_of p q)) c.beside.ensures ∙ first_source p c.args.page (beside c.args.page c.args.lo) first in
    let shown : source_shown ps ≡ source_by b =
    shown_source (images_of t) (image_at t) t.book.holdings t.book.size (source_by b) ps c.args.page c.args.lo c.args.n c.requires.can.some pages c.bring_all.ensures.from.sourced in
    let g : Getting t u w ps x b c.args.page c.args.lo c.args.n = record {
      from = from;
      place = c.bring_all.ensures.place
          ∙ ap (λ (ys : List Inbound). get_all (placement_of (opened t ys (source_by b) c.args.page)) (Reads (source_by b) c.args.page) (pages_from c.args.page c.args.lo c.args.n)) c.requires.none;
      frames = c.bring_all.ensures.frames ∙ ap (λ (ys : List Inbound). frames_of (opened t ys (source_by b) c.args.page)) c.requires.none;
      known = c.bring_all.ensures.known;
      images = c.bring_all.ensures.images;
      sourced = subst (λ (s : Source). AreSourcedIn (images_of t) (image_at t) t.book.holdings t.book.size s ps) (sym shown) c.bring_all.ensures.from.sourced;
      rest = c.bring_all.ensures.rest;
      ring_rest = refl;
      ring = c.in-Ok.ensures.begun;
      shown = ap (λ (s : Source). record { errand = Reads s c.args.page; parts = map in_part ps }) shown;
      flying = refl;
    } in
    began_read t u w ps x b c.args.page c.args.lo c.args.n g
