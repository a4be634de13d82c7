use Rattle.std.proofs.Common.{◌≡◌, ℕ, suc, ◌+◌, ◌-◌, Bool, List, ◌∷◌, ◌++◌, [], map, sym, ap, ◌∙◌, subst, arith, append_assoc, rules}
use Rattle.vm_facts.specs.declared.page.Page.{Page}
use Rattle.core_map.specs.Frames.{IsSoundMap}
use Rattle.core_map.specs.Slots.{slot_at, slot_page as token_page}
use Rattle.swap_book.specs.Book.{Book, IsBook}
use Rattle.transfer_ring.specs.declared.transfer.Inbound.{Inbound}
use Rattle.transfer_ring.specs.Sound.{inbound_pages}
use Rattle.page_model.specs.Conditions.{EachPage}
use Rattle.page_model.specs.Steps.{get_all}
use Rattle.flat_state.specs.PageNames.{pages_from, beside}
use Rattle.page_model.specs.Placement.{Placement, Source, Reads}
use Rattle.page_laws.proofs.Lists.Runs.{each_page_imp}
use Rattle.kernel_tables.specs.declared.tables.Tables.{Tables}
use Rattle.kernel_tables.specs.View.{placement_of, frames_of}
use Rattle.kernel_tables.specs.Known.{MayBring}
use Rattle.kernel_tables.specs.Machine.{images_of, image_at, image_shown}
use Rattle.kernel_tables.specs.Sourced.{IsSourced}
use Rattle.kernel_tables.specs.Moves.{BroughtPage, HasSource, AreFrom, opened}
use Rattle.kernel_tables.specs.Steps.{evicted, source_by}
use Rattle.kernel_tables.proofs.Entries.{head_of, placed_heads}
use Rattle.kernel_tables.proofs.Kept.{evicted_heads}
use Rattle.kernel_tables.proofs.Stills.{images_heads}
use Rattle.kernel_tables.proofs.Knows.{texts_here}
use Rattle.table_steps.proofs.Sources.{SameSources, back_sources, from_snoc, from_still, has_still}
use Rattle.table_steps.proofs.Opens.{Brings, brings, pages_snoc}
use Rattle.table_steps.proofs.reading.+bring_all.Goals as goal

pub bring-part-requires-clause-texts : goal.bring-part-requires-clause-texts
bring-part-requires-clause-texts t c = texts_here (opened c.args.tables.now c.args.parts.now.items (source_by c.args.from_file) c.args.page) c.requires.may.known

-- one page more
step : (t u : Tables) (xs : List Inbound) (b : Bool) (q v : Page) (x : Inbound) (lo n m : ℕ) → n ≡ suc m → v ≡ beside q lo → BroughtPage t u v b x
    → IsSoundMap u.core.free u.core.slots
    → MayBring (opened t xs (source_by b) q) q lo n → Brings t u xs (source_by b) q x lo m
step t u xs b q v x lo n m e is d core may =
    brings t u xs (source_by b) q b x lo m (d.page ∙ is) (subst (λ (w : Page). BroughtPage t u w b x) (sym d.page) d) core (subst (λ (k : ℕ). MayBring (opened t xs (source_by b) q) q lo k) e may)

-- where the pages to come are read from stays
same : (t u : Tables) (v : Page) (b : Bool) (x : Inbound) → BroughtPage t u v b x → SameSources t u
same t u v b x d = record {
  images = ap (λ (y : Tables). map image_shown y.images.items) d.rest;
  spaces = images_heads t u (ap (map head_of) d.spaces ∙ placed_heads (evicted t.texts (token_page (slot_at t.core.slots x.token.number)) t.spaces) _ _
      ∙ evicted_heads t.texts (token_page (slot_at t.core.slots x.token.number)) t.spaces);
  book = ap (λ (y : Tables). y.book) d.rest;
}

pub bring_all-requires : goal.bring_all-requires
bring_all-requires t c =
    let m : ℕ = c.args.n - 1 in
    let e : c.args.n ≡ suc m = omega arith in
    let from : Source = source_by c.args.from_file in
    let b : Brings c.args.tables.now c.bring-part.new.tables c.args.parts.now.items from c.args.page c.bring-part.result c.args.lo m =
    step c.args.tables.now c.bring-part.new.tables c.args.parts.now.items c.args.from_file c.args.page c.beside.result c.bring-part.result c.args.lo c.args.n m e c.beside.ensures c.bring-part.ensures
    c.stands.ensures c.requires.may in
    let s : SameSources c.args.tables.now c.bring-part.new.tables = same c.args.tables.now c.bring-part.new.tables c.beside.result c.args.from_file c.bring-part.result c.bring-part.ensures in
    let all = subst (λ (k : ℕ). EachPage (HasSource c.args.tables.now c.args.from_file) (pages_from c.args.page c.args.lo k)) e c.requires.has in (
      omega (arith, c.decreases),
      (
        subst (λ (ys : List Inbound). MayBring (opened c.bring-part.new.tables ys from c.args.page) c.args.page (c.args.lo + 1) m) (sym c.push_reserved.ensures.items) b.may,
        (
          each_page_imp (HasSource c.args.tables.now c.args.from_file) (HasSource c.bring-part.new.tables c.args.from_file) (pages_from c.args.page (c.args.lo + 1) m) all.1
              (λ w h. has_still c.args.tables.now c.bring-part.new.tables c.args.from_file w s h),
          (
            subst (λ (k : Book). IsBook k.size k.holdings) (sym s.book) c.requires.book,
            (
              subst (AreFrom c.bring-part.new.tables c.args.from_file) (sym c.push_reserved.ensures.items)
                  (from_still c.args.tables.now c.bring-part.new.tables c.args.from_file (c.args.parts.now.items ++ c.bring-part.result ∷ []) s
                  (from_snoc c.args.tables.now c.args.from_file c.args.parts.now.items c.bring-part.result c.requires.from c.bring-part.ensures.kind c.bring-part.ensures.range
                  (subst (λ (w : Page). IsSourced (images_of c.args.tables.now) (image_at c.args.tables.now) c.args.tables.now.book.holdings c.args.tables.now.book.size w c.bring-part.result.source)
                  (sym c.bring-part.ensures.page) c.bring-part.ensures.own))),
              (omega (arith, c.push_reserved.ensures.len, c.push_reserved.ensures.capacity, c.requires.room), omega (arith, c.requires.fits)),
            ),
          ),
        ),
      ),
    )

pub returns : goal.returns
returns t c =
    let m : ℕ = c.args.n - 1 in
    let e : c.args.n ≡ suc m = omega arith in
    let from : Source = source_by c.args.from_file in
    let b : Brings c.args.tables.now c.bring-part.new.tables c.args.parts.now.items from c.args.page c.bring-part.result c.args.lo m =
    step c.args.tables.now c.bring-part.new.tables c.args.parts.now.items c.args.from_file c.args.page c.beside.result c.bring-part.result c.args.lo c.args.n m e c.beside.ensures c.bring-part.ensures
    c.stands.ensures c.requires.may in
    record {
      place =
          c.bring_all.ensures.place
          ∙ ap (λ (ys : List Inbound). get_all (placement_of (opened c.bring-part.new.tables ys from c.args.page)) (Reads from c.args.page) (pages_from c.args.page (c.args.lo + 1) m))
          c.push_reserved.ensures.items
          ∙ ap (λ (p : Placement). get_all p (Reads from c.args.page) (pages_from c.args.page (c.args.lo + 1) m)) b.place
          ∙ ap (λ (k : ℕ). get_all (placement_of (opened c.args.tables.now c.args.parts.now.items from c.args.page)) (Reads from c.args.page) (pages_from c.args.page c.args.lo k)) (sym e);
      frames = c.bring_all.ensures.frames ∙ ap (λ (ys : List Inbound). frames_of (opened c.bring-part.new.tables ys from c.args.page)) c.push_reserved.ensures.items ∙ b.frames;
      known = search rules;
      pages =
          let rest : List Page = pages_from c.args.page (c.args.lo + 1) m in
          c.bring_all.ensures.pages
          ∙ ap (λ (ys : List Inbound). inbound_pages ys ++ rest) c.push_reserved.ensures.items
          ∙ ap (λ (qs : List Page). qs ++ rest) (pages_snoc c.args.parts.now.items c.bring-part.result)
          ∙ append_assoc (inbound_pages c.args.parts.now.items) (c.bring-part.result.page ∷ []) rest
          ∙ ap (λ (q : Page). inbound_pages c.args.parts.now.items ++ q ∷ rest) (c.bring-part.ensures.page ∙ c.beside.ensures)
          ∙ ap (λ (k : ℕ). inbound_pages c.args.parts.now.items ++ pages_from c.args.page c.args.lo k) (sym e);
      from =
          from_still c.bring-part.new.tables c.args.tables.now c.args.from_file c.bring_all.new.parts.items
          (back_sources c.args.tables.now c.bring-part.new.tables (same c.args.tables.now c.bring-part.new.tables c.beside.result c.args.from_file c.bring-part.result c.bring-part.ensures))
          c.bring_all.ensures.from;
      images = λ sid.
          let s : SameSources c.args.tables.now c.bring-part.new.tables = same c.args.tables.now c.bring-part.new.tables c.beside.result c.args.from_file c.bring-part.result c.bring-part.ensures in
          c.bring_all.ensures.images sid ∙ s.spaces sid;
      rest = search rules;
    }
