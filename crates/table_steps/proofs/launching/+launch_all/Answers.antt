use Rattle.std.proofs.Common.{◌≡◌, ℕ, suc, ◌+◌, ◌-◌, IsTrue, List, [], ◌∷◌, ◌++◌, IsSome, Option, refl, sym, ap, ◌∙◌, subst, arith, append_assoc, rules}
use Rattle.vm_facts.specs.declared.page.Page.{Page}
use Rattle.vax_pte.specs.declared.Place.{Place}
use Rattle.core_map.specs.declared.slot.Slot.{Slot as Token}
use Rattle.core_map.specs.Slots.{is_resident}
use Rattle.swap_book.specs.Holdings.{Holdings}
use Rattle.transfer_ring.specs.declared.transfer.Outbound.{Outbound}
use Rattle.transfer_ring.specs.Sound.{outbound_pages}
use Rattle.page_model.specs.Conditions.{EachPage}
use Rattle.page_model.specs.Steps.{launch_all}
use Rattle.page_model.specs.Ownership.{block_of}
use Rattle.flat_state.specs.PageNames.{pages_from}
use Rattle.page_model.specs.Placement.{Placement}
use Rattle.kernel_tables.specs.declared.tables.Tables.{Tables}
use Rattle.kernel_tables.specs.Shown.{is_frame}
use Rattle.kernel_tables.specs.View.{placement_of, frames_of}
use Rattle.kernel_tables.specs.Launches.{launching, MayLaunch, HaveOwnBlocks}
use Rattle.table_steps.proofs.Launchings.{Launched, first_resides, launched_first, out_pages_snoc, blocks_snoc}
use Rattle.table_steps.proofs.launching.+launch_all.Goals as goal

pub launch-part-requires-clause-frame : goal.launch-part-requires-clause-frame
launch-part-requires-clause-frame t c =
    let r = first_resides c.args.tables.now c.args.parts.now.items c.args.page c.beside.result c.args.lo c.args.n (c.args.n - 1) (omega arith) c.beside.ensures c.requires.may in
    subst (λ (o : Option Place). IsTrue (is_frame o)) (sym r.entry) refl

pub launch-part-requires-clause-resident : goal.launch-part-requires-clause-resident
launch-part-requires-clause-resident t c =
    let r = first_resides c.args.tables.now c.args.parts.now.items c.args.page c.beside.result c.args.lo c.args.n (c.args.n - 1) (omega arith) c.beside.ensures c.requires.may in
    subst (λ (s : Token). IsTrue (is_resident s)) (sym r.slot) refl

pub launch-part-requires-clause-above : goal.launch-part-requires-clause-above
launch-part-requires-clause-above t c =
    let r = first_resides c.args.tables.now c.args.parts.now.items c.args.page c.beside.result c.args.lo c.args.n (c.args.n - 1) (omega arith) c.beside.ensures c.requires.may in
    let a = r.above in
    omega arith

pub launch-part-requires-clause-small : goal.launch-part-requires-clause-small
launch-part-requires-clause-small t c =
    let r = first_resides c.args.tables.now c.args.parts.now.items c.args.page c.beside.result c.args.lo c.args.n (c.args.n - 1) (omega arith) c.beside.ensures c.requires.may in
    let a = r.below in
    let b = c.requires.may.known.tied.few_frames in
    omega (arith, a, b)

pub launch_all-requires : goal.launch_all-requires
launch_all-requires t c =
    let m : ℕ = c.args.n - 1 in
    let e : c.args.n ≡ suc m = omega arith in
    let b : Launched c.args.tables.now c.launch-part.new.tables c.args.parts.now.items c.args.page c.launch-part.result c.args.lo m =
    launched_first c.args.tables.now c.launch-part.new.tables c.args.parts.now.items c.args.page c.beside.result c.launch-part.result c.args.lo c.args.n m e c.beside.ensures c.requires.may
    c.launch-part.ensures c.stands.ensures in (
      omega (arith, c.decreases),
      (
        subst (λ (ys : List Outbound). MayLaunch (launching c.launch-part.new.tables ys) c.args.page (c.args.lo + 1) m) (sym c.push_reserved.ensures.items) b.may,
        (
          subst (λ (z : Tables). EachPage (λ q. IsSome (block_of z.book.holdings q)) (pages_from c.args.page (c.args.lo + 1) m)) (sym c.launch-part.ensures.rest)
              (let all = subst (λ (k : ℕ). EachPage (λ q. IsSome (block_of c.args.tables.now.book.holdings q)) (pages_from c.args.page c.args.lo k)) e c.requires.blocks in all.1),
          (omega (arith, c.push_reserved.ensures.len, c.push_reserved.ensures.capacity, c.requires.room), omega (arith, c.requires.fits)),
        ),
      ),
    )

pub returns : goal.returns
returns t c =
    let m : ℕ = c.args.n - 1 in
    let e : c.args.n ≡ suc m = omega arith in
    let b : Launched c.args.tables.now c.launch-part.new.tables c.args.parts.now.items c.args.page c.launch-part.result c.args.lo m =
    launched_first c.args.tables.now c.launch-part.new.tables c.args.parts.now.items c.args.page c.beside.result c.launch-part.result c.args.lo c.args.n m e c.beside.ensures c.requires.may
    c.launch-part.ensures c.stands.ensures in
    record {
      place =
          c.launch_all.ensures.place
          ∙ ap (λ (ys : List Outbound). launch_all (placement_of (launching c.launch-part.new.tables ys)) (pages_from c.args.page (c.args.lo + 1) m)) c.push_reserved.ensures.items
          ∙ ap (λ (p : Placement). launch_all p (pages_from c.args.page (c.args.lo + 1) m)) b.place
          ∙ ap (λ (k : ℕ). launch_all (placement_of (launching c.args.tables.now c.args.parts.now.items)) (pages_from c.args.page c.args.lo k)) (sym e);
      frames = c.launch_all.ensures.frames ∙ ap (λ (ys : List Outbound). frames_of (launching c.launch-part.new.tables ys)) c.push_reserved.ensures.items ∙ b.frames;
      known = search rules;
      pages =
          let rest : List Page = pages_from c.args.page (c.args.lo + 1) m in
          c.launch_all.ensures.pages
          ∙ ap (λ (ys : List Outbound). outbound_pages ys ++ rest) c.push_reserved.ensures.items
          ∙ ap (λ (qs : List Page). qs ++ rest) (out_pages_snoc c.args.parts.now.items c.launch-part.result)
          ∙ append_assoc (outbound_pages c.args.parts.now.items) (c.launch-part.result.page ∷ []) rest
          ∙ ap (λ (q : Page). outbound_pages c.args.parts.now.items ++ q ∷ rest) (c.launch-part.ensures.page ∙ c.beside.ensures)
          ∙ ap (λ (k : ℕ). outbound_pages c.args.parts.now.items ++ pages_from c.args.page c.args.lo k) (sym e);
      blocks = λ h.
          let hs : Holdings = c.args.tables.now.book.holdings in
          let same : c.launch-part.new.tables.book.holdings ≡ hs = ap (λ (x : Tables). x.book.holdings) c.launch-part.ensures.rest in
          subst (λ (z : Holdings). HaveOwnBlocks z c.launch_all.new.parts.items) same (c.launch_all.ensures.blocks (subst (λ (z : Holdings). HaveOwnBlocks z c.push_reserved.new.self.items) (sym same)
          (subst (HaveOwnBlocks hs) (sym c.push_reserved.ensures.items) (blocks_snoc hs c.args.parts.now.items c.launch-part.result h
          (ap (block_of hs) c.launch-part.ensures.page ∙ c.launch-part.ensures.block)))));
      images = λ sid. c.launch_all.ensures.images sid ∙ b.images sid;
      rest = search rules;
    }
