-- What a page that was reclaimed leaves of the tables' tie.
use Rattle.std.proofs.Common.{ℕ, Bool, true, false, refl, sym, ◌∙◌, subst}
use Rattle.std.proofs.lemmas.List.{length-set, get_or-set_other}
use Rattle.vm_facts.specs.declared.page.Page.{Page}
use Rattle.vax_pte.specs.declared.Place.TheVariants as places
use Rattle.core_map.specs.declared.slot.Slot.{Slot as Token}
use Rattle.core_map.specs.declared.slot.Slot.TheVariants as tokens
use Rattle.core_map.specs.Slots.{slot_at}
use Rattle.table_steps.specs.Tables.{Tables}
use Rattle.table_steps.specs.KernelTablesShown.{entry_in}
use Rattle.table_steps.specs.Steps.{revived, reclaimed, dirty_shown}
use Rattle.table_steps.specs.Machine.{lists_of}
use Rattle.table_steps.proofs.KernelTablesEntries.{placed_heads}
use Rattle.table_steps.proofs.Likes.{placed_alike, placed_filled, frame_fits}
use Rattle.table_steps.proofs.Kept.{Ties, still_there}
use Rattle.table_steps.proofs.Marks.{entry_is, marks_placed, marks_here, marks_revived, set_resident}
use Rattle.table_steps.proofs.Knows.{texts_here}
use Rattle.table_steps.proofs.Reclaims.{Reclaiming, reclaiming_lists, revived_mark}

pub reclaim_ties : (t u : Tables) (q : Page) (f : ℕ) → Reclaiming t u q f → Ties (lists_of t) (lists_of u)
reclaim_ties t u q f g =
    let d : Bool = dirty_shown t.spaces t.texts q in
    let s : Token = revived (slot_at t.core.slots f) q d in
    subst (Ties (lists_of t)) (sym (reclaiming_lists t u q f g)) (record {
      slots = length-set t.core.slots f s;
      facts = refl;
      heads = placed_heads t.spaces q (places.Frame f true d);
      entries = λ w h. still_there t.spaces q w (places.Frame f true d) h;
      alike = λ h. placed_alike t.spaces q (places.Frame f true d) h;
      filled = λ h. placed_filled (lists_of t).facts t.spaces q (places.Frame f true d) (frame_fits q f true d) h;
      counts = λ i. refl;
      marked = λ k. marks_placed (lists_of t) (reclaimed (lists_of t) q f s d) q f (places.Frame f true d)
          (texts_here (lists_of t) g.known) (λ h n. get_or-set_other t.core.slots f h s tokens.Away n) refl (λ i v d l. refl) (λ h x. g.known.core.unique h f q x g.entry.held)
          (λ a r mark h. let y = marks_revived (lists_of t) f q (slot_at t.core.slots f) k refl g.entry.held a r mark (set_resident t.core.slots f s a r mark h) in
          marks_here t.spaces t.texts (places.Frame f true d) q r mark
          (entry_is (entry_in t.spaces q) (places.Frame f false g.entry.changed) g.entry.entry) y.0
          (y.1 ∙ revived_mark t.spaces t.texts f q)) k;
      whole = λ x. x;
      once = λ x. x;
    })
