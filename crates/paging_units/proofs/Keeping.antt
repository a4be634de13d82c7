-- What a machine stands for, through units of paging.
use Rattle.std.proofs.Common.{◌≡◌, ℕ, ◌*◌, List, [], ◌∷◌, length, Option, Some, None, sym, ap, ◌∙◌, subst}
use Rattle.vm_facts.specs.SwapImages.{SwapImage}
use Rattle.vm_facts.specs.declared.page.Page.TheVariants.{Text}
use Rattle.vm_facts.specs.declared.entry.Entry.{Entry}
use Rattle.io_edge.specs.FileHolding.{NamedFile}
use Rattle.flat_state.specs.Flat.{FlatState, NamedImage}
use Rattle.page_model.specs.Placement.{Placement}
use Rattle.kernel_model.specs.Kernel.{Kernel}
use Rattle.kernel_model.specs.Sound.{TextFits}
use Rattle.machine_state.proofs.Shapes.{Shaped, shaped_self, shaped_both, sizes_kept, filled_shaped, get_run_shaped, reclaim_shaped, put_step_shaped, moves_shaped, done_shaped}
use Rattle.vm_facts.specs.declared.entry.Entry.TheVariants as entries
use Rattle.flat_state.specs.PageNames.{number_of, pages_from}
use Rattle.page_model.specs.Reading.{read_errand}
use Rattle.page_model.specs.Place.{place_entry}
use Rattle.flat_state.specs.Journal.{append}
use Rattle.machine_state.specs.Sourced.{ImageNamed}
use Rattle.machine_state.specs.Machine.{Standing}
use Rattle.machine_state.specs.Files.{AreImages}
use Rattle.machine_state.specs.Conditions.{KeepsFlat}
use Rattle.machine_state.specs.Done.{StandsTold, KeepsThrough}
use Rattle.paging_units.specs.Made.{Ground, MadeBy, Made}
use Rattle.paging_units.proofs.Units.{unit_place}

-- Sizes and images of spaces stay.

place_shaped : (g : Ground) (e : Entry) (k l : Kernel) (at : ℕ) (i : Option SwapImage) → MadeBy g e k i l → Shaped k.place (place_entry g.locked at k.place e)
place_shaped g (entries.Zero q) k l at i h = filled_shaped k.place q
place_shaped g (entries.Copy q) k l at i h = filled_shaped k.place q
place_shaped g (entries.Get q lo n) k l at i h = get_run_shaped k.place (read_errand k.place q) (pages_from q lo n)
place_shaped g (entries.Reclaim q) k l at i h = reclaim_shaped k.place q
place_shaped g (entries.Hands n) k l at i h = moves_shaped n k.place g.locked
place_shaped g (entries.Put q n) k l at i h = put_step_shaped k.place q (pages_from q (number_of q) n)
place_shaped g entries.Done k l at i h = done_shaped k.place
place_shaped g _ k l at i h = absurd h

pub unit_shaped : (g : Ground) (e : Entry) (k l : Kernel) (i : Option SwapImage) → MadeBy g e k i l → Shaped k.place l.place
unit_shaped g e k l i h =
    subst (λ (p : Placement). Shaped k.place p) (sym (unit_place g e k l i h)) (place_shaped g e k l (length (append k.journal e)) i h)

pub made_shaped : (g : Ground) (us : List Entry) (k l : Kernel) (i j : Option SwapImage) → Made g us k i l j → Shaped k.place l.place
made_shaped g [] k l i j a = subst (λ (x : Kernel). Shaped k.place x.place) a.0 (shaped_self k.place)
made_shaped g (e ∷ us) k l i j a = shaped_both k.place a.next.place l.place (unit_shaped g e k a.next i a.made) (made_shaped g us a.next l a.image j a.rest)

pub fits_shaped : (p q : Placement) → Shaped p q → (images : List NamedImage) → TextFits images p → TextFits images q
fits_shaped p q s images f = λ i. f i ∙ ap (λ (n : ℕ). 1024 * n) (sym (sizes_kept p q s (Text i 0)))

-- The flat states for which a machine stands.

stands_flat : (k l : Kernel) (images : List NamedImage) (i : Option SwapImage) (flat : FlatState) → KeepsFlat k l → StandsTold k images i flat
    → StandsTold l images i flat
stands_flat k l images None flat f h = absurd h
stands_flat k l images (Some image) flat f h = f images image.bytes flat h

-- a step that calls no device
pub keeps_flat : (old new : Standing) (holds : Option (List NamedFile)) (i : Option SwapImage) → KeepsFlat old.kernel new.kernel
    → KeepsThrough old new holds i i
keeps_flat old new holds i f = λ images flat l t h. stands_flat old.kernel new.kernel images i flat f h

-- one part after another
pub keeps_both : (old next new : Standing) (holds later : Option (List NamedFile)) (a b c : Option SwapImage) → next.images ≡ old.images
    → Shaped old.kernel.place next.kernel.place → later ≡ holds
    → KeepsThrough old next holds a b → KeepsThrough next new later b c → KeepsThrough old new holds a c
keeps_both old next new holds later a b c g p e f s images flat l t h =
    s images flat (subst (λ (ns : List ImageNamed). AreImages ns later images) (sym g) (subst (λ (x : Option (List NamedFile)). AreImages old.images x images) (sym e) l))
    (fits_shaped old.kernel.place next.kernel.place p images t) (f images flat l t h)
