-- A unit, and what follows it.
use Rattle.std.proofs.Common.{◌≡◌, ℕ, List, Option, Result, Ok, Err, IfErr, OnErr, subst}
use Rattle.vm_facts.specs.SwapImages.{SwapImage}
use Rattle.vm_facts.specs.declared.page.Page.{Page}
use Rattle.vm_facts.specs.declared.entry.Entry.{Entry}
use Rattle.io_edge.specs.FileHolding.{NamedFile}
use Rattle.paging_units.specs.Machine.{Standing}
use Rattle.kernel_model.specs.Kernel.{Kernel}
use Rattle.paging_units.specs.Done.{KeepsThrough}
use Rattle.paging_units.specs.Settled.{IsSameBeside}
use Rattle.paging_units.specs.Made.{Ground, ground, Made, MakesUnit}
use Rattle.paging_units.proofs.Units.{same_ground}
use Rattle.paging_units.proofs.Keeping.{unit_shaped, keeps_both}

-- the flat states for which a machine stands, through a unit and what follows
pub keeps_on : (g : Ground) (e : Entry) (old next new : Standing) (i : Option SwapImage) (holds later : Option (List NamedFile)) (h j : Option SwapImage)
    → MakesUnit g e old next i h → later ≡ holds
    → KeepsThrough old next holds i h → KeepsThrough next new later h j → KeepsThrough old new holds i j
keeps_on g e old next new i holds later h j m s a b =
    keeps_both old next new holds later i h j m.beside.images (unit_shaped g e old.kernel next.kernel i m.made) s a b

-- units after a part that leaves its images, over the ground before it
pub made_on : (us : List Entry) (old next : Standing) (holds later : Option (List NamedFile)) (locked : List Page) (k l : Kernel) (i j : Option SwapImage)
    → later ≡ holds → IsSameBeside old next
    → Made (ground next later locked) us k i l j → Made (ground old holds locked) us k i l j
made_on us old next holds later locked k l i j e b m = subst (λ (g : Ground). Made g us k i l j) (same_ground old next holds later locked e b) m

-- what is known of an error
pub err_on : {A E : Type 0} {P : E → Type 0} {Q : Type 0} (r : Result A E) → ((e : E) → P e → Q) → IfErr r P → OnErr r Q
err_on (Ok x) f h = h
err_on (Err e) f h = f e h
