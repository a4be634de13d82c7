-- What a child's space has of its parent's pages, and what is due of them.
use Rattle.std.specs.Prelude.{◌≡◌, ℕ, ◌+◌, List, [], ◌∷◌, ◌++◌, map, Some, slice_get}
use Rattle.vm_facts.specs.declared.page.Page.{Page}
use Rattle.vm_facts.specs.declared.page.Page.TheVariants.{Data, Stack}
use Rattle.vax_pte.specs.declared.Place.{Place}
use Rattle.vax_pte.specs.declared.Place.TheVariants as places
use Rattle.vax_pte.specs.Words.{IsInRange}
use Rattle.space_map.specs.Space.{Places}
use Rattle.kernel_tables.specs.declared.fill.DueFill.{DueFill}
use Rattle.kernel_tables.specs.declared.fill.DueFill.TheVariants as fills

-- the child's entry, by the parent's: the same where the page was never filled, and else zeros till it is copied
abbrev pub forked : Place → Place
forked places.Zero = places.Zero
forked (places.Image v) = places.Image v
forked places.Swap = places.Zero
forked (places.Frame f valid changed) = places.Zero

-- what is due of the child's page, by the parent's entry
abbrev pub copy_fill : Page → Page → Place → List DueFill
copy_fill child parent places.Zero = []
copy_fill child parent (places.Image v) = []
copy_fill child parent places.Swap = fills.Copy child parent ∷ []
copy_fill child parent (places.Frame f valid changed) = fills.Copy child parent ∷ []

-- of a segment's pages, from one on
abbrev pub copy_fills : (ℕ → Page) → (ℕ → Page) → ℕ → List Place → List DueFill
copy_fills child parent v [] = []
copy_fills child parent v (x ∷ xs) = copy_fill (child v) (parent v) x ++ copy_fills child parent (v + 1) xs

-- of a space's pages, data first
abbrev pub space_fills : ℕ → Places → List DueFill
space_fills child s = copy_fills (Data child) (Data s.sid) 0 s.data ++ copy_fills (Stack child) (Stack s.sid) 0 s.stack

-- a space with the data and stack of another, of which those pages that were filled have zeros
abbrev pub with_forked : Places → Places → Places
with_forked s parent = record s { «data» = map forked parent.data; stack = map forked parent.stack }

-- the entries of a segment that a child takes can be kept
abbrev pub AreInRange : List Place → Type 0
AreInRange xs = (v : ℕ) (x : Place) → slice_get xs v ≡ Some x → IsInRange (forked x)
