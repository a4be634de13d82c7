-- The moves of transfers one page at a time, with the transfers as they are from one page to the next: so the code makes
-- them. The whole of these steps is what `Moves` says.
use Rattle.std.specs.Prelude.{ℕ, Bool, List, [], ◌∷◌, ◌++◌}
use Rattle.vm_facts.specs.declared.page.Page.{Page}
use Rattle.vm_facts.specs.declared.page.PageState.{PageState}
use Rattle.vm_facts.specs.declared.page.PageState.TheVariants.{Valid, Invalid, Coming, Going}
use Rattle.page_model.specs.Placement.{Placement, Transfer, Part, Errand, Writes, Source, state_of, mark_of}
use Rattle.page_model.specs.Moves.{evict, enter, turn, land, land_read}

-- Reads.

-- a transfer that has no page yet
abbrev pub begin : Placement → Errand → Placement
begin p e = record p { transfers = p.transfers ++ record { errand = e; parts = [] } ∷ [] }

-- one more page for the youngest transfer
abbrev pub join_last : List Transfer → Errand → Part → List Transfer
join_last [] e x = record { errand = e; parts = x ∷ [] } ∷ []
join_last (t ∷ []) e x = record t { parts = t.parts ++ x ∷ [] } ∷ []
join_last (t ∷ u ∷ us) e x = t ∷ join_last (u ∷ us) e x

-- a page is read into the first of these free frames, by the youngest transfer; with none free nothing changes
abbrev pub get_at : Placement → Errand → Page → List ℕ → Placement
get_at p e q [] = p
get_at p e q (f ∷ rest) =
    enter (evict p f) q f (Coming f) (mark_of p q) (join_last p.transfers e (record { page = q; frame = f }))

-- a page takes the first free frame and is read into it
abbrev pub get_one : Placement → Errand → Page → Placement
get_one p e q = get_at p e q p.free

-- these pages in turn join the youngest transfer, each read into a free frame
abbrev pub get_all : Placement → Errand → List Page → Placement
get_all p e [] = p
get_all p e (q ∷ qs) = get_all (get_one p e q) e qs

-- Writes.

-- by the page's state: valid or invalid it joins the youngest transfer, written from its frame; else nothing changes
abbrev pub launch_to : Placement → Page → PageState → Placement
launch_to p q (Valid f) = turn p q (Going f) (mark_of p q) p.free (join_last p.transfers Writes (record { page = q; frame = f }))
launch_to p q (Invalid f) = turn p q (Going f) (mark_of p q) p.free (join_last p.transfers Writes (record { page = q; frame = f }))
launch_to p q _ = p

-- a page is written from its frame
abbrev pub launch : Placement → Page → Placement
launch p q = launch_to p q (state_of p q)

-- these pages in turn join the youngest transfer, each written from its frame
abbrev pub launch_all : Placement → List Page → Placement
launch_all p [] = p
launch_all p (q ∷ qs) = launch_all (launch p q) qs

-- Landing.

-- a page that was read lands, and these transfers are in flight after it
abbrev pub land_read_then : Placement → Source → Part → List Transfer → Bool → Placement
land_read_then p source x rest is_demanded = record (land_read p source x is_demanded) { transfers = rest }

-- a page lands, and these transfers are in flight after it
abbrev pub land_then : Placement → Errand → Part → List Transfer → Placement
land_then p e x rest = record (land p e x) { transfers = rest }

-- these pages of a transfer land in turn, each out of the transfer, and after them only these younger transfers are in flight
abbrev pub land_all_then : Placement → Errand → List Part → List Transfer → Placement
land_all_then p e [] ts = record p { transfers = ts }
land_all_then p e (x ∷ xs) ts = land_all_then (land_then p e x (record { errand = e; parts = xs } ∷ ts)) e xs ts
