-- One move of the two hands, by the rule in words: the front hand first makes its valid page invalid, the back hand then
-- takes its invalid page, and both go on; a locked page stays as it is and goes along with no write.
use Rattle.std.proofs.Common.{◌≡◌, ℕ, ◌+◌, true, false, List, [], ◌∷◌, ◌++◌, map, Some, refl}
use Rattle.vm_facts.specs.declared.page.Page.{Page}
use Rattle.vm_facts.specs.declared.page.Page.TheVariants.{Data}
use Rattle.vm_facts.specs.declared.page.PageState.TheVariants.{Valid, Invalid, Going}
use Rattle.vm_facts.specs.declared.entry.Entry.TheVariants as entries
use Rattle.swap_dmap.specs.Chunks.{chunk, chunk_start, lowest_below, chunk_reached, counted_from, spot, text_spot}
use Rattle.page_model.specs.Pages.{Slot, Zeros}
use Rattle.page_model.specs.Placement.{Placement, Transfer, Part, Writes}
use Rattle.place_vectors.proofs.Walk.{Seen, Ends, Fixed, slot, empty, frames, walk}

-- eight frames with five data pages in the first five, and the hands at two frames
held : List Slot → List ℕ → List Transfer → ℕ → ℕ → Placement
held pages free transfers front back = record {
  spaces = record { sid = 1; image = 1; data_pages = pages; stack_pages = [] } ∷ [];
  texts = [];
  holds = Some (Data 1 0) ∷ Some (Data 1 1) ∷ Some (Data 1 2) ∷ Some (Data 1 3) ∷ Some (Data 1 4) ∷ empty 3;
  free = free;
  transfers = transfers;
  front = front;
  back = back;
  residents = [];
  due = [];
}

-- pages 0 and 2 are invalid and dirty, page 1 is valid and dirty, page 3 is invalid and clean, and page 4, which is dirty,
-- is in a free frame
pages : List Slot
pages =
    slot (Invalid 1) true Zeros ∷ slot (Valid 2) true Zeros ∷ slot (Invalid 3) true Zeros ∷ slot (Invalid 4) false Zeros ∷
    slot (Invalid 5) true Zeros ∷ []

-- one move with some pages locked, from the hands at two frames on
move : List Page → ℕ → ℕ → List Seen
move locked front back = walk [] (Fixed locked 9 (entries.Hands 1) ∷ []) (held pages (frames 5 4) [] front back)

part : ℕ → Part
part v = record { page = Data 1 v; frame = v + 1 }

write_of : List ℕ → List Transfer
write_of numbers = record { errand = Writes; parts = map part numbers } ∷ []

-- the page that the front hand has just made invalid is written with the page of the back hand
front_hand_first :
    move [] 2 1
    ≡ Ends (held (slot (Going 1) true Zeros ∷ slot (Going 2) true Zeros ∷ slot (Going 3) true Zeros ∷ slot (Invalid 4) false Zeros ∷ slot (Invalid 5) true Zeros ∷ []) (frames 5 4)
    (write_of (0 ∷ 1 ∷ 2 ∷ [])) 3 2) ∷ []
unfolding held pages move part write_of spot chunk_reached lowest_below chunk_start chunk counted_from text_spot
front_hand_first = refl

-- a locked page of the front hand stays valid, and ends the run
front_locked :
    move (Data 1 1 ∷ []) 2 1
    ≡ Ends (held (slot (Going 1) true Zeros ∷ slot (Valid 2) true Zeros ∷ slot (Invalid 3) true Zeros ∷ slot (Invalid 4) false Zeros ∷ slot (Invalid 5) true Zeros ∷ []) (frames 5 4)
    (write_of (0 ∷ [])) 3 2) ∷ []
unfolding held pages move part write_of spot chunk_reached lowest_below chunk_start chunk counted_from text_spot
front_locked = refl

-- a locked page of the back hand isn't written
back_locked :
    move (Data 1 0 ∷ []) 2 1
    ≡ Ends (held (slot (Invalid 1) true Zeros ∷ slot (Invalid 2) true Zeros ∷ slot (Invalid 3) true Zeros ∷ slot (Invalid 4) false Zeros ∷ slot (Invalid 5) true Zeros ∷ []) (frames 5 4) [] 3 2) ∷ []
unfolding held pages move part write_of spot chunk_reached lowest_below chunk_start chunk counted_from text_spot
back_locked = refl

-- a locked neighbour isn't written either
neighbour_locked :
    move (Data 1 2 ∷ []) 2 1
    ≡ Ends (held (slot (Going 1) true Zeros ∷ slot (Going 2) true Zeros ∷ slot (Invalid 3) true Zeros ∷ slot (Invalid 4) false Zeros ∷ slot (Invalid 5) true Zeros ∷ []) (frames 5 4)
    (write_of (0 ∷ 1 ∷ [])) 3 2) ∷ []
unfolding held pages move part write_of spot chunk_reached lowest_below chunk_start chunk counted_from text_spot
neighbour_locked = refl

-- a clean page's frame goes to the tail of the free list, and after the last frame comes the first
clean_page_to_the_tail : move [] 8 4 ≡ Ends (held pages (frames 5 4 ++ 4 ∷ []) [] 1 5) ∷ []
unfolding held pages move part write_of spot chunk_reached lowest_below chunk_start chunk counted_from text_spot
clean_page_to_the_tail = refl

-- a page in a free frame stays where it is
free_page_stays : move [] 8 5 ≡ Ends (held pages (frames 5 4) [] 1 6) ∷ []
unfolding held pages move part write_of spot chunk_reached lowest_below chunk_start chunk counted_from text_spot
free_page_stays = refl
