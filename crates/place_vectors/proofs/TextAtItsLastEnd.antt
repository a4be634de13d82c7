-- The end of the last process of a text, with a page of it in each state. No recorded run ends with text on swap: what is
-- left here is the rule in words. A page in a frame off the free list goes to the tail of the list, rising; one on the
-- list stays where it is; what is on swap alone is unfilled, since its blocks are given back; and no page is saved.
use Rattle.std.proofs.Common.{◌≡◌, ℕ, true, false, List, [], ◌∷◌, replicate, Some, None, refl}
use Rattle.vm_facts.specs.declared.page.Page.TheVariants.{Data, Text}
use Rattle.vm_facts.specs.declared.page.PageState.TheVariants.{Unfilled, Valid, Invalid, OnSwap}
use Rattle.flat_state.specs.declared.change.Change.TheVariants.{End}
use Rattle.page_model.specs.Pages.{Slot, Zeros, SpacePages}
use Rattle.page_model.specs.Placement.{Placement, Residence}
use Rattle.place_vectors.proofs.Walk.{Step, Ends, slot, empty, frames, walk}

-- a space of the image 1, with a stack page that isn't filled
space : ℕ → List Slot → SpacePages
space sid pages = record { sid = sid; image = 1; data_pages = pages; stack_pages = slot Unfilled false Zeros ∷ [] }

resident : ℕ → Residence
resident pid = record { pid = pid; out = false; since = 0 }

-- eight frames: a data page, a valid text page, an invalid one, and one on the free list
placed : List SpacePages → List Slot → List ℕ → List Residence → Placement
placed spaces pages free residents = record {
  spaces = spaces;
  texts = record { image = 1; text_pages = pages } ∷ [];
  holds = Some (Data 1 0) ∷ Some (Text 1 0) ∷ Some (Text 1 1) ∷ Some (Text 1 2) ∷ empty 4;
  free = free;
  transfers = [];
  front = 3;
  back = 1;
  residents = residents;
  due = [];
}

saved : List Slot
saved =
    slot (Valid 2) true Zeros ∷ slot (Invalid 3) true Zeros ∷ slot (Invalid 4) true Zeros ∷ slot OnSwap true Zeros ∷
    slot Unfilled false Zeros ∷ []

left : Placement
left = record {
  spaces = [];
  texts =
      record {
        image = 1;
        text_pages =
            slot (Invalid 2) false Zeros ∷ slot (Invalid 3) false Zeros ∷ slot (Invalid 4) false Zeros ∷
            replicate 2 (slot Unfilled false Zeros);
      } ∷ [];
  holds = None ∷ Some (Text 1 0) ∷ Some (Text 1 1) ∷ Some (Text 1 2) ∷ empty 4;
  free = 1 ∷ 5 ∷ 4 ∷ 6 ∷ 7 ∷ 8 ∷ 2 ∷ 3 ∷ [];
  transfers = [];
  front = 3;
  back = 1;
  residents = [];
  due = [];
}

text_at_its_last_end :
    walk [] (Step 1 1 false 2 9 [] (End 0) ∷ []) (placed (space 1 (slot (Valid 1) true Zeros ∷ []) ∷ []) saved (5 ∷ 4 ∷ frames 6 3) (resident 1 ∷ []))
    ≡ Ends left ∷ []
unfolding space resident placed saved left
text_at_its_last_end = refl

-- with another sharer the text stays as it is
text_that_is_shared :
    walk [] (Step 2 2 false 3 9 [] (End 0) ∷ []) (placed (space 1 (slot (Valid 1) true Zeros ∷ []) ∷ space 2 [] ∷ []) saved (5 ∷ 4 ∷ frames 6 3) (resident 1 ∷ resident 2 ∷ []))
    ≡ Ends (placed (space 1 (slot (Valid 1) true Zeros ∷ []) ∷ []) saved (5 ∷ 4 ∷ frames 6 3) (resident 1 ∷ [])) ∷ []
unfolding space resident placed saved
text_that_is_shared = refl
