-- The limits, by the rule in words: the pages of one read, of one chunk, and as many as frames are spared; sixteen
-- transfers in flight; and a quarter of the frames, from which on the hands rest.
use Rattle.std.proofs.Common.{◌≡◌, ℕ, true, false, List, [], ◌∷◌, ◌++◌, map, replicate, Option, Some, None, refl}
use Rattle.vm_facts.specs.declared.page.Page.{Page}
use Rattle.vm_facts.specs.declared.page.Page.TheVariants.{Data, Stack, Text}
use Rattle.vm_facts.specs.declared.page.PageState.TheVariants.{Unfilled, Valid, OnSwap}
use Rattle.vm_facts.specs.declared.entry.Entry.{Entry}
use Rattle.vm_facts.specs.declared.entry.Entry.TheVariants as entries
use Rattle.swap_dmap.specs.Chunks.{chunk, chunk_start, lowest_below, chunk_reached, counted_from, spot, text_spot}
use Rattle.page_model.specs.Pages.{Zeros, OfImage}
use Rattle.page_model.specs.Placement.{Placement, Writes}
use Rattle.page_model.specs.Hands.{wants_moves}
use Rattle.page_model.specs.Serve.{serve_unit}
use Rattle.page_model.specs.Swapper.{put_out_unit}
use Rattle.place_vectors.proofs.Walk.{slot, empty, frames, space}

-- A space of 17 data pages and 17 stack pages on swap, and five text pages on swap that are saved: chunk 0 has 16 of the
-- pages of a segment. The image's second text is unfilled but for its page 2, and space 2 has a data page of the file
-- and one of zeros. All that in 64 frames, of which so many are free, with so many transfers in flight.
waiting : ℕ → ℕ → Placement
waiting free flying = record {
  spaces =
      space 1 1 (replicate 17 (slot OnSwap false Zeros)) (replicate 17 (slot OnSwap false Zeros)) ∷
      space 2 2 (slot Unfilled false OfImage ∷ slot Unfilled false OfImage ∷ slot Unfilled false Zeros ∷ [])
      (slot (Valid 64) true Zeros ∷ []) ∷
      space 3 2 (slot (Valid 63) false Zeros ∷ []) [] ∷ [];
  texts =
      record { image = 1; text_pages = replicate 5 (slot OnSwap true Zeros) } ∷
      record {
        image = 2;
        text_pages =
            slot Unfilled false Zeros ∷ slot Unfilled false Zeros ∷ slot OnSwap true Zeros ∷ slot Unfilled false Zeros ∷ [];
      } ∷ [];
  holds = empty 62 ++ Some (Data 3 0) ∷ Some (Stack 2 0) ∷ [];
  free = frames 1 free;
  transfers = replicate flying (record { errand = Writes; parts = [] });
  front = 17;
  back = 1;
  residents = [];
  due = [];
}

-- the units that serving these pages asks for
units : ℕ → ℕ → List Page → List (Option Entry)
units free flying pages = map (λ q. serve_unit (waiting free flying) q true) pages

-- four pages of data, those above first, within the chunk
data_by_fours :
    units 60 0 (Data 1 0 ∷ Data 1 5 ∷ Data 1 14 ∷ Data 1 15 ∷ Data 1 16 ∷ [])
    ≡ Some (entries.Get (Data 1 0) 0 4) ∷ Some (entries.Get (Data 1 5) 5 4) ∷ Some (entries.Get (Data 1 14) 12 4) ∷
    Some (entries.Get (Data 1 15) 12 4) ∷ Some (entries.Get (Data 1 16) 16 1) ∷ []
unfolding waiting units spot chunk_reached lowest_below chunk_start chunk counted_from text_spot
data_by_fours = refl

stack_by_fours :
    units 60 0 (Stack 1 0 ∷ Stack 1 14 ∷ Stack 1 16 ∷ [])
    ≡ Some (entries.Get (Stack 1 0) 0 4) ∷ Some (entries.Get (Stack 1 14) 12 4) ∷ Some (entries.Get (Stack 1 16) 16 1) ∷ []
unfolding waiting units spot chunk_reached lowest_below chunk_start chunk counted_from text_spot
stack_by_fours = refl

-- two pages of text, upwards, and of one source
text_by_twos :
    units 60 0 (Text 1 0 ∷ Text 1 3 ∷ Text 1 4 ∷ Text 2 0 ∷ Text 2 1 ∷ Text 2 2 ∷ Text 2 3 ∷ [])
    ≡ Some (entries.Get (Text 1 0) 0 2) ∷ Some (entries.Get (Text 1 3) 3 2) ∷ Some (entries.Get (Text 1 4) 4 1) ∷
    Some (entries.Get (Text 2 0) 0 2) ∷ Some (entries.Get (Text 2 1) 1 1) ∷ Some (entries.Get (Text 2 2) 2 1) ∷
    Some (entries.Get (Text 2 3) 3 1) ∷ []
unfolding waiting units spot chunk_reached lowest_below chunk_start chunk counted_from text_spot
text_by_twos = refl

-- a data page of the file is read alone, and one of zeros isn't read
data_of_the_file :
    units 60 0 (Data 2 0 ∷ Data 2 2 ∷ []) ≡ Some (entries.Get (Data 2 0) 0 1) ∷ Some (entries.Zero (Data 2 2)) ∷ []
unfolding waiting units spot chunk_reached lowest_below chunk_start chunk counted_from text_spot
data_of_the_file = refl

-- an eighth of the frames is spared, and the page itself always comes
eleven_free : units 11 0 (Data 1 5 ∷ Text 1 0 ∷ []) ≡ Some (entries.Get (Data 1 5) 5 3) ∷ Some (entries.Get (Text 1 0) 0 2) ∷ []
unfolding waiting units spot chunk_reached lowest_below chunk_start chunk counted_from text_spot
eleven_free = refl

nine_free : units 9 0 (Data 1 5 ∷ Text 1 0 ∷ []) ≡ Some (entries.Get (Data 1 5) 5 1) ∷ Some (entries.Get (Text 1 0) 0 1) ∷ []
unfolding waiting units spot chunk_reached lowest_below chunk_start chunk counted_from text_spot
nine_free = refl

one_free : units 1 0 (Data 1 5 ∷ Text 2 0 ∷ []) ≡ Some (entries.Get (Data 1 5) 5 1) ∷ Some (entries.Get (Text 2 0) 0 1) ∷ []
unfolding waiting units spot chunk_reached lowest_below chunk_start chunk counted_from text_spot
one_free = refl

-- with no frame free the oldest transfer ends, or the hands move
none_free :
    serve_unit (waiting 0 0) (Data 1 5) true ∷ serve_unit (waiting 0 1) (Data 2 2) true ∷ serve_unit (waiting 0 0) (Data 1 5) false ∷ []
    ≡ Some (entries.Hands 1) ∷ Some entries.Done ∷ None ∷ []
unfolding waiting spot chunk_reached lowest_below chunk_start chunk counted_from text_spot
none_free = refl

-- fifteen in flight leave room for a read of any kind; at sixteen each waits, and a fill with zeros doesn't
fifteen_in_flight :
    units 60 15 (Data 1 16 ∷ Stack 1 16 ∷ Text 1 4 ∷ Text 2 3 ∷ Data 2 0 ∷ [])
    ≡ Some (entries.Get (Data 1 16) 16 1) ∷ Some (entries.Get (Stack 1 16) 16 1) ∷ Some (entries.Get (Text 1 4) 4 1) ∷
    Some (entries.Get (Text 2 3) 3 1) ∷ Some (entries.Get (Data 2 0) 0 1) ∷ []
unfolding waiting units spot chunk_reached lowest_below chunk_start chunk counted_from text_spot
fifteen_in_flight = refl

sixteen_in_flight :
    units 60 16 (Data 1 16 ∷ Stack 1 16 ∷ Text 1 4 ∷ Text 2 3 ∷ Data 2 0 ∷ Data 2 2 ∷ [])
    ≡ replicate 5 (Some entries.Done) ++ Some (entries.Zero (Data 2 2)) ∷ []
unfolding waiting units spot chunk_reached lowest_below chunk_start chunk counted_from text_spot
sixteen_in_flight = refl

-- the write of a dirty page that is put out waits too, and a clean page doesn't
putting_out_in_flight :
    put_out_unit (waiting 60 15) 2 2 ∷ put_out_unit (waiting 60 16) 2 2 ∷ put_out_unit (waiting 60 16) 3 3 ∷ []
    ≡ entries.Put (Stack 2 0) 1 ∷ entries.Done ∷ entries.Put (Data 3 0) 1 ∷ []
unfolding waiting spot chunk_reached lowest_below chunk_start chunk counted_from text_spot
putting_out_in_flight = refl

-- moves are made while fewer than a quarter of the frames are free
quarter_free_rests : wants_moves (waiting 15 0) ∷ wants_moves (waiting 16 0) ∷ [] ≡ true ∷ false ∷ []
unfolding waiting
quarter_free_rests = refl
