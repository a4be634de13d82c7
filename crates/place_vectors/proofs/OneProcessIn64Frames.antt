-- One process in 64 frames: the runs of its reads and writes, the hands, what a write leaves, and how it is put out.
use Rattle.std.proofs.Common.{◌≡◌, ℕ, zero, suc, ◌+◌, Bool, true, false, List, [], ◌∷◌, ◌++◌, map, replicate, reverse, length, Option, Some, None, refl}
use Rattle.vm_facts.specs.declared.page.Page.{Page}
use Rattle.vm_facts.specs.declared.page.Page.TheVariants.{Data, Stack, Text}
use Rattle.vm_facts.specs.declared.page.PageState.{PageState}
use Rattle.vm_facts.specs.declared.page.PageState.TheVariants.{Valid, Invalid, OnSwap}
use Rattle.vm_facts.specs.declared.entry.Entry.{Entry}
use Rattle.vm_facts.specs.declared.entry.Entry.TheVariants as entries
use Rattle.swap_dmap.specs.Chunks.{chunk, chunk_start, lowest_below, chunk_reached, counted_from, spot}
use Rattle.page_model.specs.Pages.{Slot, Zeros}
use Rattle.page_model.specs.Frames.{count_up}
use Rattle.page_model.specs.Placement.{Placement, Transfer, slot_of, state_of}
use Rattle.page_model.specs.Moves.{reclaim, done, drop_page}
use Rattle.page_model.specs.Runs.{run_in_by}
use Rattle.page_model.specs.Hands.{hand_move, hand_moves}
use Rattle.page_model.specs.Serve.{serve_entry}
use Rattle.page_model.specs.Place.{give_up, place_entry}
use Rattle.page_model.specs.Swapper.{is_settled, put_out_unit}

unfoldable pub slot : PageState → Bool → Slot
slot s m = record { state = s; mark = m; filling = Zeros }

-- One space with so many data pages on swap, in a machine of 64 frames.
swapped : ℕ → Placement
swapped pages = record {
  spaces = record { sid = 1; image = 1; data_pages = replicate pages (slot OnSwap false); stack_pages = [] } ∷ [];
  texts = [];
  holds = replicate 64 None;
  free = count_up 1 64;
  transfers = [];
  front = 17;
  back = 1;
  residents = [];
  due = [];
}

-- a read brings three neighbours above, within the chunk
neighbours_above : run_in_by (swapped 17) (Data 1 5) OnSwap 56 ≡ record { lo = 5; n = 4 }
unfolding swapped slot spot chunk_reached lowest_below chunk_start chunk counted_from
neighbours_above = refl

-- the last page of a chunk has its neighbours below
neighbours_below : run_in_by (swapped 17) (Data 1 15) OnSwap 56 ≡ record { lo = 12; n = 4 }
unfolding swapped slot spot chunk_reached lowest_below chunk_start chunk counted_from
neighbours_below = refl

-- no more neighbours than frames may be taken
neighbours_spared : run_in_by (swapped 17) (Data 1 5) OnSwap 2 ≡ record { lo = 5; n = 2 }
unfolding swapped slot spot chunk_reached lowest_below chunk_start chunk counted_from
neighbours_spared = refl

-- A process in 64 frames: stack page 0 in frame 1, its text page, not saved, in frame 2, and 48 dirty data pages in
-- the frames from 3 on; 14 frames are free.

unfoldable pub data_slots : ℕ → ℕ → List Slot
data_slots f zero = []
data_slots f (suc n) = slot (Valid f) true ∷ data_slots (f + 1) n

unfoldable pub held : ℕ → ℕ → List (Option Page)
held v zero = []
held v (suc n) = Some (Data 1 v) ∷ held (v + 1) n

unfoldable pub walked : Placement
walked = record {
  spaces = record { sid = 1; image = 1; data_pages = data_slots 3 48; stack_pages = slot (Valid 1) true ∷ [] } ∷ [];
  texts = record { image = 1; text_pages = slot (Valid 2) false ∷ [] } ∷ [];
  holds = Some (Stack 1 0) ∷ Some (Text 1 0) ∷ (held 0 48 ++ replicate 14 None);
  free = count_up 51 14;
  transfers = [];
  front = 17;
  back = 1;
  residents = [];
  due = [];
}

pages_written : Transfer → List Page
pages_written t = map (λ x. x.page) t.parts

-- a page that was used since the front hand passed stays where it is
used_page_stays : state_of (hand_move (reclaim (hand_moves walked [] 16) (Data 1 14)) []) (Data 1 14) ≡ Valid 17
unfolding walked data_slots held slot spot chunk_reached lowest_below chunk_start chunk counted_from
used_page_stays = refl

-- the back hand writes a page with the neighbours that the front hand has passed
write_of_two : map pages_written (hand_moves walked [] 17).transfers ≡ (Data 1 14 ∷ Data 1 15 ∷ []) ∷ []
unfolding walked data_slots held slot spot chunk_reached lowest_below chunk_start chunk counted_from pages_written
write_of_two = refl

-- the numbers of pages of each write
sizes_written : Placement → List ℕ
sizes_written p = map (λ (t : Transfer). length t.parts) p.transfers

-- after 66 moves: data pages 14 and 15, 16 to 31, 32 to 47, stack page 0, and the text page
five_writes : sizes_written (hand_moves walked [] 66) ≡ 2 ∷ 16 ∷ 16 ∷ 1 ∷ 1 ∷ []
unfolding walked data_slots held slot spot chunk_reached lowest_below chunk_start chunk counted_from sizes_written
five_writes = refl

-- A clean page in the frame at the back hand: its frame goes to the tail of the free list.

tailed : Placement
tailed = record walked {
  spaces = record { sid = 1; image = 1; data_pages = slot (Invalid 1) false ∷ []; stack_pages = [] } ∷ [];
  texts = [];
  holds = Some (Data 1 0) ∷ replicate 63 None;
  free = 2 ∷ 3 ∷ [];
}

clean_page_to_the_tail : (hand_move tailed []).free ≡ 2 ∷ 3 ∷ 1 ∷ []
unfolding tailed walked slot
clean_page_to_the_tail = refl

-- The frame of a page that is dropped goes to the head.
dropped_page_to_the_head : (drop_page tailed (Data 1 0)).free ≡ 1 ∷ 2 ∷ 3 ∷ []
unfolding tailed walked slot
dropped_page_to_the_head = refl

-- a locked page is passed over
locked_page_stays : state_of (hand_move walked (Data 1 14 ∷ [])) (Data 1 14) ≡ Valid 17
unfolding walked data_slots held slot
locked_page_stays = refl

unlocked_page_is_invalid : state_of (hand_move walked []) (Data 1 14) ≡ Invalid 17
unfolding walked data_slots held slot
unlocked_page_is_invalid = refl

-- The write of pages 14 and 15 ends: they are clean in free frames, and a page that is wanted again needs no device.

finished : ℕ → Placement → Placement
finished zero p = p
finished (suc n) p = finished n (done p)

page_in_flight_waits : serve_entry (hand_moves walked [] 17) (Data 1 14) ≡ entries.Done
unfolding walked data_slots held slot spot chunk_reached lowest_below chunk_start chunk counted_from
page_in_flight_waits = refl

written_page_is_reclaimed : serve_entry (finished 1 (hand_moves walked [] 17)) (Data 1 14) ≡ entries.Reclaim (Data 1 14)
unfolding finished walked data_slots held slot spot chunk_reached lowest_below chunk_start chunk counted_from
written_page_is_reclaimed = refl

written_frames_to_the_tail : (finished 1 (hand_moves walked [] 17)).free ≡ count_up 51 14 ++ 17 ∷ 18 ∷ []
unfolding finished walked data_slots held slot spot chunk_reached lowest_below chunk_start chunk counted_from
written_frames_to_the_tail = refl

reclaimed_page_has_its_frame : slot_of (reclaim (finished 1 (hand_moves walked [] 17)) (Data 1 14)) (Data 1 14) ≡ slot (Valid 17) false
unfolding finished walked data_slots held slot spot chunk_reached lowest_below chunk_start chunk counted_from
reclaimed_page_has_its_frame = refl

-- A space that ends while its write is in flight: it is settled once that has ended, and then all its frames are free.

write_unsettles : is_settled (hand_moves walked [] 17) 1 ≡ false
unfolding walked data_slots held slot spot chunk_reached lowest_below chunk_start chunk counted_from
write_unsettles = refl

write_that_ends_settles : is_settled (finished 1 (hand_moves walked [] 17)) 1 ≡ true
unfolding finished walked data_slots held slot spot chunk_reached lowest_below chunk_start chunk counted_from
write_that_ends_settles = refl

-- the stack's frame stands first, the data's frames after it from the last on, and the text's frame last
space_gives_all_back : (give_up (finished 1 (hand_moves walked [] 17)) 1).free ≡ 1 ∷ (reverse (count_up 3 48) ++ (count_up 51 14 ++ 2 ∷ []))
unfolding finished walked data_slots held slot spot chunk_reached lowest_below chunk_start chunk counted_from
space_gives_all_back = refl

-- After the five writes the text page is saved and both pages are reclaimed.

text_is_saved : slot_of (finished 5 (hand_moves walked [] 66)) (Text 1 0) ≡ slot (Invalid 2) true
unfolding finished walked data_slots held slot spot chunk_reached lowest_below chunk_start chunk counted_from
text_is_saved = refl

text_is_reclaimed : serve_entry (finished 5 (hand_moves walked [] 66)) (Text 1 0) ≡ entries.Reclaim (Text 1 0)
unfolding finished walked data_slots held slot spot chunk_reached lowest_below chunk_start chunk counted_from
text_is_reclaimed = refl

-- A process of 56 dirty data pages and a dirty stack page is put out: page runs by chunks, each write ended before the
-- next begins, and last the process.

filled_up : Placement
filled_up = record walked {
  spaces = record { sid = 1; image = 1; data_pages = data_slots 3 56; stack_pages = slot (Valid 1) true ∷ [] } ∷ [];
  holds = Some (Stack 1 0) ∷ Some (Text 1 0) ∷ (held 0 56 ++ replicate 6 None);
  free = count_up 59 6;
  residents = record { pid = 1; out = false; since = 0 } ∷ [];
}

put_units : ℕ → ℕ → Placement → List Entry
put_units zero at p = []
put_units (suc n) at p = put_out_unit p 1 1 ∷ put_units n (at + 1) (place_entry [] (at + 1) p (put_out_unit p 1 1))

eleven_units : put_units 11 4 filled_up ≡ entries.Put (Data 1 0) 16 ∷ entries.Done ∷ entries.Put (Data 1 16) 16 ∷ entries.Done ∷ entries.Put (Data 1 32) 16
    ∷ entries.Done ∷ entries.Put (Data 1 48) 8 ∷ entries.Done ∷ entries.Put (Stack 1 0) 1 ∷ entries.Done ∷ entries.SwapOut 1 ∷ []
unfolding put_units filled_up walked data_slots held slot spot chunk_reached lowest_below chunk_start chunk counted_from
eleven_units = refl
