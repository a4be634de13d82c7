-- Pieces of swap, of a start, of breaks and of a child: found, refused and given back.
use Rattle.std.proofs.Common.{◌≡◌, ℕ, false, List, [], ◌∷◌, ◌++◌, length, Ok, Err, refl}
use Rattle.aout_image.specs.declared.Image.{Image}
use Rattle.aout_image.specs.declared.Kind.TheVariants.{Paged}
use Rattle.resource_map.specs.Room.{lowest_room, has_room, all_pass}
use Rattle.swap_dmap.specs.Chunks.{chunk, chunk_start, lowest_below, chunks_holding, pieces, last_piece, text_pieces}
use Rattle.swap_book.specs.declared.Owner.{Owner}
use Rattle.swap_book.specs.declared.Owner.TheVariants as owners
use Rattle.swap_book.specs.declared.Held.{Held}
use Rattle.swap_book.specs.Holdings.{is_in, is_held, fit, kept}
use Rattle.swap_book.specs.Placing.{place_all}
use Rattle.flat_state.specs.declared.change.Change.TheVariants.{Resize, Lend}
use Rattle.page_model.specs.Placement.{Placement, start_placement}
use Rattle.page_model.specs.Place.{resize}
use Rattle.kernel_model.specs.ChangeStep.{holdings_after}
use Rattle.kernel_model.specs.Asks.{start_asks, change_asks, asked}
use Rattle.place_vectors.proofs.SpaceLentAndBack.{quiet, u_piece, lender}
use Rattle.place_vectors.proofs.OneProcessIn64Frames.{walked}
use Rattle.place_vectors.proofs.ChoiceAmongFive.{resident}

-- Pieces of swap: an image of one text page and 16 data pages starts with text in blocks 0 and 1, data in 2 to 33, stack
-- in 34 to 65, and its u page in 66 and 67; a break to 17 data pages takes 68 to 131, and 49 data pages find no place.

breaking : Image
breaking = record { kind = Paged; text_len = 1024; data_len = 0; bss_len = 16384; entry = 0 }

piece : Owner → ℕ → ℕ → Held
piece owner start length = record { owner = owner; start = start; length = length }

begun : Placement
begun = start_placement (breaking ∷ []) (record { image = 1; facts = breaking } ∷ []) 64

first_pieces : List Held
first_pieces = piece (owners.Text 1) 0 2 ∷ piece (owners.Data 1) 2 32 ∷ piece (owners.Stack 1) 34 32 ∷ piece (owners.U 1) 66 2 ∷ []

start_finds_its_pieces : place_all 256 [] (start_asks begun [] 1 (record { image = 1; facts = breaking } ∷ [])) ≡ Ok first_pieces
unfolding begun breaking first_pieces piece place_all fit lowest_room Rattle.resource_map.specs.Room.lowest has_room all_pass is_held is_in pieces chunks_holding lowest_below chunk_start
    chunk text_pieces last_piece
start_finds_its_pieces = refl

break_takes_a_chunk : place_all 256 first_pieces (change_asks [] begun 1 2 (Resize 17 1)) ≡ Ok (first_pieces ++ piece (owners.Data 1) 68 64 ∷ [])
unfolding begun breaking first_pieces piece place_all fit lowest_room Rattle.resource_map.specs.Room.lowest has_room all_pass is_held is_in pieces chunks_holding lowest_below chunk_start chunk
break_takes_a_chunk = refl

break_finds_no_place : place_all 256 (first_pieces ++ piece (owners.Data 1) 68 64 ∷ []) (change_asks [] (resize begun 1 17 1) 1 2 (Resize 49 1)) ≡ Err 128
unfolding begun breaking first_pieces piece place_all fit lowest_room Rattle.resource_map.specs.Room.lowest has_room all_pass is_held is_in pieces chunks_holding lowest_below chunk_start chunk
break_finds_no_place = refl

-- a smaller break gives the chunk back
smaller_break_gives_back : holdings_after (record { images = []; pid = 1; sid = 1; borrowed = false; next_sid = 2; at = 0 })
    (first_pieces ++ piece (owners.Data 1) 68 64 ∷ [])
    (resize begun 1 17 1) begun (Resize 16 1)
    ≡ first_pieces
unfolding begun breaking first_pieces piece kept pieces chunks_holding lowest_below chunk_start chunk
smaller_break_gives_back = refl

-- a piece lies in one unit of 1,024 blocks: 32 blocks after the 1,000 first begin the next unit, which is the other
-- device's
unit_is_not_crossed : place_all 1056 (piece (owners.Data 1) 0 1000 ∷ []) (record { owner = owners.Data 2; length = 32 } ∷ [])
    ≡ Ok (piece (owners.Data 1) 0 1000 ∷ piece (owners.Data 2) 1024 32 ∷ [])
unfolding piece place_all fit lowest_room Rattle.resource_map.specs.Room.lowest has_room all_pass is_held is_in
unit_is_not_crossed = refl

-- a child of vfork wants its u page alone
lent_asks_for_a_u_page : place_all 4 (u_piece 1 0 ∷ []) (asked [] lender 1 (Lend 2)) ≡ Ok (u_piece 1 0 ∷ u_piece 2 2 ∷ [])
unfolding lender quiet u_piece resident walked place_all fit lowest_room Rattle.resource_map.specs.Room.lowest has_room all_pass is_held is_in
lent_asks_for_a_u_page = refl
