-- The first processes of a load have pieces that are the same for every number, and find their places.
use Rattle.std.proofs.Common.{◌≡◌, ℕ, Bool, true, Result, Ok, Err, refl, sym, ap, ◌∙◌}
use Rattle.std.specs.Prelude.{is_ok}
use Rattle.resource_map.specs.Room.{lowest_room, lowest, has_room, all_pass}
use Rattle.swap_dmap.specs.Chunks.{pieces, chunk, chunk_start, lowest_below as lowest_chunk, chunks_holding, last_piece, text_pieces}
use Rattle.swap_book.specs.Holdings.{Holdings, fit, is_in, is_held}
use Rattle.swap_book.specs.Placing.{place_all}
use Rattle.flat_model.specs.Asked.{first_held, start_held}
use Rattle.load_maker.specs.Load.{load_images}
use Rattle.run_command.specs.Loads.{load_inputs}

starts : (number : ℕ) → is_ok (start_held (load_inputs number)) ≡ true
unfolding load_images first_held place_all fit is_in is_held pieces chunk chunk_start lowest_chunk chunks_holding last_piece text_pieces lowest_room lowest has_room all_pass
starts number = refl

pub all_start : (number pid : ℕ) → start_held (load_inputs number) ≡ Err pid → ⊥
all_start number pid refused = let no : true ≡ is_ok (let r : Result Holdings ℕ = Err pid in r) = sym (starts number) ∙ ap (λ (r : Result Holdings ℕ). is_ok r) refused in cc
