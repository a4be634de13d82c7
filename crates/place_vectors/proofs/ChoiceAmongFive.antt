-- Whom the swapper chooses among five processes.
use Rattle.std.proofs.Common.{◌≡◌, ℕ, Bool, true, false, List, [], ◌∷◌, replicate, None, refl}
use Rattle.page_model.specs.Pages.{SpacePages}
use Rattle.page_model.specs.Frames.{count_up}
use Rattle.page_model.specs.Placement.{Placement, Residence}
use Rattle.page_model.specs.Swapper.{Runner, In, Out, Nothing, swap_choice}
use Rattle.place_vectors.proofs.OneProcessIn64Frames.{slot, data_slots, walked}

-- The swapper's choice among four processes with 10, 12, 9 and 11 pages in frames, and a fifth with 2.

space_of : ℕ → ℕ → ℕ → SpacePages
space_of sid f pages = record { sid = sid; image = 1; data_pages = data_slots f pages; stack_pages = [] }

unfoldable pub resident : ℕ → Bool → Residence
resident pid out = record { pid = pid; out = out; since = 0 }

-- with so many free frames of 64, and the third process out or not
pressed : ℕ → Bool → Placement
pressed free out = record walked {
  spaces = space_of 1 1 10 ∷ space_of 2 11 12 ∷ space_of 3 23 9 ∷ space_of 4 32 11 ∷ space_of 5 43 2 ∷ [];
  holds = replicate 64 None;
  free = count_up 45 free;
  residents = resident 1 false ∷ resident 2 false ∷ resident 3 out ∷ resident 4 false ∷ resident 5 false ∷ [];
}

runner : ℕ → Bool → Runner
runner pid asleep = record { pid = pid; sid = pid; borrowed = false; asleep = asleep }

five : Bool → List Runner
five asleep = runner 1 false ∷ runner 2 false ∷ runner 3 false ∷ runner 4 false ∷ runner 5 asleep ∷ []

sleeper_goes_out : swap_choice (pressed 7 false) (five true) ≡ Out 5
unfolding pressed resident space_of five runner walked data_slots slot
sleeper_goes_out = refl

first_of_the_four_goes_out : swap_choice (pressed 7 false) (five false) ≡ Out 1
unfolding pressed resident space_of five runner walked data_slots slot
first_of_the_four_goes_out = refl

enough_frames_move_nobody : swap_choice (pressed 8 false) (five true) ≡ Nothing
unfolding pressed resident space_of five runner walked data_slots slot
enough_frames_move_nobody = refl

one_that_is_out_comes_in : swap_choice (pressed 8 true) (five false) ≡ In 3
unfolding pressed resident space_of five runner walked data_slots slot
one_that_is_out_comes_in = refl
