-- Whom the swapper takes, by the rule in words: too few frames free, one goes out, and else one comes in; a sleeper before
-- all others, then one of the four largest; the one that is in or out longest; and of two alike the one of the lower pid.
use Rattle.std.proofs.Common.{◌≡◌, ℕ, Bool, true, false, List, [], ◌∷◌, replicate, refl}
use Rattle.vm_facts.specs.declared.page.PageState.TheVariants.{Valid}
use Rattle.page_model.specs.Pages.{Zeros, SpacePages}
use Rattle.page_model.specs.Placement.{Placement, Residence}
use Rattle.page_model.specs.Swapper.{Runner, In, Out, Nothing, swap_choice}
use Rattle.place_vectors.proofs.Walk.{runner, slot, empty, frames}

-- a space of so many pages in frames
space : ℕ → ℕ → SpacePages
space sid pages = record { sid = sid; image = 1; data_pages = replicate pages (slot (Valid 1) false Zeros); stack_pages = [] }

since : ℕ → Bool → ℕ → Residence
since pid out at = record { pid = pid; out = out; since = at }

-- 64 frames, of which so many are free
pressed : List SpacePages → List Residence → ℕ → Placement
pressed spaces residents free = record {
  spaces = spaces;
  texts = [];
  holds = empty 64;
  free = frames 1 free;
  transfers = [];
  front = 17;
  back = 1;
  residents = residents;
  due = [];
}

-- five spaces of one size, and five of other sizes, the first the smallest
alike : List SpacePages
alike = space 1 9 ∷ space 2 9 ∷ space 3 9 ∷ space 4 9 ∷ space 5 9 ∷ []

uneven : List SpacePages
uneven = space 1 2 ∷ space 2 10 ∷ space 3 12 ∷ space 4 9 ∷ space 5 11 ∷ []

-- the fifth is in longest, then the third and the fourth
mostly : List Residence
mostly = since 1 false 7 ∷ since 2 false 5 ∷ since 3 false 3 ∷ since 4 false 3 ∷ since 5 false 1 ∷ []

-- the first is in longest, and the fourth next
first : List Residence
first = since 1 false 0 ∷ since 2 false 5 ∷ since 3 false 6 ∷ since 4 false 1 ∷ since 5 false 8 ∷ []

awake : List Runner
awake = runner 5 5 false false ∷ runner 4 4 false false ∷ runner 3 3 false false ∷ runner 2 2 false false ∷ runner 1 1 false false ∷ []

-- of five of one size those of the lower pids are the four largest, and of two in as long the lower pid goes
ties_by_pid : swap_choice (pressed alike mostly 7) awake ≡ Out 3
unfolding space since pressed alike mostly awake
ties_by_pid = refl

-- the smallest stays though it is in longest, and the fourth largest goes
four_largest : swap_choice (pressed uneven first 7) awake ≡ Out 4
unfolding space since pressed uneven first awake
four_largest = refl

-- a sleeper goes before all others, unless it borrowed its space
sleeper_first : swap_choice (pressed uneven first 7) (runner 5 5 false true ∷ runner 3 3 true true ∷ awake) ≡ Out 5
unfolding space since pressed uneven first awake
sleeper_first = refl

borrowers_stay : swap_choice (pressed uneven first 7) (runner 3 3 true true ∷ runner 2 2 true false ∷ []) ≡ Nothing
unfolding space since pressed uneven first
borrowers_stay = refl

-- an eighth of the frames is enough
eight_free : swap_choice (pressed uneven first 8) awake ≡ Nothing
unfolding space since pressed uneven first awake
eight_free = refl

-- of those that are out and awake the one that is out longest comes in
out_longest_comes_in :
    swap_choice
    (pressed uneven (since 1 true 9 ∷ since 2 true 4 ∷ since 3 true 4 ∷ since 4 true 1 ∷ since 5 false 0 ∷ []) 8)
    (runner 1 1 false false ∷ runner 3 3 false false ∷ runner 2 2 true false ∷ runner 4 4 false true ∷ runner 5 5 false false ∷ [])
    ≡ In 2
unfolding space since pressed uneven
out_longest_comes_in = refl
