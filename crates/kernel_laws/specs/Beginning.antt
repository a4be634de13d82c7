-- Statements of what first processes keep as they begin one by one: places, pieces, and owners.
use Rattle.std.specs.Prelude.{◌≡◌, ℕ, ◌+◌, List, [], ◌∷◌, ◌++◌, length, Some, Ok}
use Rattle.aout_image.specs.declared.Image.{Image}
use Rattle.swap_book.specs.Holdings.{Holdings}
use Rattle.swap_book.specs.Placing.{place_all}
use Rattle.flat_state.specs.Flat.{NamedImage, Inputs, image_numbered}
use Rattle.page_model.specs.Placement.{Starting, start_placement}
use Rattle.kernel_model.specs.Kernel.{Kernel}
use Rattle.kernel_model.specs.Sound.{Sound}
use Rattle.kernel_model.specs.Asks.{first_found, begin_asks}
use Rattle.kernel_model.specs.Numbers.{Numbered}
use Rattle.kernel_model.specs.Start.{start_kernel, begin_step, AreStarting, with_first, starting_in}

-- the start with one first process more is the start without it, once that one began
abbrev pub NextProcessBegins : Type 0
NextProcessBegins = (A : Inputs) (first : List Starting) (hs found : Holdings) (frames : List (List ℕ)) (number : ℕ)
    (named : NamedImage)
    → AreStarting A.images A.first first → image_numbered A.images number ≡ Some named
    → start_kernel (with_first A number) (first ++ starting_in number named ∷ []) found frames
    ≡ begin_step (start_kernel A first hs frames) found number named.name named.image.facts

-- the first processes of the inputs, with one more
abbrev pub NextIsStarting : Type 0
NextIsStarting = (A : Inputs) (first : List Starting) (number : ℕ) (named : NamedImage)
    → AreStarting A.images A.first first → image_numbered A.images number ≡ Some named
    → AreStarting A.images (with_first A number).first (first ++ starting_in number named ∷ [])

-- one first process more finds its pieces after those of the others
abbrev pub NextFindsPieces : Type 0
NextFindsPieces = (size : ℕ) (images : List Image) (first : List Starting) (a : Starting) (frames : ℕ) (hs : Holdings)
    → first_found size images first frames ≡ Ok hs
    → first_found size images (first ++ a ∷ []) frames
    ≡ place_all size hs (begin_asks (start_placement images first frames) (1 + length first) a.image a.facts)

-- each frame and each block has one owner still, once one first process more began
abbrev pub BeginningKeepsOwners : Type 0
BeginningKeepsOwners = (size : ℕ) (k : Kernel) (found : Holdings) (image : ℕ) (name : List ℕ) (facts : Image)
    → Sound size k → Numbered k → k.next_sid ≡ k.next_pid
    → place_all size k.holdings (begin_asks k.place k.next_pid image facts) ≡ Ok found
    → Sound size (begin_step k found image name facts)
