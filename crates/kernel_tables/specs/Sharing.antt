-- Which spaces share an image's text, and the first of them.
use Rattle.std.specs.Prelude.{◌≡◌, ℕ, ◌==◌, cond, List, [], ◌∷◌, Option, Some, None}
use Rattle.space_map.specs.Space.{Places}
use Rattle.page_model.specs.Pages.{SpacePages, numbered}
use Rattle.page_model.specs.Placement.{Placement, space_number}

-- the space with this number shares the image's text
pub record IsSharer (p : Placement) (image sid : ℕ) : Type 0 where
  pub space : SpacePages
  pub there : numbered space_number sid p.spaces ≡ Some space
  pub shares : space.image ≡ image

-- the number of the first of these spaces that shares the image's text
abbrev pub first_sharer : List Places → ℕ → Option ℕ
first_sharer [] image = None
first_sharer (s ∷ ss) image = cond (s.image == image) (Some s.sid) (first_sharer ss image)
