-- The pages of a segment, by the places that its space has for them.
use Rattle.std.proofs.Common.{◌≡◌, ℕ, ◌==◌, Bool, true, false, [], None, slice_get, if◌then◌else◌, refl}
use Rattle.vm_facts.specs.declared.page.Page.{Page}
use Rattle.vm_facts.specs.declared.page.Page.TheVariants.{Data, Stack, Text}
use Rattle.page_model.specs.PageNames.{beside}
use Rattle.space_map.specs.Space.{Places, place_in, segment_in}

-- the place of another page of the segment
pub beside_place : (s : Places) (q : Page) (v : ℕ) → place_in s (beside q v) ≡ slice_get (segment_in s q) v
beside_place s (Data sid w) v = go (sid == s.sid)
  where
    go : (b : Bool) → (if b then slice_get s.data v else None) ≡ slice_get (if b then s.data else []) v
    go true = refl
    go false = refl
beside_place s (Stack sid w) v = go (sid == s.sid)
  where
    go : (b : Bool) → (if b then slice_get s.stack v else None) ≡ slice_get (if b then s.stack else []) v
    go true = refl
    go false = refl
beside_place s (Text image w) v = go (image == s.image)
  where
    go : (b : Bool) → (if b then slice_get s.text v else None) ≡ slice_get (if b then s.text else []) v
    go true = refl
    go false = refl
