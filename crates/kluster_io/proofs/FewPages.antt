-- The pages of a space are few.
use Rattle.std.proofs.Common.{◌≡◌, ℕ, ◌<◌, ◌≤◌, ◌==◌, if◌then◌else◌, Bool, true, false, IsSome, List, length, slice_get, Option, Some, None, refl, arith}
use Rattle.std.proofs.lemmas.Option.{slice_get_within}
use Rattle.vm_facts.specs.declared.page.Page.{Page}
use Rattle.vm_facts.specs.declared.page.Page.TheVariants.{Data, Stack, Text}
use Rattle.vax_pte.specs.declared.Place.{Place}
use Rattle.space_map.specs.Space.{Places, place_in}
use Rattle.flat_state.specs.PageNames.{beside}

some_of : (o : Option Place) → IsSome o → (x : Place) × (o ≡ Some x)
some_of None e = absurd cc
some_of (Some x) e = (x, refl)

if_some : (b : Bool) (o : Option Place) → IsSome (if b then o else None) → IsSome o
if_some true o e = e
if_some false o e = absurd cc

pub within : (ps : List Place) (v : ℕ) → IsSome (slice_get ps v) → v < length ps
within ps v there = let x = some_of (slice_get ps v) there in slice_get_within ps v x.0 x.1

-- a page that a space has is one of few of its segment
pub few_there : (s : Places) (q : Page) (v : ℕ) → length s.text ≤ 2048 → length s.«data» ≤ 4096 → length s.stack ≤ 512
    → IsSome (place_in s (beside q v)) → v < 4096
few_there s (Data sid w) v texts datas stacks there = let l = within s.«data» v (if_some (sid == s.sid) (slice_get s.«data» v) there) in omega arith
few_there s (Stack sid w) v texts datas stacks there = let l = within s.stack v (if_some (sid == s.sid) (slice_get s.stack v) there) in omega arith
few_there s (Text image w) v texts datas stacks there = let l = within s.text v (if_some (image == s.image) (slice_get s.text v) there) in omega arith
