-- A page that was written to the copy of a device, whatever the device made of it.
use Rattle.std.proofs.Common.{◌≡◌, ℕ, List, ◌∷◌, length, Option, None}
use Rattle.io_edge.specs.Count.{OnDone, OnFailed}
use Rattle.io_edge.specs.declared.Moved.{Moved}
use Rattle.io_edge.specs.declared.Moved.TheVariants.{Done, Failed}
use Rattle.io_edge.specs.SwapImage.{WritesPage, SpoilsPage}
use Rattle.io_edge.specs.SwapRuns.{WritesSomePages}
use Rattle.io_edge.proofs.RunWrites.{first_spoiled}
use Rattle.vm_facts.specs.SwapImages.{SwapImage}

pub spoiled_by : (moved : Moved) (old new : Option SwapImage) (block : ℕ) (bytes : List ℕ) → length bytes ≡ 1024
    → OnDone moved (WritesPage old block bytes new) → OnFailed moved (SpoilsPage old block new) → SpoilsPage old block new
spoiled_by Done old new block bytes whole done failed = (bytes, whole, done)
spoiled_by Failed old new block bytes whole done failed = failed

pub first_spoiled_by : (moved : Moved) (old new : Option SwapImage) (block : ℕ) (page : List ℕ) (rest pages : List (List ℕ)) → pages ≡ page ∷ rest
    → length page ≡ 1024 → OnDone moved (WritesPage old block page new) → OnFailed moved (SpoilsPage old block new)
    → WritesSomePages None old block pages new
first_spoiled_by moved old new block page rest pages is whole done failed =
    first_spoiled old new block page rest pages is (spoiled_by moved old new block page whole done failed)
