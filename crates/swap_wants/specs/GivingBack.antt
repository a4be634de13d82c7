-- Which pieces an owner may give back, beyond its first so many.
use Rattle.std.specs.Prelude.{◌≡◌, ℕ, ◌<◌, ◌≤◌, ◌⊎◌, length}
use Rattle.swap_dmap.specs.Chunks.{pieces}
use Rattle.swap_book.specs.declared.Owner.{Owner}
use Rattle.swap_book.specs.declared.Owner.TheVariants.{Data, Stack, U, Text}
use Rattle.swap_book.specs.Holdings.{Holdings, of_owner}

-- it holds no more than those; or they are fewer chunks than its blocks want, or none
abbrev pub MayGiveBack : Owner → ℕ → ℕ → Holdings → Type 0
MayGiveBack (Data sid) blocks keep hs = (keep < length (pieces blocks)) ⊎ (length (of_owner (Data sid) hs) ≤ keep)
MayGiveBack (Stack sid) blocks keep hs = (keep < length (pieces blocks)) ⊎ (length (of_owner (Stack sid) hs) ≤ keep)
MayGiveBack (U pid) blocks keep hs = (keep ≡ 0) ⊎ (length (of_owner (U pid) hs) ≤ keep)
MayGiveBack (Text image) blocks keep hs = (keep ≡ 0) ⊎ (length (of_owner (Text image) hs) ≤ keep)
