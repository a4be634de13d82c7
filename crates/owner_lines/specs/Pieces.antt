-- Which piece of swap begins next from a block on.
use Rattle.std.specs.Prelude.{ℕ, nat_lt, if◌then◌else◌, [], ◌∷◌, Option, Some, None}
use Rattle.swap_book.specs.declared.Held.{Held}
use Rattle.swap_book.specs.Holdings.{Holdings}

-- the one of two pieces that begins first
abbrev pub nearer : Held → Option Held → Held
nearer h None = h
nearer h (Some g) = if nat_lt g.start h.start then g else h

-- a piece may come before another one: the nearer of the two, or the other one where the piece begins below a block
abbrev pub nearer_from : ℕ → Held → Option Held → Option Held
nearer_from b h other = if nat_lt h.start b then other else Some (nearer h other)

-- the piece that begins first of those that begin at a block or after it
abbrev pub next_from : ℕ → Holdings → Option Held
next_from b [] = None
next_from b (h ∷ hs) = nearer_from b h (next_from b hs)
