-- What the notes of a run say beside its journal, and beside what is noted of the owners at its end.
use Rattle.std.specs.Prelude.{◌≡◌, ◌≤◌, ◌-◌, ◌+◌, ℕ, List, [], ◌∷◌, ◌++◌, length}
use Rattle.std.specs.List.{sum_by}
use Rattle.vm_facts.specs.declared.entry.Entry.{Entry}
use Rattle.vm_facts.specs.declared.entry.Entry.TheVariants as noted
use Rattle.run_model.specs.State.{State}
use Rattle.run_model.specs.Next.{owners_of}
use Rattle.run_stats.specs.declared.look.Look.{Look}
use Rattle.run_stats.specs.declared.noting.Note.{Note}
use Rattle.run_stats.specs.declared.heads.PagingHead.TheVariants.{ZeroFills, Reclaims, Copies}
use Rattle.run_stats.specs.declared.heads.RunHead.TheVariants.{HandMoves}
use Rattle.run_stats.specs.Looks.{look_at}
use Rattle.run_stats.specs.Amounts.{paging_amount, run_amount, most_held, least_free}

-- a page that is filled with zeros
abbrev pub zero_fills : Entry → ℕ
zero_fills (noted.Zero page) = 1
zero_fills _ = 0

-- a page that a frame still holds
abbrev pub reclaims : Entry → ℕ
reclaims (noted.Reclaim page) = 1
reclaims _ = 0

-- a page that is filled from the parent's
abbrev pub copies : Entry → ℕ
copies (noted.Copy page) = 1
copies _ = 0

-- the moves of the hands
abbrev pub moves : Entry → ℕ
moves (noted.Hands count) = count
moves _ = 0

-- what is looked at last, or this before the first entry
abbrev pub last_look : Look → List Note → Look
last_look first [] = first
last_look first (x ∷ xs) = last_look x.after xs

-- The journal goes on by these entries, and whoever runs, all counts of filled, reclaimed and copied pages and of moves are theirs.
pub record AgreesWith (s t : State) (notes : List Note) : Type 0 where
  pub entries : List Entry
  pub journal : t.journal ≡ s.journal ++ entries
  pub as_many : length notes ≡ length entries
  pub fills : sum_by (paging_amount ZeroFills) notes ≡ sum_by zero_fills entries
  pub found : sum_by (paging_amount Reclaims) notes ≡ sum_by reclaims entries
  pub copied : sum_by (paging_amount Copies) notes ≡ sum_by copies entries
  pub moved : sum_by (run_amount HandMoves) notes ≡ sum_by moves entries

-- What is looked at last is so of the state: an entry of its owners has those numbers. No more blocks are held there than the most, and
-- no fewer frames are free than the fewest.
pub record EndsAt (s t : State) (notes : List Note) : Type 0 where
  pub last : last_look (look_at s) notes ≡ look_at t
  pub owners : owners_of t.place t.holdings
      ≡ noted.Owners (look_at t).free (length t.place.holds - ((look_at t).free + (look_at t).moving)) (look_at t).moving (look_at t).held
  pub most : (look_at t).held ≤ most_held (look_at s).held notes
  pub least : least_free (look_at s).free notes ≤ (look_at t).free
