-- How a unit changes the moves that the last entry counts.
use Rattle.std.proofs.Common.{◌≡◌, ℕ, ◌+◌, ◌≤◌, List, [], ◌∷◌, ◌++◌, refl, sym, ap, ◌∙◌, arith}
use Rattle.vm_facts.specs.declared.entry.Entry.{Entry}
use Rattle.vm_facts.specs.declared.entry.Entry.TheVariants as entries
use Rattle.flat_state.specs.Journal.{append, append_after, join}
use Rattle.page_laws.specs.Spans.{moves}
use Rattle.paging_units.specs.LastMoves.{last_moves}

pub last_of : (before : List Entry) (e : Entry) → last_moves (before ++ e ∷ []) ≡ moves e
last_of [] e = refl
last_of (f ∷ []) e = refl
last_of (f ∷ g ∷ before) e = last_of (g ∷ before) e

-- an entry that counts moves and is last counts these
pub counts_last : (journal before : List Entry) (count : ℕ) → journal ≡ before ++ entries.Hands count ∷ [] → count ≡ last_moves journal
counts_last journal before count e = sym (ap last_moves e ∙ last_of before (entries.Hands count))

-- after the end of a transfer no moves are counted
pub last_done : (journal : List Entry) → last_moves (append journal entries.Done) ≡ 0
last_done journal = last_of journal entries.Done

record Begun (xs : List Entry) : Type 0 where
  first : Entry
  others : List Entry
  same : xs ≡ first ∷ others

joined_begun : (e : Entry) → Begun (join e (entries.Hands 1))
joined_begun (entries.Hands m) = record { first = entries.Hands (m + 1); others = []; same = refl }
joined_begun _ = record { first = _; others = entries.Hands 1 ∷ []; same = refl }

after_begun : (e : Entry) (journal : List Entry) → Begun (append_after e journal (entries.Hands 1))
after_begun e [] = joined_begun e
after_begun e (f ∷ journal) = record { first = e; others = append_after f journal (entries.Hands 1); same = refl }

past : (e : Entry) (xs : List Entry) → Begun xs → last_moves (e ∷ xs) ≡ last_moves xs
past e xs b = ap (λ (ys : List Entry). last_moves (e ∷ ys)) b.same ∙ sym (ap last_moves b.same)

joined_more : (e : Entry) → last_moves (join e (entries.Hands 1)) ≤ moves e + 1
joined_more (entries.Hands m) = omega arith
joined_more _ = omega arith

after_more : (e : Entry) (journal : List Entry) → last_moves (append_after e journal (entries.Hands 1)) ≤ last_moves (e ∷ journal) + 1
after_more e [] = joined_more e
after_more e (f ∷ journal) =
    let rest = after_more f journal in
    let same = past e (append_after f journal (entries.Hands 1)) (after_begun f journal) in
    omega arith

-- a move adds one at most
pub last_more : (journal : List Entry) → last_moves (append journal (entries.Hands 1)) ≤ last_moves journal + 1
last_more [] = omega arith
last_more (e ∷ journal) = after_more e journal
