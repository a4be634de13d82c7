-- The moves of the hands and the instructions that a journal counts after an entry.
use Rattle.std.proofs.Common.{◌≡◌, ℕ, ◌+◌, ◌≤◌, ◌==◌, Bool, true, false, List, [], ◌∷◌, ◌++◌, refl, ap, ◌∙◌, arith}
use Rattle.vm_facts.specs.declared.entry.Entry.{Entry}
use Rattle.vm_facts.specs.declared.entry.Entry.TheVariants as entries
use Rattle.flat_state.specs.Journal.{join_by, join, append_after, append_joined, append, counted, instructions_of, IsPlain}
use Rattle.flat_state.proofs.Joins.{append_plain, count-append, append_counted}
use Rattle.swapper.specs.Spans.{moves}
use Rattle.swapper.specs.LastMoves.{last_moves}
use Rattle.swapper.proofs.LastMoves.{last_of}

plain_still : (e : Entry) → IsPlain e → moves e ≡ 0
plain_still (entries.Ran pid n) h = absurd h
plain_still (entries.Hands n) h = absurd h
plain_still _ h = refl

pub last_plain : (journal : List Entry) (e : Entry) → IsPlain e → last_moves (append journal e) ≡ 0
last_plain journal e h = ap last_moves (append_plain journal e h) ∙ last_of journal e ∙ plain_still e h

-- the last entry counts no moves
record EndsStill (xs : List Entry) : Type 0 where
  before : List Entry
  last : Entry
  same : xs ≡ before ++ last ∷ []
  still : moves last ≡ 0

ends_none : (xs : List Entry) → EndsStill xs → last_moves xs ≡ 0
ends_none xs s = ap last_moves s.same ∙ last_of s.before s.last ∙ s.still

join_still : (e : Entry) (q n : ℕ) → EndsStill (join e (entries.Ran q n))
join_still (entries.Ran p m) q n = by (p == q)
  where
    by : (b : Bool) → EndsStill (join_by b p m q n)
    by true = record { before = []; last = entries.Ran p (m + n); same = refl; still = refl }
    by false = record { before = entries.Ran p m ∷ []; last = entries.Ran q n; same = refl; still = refl }
join_still (entries.Hands m) q n = record { before = entries.Hands m ∷ []; last = entries.Ran q n; same = refl; still = refl }
join_still e q n = record { before = e ∷ []; last = entries.Ran q n; same = refl; still = refl }

after_still : (e : Entry) (journal : List Entry) (q n : ℕ) → EndsStill (append_after e journal (entries.Ran q n))
after_still e [] q n = join_still e q n
after_still e (f ∷ journal) q n =
    let rest = after_still f journal q n in
    record { before = e ∷ rest.before; last = rest.last; same = ap (λ (xs : List Entry). e ∷ xs) rest.same; still = rest.still }

joined_still : (journal : List Entry) (q n : ℕ) → EndsStill (append_joined journal (entries.Ran q n))
joined_still [] q n = record { before = []; last = entries.Ran q n; same = refl; still = refl }
joined_still (e ∷ journal) q n = after_still e journal q n

-- after an instruction
pub last_ran : (journal : List Entry) (q n : ℕ) → last_moves (append journal (entries.Ran q n)) ≡ 0
last_ran journal q n = ends_none (append_joined journal (entries.Ran q n)) (joined_still journal q n)

-- an entry counts as many instructions in any journal that it is appended to
pub counts_one : (old new : List Entry) (e : Entry) → new ≡ append old e → instructions_of new ≡ instructions_of old + counted e
counts_one old new e h = ap instructions_of h ∙ append_counted old e

-- a last entry of instructions counts no more than the journal
pub last_counts_few : (journal before : List Entry) (pid count : ℕ) → journal ≡ before ++ entries.Ran pid count ∷ [] → count ≤ instructions_of journal
last_counts_few journal before pid count h =
    let all = ap instructions_of h in
    let parts = count-append before (entries.Ran pid count ∷ []) in
    omega arith
