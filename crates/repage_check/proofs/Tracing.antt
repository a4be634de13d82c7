-- The machine along a trace of which neighbouring lines count few moves.
use Rattle.std.proofs.Common.{◌≡◌, ℕ, ◌+◌, ◌≤◌, List, [], ◌∷◌, length, refl, ap, ◌∙◌, arith}
use Rattle.vm_facts.specs.declared.entry.Entry.{Entry}
use Rattle.vm_facts.specs.declared.entry.Entry.TheVariants as entries
use Rattle.flat_state.specs.Journal.{appended}
use Rattle.machine_state.specs.Going.{CanGoOn}
use Rattle.machine_state.specs.Machine.{Standing}
use Rattle.vm_core.specs.LastMoves.{last_moves}
use Rattle.page_laws.specs.Spans.{moves}
use Rattle.paged_model.specs.declared.line.Line.{Line}
use Rattle.paged_model.specs.declared.line.Line.TheVariants as lines
use Rattle.repage_check.specs.Lines.{units_in, GoesBy}
use Rattle.repage_check.specs.Moves.{moves_counted, moves_with, moves_by, HaveFewAfter, HaveFewMoves}
use Rattle.repage_check.proofs.Joining.{entry_long, entry_moves}

-- So many lines were judged, and these are left: of the entries that the machine's journal has the last one counts moves so that they still
-- can be joined.
pub record GoesOnFew (left : List Line) (count : ℕ) (old new : Standing) : Type 0 where
  pub ready : CanGoOn new
  pub images : new.images ≡ old.images
  pub blocks : new.params.swap_blocks ≡ old.params.swap_blocks
  pub wide : new.params.journal ≤ length new.kernel.journal + 1
  pub long : length new.kernel.journal ≤ count
  pub moves : ℕ
  pub last : last_moves new.kernel.journal ≤ moves
  pub most : moves ≤ 1000000
  pub few : HaveFewAfter moves left

pub few_begun : (ls : List Line) (m : Standing) → CanGoOn m → m.kernel.journal ≡ [] → m.params.journal ≡ 0 → HaveFewMoves ls → GoesOnFew ls 0 m m
few_begun ls m ready first wide few = record {
  ready = ready;
  images = refl;
  blocks = refl;
  wide = omega (arith, wide);
  long = let e = ap (λ (js : List Entry). length js) first in omega (arith, e);
  moves = 0;
  last = let e = ap last_moves first in omega (arith, e);
  most = omega arith;
  few = few;
}

entry_few : (n k : ℕ) (e : Entry) → n ≤ 1000000 → k ≤ n → moves_with n e ≤ 1000000 → k + moves e ≤ 1000000
entry_few n k (entries.Hands m) l w o = omega (arith, w, o)
entry_few n k e l w o = omega (arith, l, w)

line_few : (n k : ℕ) (l : Line) → n ≤ 1000000 → k ≤ n → moves_by n l ≤ 1000000 → k + moves_counted l ≤ 1000000
line_few n k (lines.RunLine e) most w o = entry_few n k e most w o
line_few n k (lines.Part x) most w o = omega (arith, most, w)

-- its units make one entry at most
line_long : (js : List Entry) (l : Line) → length (appended js (units_in l)) ≤ length js + 1
line_long js (lines.RunLine e) = entry_long js e
line_long js (lines.Part x) = omega arith

line_moves : (js : List Entry) (n : ℕ) (l : Line) → last_moves js ≤ n → last_moves (appended js (units_in l)) ≤ moves_by n l
line_moves js n (lines.RunLine e) w = entry_moves js n e w
line_moves js n (lines.Part x) w = w

module _ (l : Line) (left : List Line) (count : ℕ) (old m : Standing) (few : GoesOnFew (l ∷ left) count old m) where
  -- the moves that the next line counts can be joined too
  pub next_few : last_moves m.kernel.journal + moves_counted l ≤ 1000000
  next_few = line_few few.moves (last_moves m.kernel.journal) l few.most few.last few.few.0

  -- after it
  pub few_on : (n : Standing) → GoesBy (units_in l) m n → GoesOnFew left (count + 1) old n
  few_on n by = record {
    ready = by.ready;
    images = by.images ∙ few.images;
    blocks = by.blocks ∙ few.blocks;
    wide = by.wide;
    long =
        let most : length (appended m.kernel.journal (units_in l)) ≤ length m.kernel.journal + 1 = line_long m.kernel.journal l in
        let is = ap (λ (js : List Entry). length js) by.journal in
        let before = few.long in
        omega (arith, most, is, before);
    moves = moves_by few.moves l;
    last =
        let joined : last_moves (appended m.kernel.journal (units_in l)) ≤ moves_by few.moves l = line_moves m.kernel.journal few.moves l few.last in
        let is = ap last_moves by.journal in
        omega (arith, joined, is);
    most = few.few.0;
    few = few.few.1;
  }
