use Rattle.std.proofs.Common.{◌≡◌, ℕ, zero, suc, ◌%◌, ◌<◌, ◌≤◌, length, Some, None, arith, refl, sym, ap, ◌∙◌}
use Rattle.std.specs.Prelude.{slice_get}
use Rattle.std.proofs.lemmas.Option.{slice_get_past}
use Rattle.swap_dmap.specs.Chunks.{text_pieces, last_piece}
use Rattle.swap_dmap.proofs.PieceLaws.{slice_get-text_pieces_whole, slice_get-text_pieces_rest, length-text_pieces, length-last_piece}
use Rattle.swap_book.proofs.text_piece_at.Goals as goal
use Rattle.swap_book.proofs.text_piece_at.Goals.{else-index-whole-2-via-then-index-whole-2+else-rest-gt0, else-index-whole-2-via-else-index-whole-2}

pub returns-then-index-whole-clause-value : goal.returns-then-index-whole-clause-value
returns-then-index-whole-clause-value c = sym (slice_get-text_pieces_whole c.args.blocks c.args.index (omega arith))

last : (n : ℕ) → 0 < n → slice_get (last_piece n) 0 ≡ Some n
unfolding last_piece
last zero some = absurd (omega arith)
last (suc n) some = refl

pub returns-then-rest-gt0-clause-value : goal.returns-then-rest-gt0-clause-value
returns-then-rest-gt0-clause-value c =
    let b = c.args.blocks in
    sym (ap (slice_get (text_pieces b)) (omega arith) ∙ slice_get-text_pieces_rest b 0 ∙ last (b % 1024) (omega arith))

past : (blocks index : ℕ) → length (text_pieces blocks) ≤ index → None ≡ slice_get (text_pieces blocks) index
past blocks index le = sym (slice_get_past (text_pieces blocks) index le)

pub returns-else-index-whole-2-clause-value : goal.returns-else-index-whole-2-clause-value
returns-else-index-whole-2-clause-value c =
    let b = c.args.blocks in
    let l = length-text_pieces b in
    let r = length-last_piece (b % 1024) in
    past b c.args.index
    (elim c.else-index-whole-2.branch [
      | else-index-whole-2-via-then-index-whole-2+else-rest-gt0 w ↦ omega arith
      | else-index-whole-2-via-else-index-whole-2 w ↦ omega arith
    ])
