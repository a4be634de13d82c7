use Rattle.std.proofs.Common.{◌≡◌, ◌≤◌, ◌+◌, ◌++◌, ◌∙◌, ℕ, List, length, take, drop, ap, sym, arith}
use Rattle.io_edge.proofs.Pages.{take_at}
use Rattle.system_memory.proofs.Ranges.{length-filled, length-over, over_grown}
use Rattle.system_memory.proofs.mem_file.write_piece.Goals as goal

pub put_over-requires : goal.put_over-requires
put_over-requires c =
    let reach : c.args.offset + length c.args.piece.now ≤ length c.grow.new.bytes.items =
    length-filled (c.args.offset + length c.args.piece.now) c.args.bytes.now.items c.grow.new.bytes.items c.in_ok-grow.ensures.done in
    omega (arith, reach, ap length c.as_mut_slice.ensures.value)

pub returns-clause-done : goal.returns-clause-done
returns-clause-done c =
    let offset : ℕ = c.args.offset in
    let piece : List ℕ = c.args.piece.now in
    let grown : List ℕ = c.grow.new.bytes.items in
    let new : List ℕ = c.put_over.new.bytes in
    let reach : offset + length piece ≤ length grown = length-filled (offset + length piece) c.args.bytes.now.items grown c.in_ok-grow.ensures.done in
    let put : new ≡ take offset grown ++ piece ++ drop (offset + length piece) grown =
    c.put_over.ensures ∙ ap (λ (xs : List ℕ). take offset xs ++ piece ++ drop (offset + length piece) xs) c.as_mut_slice.ensures.value in
    let stays : length new ≡ c.grow.new.bytes.len =
    ap length put ∙ length-over offset grown piece reach ∙ sym (ap length c.as_mut_slice.ensures.value) ∙ c.as_mut_slice.ensures.len in
    take_at c.grow.new.bytes.len new (drop (length new) grown) stays
    ∙ over_grown offset c.args.bytes.now.items grown new piece c.in_ok-grow.ensures.done put
