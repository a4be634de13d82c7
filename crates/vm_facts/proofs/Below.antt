-- Bytes just below an address are bytes from a lower one on.
use Rattle.std.proofs.Common.{◌≡◌, ◌∙◌, ℕ, ◌+◌, ◌-◌, ◌%◌, ◌^◌, ◌<◌, ap, arith}
use Rattle.vm_facts.specs.Ahead.{MayAhead, MayBelow}
use Rattle.vm_facts.specs.Answers.{Answers}

pub may_below : (memory : Answers) (low count address : ℕ) → low + count ≡ address → address < 2 ^ 32 → MayAhead memory low count
    → MayBelow memory address count
may_below memory low count address end small ahead i below =
    let place : (address + (2 ^ 32 - (i + 1))) % 2 ^ 32 ≡ (low + (count - (i + 1))) % 2 ^ 32 = omega (arith, end, small, below) in
    ap memory.may_write place ∙ ahead (count - (i + 1)) (omega (arith, below))
