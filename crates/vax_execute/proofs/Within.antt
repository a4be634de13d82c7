-- Bytes within bytes that lie together.
use Rattle.std.proofs.Common.{◌≡◌, ◌∙◌, ℕ, ◌+◌, ◌<◌, ◌^◌, List, length, drop, length-drop, get_or-drop, ap, sym, arith}
use Rattle.vm_facts.specs.Ahead.{AreAhead}
use Rattle.vm_facts.specs.Answers.{Answers}
use Rattle.vm_facts.specs.declared.memory.ByteRead.TheVariants as bytes
use Rattle.user_vax.specs.Operands.{past, back}

pub past-back : (address from : ℕ) → address < 2 ^ 32 → from < 2 ^ 32 → past from (back address from) ≡ address
past-back address from small low = grind arith

past-past_any : (from at more : ℕ) → past (past from at) more ≡ past from (at + more)
past-past_any from at more = grind arith

-- from one of them on, they lie together from its address on
pub ahead_within : (memory : Answers) (address from at : ℕ) (held : List ℕ) → AreAhead memory from held → past from at ≡ address
    → AreAhead memory address (drop at held)
ahead_within memory address from at held ahead place j below =
    let within : at + j < length held = omega (arith, below, length-drop at held) in
    ap (λ (a : ℕ). memory.read (past a j)) (sym place)
    ∙ ap memory.read (past-past_any from at j)
    ∙ ahead (at + j) within
    ∙ ap (λ (byte : ℕ). bytes.Is byte) (sym (get_or-drop at held j 0))
