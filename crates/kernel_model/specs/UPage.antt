-- The u page of a process that is out: its registers, its codes and the sizes of its space.
use Rattle.std.specs.Prelude.{◌≡◌, ℕ, ◌+◌, ◌*◌, ◌==◌, Bool, true, false, List, [], ◌∷◌, ◌++◌, length, replicate, flat_map, ◌/◌, ◌%◌, ◌^◌, suc, zero, get_or, ◌<◌}
use Rattle.vm_facts.specs.declared.regs.Regs.{Regs}
use Rattle.page_model.specs.AoutImageImage.{word_bytes}

-- The u page.

-- the weight of a condition code that is set; 0 where it is clear
abbrev pub bit_of : Bool → ℕ → ℕ
bit_of true weight = weight
bit_of false weight = 0

-- the four condition codes as one number, with the weights 8, 4, 2 and 1 for N, Z, V and C
abbrev pub codes_of : Regs → ℕ
codes_of regs = bit_of regs.n 8 + bit_of regs.z 4 + bit_of regs.v 2 + bit_of regs.c 1

-- the registers, the codes, and the sizes of the space, all as longwords; the rest is 0
unfoldable pub u_page : Regs → ℕ → ℕ → List ℕ
u_page regs data_pages stack_pages =
    flat_map word_bytes (regs.r ++ codes_of regs ∷ data_pages ∷ stack_pages ∷ []) ++ replicate 948 0

-- so many longwords from the front of some bytes
abbrev pub longwords : ℕ → List ℕ → List ℕ
longwords zero bytes = []
longwords (suc n) (a ∷ b ∷ c ∷ d ∷ bytes) = (a + 2 ^ 8 * b + 2 ^ 16 * c + 2 ^ 24 * d) ∷ longwords n bytes
longwords (suc n) _ = []

-- a code, by its weight
abbrev pub has_bit : ℕ → ℕ → Bool
has_bit codes weight = codes / weight % 2 == 1

-- sixteen registers, with the condition codes that one number has
abbrev pub regs_from : List ℕ → ℕ → Regs
regs_from r codes = record { r = r; n = has_bit codes 8; z = has_bit codes 4; v = has_bit codes 2; c = has_bit codes 1 }

-- the registers that a u page holds
abbrev pub regs_in : List ℕ → Regs
regs_in bytes = regs_from (longwords 16 bytes) (get_or (longwords 17 bytes) 16 0)

-- all are longwords
abbrev pub AllLongwords : List ℕ → Type 0
AllLongwords [] = Unit {0}
AllLongwords (w ∷ ws) = (w < 2 ^ 32) × AllLongwords ws

-- sixteen registers, each a longword
pub record AreRegs (regs : Regs) : Type 0 where
  pub count : length regs.r ≡ 16
  pub each : AllLongwords regs.r
