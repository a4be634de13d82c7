-- The lines of the load are within the ranges of a schedule's.
use Rattle.std.proofs.Common.{◌+◌, ◌/◌, ◌%◌, ◌==◌, ℕ, Bool, true, false, get_or, arith}
use Rattle.std.specs.Prelude.{if◌then◌else◌, nat_lt, All}
use Rattle.std.specs.List.{range_with_len}
use Rattle.std.proofs.lemmas.List.Elements.{All-map}
use Rattle.vm_facts.specs.declared.event.Event.TheVariants.{Dispatch, Interrupt, Hands, Swapper, Audit}
use Rattle.run_text.specs.Schedule.{IsInRanges}
use Rattle.load_maker.specs.Load.{drawn, line_drawn, load_lines}

case_in_ranges : (q : ℕ) (a b c d : Bool)
    → IsInRanges (if a then Dispatch (q + 1) 50 else (if b then Interrupt else (if c then Hands 16 else (if d then Swapper else Audit))))
case_in_ranges q true b c d = (omega arith, omega arith, omega arith)
case_in_ranges q false true c d = tt
case_in_ranges q false false true d = (omega arith, omega arith)
case_in_ranges q false false false true = tt
case_in_ranges q false false false false = tt

line_in_ranges : (x : ℕ) → IsInRanges (line_drawn x)
line_in_ranges x = let q : ℕ = x / 65536 % 16 in case_in_ranges q (nat_lt q 8) (nat_lt q 12) (nat_lt q 14) (q == 14)

pub are_in_ranges : (number : ℕ) → All IsInRanges (load_lines number)
unfolding load_lines
are_in_ranges number =
    All-map IsInRanges (λ (k : ℕ). line_drawn (drawn number k)) (range_with_len 1 200)
    (λ k d below. line_in_ranges (drawn number (get_or (range_with_len 1 200) k d)))
