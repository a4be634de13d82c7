-- A source has one program at most, and then no bad line.
use Rattle.std.proofs.Common.{◌≡◌, ◌≤◌, ◌+◌, ℕ, suc, List, ◌∷◌, length, Option, Some, None, sym, ap, ◌∙◌, length-append, arith}
use Rattle.vax_asm.specs.Lines.{items_in}
use Rattle.vax_asm.specs.Program.{labels_of, line_bytes, StandsAt, IsProgramOf, IsFirstBad}
use Rattle.vax_asm.proofs.Spelled.{some_same}

pub same_bytes : (source a b : List ℕ) (m n : ℕ) → IsProgramOf source a m → IsProgramOf source b n → a ≡ b
same_bytes source a b m n h k = some_same a b (sym h.whole ∙ k.whole)

pub same_bss : (source a b : List ℕ) (m n : ℕ) → IsProgramOf source a m → IsProgramOf source b n → m ≡ n
same_bss source a b m n h k = h.bss_is ∙ sym k.bss_is

some_none : (o : Option (List ℕ)) (x : List ℕ) → o ≡ Some x → o ≡ None → ⊥
some_none o x e f = cc

pub no_bad_line : (source bytes : List ℕ) (bss n : ℕ) → IsProgramOf source bytes bss → IsFirstBad source n → ⊥
no_bad_line source bytes bss n h bad =
    let stands : StandsAt (labels_of source) bad.before bad.bad bytes = h.each bad.before bad.bad bad.others bad.split in
    let lines : length (items_in source) ≡ length bad.before + length (bad.bad ∷ bad.others) = ap length bad.split ∙ length-append bad.before (bad.bad ∷ bad.others) in
    let few : n ≤ 4096 = few_enough n (length (items_in source)) (length bad.before) (length bad.others) bad.number h.few lines in
    some_none (line_bytes (labels_of source) bad.before bad.bad) stands.own stands.own_bytes (bad.fault few)
  where
    few_enough : (n all before others : ℕ) → n ≡ before + 1 → all ≤ 4096 → all ≡ before + suc others → n ≤ 4096
    few_enough n all before others e f g = omega (arith, e, f, g)
