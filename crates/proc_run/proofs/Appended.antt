-- A stretch after a stretch is one stretch.
use Rattle.std.proofs.Common.{◌≡◌, ◌∙◌, ℕ, zero, suc, ◌+◌, List, [], ◌++◌, sym, ap, subst, append-nil, append_assoc, arith}
use Rattle.vm_facts.specs.Answers.{Answers, ByteWrite, written}
use Rattle.vm_facts.specs.declared.regs.Regs.{Regs}
use Rattle.user_vax.specs.Program.{run}
use Rattle.user_vax.specs.Instruction.{instruction, writes_of}
use Rattle.user_vax.specs.ArrayMemory.{written-append}
use Rattle.proc_run.specs.Stretch.{CarriesOn, Stretch}

-- so many more
abbrev further : ℕ → ℕ → ℕ
further n zero = n
further n (suc k) = suc (further n k)

further_is : (n k : ℕ) → further n k ≡ n + k
further_is n zero = omega arith
further_is n (suc k) = let before : further n k ≡ n + k = further_is n k in omega (arith, before)

-- the second one begins where the first one ends
module _ (memory mid : Answers) (before between : Regs) (n : ℕ) (xs : List ByteWrite) (is : mid ≡ written memory xs) (first : Stretch memory before n xs between) where
  counted : (k : ℕ) (ys : List ByteWrite) (after : Regs) → Stretch mid between k ys after → Stretch memory before (further n k) (xs ++ ys) after
  counted zero ys after h =
      subst (λ (zs : List ByteWrite). Stretch memory before n (xs ++ zs) after) (sym h.0)
      (subst (λ (zs : List ByteWrite). Stretch memory before n zs after) (sym (append-nil xs))
      (subst (λ (r : Regs). Stretch memory before n xs r) (sym h.1) first))
  counted (suc k) ys after h =
      let earlier : List ByteWrite = h.0 in
      let left : Regs = h.1 in
      let same : written mid earlier ≡ written memory (xs ++ earlier) = ap (λ (m : Answers). written m earlier) is ∙ sym (written-append memory xs earlier) in
      let later : (m : Answers) → List ByteWrite = λ m. writes_of (run m (instruction left)) in (
        xs ++ earlier,
        left,
        counted k earlier left h.2,
        subst (λ (m : Answers). CarriesOn m left after) same h.3,
        ap (λ (zs : List ByteWrite). xs ++ zs) (h.4 ∙ ap (λ (m : Answers). earlier ++ later m) same) ∙ sym (append_assoc xs earlier (later (written memory (xs ++ earlier)))),
      )

pub stretch_append : (memory mid : Answers) (before between after : Regs) (n k : ℕ) (xs ys : List ByteWrite) → mid ≡ written memory xs
    → Stretch memory before n xs between → Stretch mid between k ys after → Stretch memory before (n + k) (xs ++ ys) after
stretch_append memory mid before between after n k xs ys is first second =
    subst (λ (count : ℕ). Stretch memory before count (xs ++ ys) after) (further_is n k) (counted memory mid before between n xs is first k ys after second)
