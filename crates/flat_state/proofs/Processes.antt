-- The processes, where one gives way to another.
use Rattle.std.proofs.Common.{◌≡◌, ℕ, suc, ◌==◌, Bool, true, false, List, [], ◌∷◌, length, refl, sym, ap, ◌∙◌, arith}
use Rattle.std.proofs.lemmas.Bool.Decides.{nat_tests}
use Rattle.flat_state.specs.Space.{Space}
use Rattle.flat_state.specs.Flat.{Process}
use Rattle.flat_state.specs.Change.{replaced, replaced_by, returned, returned_by, lends_to}

pub length-replaced : (ps : List Process) (p : Process) → length (replaced ps p) ≡ length ps
unfolding replaced
length-replaced [] p = refl
length-replaced (q ∷ ps) p = go (q.pid == p.pid) (length-replaced ps p)
  where
    go : (b : Bool) → length (replaced ps p) ≡ length ps → length (replaced_by b p q ps (replaced ps p)) ≡ suc (length ps)
    go true ih = refl
    go false ih = ap suc ih

pub length-returned : (pid : ℕ) (s : Space) (ps : List Process) → length (returned pid s ps) ≡ length ps
unfolding returned
length-returned pid s [] = refl
length-returned pid s (q ∷ ps) = go (lends_to pid q.holding) (length-returned pid s ps)
  where
    go : (b : Bool) → length (returned pid s ps) ≡ length ps → length (returned_by b s q ps (returned pid s ps)) ≡ suc (length ps)
    go true ih = refl
    go false ih = ap suc ih

-- the later one stays of two that take the place of their number
pub replaced_twice : (ps : List Process) (p q : Process) → p.pid ≡ q.pid → replaced (replaced ps p) q ≡ replaced ps q
unfolding replaced
replaced_twice [] p q same = refl
replaced_twice (x ∷ xs) p q same = go (x.pid == p.pid) refl (replaced_twice xs p q same)
  where
    go : (b : Bool) → (x.pid == p.pid) ≡ b → replaced (replaced xs p) q ≡ replaced xs q
        → replaced (replaced_by b p x xs (replaced xs p)) q ≡ replaced_by (x.pid == q.pid) q x xs (replaced xs q)
    go true e more =
        let here : (p.pid == q.pid) ≡ true = grind (arith, nat_tests) in
        let there : (x.pid == q.pid) ≡ true = grind (arith, nat_tests) in
        ap (λ (b : Bool). replaced_by b q p xs (replaced xs q)) here ∙ sym (ap (λ (b : Bool). replaced_by b q x xs (replaced xs q)) there)
    go false e more =
        let there : (x.pid == q.pid) ≡ false = grind (arith, nat_tests) in
        ap (λ (b : Bool). replaced_by b q x (replaced xs p) (replaced (replaced xs p) q)) there
        ∙ ap (λ (ys : List Process). x ∷ ys) more ∙ sym (ap (λ (b : Bool). replaced_by b q x xs (replaced xs q)) there)
