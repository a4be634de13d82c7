-- Lists of frames: what they say of each, and how often a frame stands in them.
use Rattle.std.proofs.Common.{◌≡◌, ◌≢◌, ℕ, zero, suc, ◌<◌, ◌≤◌, List, [], ◌∷◌, ◌++◌, length, refl, ap, arith}
use Rattle.std.proofs.lemmas.Bool.Decides.{nat_tests}
use Rattle.std.proofs.lemmas.List.{length-set, get_or-set_same, get_or-set_other}
use Rattle.page_model.specs.Frames.{at_frame, set_frame}
use Rattle.vm_facts.proofs.Lists.{times_head, without_absent}
use Rattle.vm_facts.specs.Lists.{times, without}
use Rattle.page_model.specs.Placement.{Placement, Moving, flying}

pub times_one : (f : ℕ) → times f (f ∷ []) ≡ 1
times_one f = grind (arith, nat_tests)

pub times_one_other : (f g : ℕ) → g ≢ f → times g (f ∷ []) ≡ 0
times_one_other f g e = grind (arith, nat_tests)

pub without_hit : (f : ℕ) (xs : List ℕ) → without f (f ∷ xs) ≡ without f xs
without_hit f xs = grind (arith, nat_tests)

pub without_head : (f : ℕ) (xs : List ℕ) → times f (f ∷ xs) ≡ 1 → without f (f ∷ xs) ≡ xs
without_head f xs o = rw (without_hit f xs) (without_absent f xs (let h = times_head f xs in omega arith))

pub some_free : (p : Placement) (f : ℕ) (rest : List ℕ) → p.free ≡ f ∷ rest → 0 < times f p.free
some_free p f rest e = let h = times_head f rest in let k = ap (times f) e in omega arith

pub flying-append : (ms ns : List Moving) → flying (ms ++ ns) ≡ flying ms ++ flying ns
flying-append [] ns = refl
flying-append (m ∷ ms) ns = ap (λ (l : List ℕ). m.frame ∷ l) (flying-append ms ns)

-- Frames.

pub at_set_same : {A : Type 0} (xs : List A) (f : ℕ) (x d : A) → 0 < f → f ≤ length xs → at_frame (set_frame xs f x) f d ≡ x
at_set_same xs zero x d l m = absurd (omega arith)
at_set_same xs (suc n) x d l m = get_or-set_same xs n x d (omega arith)

pub at_set_other : {A : Type 0} (xs : List A) (f g : ℕ) (x d : A) → g ≢ f → at_frame (set_frame xs f x) g d ≡ at_frame xs g d
at_set_other xs zero g x d n = refl
at_set_other xs (suc f) zero x d n = refl
at_set_other xs (suc f) (suc g) x d n = get_or-set_other xs f g x d (λ e. n (ap suc e))

pub length_set_frame : {A : Type 0} (xs : List A) (f : ℕ) (x : A) → length (set_frame xs f x) ≡ length xs
length_set_frame xs zero x = refl
length_set_frame xs (suc f) x = length-set xs f x
