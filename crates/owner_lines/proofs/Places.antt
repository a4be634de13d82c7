-- The places on the free list that the lines tell.
use Rattle.std.proofs.Common.{◌≡◌, ◌≢◌, ℕ, zero, suc, ◌+◌, ◌≤◌, List, [], ◌∷◌, length, Some, None, refl, sym, ap, ◌∙◌, subst, inl, inr, arith}
use Rattle.std.proofs.lemmas.Bool.{cases_eq}
use Rattle.std.proofs.lemmas.Option.{same_Some, slice_get_cases}
use Rattle.vm_facts.specs.Lists.{times}
use Rattle.vm_facts.proofs.Lists.{times-append, times_head, times_other}
use Rattle.page_model.specs.Frames.{count_up}
use Rattle.page_model.specs.Placement.{Placement}
use Rattle.page_model.specs.Ownership.{OwnsFrames}
use Rattle.page_laws.proofs.Starts.{count_below, count_once}
use Rattle.owner_lines.specs.Lines.{Said, Free, Used, InTransfer, FrameLine, place_told, places_told, frames_told}
use Rattle.owner_lines.specs.Told.{in_place, IsSo, AreSo}
use Rattle.owner_lines.proofs.PlacesInARow.{row_above, stands, same_place}

same_one : (n k f g : ℕ) → n ≡ k → f ≡ g → times k (n ∷ []) ≡ times g (f ∷ [])
same_one n k f g a b = subst (λ (y : ℕ). times y (n ∷ []) ≡ times g (f ∷ [])) a (subst (λ (y : ℕ). times n (n ∷ []) ≡ times y (f ∷ [])) b (times_head n [] ∙ sym (times_head f [])))

place_of : (xs : List ℕ) (n k f : ℕ) → times f xs ≤ 1 → in_place xs n ≡ Some f → in_place xs k ≡ Some f → n ≡ k
place_of xs zero k f few a b = absurd cc
place_of xs (suc n) zero f few a b = absurd cc
place_of xs (suc n) (suc k) f few a b = ap suc (same_place xs n k f few a b)

other_frame : (p : Placement) (f g : ℕ) → times g p.free ≡ 1 → times f p.free ≡ 0 → f ≢ g
other_frame p f g once off e = let off_g : times g p.free ≡ 0 = subst (λ (y : ℕ). times y p.free ≡ 0) e off in omega (arith, once, off_g)

-- the place of a free frame is told where the frame's line stands
told_here : (p : Placement) (k g f : ℕ) (s : Said) → times g p.free ≡ 1 → in_place p.free k ≡ Some g → IsSo p f s → times k (place_told s) ≡ times g (f ∷ [])
told_here p k g f (Free n page) once at so = elim (cases_eq n k) [
  | inl e ↦ same_one n k f g e (same_Some f g (sym so.place ∙ ap (in_place p.free) e ∙ at))
  | inr ne ↦
      let other : f ≢ g = λ e. ne (place_of p.free n k g (omega (arith, once)) (so.place ∙ ap (λ (y : ℕ). Some y) e) at) in
      times_other k n [] ne ∙ sym (times_other g f [] other)
]
told_here p k g f (Used valid q dirty) once at so = sym (times_other g f [] (other_frame p f g once so.off))
told_here p k g f (InTransfer write n q) once at so = sym (times_other g f [] (other_frame p f g once so.off))

told_there : (p : Placement) (k g : ℕ) (xs : List FrameLine) → times g p.free ≡ 1 → in_place p.free k ≡ Some g → AreSo p xs
    → times k (places_told xs) ≡ times g (frames_told xs)
told_there p k g [] once at so = refl
told_there p k g (x ∷ xs) once at so =
    let split = times-append k (place_told x.said) (places_told xs) in
    let parted = times-append g (x.frame ∷ []) (frames_told xs) in
    let here = told_here p k g x.frame x.said once at so.0 in
    let rest = told_there p k g xs once at so.1 in
    split ∙ (let e : times k (place_told x.said) + times k (places_told xs) ≡ times g (x.frame ∷ []) + times g (frames_told xs) = omega (arith, here, rest) in e) ∙ sym parted

-- where no frame stands, none is told
none_here : (p : Placement) (k f : ℕ) (s : Said) → in_place p.free k ≡ None → IsSo p f s → times k (place_told s) ≡ 0
none_here p k f (Free n page) at so = times_other k n [] (λ e. absurd (let both : Some f ≡ None = sym so.place ∙ ap (in_place p.free) e ∙ at in cc))
none_here p k f (Used valid q dirty) at so = refl
none_here p k f (InTransfer write n q) at so = refl

none_there : (p : Placement) (k : ℕ) (xs : List FrameLine) → in_place p.free k ≡ None → AreSo p xs → times k (places_told xs) ≡ 0
none_there p k [] at so = refl
none_there p k (x ∷ xs) at so =
    let split = times-append k (place_told x.said) (places_told xs) in
    let here = none_here p k x.frame x.said at so.0 in
    let rest = none_there p k xs at so.1 in
    omega (arith, split, here, rest)

pub places_once : (p : Placement) (xs : List FrameLine) → OwnsFrames p → frames_told xs ≡ count_up 1 (length p.holds) → AreSo p xs
    → (k : ℕ) → times k (places_told xs) ≡ times k (count_up 1 (length p.free))
places_once p xs owns frames so zero = none_there p 0 xs refl so ∙ sym (count_below 0 1 (length p.free) (omega arith))
places_once p xs owns frames so (suc i) = elim ((slice_get_cases p.free i).1) [
  | inl there ↦
      let g = there.0 in
      let some = stands p.free i g there.2 in
      let w = owns.frames g some in
      let once = owns.once g w in
      let lone : times g p.free ≡ 1 = omega (arith, once, some) in
      let low = w.0 in
      let high = w.1 in
      let short = there.1 in
      told_there p (suc i) g xs lone there.2 so
      ∙ ap (times g) frames
      ∙ count_once g 1 (length p.holds) (omega (arith, low)) (omega (arith, high))
      ∙ sym (count_once (suc i) 1 (length p.free) (omega arith) (omega (arith, short)))
  | inr past ↦ let long = past.0 in none_there p (suc i) xs past.1 so ∙ sym (row_above (suc i) 1 (length p.free) (omega (arith, long)))
]
