-- Journals with one entry more, and the last entry of a journal.
use Rattle.std.proofs.Common.{◌≡◌, ℕ, suc, ◌+◌, List, [], ◌∷◌, ◌++◌, length, refl, sym, ap, ◌∙◌, arith}
use Rattle.std.proofs.lemmas.List.{length-append}
use Rattle.std.proofs.Math.Seq.{drop-append_seam}
use Rattle.std.specs.Prelude.{drop, slice_get, ◌-◌, Some, None}
use Rattle.vm_facts.specs.declared.entry.Entry.{Entry}
use Rattle.page_laws.specs.Spans.{moves}
use Rattle.vm_core.specs.LastMoves.{last_moves}
use Rattle.film_core.specs.Marks.{last_entry}
use Rattle.run_laws.proofs.LongerJournals.{Behind}

-- the other journal has one entry more
pub one_behind : (journal more : List Entry) → Behind journal more → length more ≡ suc (length journal) → (x : Entry) × (more ≡ journal ++ x ∷ [])
one_behind journal more (x, [], e) one = (x, e)
one_behind journal more (x, y ∷ rest, e) one =
    absurd (let same = ap (λ (js : List Entry). length js) e in let both = length-append journal (x ∷ y ∷ rest) in omega (arith, same, both, one))

-- what stands behind one list is one list
pub same_behind : (xs ys zs : List Entry) → xs ++ ys ≡ xs ++ zs → ys ≡ zs
same_behind xs ys zs e = sym (drop-append_seam xs ys) ∙ ap (drop (length xs)) e ∙ drop-append_seam xs zs

-- The last entry.

pub last_got : (es : List Entry) → slice_get es (length es - 1) ≡ last_entry es
last_got [] = refl
last_got (e ∷ []) = ap (slice_get (e ∷ [])) (let z : length (e ∷ []) - 1 ≡ 0 = omega arith in z)
last_got (e ∷ f ∷ es) = ap (slice_get (e ∷ f ∷ es)) (let z : length (e ∷ f ∷ es) - 1 ≡ suc (length (f ∷ es) - 1) = omega arith in z) ∙ last_got (f ∷ es)

pub last_behind : (es : List Entry) (e : Entry) → last_entry (es ++ e ∷ []) ≡ Some e
last_behind [] e = refl
last_behind (f ∷ []) e = refl
last_behind (f ∷ g ∷ es) e = last_behind (g ∷ es) e

pub last_is : (es : List Entry) (e : Entry) → Some e ≡ last_entry es → last_moves es ≡ moves e
last_is [] e h = absurd cc
last_is (f ∷ []) e h = ap moves (let z : f ≡ e = cc in z)
last_is (f ∷ g ∷ es) e h = last_is (g ∷ es) e h

pub last_none : (es : List Entry) → None ≡ last_entry es → last_moves es ≡ 0
last_none [] h = refl
last_none (f ∷ []) h = absurd cc
last_none (f ∷ g ∷ es) h = last_none (g ∷ es) h
