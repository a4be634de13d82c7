-- The pages in flight: what joins them, and what leaves.
use Rattle.std.proofs.Common.{◌≡◌, ◌≢◌, inl, inr, ℕ, ◌+◌, ◌==◌, cond, List, [], ◌∷◌, ◌++◌, map, Some, refl, sym, ap, ◌∙◌, subst, append_assoc, arith}
use Rattle.std.proofs.lemmas.Bool.{cases_eq}
use Rattle.std.proofs.lemmas.Bool.Decides.{nat_tests}
use Rattle.std.proofs.lemmas.List.{append-nil}
use Rattle.vm_facts.specs.Lists.{times}
use Rattle.page_model.specs.Placement.{Transfer, Part, Errand, Moving, moving, parts_of, flying, errand_at}
use Rattle.page_model.specs.Steps.{join_last}
use Rattle.page_model.specs.Ownership.{Each}
use Rattle.page_laws.proofs.Lists.Frames.{flying-append}
use Rattle.vm_facts.proofs.Lists.{times-append, times_head}

pub map-append : {A B : Type 0} (f : A → B) (xs ys : List A) → map f (xs ++ ys) ≡ map f xs ++ map f ys
map-append f [] ys = refl
map-append f (x ∷ xs) ys = ap (λ l. f x ∷ l) (map-append f xs ys)

pub parts-append : (ts us : List Transfer) → parts_of (ts ++ us) ≡ parts_of ts ++ parts_of us
parts-append [] us = refl
parts-append (t ∷ ts) us = ap (λ l. map (moving t.errand) t.parts ++ l) (parts-append ts us) ∙ sym (append_assoc (map (moving t.errand) t.parts) (parts_of ts) (parts_of us))

-- a transfer that has no page yet adds none
pub parts_begin : (ts : List Transfer) (e : Errand) → parts_of (ts ++ record { errand = e; parts = [] } ∷ []) ≡ parts_of ts
parts_begin ts e = parts-append ts (record { errand = e; parts = [] } ∷ []) ∙ append-nil (parts_of ts)

-- the youngest transfer is for this
abbrev pub IsOpen : List Transfer → Errand → Type 0
IsOpen [] e = ⊥
IsOpen (t ∷ []) e = t.errand ≡ e
IsOpen (t ∷ u ∷ us) e = IsOpen (u ∷ us) e

pub begin_open : (ts : List Transfer) (e : Errand) → IsOpen (ts ++ record { errand = e; parts = [] } ∷ []) e
begin_open [] e = refl
begin_open (t ∷ []) e = refl
begin_open (t ∷ u ∷ us) e = begin_open (u ∷ us) e

pub join_open : (ts : List Transfer) (e : Errand) (x : Part) → IsOpen ts e → IsOpen (join_last ts e x) e
join_open [] e x o = absurd o
join_open (t ∷ []) e x o = o
join_open (t ∷ u ∷ []) e x o = o
join_open (t ∷ u ∷ w ∷ us) e x o = join_open (u ∷ w ∷ us) e x o

pub parts_join : (ts : List Transfer) (e : Errand) (x : Part) → IsOpen ts e → parts_of (join_last ts e x) ≡ parts_of ts ++ moving e x ∷ []
parts_join [] e x o = absurd o
parts_join (t ∷ []) e x o = ap (λ l. l ++ []) (map-append (moving t.errand) t.parts (x ∷ []) ∙ ap (λ (d : Errand). map (moving t.errand) t.parts ++ moving d x ∷ []) o)
    ∙ append-nil (map (moving t.errand) t.parts ++ moving e x ∷ []) ∙ ap (λ l. l ++ moving e x ∷ []) (sym (append-nil (map (moving t.errand) t.parts)))
parts_join (t ∷ u ∷ us) e x o = ap (λ l. map (moving t.errand) t.parts ++ l) (parts_join (u ∷ us) e x o)
    ∙ sym (append_assoc (map (moving t.errand) t.parts) (parts_of (u ∷ us)) (moving e x ∷ []))

-- Counting.

pub times_pushed : (g : ℕ) (ms : List Moving) (m : Moving) → times g (flying (ms ++ m ∷ [])) ≡ times g (flying ms) + times g (m.frame ∷ [])
times_pushed g ms m = ap (times g) (flying-append ms (m ∷ [])) ∙ times-append g (flying ms) (m.frame ∷ [])

pub times_joined : (g : ℕ) (ts : List Transfer) (e : Errand) (x : Part) → IsOpen ts e
    → times g (flying (parts_of (join_last ts e x))) ≡ times g (flying (parts_of ts)) + times g (x.frame ∷ [])
times_joined g ts e x o = ap (λ ms. times g (flying ms)) (parts_join ts e x o) ∙ times_pushed g (parts_of ts) (moving e x)

-- What is so of each.

pub all_imp : (P Q : Moving → Type 0) (ms : List Moving) → Each P ms → ((m : Moving) → P m → Q m) → Each Q ms
all_imp P Q [] h k = tt
all_imp P Q (m ∷ ms) h k = (k m h.0, all_imp P Q ms h.1 k)

pub all_push : (P : Moving → Type 0) (ms : List Moving) (u : Moving) → Each P ms → P u → Each P (ms ++ u ∷ [])
all_push P [] u h k = (k, tt)
all_push P (m ∷ ms) u h k = (h.0, all_push P ms u h.1 k)

-- the others have another frame
pub all_absent : (P Q : Moving → Type 0) (f : ℕ) (ms : List Moving) → times f (flying ms) ≡ 0 → Each P ms → ((m : Moving) → m.frame ≢ f → P m → Q m) → Each Q ms
all_absent P Q f [] z h k = tt
all_absent P Q f (m ∷ ms) z h k = (
  k m (λ e.
      absurd (let n : times f (f ∷ flying ms) ≡ 0 = subst (λ (x : ℕ). times f (x ∷ flying ms) ≡ 0) e z in omega (arith, times_head f (flying ms)))) h.0,
  all_absent P Q f ms (omega arith) h.1 k,
)

-- What a transfer is for, by its frame.

pub errand_head : (m : Moving) (ms : List Moving) → errand_at (m ∷ ms) m.frame ≡ Some m.errand
errand_head m ms = grind (arith, nat_tests)

pub errand_tail : (m : Moving) (ms : List Moving) (g : ℕ) → g ≢ m.frame → errand_at (m ∷ ms) g ≡ errand_at ms g
errand_tail m ms g n = grind (arith, nat_tests)

pub errand_push_other : (ms : List Moving) (m : Moving) (g : ℕ) → g ≢ m.frame → errand_at (ms ++ m ∷ []) g ≡ errand_at ms g
errand_push_other [] m g n = errand_tail m [] g n
errand_push_other (k ∷ ms) m g n = ap (λ o. cond (k.frame == g) (Some k.errand) o) (errand_push_other ms m g n)

pub errand_push_same : (ms : List Moving) (m : Moving) → times m.frame (flying ms) ≡ 0 → errand_at (ms ++ m ∷ []) m.frame ≡ Some m.errand
errand_push_same [] m z = errand_head m []
errand_push_same (k ∷ ms) m z = elim (cases_eq m.frame k.frame) [
  | inl e ↦ absurd (let n : times m.frame (m.frame ∷ flying ms) ≡ 0 = subst (λ (x : ℕ). times m.frame (x ∷ flying ms) ≡ 0) (sym e) z in omega (arith, times_head m.frame (flying ms)))
  | inr n ↦ errand_tail k (ms ++ m ∷ []) m.frame n ∙ errand_push_same ms m (omega arith)
]
