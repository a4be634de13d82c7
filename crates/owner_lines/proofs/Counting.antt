-- Lists, one item after another.
use Rattle.std.proofs.Common.{◌≡◌, ℕ, zero, suc, ◌+◌, ◌-◌, ◌<◌, List, [], ◌∷◌, ◌++◌, drop, refl, ap, sym, ◌∙◌, arith}
use Rattle.std.specs.Prelude.{Option, Some, None, slice_get}
use Rattle.std.specs.List.{flat_map}
use Rattle.vm_facts.specs.declared.page.Page.{Page}
use Rattle.swap_book.specs.Holdings.{Holdings}
use Rattle.page_model.specs.Frames.{count_up}
use Rattle.page_model.specs.Placement.{Errand, Transfer, Due}
use Rattle.owner_lines.specs.declared.frames.Carried.{Carried}
use Rattle.owner_lines.specs.Owners.{transfers_from, due_line}
use Rattle.owner_lines.specs.Carried.{page_in, carried_by, carried_if, carried_from, transfer_if, due_if}

-- the numbers from one on, of which some are left
pub count_more : (f : ℕ → List ℕ) (i n : ℕ) → i < n → flat_map f (count_up (i + 1) (n - i)) ≡ f (i + 1) ++ flat_map f (count_up (i + 1 + 1) (n - (i + 1)))
count_more f i n h = let e : n - i ≡ suc (n - (i + 1)) = omega arith in ap (λ (k : ℕ). flat_map f (count_up (i + 1) k)) e

pub count_all : (f : ℕ → List ℕ) (i n : ℕ) → i ≡ n → flat_map f (count_up (i + 1) (n - i)) ≡ []
count_all f i n h = let e : n - i ≡ 0 = omega arith in ap (λ (k : ℕ). flat_map f (count_up (i + 1) k)) e

pub count_none : (f : ℕ → List ℕ) (n : ℕ) → flat_map f (count_up 1 n) ≡ flat_map f (count_up (0 + 1) (n - 0))
count_none f n = let e : n ≡ n - 0 = omega arith in ap (λ (k : ℕ). flat_map f (count_up 1 k)) e

drop_none : {A : Type 0} (n : ℕ) → drop n (let xs : List A = [] in xs) ≡ []
drop_none zero = refl
drop_none (suc n) = refl

drop_more : {A : Type 0} (x : A) (xs : List A) (i : ℕ) → drop (i + 1) xs ≡ drop (suc i + 1) (x ∷ xs)
drop_more {A} x xs i = let e : suc (i + 1) ≡ suc i + 1 = omega arith in ap (λ (k : ℕ). drop k (x ∷ xs)) e

-- the transfers from a place on
pub transfers_more : (hs : Holdings) (n i : ℕ) (ts : List Transfer)
    → transfers_from hs n (drop i ts) ≡ transfer_if hs n (slice_get ts i) ++ transfers_from hs (n + 1) (drop (i + 1) ts)
transfers_more hs n zero [] = refl
transfers_more hs n (suc i) [] = ap (transfers_from hs (n + 1)) (sym (drop_none (suc i + 1)))
transfers_more hs n zero (t ∷ ts) = refl
transfers_more hs n (suc i) (t ∷ ts) = transfers_more hs n i ts ∙ ap (λ (us : List Transfer). transfer_if hs n (slice_get ts i) ++ transfers_from hs (n + 1) us) (drop_more t ts i)

-- the pages that are due from a place on
pub dues_more : (i : ℕ) (ds : List Due) → flat_map due_line (drop i ds) ≡ due_if (slice_get ds i) ++ flat_map due_line (drop (i + 1) ds)
dues_more zero [] = refl
dues_more (suc i) [] = ap (flat_map due_line) (sym (drop_none (suc i + 1)))
dues_more zero (d ∷ ds) = refl
dues_more (suc i) (d ∷ ds) = dues_more i ds ∙ ap (λ (es : List Due). due_if (slice_get ds i) ++ flat_map due_line es) (drop_more d ds i)

-- the transfer at a place has the frame, or one from the next place on
carried_by_some : (n : ℕ) (e : Errand) (o : Option Page) (rest : Option Carried) (c : Carried) → carried_by n e o None ≡ Some c → carried_by n e o rest ≡ Some c
carried_by_some n e None rest c h = absurd cc
carried_by_some n e (Some q) rest c h = h

carried_by_none : (n : ℕ) (e : Errand) (o : Option Page) (rest : Option Carried) → carried_by n e o None ≡ None → carried_by n e o rest ≡ rest
carried_by_none n e None rest h = refl
carried_by_none n e (Some q) rest h = absurd cc

pub carried_here : (n f i : ℕ) (ts : List Transfer) (c : Carried) → Some c ≡ carried_if n f (slice_get ts i) → carried_from n f (drop i ts) ≡ Some c
carried_here n f zero [] c h = absurd cc
carried_here n f (suc i) [] c h = absurd cc
carried_here n f zero (t ∷ ts) c h = carried_by_some n t.errand (page_in f t.parts) (carried_from (n + 1) f ts) c (sym h)
carried_here n f (suc i) (t ∷ ts) c h = carried_here n f i ts c h

pub carried_behind : (n f i : ℕ) (ts : List Transfer) → None ≡ carried_if n f (slice_get ts i)
    → carried_from n f (drop i ts) ≡ carried_from (n + 1) f (drop (i + 1) ts)
carried_behind n f zero [] h = refl
carried_behind n f (suc i) [] h = ap (carried_from (n + 1) f) (sym (drop_none (suc i + 1)))
carried_behind n f zero (t ∷ ts) h = carried_by_none n t.errand (page_in f t.parts) (carried_from (n + 1) f ts) (sym h)
carried_behind n f (suc i) (t ∷ ts) h = carried_behind n f i ts h ∙ ap (carried_from (n + 1) f) (drop_more t ts i)
