-- Forcing a frame and serving a page, case by case.
use Rattle.std.proofs.Common.{◌≡◌, ◌⊎◌, inl, inr, ℕ, Bool, true, false, List, [], ◌∷◌, length, ◌<◌, None, refl, sym, ap, ◌∙◌, subst, arith}
use Rattle.vm_facts.specs.declared.page.Page.{Page}
use Rattle.vm_facts.specs.declared.page.PageState.{PageState}
use Rattle.vm_facts.specs.declared.page.PageState.TheVariants.{Unfilled, Valid, Invalid, Coming, Going, OnSwap}
use Rattle.vm_facts.specs.declared.entry.Entry.{Entry}
use Rattle.vm_facts.specs.declared.entry.Entry.TheVariants as entries
use Rattle.page_model.specs.Pages.{Filling, Zeros, OfImage, frame_of, is_valid}
use Rattle.page_model.specs.Placement.{Placement, Transfer, state_of, filling_of}
use Rattle.page_model.specs.Moves.{done}
use Rattle.page_model.specs.Hands.{hand_move}
use Rattle.page_model.specs.Reading.{read_entry, source_for}
use Rattle.page_model.specs.Place.{place_entry}
use Rattle.page_model.specs.Serve.{force, force_entry, is_full, Serving, NotNeeded, AtOnce, ByWaiting, serving, serving_by, entry_of_serving, serve_entry}
use Rattle.page_model.specs.Dues.{NotDue}
use Rattle.page_model.specs.PageBytes.{ReadsFrom}
use Rattle.page_laws.proofs.Lists.Local.{none_some}

-- a unit that forces a frame moves the hands where nothing is in flight; else it completes the oldest transfer
pub force_cases : (P : Placement → Type 0) (p : Placement) (locked : List Page) → (p.transfers ≡ [] → P (hand_move p locked))
    → ((t : Transfer) (ts : List Transfer) → p.transfers ≡ t ∷ ts → P (done p)) → P (force p locked)
force_cases P p locked moves ends = go p.transfers refl
  where
    go : (ts : List Transfer) → p.transfers ≡ ts → P (place_entry locked 0 p (force_entry ts))
    go [] e = moves e
    go (t ∷ ts) e = ends t ts e

-- the entry of that unit
pub forcing_entry : (P : Entry → Type 0) → P (entries.Hands 1) → P entries.Done → (ts : List Transfer) → P (force_entry ts)
forcing_entry P moves ends [] = moves
forcing_entry P moves ends (t ∷ ts) = ends

-- a page with no frame that is read: it is on swap, or it was never filled and its image's file has it
pub data IsRead (p : Placement) (q : Page) : Type 0 where
  IsSwapped : state_of p q ≡ OnSwap → IsRead p q
  IsInFile : state_of p q ≡ Unfilled → filling_of p q ≡ OfImage → IsRead p q

pub read_frameless : (p : Placement) (q : Page) → IsRead p q → frame_of (state_of p q) ≡ None
read_frameless p q (IsSwapped e) = ap frame_of e
read_frameless p q (IsInFile e x) = ap frame_of e

-- so its read is from where it is
pub read_source : (p : Placement) (q : Page) → NotDue p.due q → IsRead p q → ReadsFrom p (source_for (state_of p q)) q q
read_source p q due (IsSwapped e) = subst (λ (s : PageState). ReadsFrom p (source_for s) q q) (sym e) e
read_source p q due (IsInFile e x) = subst (λ (s : PageState). ReadsFrom p (source_for s) q q) (sym e) (e, x, due, λ w. refl)

-- What there is to do for a page, with why: its page is valid, invalid, or in flight; it has no frame and none is free; or one
-- is free, and the page is filled with zeros, or read, where 16 transfers are in flight or fewer.
pub serving_cases : (P : Serving → Type 0) (p : Placement) (q : Page)
    → ((f : ℕ) → state_of p q ≡ Valid f → P NotNeeded)
    → ((f : ℕ) → state_of p q ≡ Invalid f → P (AtOnce (entries.Reclaim q)))
    → ((f : ℕ) → (state_of p q ≡ Coming f) ⊎ (state_of p q ≡ Going f) → P (ByWaiting entries.Done))
    → (frame_of (state_of p q) ≡ None → p.free ≡ [] → P (ByWaiting (force_entry p.transfers)))
    → ((f : ℕ) (fs : List ℕ) → p.free ≡ f ∷ fs → state_of p q ≡ Unfilled → filling_of p q ≡ Zeros → P (AtOnce (entries.Zero q)))
    → ((f : ℕ) (fs : List ℕ) → p.free ≡ f ∷ fs → IsRead p q → is_full p ≡ true → P (AtOnce entries.Done))
    → ((f : ℕ) (fs : List ℕ) → p.free ≡ f ∷ fs → IsRead p q → is_full p ≡ false → P (AtOnce (read_entry p q)))
    → P (serving p q)
serving_cases P p q valid invalid flies forces zeros full reads = go (state_of p q) refl p.free refl (filling_of p q) refl (is_full p) refl
  where
    go : (s : PageState) → state_of p q ≡ s → (free : List ℕ) → p.free ≡ free → (x : Filling) → filling_of p q ≡ x → (b : Bool) → is_full p ≡ b
        → P (serving_by p q s free x b)
    go (Valid f) s free l x i b n = valid f s
    go (Invalid f) s free l x i b n = invalid f s
    go (Coming f) s free l x i b n = flies f (inl s)
    go (Going f) s free l x i b n = flies f (inr s)
    go Unfilled s [] l x i b n = forces (ap frame_of s) l
    go Unfilled s (f ∷ fs) l Zeros i b n = zeros f fs l s i
    go Unfilled s (f ∷ fs) l OfImage i true n = full f fs l (IsInFile s i) n
    go Unfilled s (f ∷ fs) l OfImage i false n = reads f fs l (IsInFile s i) n
    go OnSwap s [] l x i b n = forces (ap frame_of s) l
    go OnSwap s (f ∷ fs) l x i true n = full f fs l (IsSwapped s) n
    go OnSwap s (f ∷ fs) l x i false n = reads f fs l (IsSwapped s) n

-- each entry that serving may have
pub serving_entries : (P : Entry → Type 0) (p : Placement) (q : Page) → P entries.Done → P (entries.Reclaim q) → P (entries.Hands 1)
    → P (entries.Zero q) → P (read_entry p q) → P (serve_entry p q)
serving_entries P p q ends reclaims moves fills reads = serving_cases (λ x. P (entry_of_serving x)) p q (λ f s. ends) (λ f s. reclaims) (λ f s. ends)
    (λ n l. forcing_entry P moves ends p.transfers) (λ f fs l s x. fills) (λ f fs l r b. ends) (λ f fs l r b. reads)

pub frameless_not : (s : PageState) → frame_of s ≡ None → is_valid s ≡ false
frameless_not (Valid f) e = none_some f (sym e)
frameless_not _ e = refl

-- one free frame at least
pub some_of : (p : Placement) (f : ℕ) (fs : List ℕ) → p.free ≡ f ∷ fs → 0 < length p.free
some_of p f fs e = let k = ap length e in omega arith

-- Rows of the table.

pub serving_valid : (p : Placement) (q : Page) → is_valid (state_of p q) ≡ true → serving p q ≡ NotNeeded
serving_valid p q v = go (state_of p q) v
  where
    go : (s : PageState) → is_valid s ≡ true → serving_by p q s p.free (filling_of p q) (is_full p) ≡ NotNeeded
    go (Valid f) v = refl
    go (Invalid f) v = absurd cc
    go (Coming f) v = absurd cc
    go (Going f) v = absurd cc
    go Unfilled v = absurd cc
    go OnSwap v = absurd cc

pub serving_invalid : (p : Placement) (q : Page) (f : ℕ) → state_of p q ≡ Invalid f → serving p q ≡ AtOnce (entries.Reclaim q)
serving_invalid p q f e = ap (λ (s : PageState). serving_by p q s p.free (filling_of p q) (is_full p)) e

pub serving_flies : (p : Placement) (q : Page) (f : ℕ) → (state_of p q ≡ Coming f) ⊎ (state_of p q ≡ Going f) → serving p q ≡ ByWaiting entries.Done
serving_flies p q f s = elim s [
  | inl e ↦ ap (λ (s : PageState). serving_by p q s p.free (filling_of p q) (is_full p)) e
  | inr e ↦ ap (λ (s : PageState). serving_by p q s p.free (filling_of p q) (is_full p)) e
]

pub serving_starved : (p : Placement) (q : Page) → frame_of (state_of p q) ≡ None → p.free ≡ [] → serving p q ≡ ByWaiting (force_entry p.transfers)
serving_starved p q n e = ap (λ (free : List ℕ). serving_by p q (state_of p q) free (filling_of p q) (is_full p)) e ∙ go (state_of p q) n
  where
    go : (s : PageState) → frame_of s ≡ None → serving_by p q s [] (filling_of p q) (is_full p) ≡ ByWaiting (force_entry p.transfers)
    go Unfilled n = refl
    go OnSwap n = refl
    go (Valid f) n = absurd cc
    go (Invalid f) n = absurd cc
    go (Coming f) n = absurd cc
    go (Going f) n = absurd cc
