-- The text table where one space less shares a text.
use Rattle.std.proofs.Common.{◌≡◌, ◌≢◌, inl, inr, ℕ, zero, suc, ◌-◌, ◌<◌, ◌≤◌, Bool, false, cond, List, length, replicate, get_or, refl, ap, ◌∙◌, arith}
use Rattle.std.proofs.lemmas.Bool.{cases_lt, eq-eqb, ne_eqb}
use Rattle.std.proofs.lemmas.List.{get_or-set_same, get_or-set_other, get_or_past}
use Rattle.text_table.specs.Texts.{Text as SharedText, no_pages, unused_text, text_numbered, table_with_text, is_saved, left}

-- an image that is shared has its place in the table
in_table : (ts : List SharedText) (i : ℕ) → 0 < (text_numbered ts i).sharers → i - 1 < length ts
in_table ts i l = elim (cases_lt (i - 1) (length ts)) [
  | inl m ↦ m
  | inr m ↦ absurd (let e : (text_numbered ts i).sharers ≡ 0 = ap (λ (x : SharedText). x.sharers) (get_or_past ts (i - 1) unused_text m) in omega arith)
]

pub left_same : (ts : List SharedText) (i : ℕ) (x : SharedText) → 0 < (text_numbered ts i).sharers → text_numbered (table_with_text ts i x) i ≡ x
left_same ts i x l = get_or-set_same ts (i - 1) x unused_text (in_table ts i l)

pub left_other : (ts : List SharedText) (i j : ℕ) (x : SharedText) → 1 ≤ i → 1 ≤ j → j ≢ i → text_numbered (table_with_text ts i x) j ≡ text_numbered ts j
left_other ts i j x a b n = get_or-set_other ts (i - 1) (j - 1) x unused_text (λ e. n (omega arith))

none_at : (n v : ℕ) → get_or (replicate n false) v false ≡ false
none_at zero v = refl
none_at (suc n) zero = refl
none_at (suc n) (suc v) = none_at n v

none_saved : (v : ℕ) → get_or no_pages v false ≡ false
unfolding no_pages
none_saved v = none_at 2048 v

-- the last one leaves nothing saved, and another leaves all as it was
pub last_saved : (x : SharedText) (v : ℕ) → x.sharers ≡ 1 → is_saved (left x) v ≡ false
last_saved x v e = ap (λ (b : Bool). get_or (cond b no_pages x.saved) v false) (eq-eqb x.sharers 1 e) ∙ none_saved v

pub others_saved : (x : SharedText) (v : ℕ) → x.sharers ≢ 1 → is_saved (left x) v ≡ is_saved x v
others_saved x v n = ap (λ (b : Bool). get_or (cond b no_pages x.saved) v false) (ne_eqb x.sharers 1 n)
