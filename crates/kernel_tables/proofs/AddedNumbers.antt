-- Spaces that stand by rising numbers are no more than the number above all; and how many share a text.
use Rattle.std.proofs.Common.{ℕ, suc, ◌+◌, ◌<◌, ◌≤◌, ◌==◌, Bool, true, false, cond, List, [], ◌∷◌, ◌++◌, length, map, sym, subst, arith}
use Rattle.std.proofs.lemmas.List.{length-map}
use Rattle.space_map.specs.Space.{Places}
use Rattle.text_table.specs.Texts.{text_numbered}
use Rattle.flat_state.specs.Numbers.{AllBelow}
use Rattle.page_model.specs.Pages.{SpacePages}
use Rattle.page_model.specs.Placement.{sharers_in}
use Rattle.kernel_tables.specs.Rising.{sids_of, IsBelowAll, AreRising}
use Rattle.kernel_tables.specs.Shown.{space_shown}
use Rattle.kernel_tables.specs.View.{Lists}
use Rattle.kernel_tables.specs.Tied.{Tied}
use Rattle.kernel_tables.proofs.AddedTied.{sids_last}

below_last : (m n : ℕ) (ns : List ℕ) → IsBelowAll m ns → m < n → IsBelowAll m (ns ++ n ∷ [])
below_last m n [] h l = (l, tt)
below_last m n (k ∷ ns) h l = (h.0, below_last m n ns h.1 l)

rising_last : (ns : List ℕ) (n : ℕ) → AreRising ns → AllBelow n ns → AreRising (ns ++ n ∷ [])
rising_last [] n h b = (tt, tt)
rising_last (m ∷ ns) n h b = (below_last m n ns h.0 b.0, rising_last ns n h.1 b.1)

pub spaces_rise : (ss : List Places) (s : Places) → AreRising (sids_of ss) → AllBelow s.sid (sids_of ss) → AreRising (sids_of (ss ++ s ∷ []))
spaces_rise ss s h b = subst AreRising (sym (sids_last ss s)) (rising_last (sids_of ss) s.sid h b)

-- rising numbers between two
few_between : (m n : ℕ) (ns : List ℕ) → IsBelowAll m ns → AreRising ns → AllBelow n ns → m < n → length ns + m < n
few_between m n [] h r b l = omega arith
few_between m n (k ∷ ns) h r b l = let f = few_between k n ns r.0 r.1 b.1 b.0 in let g = h.0 in omega arith

few_below : (n : ℕ) (ns : List ℕ) → AreRising ns → AllBelow n ns → length ns ≤ n
few_below n [] r b = omega arith
few_below n (m ∷ ns) r b = let f = few_between m n ns r.0 r.1 b.1 b.0 in omega arith

pub few_spaces : (ss : List Places) (n : ℕ) → AreRising (sids_of ss) → AllBelow n (sids_of ss) → length ss ≤ n
few_spaces ss n r b = let f = few_below n (sids_of ss) r b in let e = length-map ss (λ (s : Places). s.sid) in omega arith

few_sharers : (image : ℕ) (xs : List SpacePages) → sharers_in image xs ≤ length xs
few_sharers image [] = omega arith
few_sharers image (x ∷ xs) = go (x.image == image) (few_sharers image xs)
  where
    go : (b : Bool) → sharers_in image xs ≤ length xs → cond b 1 0 + sharers_in image xs ≤ suc (length xs)
    go true h = omega arith
    go false h = omega arith

-- the text table counts no more than there are spaces
pub few_share : (t : Lists) (image : ℕ) → Tied t → 1 ≤ image → image ≤ 16 → (text_numbered t.texts image).sharers ≤ length t.spaces
few_share t image tied l m =
    let c = tied.counted image l m in
    let f = few_sharers image (map (space_shown t.slots) t.spaces) in
    let e = length-map t.spaces (space_shown t.slots) in
    omega arith
