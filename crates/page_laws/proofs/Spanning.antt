-- Units lengthen a journal by no more than they add.
use Rattle.std.proofs.Common.{◌≡◌, ℕ, ◌+◌, ◌==◌, ◌<◌, ◌≤◌, Bool, true, false, List, [], ◌∷◌, ◌++◌, length, refl, sym, ap, ◌∙◌, subst, arith}
use Rattle.std.proofs.lemmas.List.{length-append}
use Rattle.vm_facts.specs.declared.entry.Entry.{Entry}
use Rattle.vm_facts.specs.declared.entry.Entry.TheVariants as entries
use Rattle.page_model.specs.Journal.{join_by, join, append_after, append_joined, append, appended, IsPlain}
use Rattle.page_model.proofs.Joins.{append_plain}
use Rattle.page_laws.specs.Spans.{is_hands, ends_moving, adds, added, takings, moves_of}

-- how long a journal is with one more unit, and how it ends
pub record Joined (j k : List Entry) (u : Entry) : Type 0 where
  pub long : length k ≤ length j + adds (ends_moving j) u
  pub ends : ends_moving k ≡ is_hands u
  pub some : 0 < length k

ends_last : (j : List Entry) (u : Entry) → ends_moving (j ++ u ∷ []) ≡ is_hands u
ends_last [] u = refl
ends_last (e ∷ []) u = refl
ends_last (e ∷ f ∷ j) u = ends_last (f ∷ j) u

plain_joined : (j : List Entry) (u : Entry) → IsPlain u → adds (ends_moving j) u ≡ 1 → Joined j (append j u) u
plain_joined j u k n = subst (λ (x : List Entry). Joined j x u) (sym (append_plain j u k)) (record {
  long = let a = length-append j (u ∷ []) in omega arith;
  ends = ends_last j u;
  some = let a = length-append j (u ∷ []) in omega arith;
})

-- a last entry and one that joins it
abbrev JoinsLast : Entry → Type 0
JoinsLast u = (e : Entry) → Joined (e ∷ []) (join e u) u

after_joined : (u : Entry) → JoinsLast u → (e : Entry) (j : List Entry) → Joined (e ∷ j) (append_after e j u) u
after_joined u h e [] = h e
after_joined u h e (f ∷ j) = let k : Joined (f ∷ j) (append_after f j u) u = after_joined u h f j in record {
  long = let a = k.long in omega arith;
  ends = ends_on (append_after f j u) k.some ∙ k.ends;
  some = omega arith;
}
  where
    ends_on : (k : List Entry) → 0 < length k → ends_moving (e ∷ k) ≡ ends_moving k
    ends_on [] l = absurd (omega arith)
    ends_on (g ∷ k) l = refl

two : (e u : Entry) → adds (is_hands e) u ≡ 1 → Joined (e ∷ []) (e ∷ u ∷ []) u
two e u n = record { long = omega (arith, n); ends = refl; some = omega arith }

ran_joins : (q n : ℕ) → JoinsLast (entries.Ran q n)
ran_joins q n (entries.Ran p m) = by (p == q)
  where
    by : (b : Bool) → Joined (entries.Ran p m ∷ []) (join_by b p m q n) (entries.Ran q n)
    by true = record { long = omega arith; ends = refl; some = omega arith }
    by false = record { long = omega arith; ends = refl; some = omega arith }
ran_joins q n x = two x (entries.Ran q n) refl

hands_joins : (n : ℕ) → JoinsLast (entries.Hands n)
hands_joins n (entries.Hands m) = record { long = omega arith; ends = refl; some = omega arith }
hands_joins n x = two x (entries.Hands n) refl

last_joined : (u : Entry) → JoinsLast u → adds false u ≡ 1 → (j : List Entry) → Joined j (append_joined j u) u
last_joined u h n [] = record { long = omega (arith, n); ends = refl; some = omega arith }
last_joined u h n (e ∷ j) = after_joined u h e j

-- but for moves of the hands a unit adds one entry
pub adds_one : (b : Bool) (u : Entry) → is_hands u ≡ false → adds b u ≡ 1
adds_one b (entries.Hands n) h = absurd cc
adds_one true _ h = refl
adds_one false u h = refl

pub unit_joined : (j : List Entry) (u : Entry) → Joined j (append j u) u
unit_joined j (entries.Ran q n) = last_joined (entries.Ran q n) (ran_joins q n) refl j
unit_joined j (entries.Hands n) = last_joined (entries.Hands n) (hands_joins n) refl j
unit_joined j x = plain_joined j x tt (adds_one (ends_moving j) x refl)

pub units_added : (j us : List Entry) → length (appended j us) ≤ length j + added (ends_moving j) us
units_added j [] = omega arith
units_added j (u ∷ us) =
    let k : Joined j (append j u) u = unit_joined j u in
    let a = k.long in
    let b = units_added (append j u) us in
    let c = ap (λ (x : Bool). added x us) k.ends in
    omega arith

-- after a move of the hands, units add no more entries, and one fewer at most

adds_more : (b : Bool) (u : Entry) → (adds true u ≤ adds b u) × (adds b u ≤ 1)
adds_more b u = go (is_hands u) refl
  where
    hands : (b : Bool) (n : ℕ) → (adds true (entries.Hands n) ≤ adds b (entries.Hands n)) × (adds b (entries.Hands n) ≤ 1)
    hands true n = (omega arith, omega arith)
    hands false n = (omega arith, omega arith)

    is : (u : Entry) → is_hands u ≡ true → (adds true u ≤ adds b u) × (adds b u ≤ 1)
    is (entries.Hands n) h = hands b n
    is _ h = absurd cc

    go : (x : Bool) → is_hands u ≡ x → (adds true u ≤ adds b u) × (adds b u ≤ 1)
    go true h = is u h
    go false h = let i = adds_one true u h in let j = adds_one b u h in (omega arith, omega arith)

pub adds_most : (b : Bool) (u : Entry) → adds b u ≤ 1
adds_most b u = let k = adds_more b u in k.1

pub added_more : (b : Bool) (us : List Entry) → (added true us ≤ added b us) × (added b us ≤ added true us + 1)
added_more b [] = (omega arith, omega arith)
added_more b (u ∷ us) = let k = adds_more b u in (omega (arith, k.0), omega (arith, k.0, k.1))

pub added_both : (b : Bool) (us vs : List Entry) → added b (us ++ vs) ≤ added b us + added false vs
added_both b [] vs = omega (arith, go b)
  where
    go : (b : Bool) → added b vs ≤ added false vs
    go true = let l = added_more false vs in l.0
    go false = omega arith
added_both b (u ∷ us) vs = omega (arith, added_both (is_hands u) us vs)

pub added_apart : (b : Bool) (us vs : List Entry) → added b (us ++ vs) ≤ added b us + added true vs + 1
added_apart b us vs = let k = added_both b us vs in let l = added_more false vs in omega (arith, l.1)

-- with no premise on how the journal ends
pub units_added_false : (j us : List Entry) → length (appended j us) ≤ length j + added false us
units_added_false j us = let a = units_added j us in go (ends_moving j) a
  where
    go : (b : Bool) → length (appended j us) ≤ length j + added b us → length (appended j us) ≤ length j + added false us
    go true a = let l = added_more false us in omega (arith, l.0)
    go false a = a

pub takings_both : (us vs : List Entry) → takings (us ++ vs) ≡ takings us + takings vs
takings_both [] vs = omega arith
takings_both (u ∷ us) vs = let k = takings_both us vs in omega arith

pub moves_both : (us vs : List Entry) → moves_of (us ++ vs) ≡ moves_of us + moves_of vs
moves_both [] vs = omega arith
moves_both (u ∷ us) vs = let k = moves_both us vs in omega arith
