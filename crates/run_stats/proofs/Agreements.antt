-- The notes of a run agree with its journal, and with its end.
use Rattle.std.proofs.Common.{◌≡◌, ◌≤◌, ◌+◌, ◌-◌, ℕ, suc, nat_lt, Bool, cond, List, [], ◌∷◌, ◌++◌, length, refl, sym, ap, ◌∙◌, append_assoc, subst, inl, inr, arith}
use Rattle.std.specs.List.{sum_by}
use Rattle.std.proofs.lemmas.Bool.{cases_Bool}
use Rattle.std.proofs.lemmas.Bool.Decides.{nat_tests}
use Rattle.std.proofs.lemmas.List.{append-nil}
use Rattle.std.proofs.lemmas.List.Sums.{sum_by-cons}
use Rattle.vm_facts.specs.declared.entry.Entry.{Entry}
use Rattle.vm_facts.specs.declared.entry.Entry.TheVariants as entries
use Rattle.flat_state.specs.Flat.{Inputs}
use Rattle.run_model.specs.State.{State}
use Rattle.run_stats.specs.declared.look.Look.{Look}
use Rattle.run_stats.specs.declared.noting.Note.{Note}
use Rattle.run_stats.specs.declared.heads.PagingHead.TheVariants.{ZeroFills, Reclaims, Copies}
use Rattle.run_stats.specs.declared.heads.RunHead.TheVariants.{HandMoves}
use Rattle.run_stats.specs.Looks.{look_at}
use Rattle.run_stats.specs.Notes.{what_of, note_of}
use Rattle.run_stats.specs.Story.{IsNoted, AreNoted}
use Rattle.run_stats.specs.Amounts.{filled_with_zeros, copied_from_parent, reclaimed, hand_moves, paging_amount, run_amount, larger, smaller, most_held, least_free}
use Rattle.run_stats.specs.Agreeing.{zero_fills, reclaims, copies, moves, last_look, AgreesWith, EndsAt}

-- One entry.

one_filled : (e : Entry) → filled_with_zeros (what_of e) ≡ zero_fills e
one_filled (entries.Zero q) = refl
one_filled _ = refl

one_found : (e : Entry) → reclaimed (what_of e) ≡ reclaims e
one_found (entries.Reclaim q) = refl
one_found _ = refl

one_copied : (e : Entry) → copied_from_parent (what_of e) ≡ copies e
one_copied (entries.Copy q) = refl
one_copied _ = refl

one_moved : (e : Entry) → hand_moves (what_of e) ≡ moves e
one_moved (entries.Hands n) = refl
one_moved _ = refl

-- a sum over notes, and one over their entries, go on alike
sum_on : (f : Note → ℕ) (g : Entry → ℕ) (x : Note) (xs : List Note) (e : Entry) (es : List Entry) → f x ≡ g e → sum_by f xs ≡ sum_by g es
    → sum_by f (x ∷ xs) ≡ sum_by g (e ∷ es)
sum_on f g x xs e es one more =
    let a = sum_by-cons f x xs in
    let b = sum_by-cons g e es in
    omega (arith, a, b, one, more)

-- All entries.

pub agrees : (A : Inputs) (s t : State) (notes : List Note) → AreNoted A s notes t → AgreesWith s t notes
agrees A s t [] same = record {
  entries = [];
  journal = ap (λ (z : State). z.journal) (sym same) ∙ sym (append-nil s.journal);
  as_many = refl;
  fills = refl;
  found = refl;
  copied = refl;
  moved = refl;
}
agrees A s t (x ∷ xs) all =
    let mid : State = all.0 in
    let one : IsNoted A s x mid = all.1 in
    let more : AgreesWith mid t xs = agrees A mid t xs all.2 in
    let e : Entry = one.entry in
    record {
      entries = e ∷ more.entries;
      journal = more.journal ∙ ap (λ (es : List Entry). es ++ more.entries) one.more ∙ append_assoc s.journal (e ∷ []) more.entries;
      as_many = ap suc more.as_many;
      fills = sum_on (paging_amount ZeroFills) zero_fills x xs e more.entries (ap (paging_amount ZeroFills) one.note ∙ one_filled e) more.fills;
      found = sum_on (paging_amount Reclaims) reclaims x xs e more.entries (ap (paging_amount Reclaims) one.note ∙ one_found e) more.found;
      copied = sum_on (paging_amount Copies) copies x xs e more.entries (ap (paging_amount Copies) one.note ∙ one_copied e) more.copied;
      moved = sum_on (run_amount HandMoves) moves x xs e more.entries (ap (run_amount HandMoves) one.note ∙ one_moved e) more.moved;
    }

-- The end.

larger_second : (a b : ℕ) → b ≤ larger a b
larger_second a b = elim (cases_Bool (nat_lt a b)) [
  | inl below ↦ subst (λ (n : ℕ). b ≤ n) (sym (ap (λ (c : Bool). cond c b a) below)) (omega arith)
  | inr above ↦ subst (λ (n : ℕ). b ≤ n) (sym (ap (λ (c : Bool). cond c b a) above)) (grind (arith, nat_tests))
]

smaller_second : (a b : ℕ) → smaller a b ≤ b
smaller_second a b = elim (cases_Bool (nat_lt b a)) [
  | inl below ↦ subst (λ (n : ℕ). n ≤ b) (sym (ap (λ (c : Bool). cond c b a) below)) (omega arith)
  | inr above ↦ subst (λ (n : ℕ). n ≤ b) (sym (ap (λ (c : Bool). cond c b a) above)) (grind (arith, nat_tests))
]

most_last : (first : Look) (n : ℕ) (xs : List Note) → first.held ≤ n → (last_look first xs).held ≤ most_held n xs
most_last first n [] h = h
most_last first n (x ∷ xs) h = most_last x.after (larger n x.after.held) xs (larger_second n x.after.held)

least_last : (first : Look) (n : ℕ) (xs : List Note) → n ≤ first.free → least_free n xs ≤ (last_look first xs).free
least_last first n [] h = h
least_last first n (x ∷ xs) h = least_last x.after (smaller n x.after.free) xs (smaller_second n x.after.free)

last_there : (A : Inputs) (s t : State) (notes : List Note) → AreNoted A s notes t → last_look (look_at s) notes ≡ look_at t
last_there A s t [] same = ap look_at same
last_there A s t (x ∷ xs) all =
    let one : IsNoted A s x all.0 = all.1 in
    ap (λ (y : Note). last_look y.after xs) one.note ∙ last_there A all.0 t xs all.2

pub ends_at : (A : Inputs) (s t : State) (notes : List Note) → AreNoted A s notes t → EndsAt s t notes
ends_at A s t notes all =
    let last : last_look (look_at s) notes ≡ look_at t = last_there A s t notes all in
    record {
      last = last;
      owners = refl;
      most = subst (λ (x : Look). x.held ≤ most_held (look_at s).held notes) last (most_last (look_at s) (look_at s).held notes (omega arith));
      least = subst (λ (x : Look). least_free (look_at s).free notes ≤ x.free) last (least_last (look_at s) (look_at s).free notes (omega arith));
    }
