-- A page that has its place keeps it.
use Rattle.std.proofs.Common.{◌≡◌, ℕ, zero, suc, List, [], ◌∷◌, map, set, Option, Some, None, slice_get, refl, sym, ap, ◌∙◌, subst, inl, inr}
use Rattle.std.proofs.lemmas.Bool.{cases_eq}
use Rattle.vm_facts.specs.declared.page.Page.{Page}
use Rattle.vm_facts.specs.declared.page.Page.TheVariants.{Data, Stack, Text}
use Rattle.vax_pte.specs.declared.Place.{Place}
use Rattle.table_steps.specs.Space.{Places, place_in, with_place}
use Rattle.flat_state.specs.Numbers.{IsAbsent, AllDistinct}
use Rattle.page_model.specs.PageBytes.{IsWritable}
use Rattle.table_steps.specs.Rising.{sids_of}
use Rattle.table_steps.specs.KernelTablesShown.{or_else, entry_in, placed_by, placed}
use Rattle.table_steps.proofs.KernelTablesEntries.{data_hit, data_miss, stack_hit, stack_miss, placed_none, entry_none}
use Rattle.table_steps.proofs.Rising.{or_none, data_of_space, stack_of_space, IsOfSpace, absent_entry}

set_got : (xs : List Place) (v : ℕ) (x : Place) → slice_get xs v ≡ Some x → set xs v x ≡ xs
set_got [] v x e = refl
set_got (y ∷ ys) zero x e = let same : x ≡ y = cc in ap (λ (z : Place). z ∷ ys) same
set_got (y ∷ ys) (suc v) x e = ap (λ (zs : List Place). y ∷ zs) (set_got ys v x e)

with_kept : (s : Places) (q : Page) (place : Place) → IsWritable q → place_in s q ≡ Some place → with_place s q place ≡ s
with_kept s (Data sid v) place w h = elim (cases_eq sid s.sid) [
  | inl e ↦ ap (λ (ps : List Place). record s { «data» = ps }) (set_got s.data v place (sym (data_hit s sid v e) ∙ h))
  | inr n ↦ absurd (let k = sym (data_miss s sid v n) ∙ h in cc)
]
with_kept s (Stack sid v) place w h = elim (cases_eq sid s.sid) [
  | inl e ↦ ap (λ (ps : List Place). record s { stack = ps }) (set_got s.stack v place (sym (stack_hit s sid v e) ∙ h))
  | inr n ↦ absurd (let k = sym (stack_miss s sid v n) ∙ h in cc)
]
with_kept s (Text image v) place w h = absurd w

placed_kept : (s : Places) (q : Page) (place : Place) → IsWritable q → place_in s q ≡ Some place → placed q place s ≡ s
placed_kept s q place w h = ap (λ (o : Option Place). placed_by o q place s) h ∙ with_kept s q place w h

module _ (q : Page) (sid : ℕ) (of : IsOfSpace q sid) (w : IsWritable q) (place : Place) where
  kept_places : (ss : List Places) → AllDistinct (sids_of ss) → entry_in ss q ≡ Some place → map (placed q place) ss ≡ ss
  kept_places [] d e = refl
  kept_places (s ∷ ss) d e = elim (cases_eq s.sid sid) [
    | inl here ↦
        let gone : entry_in ss q ≡ None = absent_entry q sid of ss (subst (λ (n : ℕ). IsAbsent n (sids_of ss)) here d.0) in
        let found : place_in s q ≡ Some place = sym (or_none (place_in s q)) ∙ sym (ap (or_else (place_in s q)) gone) ∙ e in
        ap (λ (xs : List Places). placed q place s ∷ xs) (entry_none ss q place gone)
        ∙ ap (λ (x : Places). x ∷ ss) (placed_kept s q place w found)
    | inr other ↦
        ap (λ (x : Places). x ∷ map (placed q place) ss) (placed_none s q place (of s other))
        ∙ ap (λ (xs : List Places). s ∷ xs) (kept_places ss d.1 (sym (ap (λ (o : Option Place). or_else o (entry_in ss q)) (of s other)) ∙ e))
  ]

pub kept_entry : (ss : List Places) (q : Page) (place : Place) → IsWritable q → AllDistinct (sids_of ss) → entry_in ss q ≡ Some place
    → map (placed q place) ss ≡ ss
kept_entry ss (Data n v) place w d e = kept_places (Data n v) n (data_of_space n v) w place ss d e
kept_entry ss (Stack n v) place w d e = kept_places (Stack n v) n (stack_of_space n v) w place ss d e
kept_entry ss (Text i v) place w d e = absurd w
