-- The unit that serving asks for, its entry and its step say the same.
use Rattle.std.proofs.Common.{◌≡◌, ℕ, Bool, true, false, List, [], ◌∷◌, Some, None, inl, inr, refl, sym, ap, ◌∙◌}
use Rattle.vm_facts.specs.declared.page.Page.{Page}
use Rattle.vm_facts.specs.declared.entry.Entry.{Entry}
use Rattle.vm_facts.specs.declared.entry.Entry.TheVariants as entries
use Rattle.page_model.specs.Pages.{is_valid}
use Rattle.page_model.specs.Placement.{Placement, state_of}
use Rattle.page_model.specs.Place.{place_entry}
use Rattle.page_model.specs.Serve.{force_entry, serve_step, serve_entry, serve_unit, force, Serving, NotNeeded, AtOnce, ByWaiting, serving, unit_of_serving, entry_of_serving, after_serving}
use Rattle.page_laws.proofs.Moves.Cases.{serving_cases, forcing_entry, read_frameless, frameless_not}

-- where waiting is allowed, a page that isn't valid has a next unit, and it is the entry
pub now_unit : (p : Placement) (q : Page) → is_valid (state_of p q) ≡ false → serve_unit p q true ≡ Some (serve_entry p q)
now_unit p q n = serving_cases (λ x. unit_of_serving x true ≡ Some (entry_of_serving x)) p q (λ f s. absurd (let k : true ≡ false = sym (ap is_valid s) ∙ n in cc))
    (λ f s. refl) (λ f s. refl) (λ m e. refl) (λ f fs e s x. refl) (λ f fs e r b. refl) (λ f fs e r b. refl)

unit_entry : (x : Serving) (now : Bool) (e : Entry) → unit_of_serving x now ≡ Some e → e ≡ entry_of_serving x
unit_entry NotNeeded now e h = absurd cc
unit_entry (AtOnce d) now e h = cc
unit_entry (ByWaiting d) true e h = cc
unit_entry (ByWaiting d) false e h = absurd cc

-- whenever there is a unit, the page isn't valid, and the unit is the entry
pub unit_is : (p : Placement) (q : Page) (now : Bool) (e : Entry) → serve_unit p q now ≡ Some e → (is_valid (state_of p q) ≡ false) × (e ≡ serve_entry p q)
unit_is p q now e h = (
  serving_cases (λ x. unit_of_serving x now ≡ Some e → is_valid (state_of p q) ≡ false) p q (λ f s k. absurd cc) (λ f s k. ap is_valid s)
      (λ f s k. elim s [
        | inl i ↦ ap is_valid i
        | inr i ↦ ap is_valid i
      ])
      (λ n l k. frameless_not (state_of p q) n) (λ f fs l s x k. ap is_valid s) (λ f fs l r b k. frameless_not (state_of p q) (read_frameless p q r))
      (λ f fs l r b k. frameless_not (state_of p q) (read_frameless p q r)) h,
  unit_entry (serving p q) now e h,
)

-- a unit that forces a frame is the entry of that, wherever it stands in the journal
pub forcing_place : (locked : List Page) (at : ℕ) (p : Placement) → place_entry locked at p (force_entry p.transfers) ≡ force p locked
forcing_place locked at p = forcing_entry (λ e. place_entry locked at p e ≡ place_entry locked 0 p e) refl refl p.transfers

-- the step is what the entry does
pub entry_steps : (locked : List Page) (at : ℕ) (p : Placement) (q : Page) → is_valid (state_of p q) ≡ false
    → place_entry locked at p (serve_entry p q) ≡ serve_step p locked q
entry_steps locked at p q n = serving_cases (λ x. place_entry locked at p (entry_of_serving x) ≡ after_serving p locked x) p q
    (λ f s. absurd (let k : true ≡ false = sym (ap is_valid s) ∙ n in cc)) (λ f s. refl) (λ f s. refl)
    (λ m e. forcing_place locked at p) (λ f fs e s x. refl) (λ f fs e r b. refl) (λ f fs e r b. refl)

-- serving comes to an end at a valid page alone
pub served_valid : (p : Placement) (q : Page) → serve_unit p q true ≡ None → is_valid (state_of p q) ≡ true
served_valid p q e = go (is_valid (state_of p q)) refl
  where
    go : (b : Bool) → is_valid (state_of p q) ≡ b → is_valid (state_of p q) ≡ true
    go true h = h
    go false h = absurd (let k : Some (serve_entry p q) ≡ None = sym (now_unit p q h) ∙ e in cc)
