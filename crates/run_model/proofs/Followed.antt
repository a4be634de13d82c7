-- Next units lead one way.
use Rattle.std.proofs.Common.{◌≡◌, List, [], ◌∷◌, ◌++◌, length, refl, sym, ap, ◌∙◌, subst}
use Rattle.std.proofs.lemmas.Option.{same_Some}
use Rattle.vm_facts.specs.declared.entry.Entry.{Entry}
use Rattle.flat_state.specs.Flat.{Inputs}
use Rattle.run_model.specs.State.{State}
use Rattle.run_model.specs.After.{after}
use Rattle.run_model.specs.Lawful.{Follows}

pub followed_once : (A : Inputs) (s t r : State) (us vs : List Entry) → Follows A s us t → Follows A s vs r → length us ≡ length vs → (us ≡ vs) × (t ≡ r)
followed_once A s t r [] [] f g l = (refl, sym f ∙ g)
followed_once A s t r [] (v ∷ vs) f g l = absurd cc
followed_once A s t r (u ∷ us) [] f g l = absurd cc
followed_once A s t r (u ∷ us) (v ∷ vs) f g l =
    let e : v ≡ u = same_Some v u (sym g.0 ∙ f.0) in
    let h = followed_once A (after A s u) t r us vs f.1 (subst (λ (x : Entry). Follows A (after A s x) vs r) e g.1) (let k : length us ≡ length vs = cc in k) in
    (ap (λ (xs : List Entry). u ∷ xs) h.0 ∙ ap (λ (x : Entry). x ∷ vs) (sym e), h.1)

pub followed_on : (A : Inputs) (s t r : State) (us vs : List Entry) → Follows A s us t → Follows A t vs r → Follows A s (us ++ vs) r
followed_on A s t r [] vs f g = subst (λ (x : State). Follows A x vs r) (sym f) g
followed_on A s t r (u ∷ us) vs f g = (f.0, followed_on A (after A s u) t r us vs f.1 g)
