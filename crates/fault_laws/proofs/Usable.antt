-- The usable pages of a placement, by numbers: at most as many as there are frames.
use Rattle.std.proofs.Common.{◌≡◌, ◌⊎◌, inl, inr, ℕ, zero, suc, ◌+◌, ◌≤◌, Bool, true, false, List, [], ◌∷◌, length, map, replicate, get_or, cond, Option, Some, None, refl, sym, ap, ◌∙◌, subst, arith}
use Rattle.std.specs.Prelude.{◌==◌}
use Rattle.std.proofs.lemmas.Bool.{false≢true, eq-eqb, eqb-true, or_cases, or_left, or_right}
use Rattle.vm_facts.specs.declared.page.Page.{Page}
use Rattle.page_model.specs.Pages.{is_valid}
use Rattle.page_model.specs.Placement.{Placement, state_of, page_of}
use Rattle.page_model.specs.Ownership.{OwnsFrames}
use Rattle.run_model.specs.Wanted.{AllValid}
use Rattle.page_laws.proofs.Lists.Local.{none_some}
use Rattle.page_opt.specs.Plans.{has}
use Rattle.page_opt.specs.Cache.{IsCache}
use Rattle.fault_laws.specs.Memory.{lacking}
use Rattle.fault_laws.proofs.Lacking.{lacking_none, lacking_one}
use Rattle.fault_laws.proofs.Demand.{enter_cache}
use Rattle.fault_laws.proofs.Gains.{Gain, GainsNone, GainsOne, reads_of, valid_framed}

-- a number joins a list, where it is to and isn't there yet
abbrev joined : Bool → ℕ → List ℕ → List ℕ
joined true n ns = cond (has n ns) ns (n ∷ ns)
joined false n ns = ns

-- the numbers of the valid pages that these frames hold, each once
abbrev usable_in : (Page → ℕ) → Placement → List (Option Page) → List ℕ
usable_in number p [] = []
usable_in number p (None ∷ hs) = usable_in number p hs
usable_in number p (Some q ∷ hs) = joined (is_valid (state_of p q)) (number q) (usable_in number p hs)

abbrev pub usable : (Page → ℕ) → Placement → List ℕ
usable number p = usable_in number p p.holds

-- A number that joins.

joined_has : (b : Bool) (n x : ℕ) (ns : List ℕ) → has x (joined b n ns) ≡ true → ((b ≡ true) × (n ≡ x)) ⊎ (has x ns ≡ true)
unfolding has
joined_has false n x ns h = inr h
joined_has true n x ns h = go (has n ns) h
  where
    go : (c : Bool) → has x (cond c ns (n ∷ ns)) ≡ true → ((true ≡ true) × (n ≡ x)) ⊎ (has x ns ≡ true)
    go true k = inr k
    go false k = elim (or_cases (n == x) (has x ns) k) [
      | inl e ↦ inl (refl, eqb-true n x e)
      | inr e ↦ inr e
    ]

joined_keeps : (b : Bool) (n x : ℕ) (ns : List ℕ) → has x ns ≡ true → has x (joined b n ns) ≡ true
unfolding has
joined_keeps false n x ns h = h
joined_keeps true n x ns h = go (has n ns)
  where
    go : (c : Bool) → has x (cond c ns (n ∷ ns)) ≡ true
    go true = h
    go false = or_right (n == x) (has x ns) h

joined_new : (n : ℕ) (ns : List ℕ) → has n (joined true n ns) ≡ true
unfolding has
joined_new n ns = go (has n ns) refl
  where
    go : (c : Bool) → has n ns ≡ c → has n (cond c ns (n ∷ ns)) ≡ true
    go true e = e
    go false e = or_left (n == n) (has n ns) (eq-eqb n n refl)

more_frames : (m : ℕ) (ns : List ℕ) → IsCache m ns → IsCache (suc m) ns
more_frames m ns c = record { once = c.once; small = let s = c.small in omega arith }

joined_cache : (b : Bool) (m n : ℕ) (ns : List ℕ) → IsCache m ns → IsCache (suc m) (joined b n ns)
joined_cache false m n ns c = more_frames m ns c
joined_cache true m n ns c = go (has n ns) refl
  where
    go : (b : Bool) → has n ns ≡ b → IsCache (suc m) (cond b ns (n ∷ ns))
    go true e = more_frames m ns c
    go false e = enter_cache (suc m) n ns e (let s = c.small in omega arith) (more_frames m ns c)

-- The usable pages.

module _ (number : Page → ℕ) (p : Placement) where
  usable_few : (hs : List (Option Page)) → IsCache (length hs) (usable_in number p hs)
  usable_few [] = record { once = λ q. omega arith; small = omega arith }
  usable_few (None ∷ hs) = more_frames (length hs) (usable_in number p hs) (usable_few hs)
  usable_few (Some q ∷ hs) = joined_cache (is_valid (state_of p q)) (length hs) (number q) (usable_in number p hs) (usable_few hs)

  pub usable_cache : IsCache (length p.holds) (usable number p)
  usable_cache = usable_few p.holds

  usable_valid : (hs : List (Option Page)) (x : ℕ) → has x (usable_in number p hs) ≡ true → (q : Page) × (is_valid (state_of p q) ≡ true) × (number q ≡ x)
  unfolding has
  usable_valid [] x h = absurd (false≢true h)
  usable_valid (None ∷ hs) x h = usable_valid hs x h
  usable_valid (Some q ∷ hs) x h = elim (joined_has (is_valid (state_of p q)) (number q) x (usable_in number p hs) h) [
    | inl e ↦ (q, e.0, e.1)
    | inr k ↦ usable_valid hs x k
  ]

  held_usable : (hs : List (Option Page)) (n : ℕ) (q : Page) → get_or hs n None ≡ Some q → is_valid (state_of p q) ≡ true
      → has (number q) (usable_in number p hs) ≡ true
  held_usable [] n q e v = none_some q e
  held_usable (None ∷ hs) zero q e v = none_some q e
  held_usable (Some r ∷ hs) zero q e v =
      let same : r ≡ q = cc in
      subst (λ (x : Page). has (number q) (joined (is_valid (state_of p x)) (number x) (usable_in number p hs)) ≡ true) (sym same)
      (subst (λ (b : Bool). has (number q) (joined b (number q) (usable_in number p hs)) ≡ true) (sym v) (joined_new (number q) (usable_in number p hs)))
  held_usable (None ∷ hs) (suc n) q e v = held_usable hs n q e v
  held_usable (Some r ∷ hs) (suc n) q e v =
      joined_keeps (is_valid (state_of p r)) (number r) (number q) (usable_in number p hs) (held_usable hs n q e v)

  -- each valid page has a frame
  valid_usable : (q : Page) → OwnsFrames p → is_valid (state_of p q) ≡ true → has (number q) (usable number p) ≡ true
  valid_usable q o v = let k = valid_framed (state_of p q) v in go k.0 (o.names q k.0 k.1)
    where
      go : (f : ℕ) → page_of p f ≡ Some q → has (number q) (usable number p) ≡ true
      go zero e = none_some q e
      go (suc n) e = held_usable p.holds n q e v

  pub pages_usable : (qs : List Page) (x : ℕ) → OwnsFrames p → AllValid p qs → has x (map number qs) ≡ true → has x (usable number p) ≡ true
  unfolding has
  pages_usable [] x o v h = absurd (false≢true h)
  pages_usable (q ∷ qs) x o v h = elim (or_cases (number q == x) (has x (map number qs)) h) [
    | inl e ↦ subst (λ (y : ℕ). has y (usable number p) ≡ true) (eqb-true (number q) x e) (valid_usable q o v.0)
    | inr e ↦ pages_usable qs x o v.1 e
  ]

  -- no frame holds a page
  pub usable_none : (n : ℕ) → usable_in number p (replicate n None) ≡ []
  usable_none zero = refl
  usable_none (suc n) = usable_none n

-- the pages that come to be usable, and the reads in flight
pub gain_lacks : (number : Page → ℕ) (p q : Placement) (n : ℕ) → OwnsFrames p → Gain p q n
    → lacking (usable number p) (usable number q) + reads_of q.transfers ≤ n + reads_of p.transfers
gain_lacks number p q n o (GainsNone keeps l) =
    let none = lacking_none (usable number p) (usable number q) (λ x h.
    let k = usable_valid number q q.holds x h in
    subst (λ (y : ℕ). has y (usable number p) ≡ true) k.2 (valid_usable number p k.0 o (keeps k.0 k.1)))
    in
    omega arith
gain_lacks number p q n o (GainsOne v gains l) =
    let c : IsCache (length q.holds) (usable number q) = usable_cache number q in
    let one = lacking_one (number v) (usable number p) (usable number q) (c.once (number v)) (λ x h.
    let k = usable_valid number q q.holds x h in
    elim (gains k.0 k.1) [
      | inl was ↦ inl (subst (λ (y : ℕ). has y (usable number p) ≡ true) k.2 (valid_usable number p k.0 o was))
      | inr e ↦ inr (sym k.2 ∙ ap number e)
    ])
    in
    omega arith
