-- The two sets that hold a cache: how they change with each step, and which page they give first.
use Rattle.std.proofs.Common.{◌≡◌, ℕ, ◌+◌, ◌<◌, ◌≤◌, Bool, true, false, not, List, ◌∷◌, length, refl, sym, ap, ◌∙◌, arith, inl, inr}
use Rattle.std.specs.Prelude.{◌==◌, ◌||◌, ◌&&◌}
use Rattle.std.proofs.lemmas.Bool.{cases_eq, cases_lt, cases_Bool, eq-eqb, ne_eqb, eqb-true, eqb-false, false≢true, or_cases, or_left, or_right, and_parts, and_from, not-true, not_from_false, false_from_ne_true}
use Rattle.page_opt.specs.Plans.{has}
use Rattle.page_opt.specs.Furthest.{next_use}
use Rattle.page_opt.specs.Cache.{Changed, Held}
use Rattle.page_opt.proofs.Uses.{next_le, next_here, next_other, next_apart, IsFurthest}

-- the pages without p, and with it
abbrev pub others : ℕ → (ℕ → Bool) → ℕ → Bool
others p inside q = inside q && not (q == p)

abbrev pub plus : ℕ → (ℕ → Bool) → ℕ → Bool
plus p inside q = (q == p) || inside q

others_gives : (p q : ℕ) (inside : ℕ → Bool) → others p inside q ≡ true → (inside q ≡ true) × (q ≡ p → ⊥)
others_gives p q inside h =
    let parts = and_parts (inside q) (not (q == p)) h in
    (parts.0, eqb-false q p (not-true (q == p) parts.1))

others_from : (p q : ℕ) (inside : ℕ → Bool) → inside q ≡ true → (q ≡ p → ⊥) → others p inside q ≡ true
others_from p q inside h other = and_from (inside q) (not (q == p)) h (not_from_false (q == p) (ne_eqb q p other))

-- what a set with a number less has
kept : (old new : ℕ → Bool) (k q : ℕ) → Changed old new k false → new q ≡ true → (old q ≡ true) × (q ≡ k → ⊥)
kept old new k q c h = elim (cases_eq q k) [
  | inl same ↦ absurd (false≢true (sym c.here ∙ ap new (sym same) ∙ h))
  | inr other ↦ (sym (c.other q other) ∙ h, other)
]

-- what a set with a number more has
more : (old new : ℕ → Bool) (k q : ℕ) → Changed old new k true → old q ≡ true → new q ≡ true
more old new k q c h = elim (cases_eq q k) [
  | inl same ↦ ap new same ∙ c.here
  | inr other ↦ c.other q other ∙ h
]

pub held_same : (future : List ℕ) (at : ℕ) (inside inside' awaited spent : ℕ → Bool) → ((q : ℕ) → inside q ≡ inside' q)
    → Held future at inside awaited spent → Held future at inside' awaited spent
held_same future at inside inside' awaited spent same h = record {
  due = λ k a. let d = h.due k a in (d.0, sym (same d.0) ∙ d.1, d.2, d.3);
  waits = λ q i l. h.waits q (same q ∙ i) l;
  over = λ q s. let o = h.over q s in (sym (same q) ∙ o.0, o.1);
  never = λ q i l. h.never q (same q ∙ i) l;
}

-- ---- a reference to p

-- p is awaited here where it is in the cache
pub held_here : (p at : ℕ) (future : List ℕ) (inside awaited spent : ℕ → Bool) → Held (p ∷ future) at inside awaited spent → awaited at ≡ inside p
held_here p at future inside awaited spent h = elim (cases_Bool (awaited at)) [
  | inl a ↦ let d = h.due at a in elim (cases_eq p d.0) [
    | inl same ↦ a ∙ sym (ap inside same ∙ d.1)
    | inr other ↦ absurd (let e = next_other p d.0 future other in let f = d.3 in omega arith)
  ]
  | inr n ↦ n ∙ sym (false_from_ne_true (inside p)
      (λ i.
      let e = next_here p future in
      let here : at + next_use p (p ∷ future) ≡ at = omega arith in
      false≢true (sym n ∙ ap awaited (sym here) ∙ h.waits p i (omega arith))))
]

pub held_arrive : (p at : ℕ) (future : List ℕ) (inside awaited awaited' spent : ℕ → Bool) → Held (p ∷ future) at inside awaited spent
    → Changed awaited awaited' at false → Held future (at + 1) (others p inside) awaited' spent
held_arrive p at future inside awaited awaited' spent h c = record {
  due = λ k a.
      let was = kept awaited awaited' at k c a in
      let d = h.due k was.0 in
      let f = d.3 in let g = d.2 in let ne = was.1 in
      elim (cases_eq d.0 p) [
        | inl same ↦ absurd (let e = ap (λ (r : ℕ). next_use r (p ∷ future)) same ∙ next_here p future in ne (omega arith))
        | inr other ↦
            let e = next_other p d.0 future (λ s. other (sym s)) in
            (d.0, others_from p d.0 inside d.1 other, omega arith, omega arith)
      ];
  waits = λ q i l.
      let was = others_gives p q inside i in
      let e = next_other p q future (λ s. was.1 (sym s)) in
      let there : at + next_use q (p ∷ future) ≡ at + 1 + next_use q future = omega arith in
      c.other (at + 1 + next_use q future) (λ s. omega arith) ∙ ap awaited (sym there) ∙ h.waits q was.0 (omega arith);
  over = λ q s.
      let o = h.over q s in let f = o.1 in
      elim (cases_eq q p) [
        | inl same ↦ absurd (let e = ap (λ (r : ℕ). next_use r (p ∷ future)) same ∙ next_here p future in omega arith)
        | inr other ↦ let e = next_other p q future (λ s. other (sym s)) in (others_from p q inside o.0 other, omega arith)
      ];
  never = λ q i l.
      let was = others_gives p q inside i in
      let e = next_other p q future (λ s. was.1 (sym s)) in
      h.never q was.0 (omega arith);
}

-- ---- a page leaves

pub held_spent : (v at : ℕ) (future : List ℕ) (inside awaited spent spent' : ℕ → Bool) → Held future at inside awaited spent
    → spent v ≡ true → Changed spent spent' v false → Held future at (others v inside) awaited spent'
held_spent v at future inside awaited spent spent' h s c =
    let last = (h.over v s).1 in
    record {
      due = λ k a.
          let d = h.due k a in let l = d.2 in
          (d.0, others_from v d.0 inside d.1 (λ same. let e = ap (λ (r : ℕ). next_use r future) same in omega arith), d.2, d.3);
      waits = λ q i l. h.waits q (others_gives v q inside i).0 l;
      over = λ q t.
          let was = kept spent spent' v q c t in
          let o = h.over q was.0 in
          (others_from v q inside o.0 was.1, o.1);
      never = λ q i l.
          let was = others_gives v q inside i in
          c.other q was.1 ∙ h.never q was.0 l;
    }

pub held_awaited : (v at : ℕ) (future : List ℕ) (inside awaited awaited' spent : ℕ → Bool) → Held future at inside awaited spent
    → next_use v future < length future → Changed awaited awaited' (at + next_use v future) false → Held future at (others v inside) awaited' spent
held_awaited v at future inside awaited awaited' spent h n c = record {
  due = λ k a.
      let was = kept awaited awaited' (at + next_use v future) k c a in
      let d = h.due k was.0 in
      (d.0, others_from v d.0 inside d.1 (λ same. was.1 (d.3 ∙ ap (λ (r : ℕ). at + next_use r future) same)), d.2, d.3);
  waits = λ q i l.
      let was = others_gives v q inside i in
      c.other (at + next_use q future) (λ same. was.1 (next_apart q v future (omega arith) l)) ∙ h.waits q was.0 l;
  over = λ q s.
      let o = h.over q s in let l = o.1 in
      (others_from v q inside o.0 (λ same. let e = ap (λ (r : ℕ). next_use r future) same in omega arith), o.1);
  never = λ q i l. h.never q (others_gives v q inside i).0 l;
}

-- ---- a page enters

pub held_put_awaited : (p at : ℕ) (future : List ℕ) (inside awaited awaited' spent : ℕ → Bool) → Held future at inside awaited spent
    → next_use p future < length future → Changed awaited awaited' (at + next_use p future) true → Held future at (plus p inside) awaited' spent
held_put_awaited p at future inside awaited awaited' spent h n c = record {
  due = λ k a. elim (cases_eq k (at + next_use p future)) [
    | inl here ↦ (p, or_left (p == p) (inside p) (eq-eqb p p refl), n, here)
    | inr other ↦
        let d = h.due k (sym (c.other k other) ∙ a) in
        (d.0, or_right (d.0 == p) (inside d.0) d.1, d.2, d.3)
  ];
  waits = λ q i l. elim (or_cases (q == p) (inside q) i) [
    | inl same ↦ ap (λ (r : ℕ). awaited' (at + next_use r future)) (eqb-true q p same) ∙ c.here
    | inr there ↦ more awaited awaited' (at + next_use p future) (at + next_use q future) c (h.waits q there l)
  ];
  over = λ q s. let o = h.over q s in (or_right (q == p) (inside q) o.0, o.1);
  never = λ q i l. elim (or_cases (q == p) (inside q) i) [
    | inl same ↦ absurd (let e = ap (λ (r : ℕ). next_use r future) (eqb-true q p same) in omega arith)
    | inr there ↦ h.never q there l
  ];
}

pub held_put_spent : (p at : ℕ) (future : List ℕ) (inside awaited spent spent' : ℕ → Bool) → Held future at inside awaited spent
    → next_use p future ≡ length future → Changed spent spent' p true → Held future at (plus p inside) awaited spent'
held_put_spent p at future inside awaited spent spent' h n c = record {
  due = λ k a. let d = h.due k a in (d.0, or_right (d.0 == p) (inside d.0) d.1, d.2, d.3);
  waits = λ q i l. elim (or_cases (q == p) (inside q) i) [
    | inl same ↦ absurd (let e = ap (λ (r : ℕ). next_use r future) (eqb-true q p same) in omega arith)
    | inr there ↦ h.waits q there l
  ];
  over = λ q s. elim (cases_eq q p) [
    | inl here ↦ (or_left (q == p) (inside q) (eq-eqb q p here), ap (λ (r : ℕ). next_use r future) here ∙ n)
    | inr other ↦ let o = h.over q (sym (c.other q other) ∙ s) in (or_right (q == p) (inside q) o.0, o.1)
  ];
  never = λ q i l. elim (or_cases (q == p) (inside q) i) [
    | inl same ↦ ap spent' (eqb-true q p same) ∙ c.here
    | inr there ↦ more spent spent' p q c (h.never q there l)
  ];
}

-- ---- the page that leaves is the furthest

pub spent_furthest : (v at : ℕ) (future cache : List ℕ) (awaited spent : ℕ → Bool) → Held future at (λ q. has q cache) awaited spent
    → spent v ≡ true → ((q : ℕ) → spent q ≡ true → v ≤ q) → IsFurthest future cache v
spent_furthest v at future cache awaited spent h s lowest =
    let o = h.over v s in let last = o.1 in
    record {
      there = o.0;
      first = λ q i. elim (cases_lt (next_use q future) (length future)) [
        | inl again ↦ inl (omega arith)
        | inr never ↦
            let top = next_le q future in
            let same : next_use q future ≡ length future = omega arith in
            inr (omega arith, lowest q (h.never q i same))
      ];
    }

pub awaited_furthest : (v at : ℕ) (future cache : List ℕ) (awaited spent : ℕ → Bool) → Held future at (λ q. has q cache) awaited spent
    → has v cache ≡ true → next_use v future < length future → ((q : ℕ) → spent q ≡ false) → ((k : ℕ) → awaited k ≡ true → k ≤ at + next_use v future)
    → IsFurthest future cache v
awaited_furthest v at future cache awaited spent h there n none last = record {
  there = there;
  first = λ q i. elim (cases_lt (next_use q future) (length future)) [
    | inl again ↦ let l = last (at + next_use q future) (h.waits q i again) in elim (cases_lt (next_use q future) (next_use v future)) [
      | inl before ↦ inl before
      | inr least ↦
          let same : next_use q future ≡ next_use v future = omega arith in
          let page = next_apart q v future same again in
          inr (same, omega arith)
    ]
    | inr never ↦
        let top = next_le q future in
        let same : next_use q future ≡ length future = omega arith in
        absurd (false≢true (sym (none q) ∙ h.never q i same))
  ];
}
