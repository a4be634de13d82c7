-- A space that was lent stays with the child that it was lent to, or with one further on, through the flat machine's
-- changes, and no child has two lenders.
use Rattle.std.proofs.Common.{◌≡◌, ◌≢◌, ◌⊎◌, inl, inr, ℕ, ◌==◌, ◌||◌, ◌&&◌, Bool, true, false, cond, not, List, [], ◌∷◌, ◌++◌, map, filter, Option, Some, None, refl, sym, ap, ◌∙◌, subst}
use Rattle.std.proofs.lemmas.Bool.{cases_eq, cases_Bool, eqb-true, ne_eqb}
use Rattle.vm_facts.specs.Answers.{ByteWrite}
use Rattle.flat_state.specs.Space.{Space, puts}
use Rattle.flat_state.specs.Flat.{Holding, Holds, Lends, Zombie, Process, FlatState, NamedImage, process_of, image_numbered, space_with}
use Rattle.vm_facts.specs.declared.regs.Regs.{Regs}
use Rattle.flat_state.specs.declared.change.Change.{Change}
use Rattle.flat_state.specs.declared.change.Change.TheVariants.{Keep, Resize, Fork, Lend, Exec, Reap, Sleep, End}
use Rattle.flat_state.specs.Change.{replaced, replaced_by, returned, returned_by, lends_to, child_of, with_process, without_process, resized, is_zombie, is_zombie_child, without_parent, orphaned, awake, entered, forked, lent, given_back, changed, apply_change, apply_writes, wrote_by, wrote_if, NamesChild, is_borrower}
use Rattle.page_model.specs.Pages.{numbered}
use Rattle.flat_state.specs.Numbers.{IsAbsent, AllDistinct, IsNumbered}
use Rattle.flat_state.specs.Lenders.{HasOrLent, IsWith, LendsStand, IsLender}
use Rattle.page_laws.proofs.Lists.Pages.{mapped, numbered_hit, numbered_miss}
use Rattle.page_laws.proofs.Lists.Local.{none_some}
use Rattle.std.proofs.lemmas.Option.{same_Some}
use Rattle.std.proofs.Math.Bool.{and-false}
use Rattle.kernel_laws.proofs.Flat.Numbered.{has_number, absent_none, numbered_map, numbered_filter, only_if, removed_not, pushed_new, pushed_old, pushed_found}
use Rattle.vm_facts.proofs.Tests.{eq_self}
use Rattle.kernel_laws.proofs.Flat.Lists.{pid_of, found_is, replaced_at, replaced_not, replaced_pids}
use Rattle.kernel_laws.proofs.Machine.Swaps.{applied, found_self}
use Rattle.kernel_laws.proofs.Machine.Forks.{next_pid_none}
use Rattle.kernel_laws.proofs.Machine.Ends.{orphans, left_flat, left_is, WasFlat, end_was}
use Rattle.flat_state.proofs.SpaceLaws.{puts_sid}

-- The same of lists of processes.
pub record Lent (ps : List Process) : Type 0 where
  pub right : (x : Process) (sid child : ℕ) → numbered pid_of x.pid ps ≡ Some x → x.holding ≡ Lends sid child → IsWith sid (numbered pid_of child ps)
  pub one : (x y : Process) (a b child : ℕ) → numbered pid_of x.pid ps ≡ Some x → numbered pid_of y.pid ps ≡ Some y → x.holding ≡ Lends a child
      → y.holding ≡ Lends b child → x.pid ≡ y.pid

lent_of : (flat : FlatState) → LendsStand flat → Lent flat.processes
lent_of flat l = record {
  right = λ x sid child e h. subst (IsWith sid) (found_is flat.processes child) (l.right x sid child (found_is flat.processes x.pid ∙ e) h);
  one = λ x y a b child e f h k. l.one x y a b child (found_is flat.processes x.pid ∙ e) (found_is flat.processes y.pid ∙ f) h k;
}

of_lent : (flat : FlatState) → Lent flat.processes → LendsStand flat
of_lent flat l = record {
  right = λ x sid child e h. subst (IsWith sid) (sym (found_is flat.processes child)) (l.right x sid child (sym (found_is flat.processes x.pid) ∙ e) h);
  one = λ x y a b child e f h k. l.one x y a b child (sym (found_is flat.processes x.pid) ∙ e) (sym (found_is flat.processes y.pid) ∙ f) h k;
}

-- a lender after a step, and what it was
record WasLender (ps qs : List Process) (n sid child : ℕ) : Type 0 where
  pub before : Process
  pub number : before.pid ≡ n
  pub found : numbered pid_of before.pid ps ≡ Some before
  pub holding : before.holding ≡ Lends sid child
  pub stays : IsWith sid (numbered pid_of child ps) → IsWith sid (numbered pid_of child qs)

-- a step behind which each lender was one before
lent_kept : (ps qs : List Process) → Lent ps
    → ((x : Process) (sid child : ℕ) → numbered pid_of x.pid qs ≡ Some x → x.holding ≡ Lends sid child → WasLender ps qs x.pid sid child) → Lent qs
lent_kept ps qs l back = record {
  right = λ x sid child e h. let w : WasLender ps qs x.pid sid child = back x sid child e h in w.stays (l.right w.before sid child w.found w.holding);
  one = λ x y a b child e f h k.
      let w : WasLender ps qs x.pid a child = back x a child e h in
      let v : WasLender ps qs y.pid b child = back y b child f k in
      sym w.number ∙ l.one w.before v.before a b child w.found v.found w.holding v.holding ∙ v.number;
}

not_holds : {C : Type 0} (s : Space) (sid child : ℕ) → Holds s ≡ Lends sid child → C
not_holds s sid child e = absurd cc

-- A process gives way to one that has a space of the same number.
same_lent : (ps : List Process) (q p : Process) (s z : Space) → numbered pid_of p.pid ps ≡ Some q → q.holding ≡ Holds s → p.holding ≡ Holds z
    → z.sid ≡ s.sid → Lent ps → Lent (replaced ps p)
same_lent ps q p s z e h k i l =
    let forward : (sid child : ℕ) → IsWith sid (numbered pid_of child ps) → IsWith sid (numbered pid_of child (replaced ps p)) = λ sid child y. elim (cases_eq child p.pid) [
      | inl j ↦ subst (λ (n : ℕ). IsWith sid (numbered pid_of n (replaced ps p))) (sym j) (subst (IsWith sid) (sym (replaced_at ps q p e))
          (subst (HasOrLent sid) (sym k) (i ∙ subst (HasOrLent sid) h (subst (IsWith sid) e (subst (λ (n : ℕ). IsWith sid (numbered pid_of n ps)) j y)))))
      | inr d ↦ subst (IsWith sid) (sym (replaced_not ps p child d)) y
    ] in
    lent_kept ps (replaced ps p) l (λ x sid child f g. elim (cases_eq x.pid p.pid) [
      | inl j ↦ not_holds z sid child (sym k ∙ ap (λ (y : Process). y.holding) (same_Some p x (sym (replaced_at ps q p e) ∙ ap (λ (n : ℕ). numbered pid_of n (replaced ps p)) (sym j) ∙ f)) ∙ g)
      | inr d ↦ record {
        before = x;
        number = refl;
        found = sym (replaced_not ps p x.pid d) ∙ f;
        holding = g;
        stays = forward sid child;
      }
    ])

-- A new process that holds a space.
pushed_lent : (ps : List Process) (p : Process) (s : Space) → numbered pid_of p.pid ps ≡ None → p.holding ≡ Holds s → Lent ps → Lent (ps ++ p ∷ [])
pushed_lent ps p s e h l = lent_kept ps (ps ++ p ∷ []) l (λ x sid child f g. elim (cases_eq p.pid x.pid) [
  | inl j ↦ not_holds s sid child (sym h ∙ ap (λ (y : Process). y.holding) (same_Some p x (sym (pushed_new pid_of p.pid ps p e refl) ∙ ap (λ (n : ℕ). numbered pid_of n (ps ++ p ∷ [])) j ∙ f)) ∙ g)
  | inr d ↦ record { before = x; number = refl; found = sym (pushed_old pid_of x.pid ps p d) ∙ f; holding = g; stays = forward sid child (numbered pid_of child ps) refl }
])
  where
    forward : (sid child : ℕ) (o : Option Process) → numbered pid_of child ps ≡ o → IsWith sid (numbered pid_of child ps) → IsWith sid (numbered pid_of child (ps ++ p ∷ []))
    forward sid child None i y = absurd (subst (IsWith sid) i y)
    forward sid child (Some z) i y = subst (IsWith sid) (i ∙ sym (pushed_found pid_of child ps p z i)) y

-- A process lends its space to a new one.
lends_lent : (ps : List Process) (q p c : Process) (s : Space) → numbered pid_of p.pid ps ≡ Some q → q.holding ≡ Holds s
    → p.holding ≡ Lends s.sid c.pid → numbered pid_of c.pid ps ≡ None
    → c.holding ≡ Holds s → Lent ps → Lent (replaced ps p ++ c ∷ [])
lends_lent ps q p c s e h k new hc l =
    let right : (x : Process) (sid child : ℕ) → numbered pid_of x.pid qs ≡ Some x → x.holding ≡ Lends sid child → IsWith sid (numbered pid_of child qs) = λ x sid child f g.
    elim (either x sid child f g) [
      | inl i ↦ subst (λ (n : ℕ). IsWith sid (numbered pid_of n qs)) i.2 (subst (IsWith sid) (sym at_child) (subst (HasOrLent sid) (sym hc) i.1))
      | inr i ↦ forward sid child (l.right x sid child i.1 g)
    ] in
    -- nobody had lent to the new process
    let old_child : (x : Process) (sid child : ℕ) → numbered pid_of x.pid ps ≡ Some x → x.holding ≡ Lends sid child → c.pid ≢ child = λ x sid child f g i.
    subst (IsWith sid) new (subst (λ (n : ℕ). IsWith sid (numbered pid_of n ps)) (sym i) (l.right x sid child f g)) in
    let one : (x y : Process) (a b child : ℕ) → numbered pid_of x.pid qs ≡ Some x → numbered pid_of y.pid qs ≡ Some y → x.holding ≡ Lends a child → y.holding ≡ Lends b child → x.pid ≡ y.pid =
    λ x y a b child f g hx hy.
    elim (either x a child f hx) [
      | inl i ↦ elim (either y b child g hy) [
        | inl j ↦ i.0 ∙ sym j.0
        | inr j ↦ absurd (old_child y b child j.1 hy i.2)
      ]
      | inr i ↦ elim (either y b child g hy) [
        | inl j ↦ absurd (old_child x a child i.1 hx j.2)
        | inr j ↦ l.one x y a b child i.1 j.1 hx hy
      ]
    ] in
    record { right = right; one = one }
  where
    qs : List Process
    qs = replaced ps p ++ c ∷ []

    apart : c.pid ≢ p.pid
    apart i = none_some q (sym new ∙ ap (λ (n : ℕ). numbered pid_of n ps) i ∙ e)

    at_child : numbered pid_of c.pid qs ≡ Some c
    at_child = pushed_new pid_of c.pid (replaced ps p) c (replaced_not ps p c.pid apart ∙ new) refl

    at_parent : numbered pid_of p.pid qs ≡ Some p
    at_parent = pushed_found pid_of p.pid (replaced ps p) c p (replaced_at ps q p e)

    -- the lenders: the parent, and those of before
    either : (x : Process) (sid child : ℕ) → numbered pid_of x.pid qs ≡ Some x → x.holding ≡ Lends sid child
        → ((x.pid ≡ p.pid) × (s.sid ≡ sid) × (c.pid ≡ child)) ⊎ ((x.pid ≢ p.pid) × (numbered pid_of x.pid ps ≡ Some x))
    either x sid child f g = elim (cases_eq x.pid p.pid) [
      | inl i ↦ (let same : p ≡ x = same_Some p x (sym at_parent ∙ ap (λ (n : ℕ). numbered pid_of n qs) (sym i) ∙ f) in
          let y : Lends s.sid c.pid ≡ Lends sid child = sym k ∙ ap (λ (z : Process). z.holding) same ∙ g in
          inl (i, lends_sid y, lends_child y))
      | inr d ↦ elim (cases_eq c.pid x.pid) [
        | inl j ↦ not_holds s sid child (sym hc ∙ ap (λ (z : Process). z.holding) (same_Some c x (sym at_child ∙ ap (λ (n : ℕ). numbered pid_of n qs) j ∙ f)) ∙ g)
        | inr m ↦ inr (d, sym (replaced_not ps p x.pid d) ∙ sym (pushed_old pid_of x.pid (replaced ps p) c m) ∙ f)
      ]
    ]
      where
        lends_sid : {a b m n : ℕ} → Lends a m ≡ Lends b n → a ≡ b
        lends_sid y = cc

        lends_child : {a b m n : ℕ} → Lends a m ≡ Lends b n → m ≡ n
        lends_child y = cc

    -- what was with a process is there still
    forward : (sid child : ℕ) → IsWith sid (numbered pid_of child ps) → IsWith sid (numbered pid_of child qs)
    forward sid child y = elim (cases_eq child p.pid) [
      | inl j ↦ subst (λ (n : ℕ). IsWith sid (numbered pid_of n qs)) (sym j) (subst (IsWith sid) (sym at_parent)
          (subst (HasOrLent sid) (sym k) (subst (HasOrLent sid) h (subst (IsWith sid) e (subst (λ (n : ℕ). IsWith sid (numbered pid_of n ps)) j y)))))
      | inr d ↦ go (numbered pid_of child ps) refl d
    ]
      where
        go : (o : Option Process) → numbered pid_of child ps ≡ o → child ≢ p.pid → IsWith sid (numbered pid_of child qs)
        go None i d = absurd (subst (IsWith sid) i y)
        go (Some z) i d = subst (IsWith sid) (i ∙ sym (pushed_found pid_of child (replaced ps p) c z (replaced_not ps p child d ∙ i))) y

-- A space that goes back.

lender_is : (pid : ℕ) (h : Holding) → lends_to pid h ≡ true → (sid : ℕ) × (h ≡ Lends sid pid)
lender_is pid (Lends sid child) e = (sid, ap (Lends sid) (eqb-true child pid e))
lender_is pid _ e = absurd cc

lends_true : (pid sid : ℕ) (h : Holding) → h ≡ Lends sid pid → lends_to pid h ≡ true
lends_true pid sid h e = ap (lends_to pid) e ∙ eq_self pid

-- nobody lent, or the first lender has the space
returned_cases : (ps : List Process) (pid : ℕ) (s : Space) → AllDistinct (map pid_of ps)
    → ((returned pid s ps ≡ ps) × ((x : Process) → numbered pid_of x.pid ps ≡ Some x → lends_to pid x.holding ≡ false))
    ⊎ ((x : Process) × (numbered pid_of x.pid ps ≡ Some x) × (lends_to pid x.holding ≡ true)
    × (returned pid s ps ≡ replaced ps (record x { holding = Holds s })))
unfolding returned replaced
returned_cases [] pid s d = inl (refl, λ x e. none_some x e)
returned_cases (q ∷ ps) pid s d = elim (cases_Bool (lends_to pid q.holding)) [
  | inl t ↦ inr (
    q,
    numbered_hit pid_of q.pid q ps refl,
    t,
    ap (λ (b : Bool). returned_by b s q ps (returned pid s ps)) t
        ∙ sym (ap (λ (b : Bool). replaced_by b (record q { holding = Holds s }) q ps (replaced ps (record q { holding = Holds s }))) (eq_self q.pid)),
  )
  | inr t ↦ elim (returned_cases ps pid s d.1) [
    | inl e ↦ inl (
      ap (λ (b : Bool). returned_by b s q ps (returned pid s ps)) t ∙ ap (λ (l : List Process). q ∷ l) e.0,
      λ x f. elim (cases_eq q.pid x.pid) [
        | inl i ↦ ap (λ (y : Process). lends_to pid y.holding) (same_Some x q (sym f ∙ numbered_hit pid_of x.pid q ps i)) ∙ t
        | inr n ↦ e.1 x (sym (numbered_miss pid_of x.pid q ps n) ∙ f)
      ],
    )
    | inr e ↦ (let n : q.pid ≢ e.0.pid = λ i. none_some e.0 (sym (absent_none pid_of e.0.pid ps (subst (λ (m : ℕ). IsAbsent m (map pid_of ps)) i d.0)) ∙ e.1) in
        inr (
          e.0,
          numbered_miss pid_of e.0.pid q ps n ∙ e.1,
          e.2,
          ap (λ (b : Bool). returned_by b s q ps (returned pid s ps)) t ∙ ap (λ (l : List Process). q ∷ l) e.3
              ∙ sym (ap (λ (b : Bool). replaced_by b (record e.0 { holding = Holds s }) q ps (replaced ps (record e.0 { holding = Holds s }))) (ne_eqb q.pid e.0.pid n)),
        ))
  ]
]

-- A process gives way to one that lends nothing, and its space goes back where it was lent.
back_lent : (ps : List Process) (q p : Process) (s : Space) → AllDistinct (map pid_of ps) → numbered pid_of p.pid ps ≡ Some q → q.holding ≡ Holds s
    → ((sid child : ℕ) → p.holding ≢ Lends sid child)
    → Lent ps → Lent (returned p.pid s (replaced ps p))
back_lent ps q p s d e h none l =
    let distinct : AllDistinct (map pid_of r0) = subst AllDistinct (sym (replaced_pids ps q p e)) d in
    elim (returned_cases r0 p.pid s distinct) [
      | inl c ↦ subst Lent (sym c.0) (lent_kept ps r0 l (λ x sid child f g. record {
        before = x;
        number = refl;
        found = sym (replaced_not ps p x.pid (own x sid child f g)) ∙ f;
        holding = g;
        stays = λ y. subst (IsWith sid) (sym (replaced_not ps p child (λ i. let z : true ≡ false = sym (lends_true p.pid sid x.holding (g ∙ ap (Lends sid) i)) ∙ c.1 x f in cc))) y;
      }))
      | inr c ↦ (let m : (sid : ℕ) × (c.0.holding ≡ Lends sid p.pid) = lender_is p.pid c.0.holding c.2 in
          let other : c.0.pid ≢ p.pid = own c.0 m.0 p.pid c.1 m.1 in
          let was : numbered pid_of c.0.pid ps ≡ Some c.0 = sym (replaced_not ps p c.0.pid other) ∙ c.1 in
          let right : s.sid ≡ m.0 = subst (HasOrLent m.0) h (subst (IsWith m.0) e (l.right c.0 m.0 p.pid was m.1)) in
          subst Lent (sym c.3) (lent_kept ps (replaced r0 (record c.0 { holding = Holds s })) l (λ x sid child f g. behind c.0 m.0 m.1 c.1 was right x sid child f g (cases_eq x.pid c.0.pid))))
    ]
  where
    r0 : List Process
    r0 = replaced ps p

    -- a lender isn't the process itself
    own : (x : Process) (sid child : ℕ) → numbered pid_of x.pid r0 ≡ Some x → x.holding ≡ Lends sid child → x.pid ≢ p.pid
    own x sid child f g i = none sid child (ap (λ (y : Process). y.holding) (same_Some p x (sym (replaced_at ps q p e) ∙ ap (λ (n : ℕ). numbered pid_of n r0) (sym i) ∙ f)) ∙ g)

    behind : (m : Process) (t : ℕ) → m.holding ≡ Lends t p.pid → numbered pid_of m.pid r0 ≡ Some m → numbered pid_of m.pid ps ≡ Some m → s.sid ≡ t → (x : Process) (sid child : ℕ)
        → numbered pid_of x.pid (replaced r0 (record m { holding = Holds s })) ≡ Some x → x.holding ≡ Lends sid child
        → (x.pid ≡ m.pid) ⊎ (x.pid ≢ m.pid) → WasLender ps (replaced r0 (record m { holding = Holds s })) x.pid sid child
    behind m t hm m0 m1 right x sid child f g (inl i) =
        not_holds s sid child (ap (λ (y : Process). y.holding) (same_Some (record m { holding = Holds s }) x (sym (replaced_at r0 m (record m { holding = Holds s }) m0)
        ∙ ap (λ (n : ℕ). numbered pid_of n (replaced r0 (record m { holding = Holds s }))) (sym i) ∙ f)) ∙ g)
    behind m t hm m0 m1 right x sid child f g (inr n) =
        let in_r0 : numbered pid_of x.pid r0 ≡ Some x = sym (replaced_not r0 (record m { holding = Holds s }) x.pid n) ∙ f in
        let was : numbered pid_of x.pid ps ≡ Some x = sym (replaced_not ps p x.pid (own x sid child in_r0 g)) ∙ in_r0 in
        record {
          before = x;
          number = refl;
          found = was;
          holding = g;
          stays = λ y. elim (cases_eq child m.pid) [
            | inl i ↦ subst (λ (k : ℕ). IsWith sid (numbered pid_of k (replaced r0 (record m { holding = Holds s })))) (sym i)
                (subst (IsWith sid) (sym (replaced_at r0 m (record m { holding = Holds s }) m0))
                (right ∙ subst (HasOrLent sid) hm (subst (IsWith sid) m1 (subst (λ (k : ℕ). IsWith sid (numbered pid_of k ps)) i y))))
            | inr k ↦ subst (IsWith sid) (sym (replaced_not r0 (record m { holding = Holds s }) child k ∙ replaced_not ps p child (λ i. n (l.one x m sid t p.pid was m1 (g ∙ ap (Lends sid) i) hm)))) y
          ];
        }

-- The end.

-- who has a space is no zombie
has_alive : (sid : ℕ) (h : Holding) → HasOrLent sid h → is_zombie h ≡ false
has_alive sid (Zombie status) e = absurd e
has_alive sid _ e = refl

-- what was with a process that isn't this one is there still
left_found : (b : Bool) (ps : List Process) (pid parent sid child : ℕ) → AllDistinct (map pid_of ps) → child ≢ pid
    → IsWith sid (numbered pid_of child ps) → IsWith sid (numbered pid_of child (left_flat b (orphans pid ps) pid parent))
left_found b ps pid parent sid child d n y = go (numbered pid_of child ps) refl y
  where
    by : (b : Bool) (z : Process) → numbered pid_of child (orphans pid ps) ≡ Some z → HasOrLent sid z.holding → IsWith sid (numbered pid_of child (left_flat b (orphans pid ps) pid parent))
    by true z e h = subst (IsWith sid) (sym (removed_not pid_of child pid (orphans pid ps) n ∙ e)) h
    by false z e h = subst (IsWith sid) (sym (numbered_map pid_of (awake parent) (λ x. refl) child (orphans pid ps) ∙ ap (mapped (awake parent)) e)) h

    go : (o : Option Process) → numbered pid_of child ps ≡ o → IsWith sid o → IsWith sid (numbered pid_of child (left_flat b (orphans pid ps) pid parent))
    go None e h = absurd h
    go (Some z) e h = by b (without_parent pid z)
        (numbered_map pid_of (without_parent pid) (λ x. refl) child (filter (λ (q : Process). not (is_zombie_child pid q)) ps)
        ∙ ap (mapped (without_parent pid)) (numbered_filter pid_of child (λ (q : Process). not (is_zombie_child pid q)) ps d ∙ ap (only_if (λ (q : Process). not (is_zombie_child pid q))) e
        ∙ ap (λ (t : Bool). cond (not t) (Some z) None) (ap (λ (t : Bool). (z.parent == pid) && t) (has_alive sid z.holding h) ∙ and-false (z.parent == pid)))) h

left_lent : (b : Bool) (ps : List Process) (q : Process) (pid parent : ℕ) → AllDistinct (map pid_of ps) → numbered pid_of pid ps ≡ Some q
    → is_zombie q.holding ≡ true → Lent ps → Lent (left_flat b (orphans pid ps) pid parent)
left_lent b ps q pid parent d e z l = lent_kept ps (left_flat b (orphans pid ps) pid parent) l (λ x sid child f g.
    let w : WasFlat ps x.pid x = end_was b ps pid parent x.pid x d f in
    let i : w.before.pid ≡ x.pid = has_number pid_of x.pid ps w.before w.found in
    let at : numbered pid_of w.before.pid ps ≡ Some w.before = ap (λ (n : ℕ). numbered pid_of n ps) i ∙ w.found in
    let k : w.before.holding ≡ Lends sid child = sym w.holding ∙ g in
    record {
      before = w.before;
      number = i;
      found = at;
      holding = k;
      stays = left_found b ps pid parent sid child d (λ j. dead sid (subst (IsWith sid) e (subst (λ (n : ℕ). IsWith sid (numbered pid_of n ps)) j (l.right w.before sid child at k))));
    })
  where
    dead : (sid : ℕ) → HasOrLent sid q.holding → ⊥
    dead sid h = let y : true ≡ false = sym z ∙ has_alive sid q.holding h in cc

-- A zombie goes.
reaped_lent : (ps : List Process) (z : Process) (child : ℕ) → numbered pid_of child ps ≡ Some z → is_zombie z.holding ≡ true → Lent ps
    → Lent (filter (λ (q : Process). not (q.pid == child)) ps)
reaped_lent ps z child e h l = lent_kept ps (filter (λ (q : Process). not (q.pid == child)) ps) l (λ x sid c f g. elim (cases_eq x.pid child) [
  | inl i ↦ none_some x (sym (Rattle.kernel_laws.proofs.Flat.Numbered.removed_is pid_of child ps) ∙ ap (λ (n : ℕ). numbered pid_of n (filter (λ (q : Process). not (q.pid == child)) ps)) (sym i) ∙ f)
  | inr d ↦ (let was : numbered pid_of x.pid ps ≡ Some x = sym (removed_not pid_of x.pid child ps d) ∙ f in
      record {
        before = x;
        number = refl;
        found = was;
        holding = g;
        stays = λ y. subst (IsWith sid) (sym (removed_not pid_of c child ps (λ j. dead sid (subst (IsWith sid) e (subst (λ (n : ℕ). IsWith sid (numbered pid_of n ps)) j y))))) y;
      })
])
  where
    dead : (sid : ℕ) → HasOrLent sid z.holding → ⊥
    dead sid k = let y : true ≡ false = sym h ∙ has_alive sid z.holding k in cc

-- The changes.

pub changes_lent : (images : List NamedImage) (flat : FlatState) (pid : ℕ) (regs : Regs) (change : Change) (q : Process) (s : Space)
    → process_of flat pid ≡ Some q → q.holding ≡ Holds s
    → NamesChild flat change → IsNumbered flat → LendsStand flat → LendsStand (apply_change images flat pid regs change)
changes_lent images flat pid regs change q s e h m n st = subst LendsStand (sym (applied images flat pid regs change q s e h)) (go change m)
  where
    found : numbered pid_of q.pid flat.processes ≡ Some q
    found = found_self flat pid q e

    l : Lent flat.processes
    l = lent_of flat st

    p : Process
    p = record q { regs = regs }

    go : (change : Change) → NamesChild flat change → LendsStand (changed images flat p s change)
    go Keep m = of_lent (with_process flat p) (same_lent flat.processes q p s s found h h refl l)
    go Sleep m = of_lent (with_process flat (record p { asleep = true })) (same_lent flat.processes q (record p { asleep = true }) s s found h h refl l)
    go (Resize d t) m =
        of_lent (with_process flat (record p { holding = Holds (resized s d t) })) (same_lent flat.processes q (record p { holding = Holds (resized s d t) }) s (resized s d t) found h refl refl l)
    go (Fork child) m =
        let new : flat.next_pid ≢ q.pid = λ i. none_some q (sym (next_pid_none flat n) ∙ ap (λ (x : ℕ). numbered pid_of x flat.processes) i ∙ found) in
        subst (λ (x : ℕ). LendsStand (forked flat p s x)) (sym m) (of_lent (forked flat p s flat.next_pid)
        (pushed_lent (replaced flat.processes p) (child_of p flat.next_pid (record s { sid = flat.next_sid })) (record s { sid = flat.next_sid })
        (replaced_not flat.processes p flat.next_pid new ∙ next_pid_none flat n) refl
        (same_lent flat.processes q p s s found h h refl l)))
    go (Lend child) m = subst (λ (x : ℕ). LendsStand (lent flat p s x)) (sym m) (of_lent (lent flat p s flat.next_pid)
        (lends_lent flat.processes q (record p { holding = Lends s.sid flat.next_pid }) (child_of p flat.next_pid s) s found h refl (next_pid_none flat n) refl l))
    go (Exec number top) m = by (image_numbered images number)
      where
        by : (o : Option NamedImage) → LendsStand (entered flat p s number o top)
        by None = st
        by (Some named) = of_lent (entered flat p s number (Some named) top)
            (back_lent flat.processes q (record p { holding = Holds (space_with flat.next_sid number named.image top) }) s n.pids found h (λ sid child i. cc) l)
    go (Reap child) m = of_lent (with_process (without_process flat child) p)
        (same_lent (filter (λ (x : Process). not (x.pid == child)) flat.processes) q p s s (removed_not pid_of q.pid child flat.processes other ∙ found) h h refl
        (reaped_lent flat.processes m.0 child (sym (found_is flat.processes child) ∙ m.2) (ap is_zombie m.3) l))
      where
        other : q.pid ≢ child
        other i = let same : q ≡ m.0 = same_Some q m.0 (sym found ∙ ap (λ (x : ℕ). numbered pid_of x flat.processes) i ∙ sym (found_is flat.processes child) ∙ m.2) in
            let z : Holds s ≡ Zombie m.1 = sym h ∙ ap (λ (x : Process). x.holding) same ∙ m.3 in cc
    go (End status) m =
        let fp : Process = record p { holding = Zombie status } in
        let rs : List Process = returned q.pid s (replaced flat.processes fp) in
        let tidy : Rattle.kernel_laws.proofs.Flat.Numbers.Tidy rs flat.next_pid flat.next_sid = Rattle.kernel_laws.proofs.Flat.Numbers.back_tidy flat pid q fp s n e h found refl refl refl in
        let distinct : AllDistinct (map pid_of rs) = tidy.pids in
        let at : numbered pid_of q.pid rs ≡ Some fp =
        Rattle.kernel_laws.proofs.Flat.Numbers.returned_own (replaced flat.processes fp) q.pid s fp (subst AllDistinct (sym (replaced_pids flat.processes q fp found)) n.pids)
        (replaced_at flat.processes q fp found) refl in
        subst LendsStand (sym (left_is (q.parent == 0) (orphaned (given_back (with_process flat fp) q.pid s) q.pid) q.pid q.parent))
        (of_lent (record flat { processes = left_flat (q.parent == 0) (orphans q.pid rs) q.pid q.parent })
        (left_lent (q.parent == 0) rs fp q.pid q.parent distinct at refl (back_lent flat.processes q fp s n.pids found h (λ sid child i. cc) l)))

pub writes_lent : (flat : FlatState) (pid : ℕ) (ws : List ByteWrite) (q : Process) (s : Space) → process_of flat pid ≡ Some q → q.holding ≡ Holds s
    → LendsStand flat → LendsStand (apply_writes flat pid ws)
unfolding apply_writes
writes_lent flat pid ws q s e h st = subst LendsStand (sym (ap (wrote_if flat ws) e ∙ ap (wrote_by flat q ws) h))
    (of_lent (with_process flat (record q { holding = Holds (puts s ws) }))
    (same_lent flat.processes q (record q { holding = Holds (puts s ws) }) s (puts s ws) (found_self flat pid q e) h refl (puts_sid ws s) (lent_of flat st)))

-- The lender of a borrower.

first_lender : (ps : List Process) (pid : ℕ) → AllDistinct (map pid_of ps) → is_borrower ps pid ≡ true
    → (x : Process) × (numbered pid_of x.pid ps ≡ Some x) × (lends_to pid x.holding ≡ true)
first_lender [] pid d e = absurd cc
first_lender (q ∷ ps) pid d e = elim (cases_Bool (lends_to pid q.holding)) [
  | inl t ↦ (q, numbered_hit pid_of q.pid q ps refl, t)
  | inr t ↦ (let r = first_lender ps pid d.1 (rest q.holding t e) in
      (r.0, numbered_miss pid_of r.0.pid q ps (λ i. none_some r.0 (sym (absent_none pid_of r.0.pid ps (subst (λ (m : ℕ). IsAbsent m (map pid_of ps)) i d.0)) ∙ r.1)) ∙ r.1, r.2))
]
  where
    rest : (h : Holding) → lends_to pid h ≡ false → (Rattle.flat_state.specs.Change.lends_to pid h || is_borrower ps pid) ≡ true → is_borrower ps pid ≡ true
    rest (Holds s) t y = y
    rest (Lends sid child) t y = sym (ap (λ (b : Bool). b || is_borrower ps pid) t) ∙ y
    rest (Zombie status) t y = y

-- A process that borrowed its space has one lender, which lent it that.
pub lender_found : (flat : FlatState) (pid : ℕ) (q : Process) (s : Space) → process_of flat pid ≡ Some q → q.holding ≡ Holds s
    → is_borrower flat.processes pid ≡ true → IsNumbered flat
    → LendsStand flat → (m : Process) × IsLender flat pid s.sid m
lender_found flat pid q s e h b n st =
    let r = first_lender flat.processes pid n.pids b in
    let t : (sid : ℕ) × (r.0.holding ≡ Lends sid pid) = lender_is pid r.0.holding r.2 in
    let f : process_of flat r.0.pid ≡ Some r.0 = found_is flat.processes r.0.pid ∙ r.1 in
    let i : s.sid ≡ t.0 = subst (HasOrLent t.0) h (subst (IsWith t.0) e (st.right r.0 t.0 pid f t.1)) in (
      r.0,
      record {
        found = f;
        holding = t.1 ∙ ap (λ (y : ℕ). Lends y pid) (sym i);
        only = λ x fx l. let y : (sid : ℕ) × (x.holding ≡ Lends sid pid) = lender_is pid x.holding l in st.one x r.0 y.0 t.0 pid fx f y.1 t.1;
      },
    )
