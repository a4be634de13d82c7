-- Who holds a space, through the changes of processes; and which spaces are there, through those of the placement.
use Rattle.std.proofs.Common.{◌≡◌, ◌≢◌, ◌⊎◌, inl, inr, ℕ, ◌==◌, Bool, true, false, cond, not, ◌&&◌, List, [], ◌∷◌, ◌++◌, map, filter, Option, Some, None, refl, sym, ap, ◌∙◌, subst}
use Rattle.std.proofs.lemmas.Bool.{cases_eq, eq-eqb, ne_eqb}
use Rattle.vm_facts.specs.declared.page.Page.{Page}
use Rattle.vm_facts.specs.declared.entry.Entry.{Entry}
use Rattle.flat_state.specs.Numbers.{IsAbsent, AllDistinct}
use Rattle.page_model.specs.Pages.{SpacePages, numbered, changed}
use Rattle.page_model.specs.Moves.{drop_all}
use Rattle.page_model.specs.Placement.{Placement, space_number}
use Rattle.page_model.specs.Place.{place_entry, sized, resize, give_up_unless}
use Rattle.kernel_laws.proofs.PageLawsListsPages.{mapped, changed_same, changed_other}
use Rattle.kernel_laws.proofs.PageLawsOwnershipChanges.{dropped_pages}
use Rattle.kernel_model.specs.Asks.{HasSpace}
use Rattle.kernel_model.specs.Kernel.{Life, HoldsSpace, Ended, Proc}
use Rattle.kernel_model.specs.ChangeStep.{life_of_proc, with_proc, without_proc, is_ended, orphaned_procs, left_procs}
use Rattle.kernel_laws.proofs.Flat.Numbered.{has_number, numbered_map, numbered_filter, only_if, removed_is, removed_not, absent_none, none_absent, mapped_some, pushed_new, pushed_old, pushed_found}
use Rattle.kernel_laws.proofs.Machine.Gone.{gone_unless}
use Rattle.kernel_laws.proofs.Machine.Shapes.{shape_in, drop_all_shaped}
use Rattle.kernel_laws.proofs.Sound.Changes.{with_number}
use Rattle.kernel_laws.proofs.Sound.NumbersApart.{entry_numbers}

abbrev at : ℕ → List Proc → Option Proc
at n ps = numbered (λ (p : Proc). p.pid) n ps

-- what the process with this number has
abbrev pub life_at : List Proc → ℕ → Life
life_at ps n = life_of_proc (at n ps)

-- Who holds a space, after a change of the processes.

pub life_has : (o : Option Proc) (sid : ℕ) → life_of_proc o ≡ HoldsSpace sid → (q : Proc) × (o ≡ Some q) × (q.life ≡ HoldsSpace sid)
life_has None sid e = absurd cc
life_has (Some q) sid e = (q, refl, e)

-- each process changed by itself: what the holder was
pub mapped_has : (f : Proc → Proc) → ((q : Proc) → (f q).pid ≡ q.pid) → (ps : List Proc) (n sid : ℕ) → life_at (map f ps) n ≡ HoldsSpace sid
    → (q : Proc) × (q.pid ≡ n) × (life_at ps n ≡ q.life) × ((f q).life ≡ HoldsSpace sid)
mapped_has f number ps n sid h =
    let a = life_has (mapped f (at n ps)) sid (sym (ap life_of_proc (numbered_map (λ (p : Proc). p.pid) f number n ps)) ∙ h) in
    let b = mapped_some f (at n ps) a.0 a.1 in
    (b.0, has_number (λ (p : Proc). p.pid) n ps b.0 b.1, ap life_of_proc b.1, ap (λ (q : Proc). q.life) b.2 ∙ a.2)

-- where each has what it had
pub same_has : (f : Proc → Proc) → ((q : Proc) → (f q).pid ≡ q.pid) → ((q : Proc) → (f q).life ≡ q.life) → (ps : List Proc) (n sid : ℕ)
    → life_at (map f ps) n ≡ HoldsSpace sid → life_at ps n ≡ HoldsSpace sid
same_has f number life ps n sid h = let a = mapped_has f number ps n sid h in a.2 ∙ sym (life a.0) ∙ a.3

-- one gives way to another with its number
pub with_has : (ps : List Proc) (p : Proc) (n sid : ℕ) → life_at (with_proc ps p) n ≡ HoldsSpace sid
    → ((n ≢ p.pid) × (life_at ps n ≡ HoldsSpace sid)) ⊎ ((n ≡ p.pid) × (p.life ≡ HoldsSpace sid))
with_has ps p n sid h =
    let a = mapped_has (λ (q : Proc). cond (q.pid == p.pid) p q) (with_number p) ps n sid h in
    let now : (b : Bool) → (a.0.pid == p.pid) ≡ b → (cond b p a.0).life ≡ HoldsSpace sid = λ b e. sym (ap (λ (c : Bool). (cond c p a.0).life) e) ∙ a.3 in
    elim (cases_eq a.0.pid p.pid) [
      | inl i ↦ inr (sym a.1 ∙ i, now true (eq-eqb a.0.pid p.pid i))
      | inr d ↦ inl ((λ i. d (a.1 ∙ i)), a.2 ∙ now false (ne_eqb a.0.pid p.pid d))
    ]

-- one more comes
pub pushed_has : (ps : List Proc) (c : Proc) (n sid : ℕ) → life_at (ps ++ c ∷ []) n ≡ HoldsSpace sid
    → (life_at ps n ≡ HoldsSpace sid) ⊎ ((n ≡ c.pid) × (c.life ≡ HoldsSpace sid))
pushed_has ps c n sid h = elim (cases_eq c.pid n) [
  | inl i ↦ go i (at n ps) refl
  | inr d ↦ inl (sym (ap life_of_proc (pushed_old (λ (p : Proc). p.pid) n ps c d)) ∙ h)
]
  where
    go : c.pid ≡ n → (o : Option Proc) → at n ps ≡ o → (life_at ps n ≡ HoldsSpace sid) ⊎ ((n ≡ c.pid) × (c.life ≡ HoldsSpace sid))
    go i None e = inr (sym i, sym (ap life_of_proc (pushed_new (λ (p : Proc). p.pid) n ps c e i)) ∙ h)
    go i (Some q) e = inl (ap life_of_proc e ∙ sym (ap life_of_proc (pushed_found (λ (p : Proc). p.pid) n ps c q e)) ∙ h)

-- one is gone
pub without_has : (ps : List Proc) (pid n sid : ℕ) → life_at (without_proc ps pid) n ≡ HoldsSpace sid → (n ≢ pid) × (life_at ps n ≡ HoldsSpace sid)
without_has ps pid n sid h = elim (cases_eq n pid) [
  | inl i ↦ absurd (let a = life_has None sid (sym (ap life_of_proc (removed_is (λ (p : Proc). p.pid) pid ps)) ∙ subst (λ (m : ℕ). life_at (without_proc ps pid) m ≡ HoldsSpace sid) i h) in
      let none : None ≡ Some a.0 = a.1 in cc)
  | inr d ↦ (d, sym (ap life_of_proc (removed_not (λ (p : Proc). p.pid) n pid ps d)) ∙ h)
]

-- some are gone
filtered_has : (test : Proc → Bool) (ps : List Proc) (n sid : ℕ) → AllDistinct (map (λ (p : Proc). p.pid) ps)
    → life_at (filter test ps) n ≡ HoldsSpace sid → life_at ps n ≡ HoldsSpace sid
filtered_has test ps n sid d h = go (at n ps) (sym (ap life_of_proc (numbered_filter (λ (p : Proc). p.pid) n test ps d)) ∙ h)
  where
    if : (q : Proc) (b : Bool) → life_of_proc (cond b (Some q) None) ≡ HoldsSpace sid → q.life ≡ HoldsSpace sid
    if q true k = k
    if q false k = absurd cc

    go : (o : Option Proc) → life_of_proc (only_if test o) ≡ HoldsSpace sid → life_of_proc o ≡ HoldsSpace sid
    go None k = k
    go (Some q) k = if q (test q) k

-- one ends
pub end_has : (gone : Bool) (ps : List Proc) (p : Proc) (status n sid : ℕ) → AllDistinct (map (λ (q : Proc). q.pid) ps)
    → life_at (left_procs gone (orphaned_procs ps p.pid) p status) n ≡ HoldsSpace sid → (n ≢ p.pid) × (life_at ps n ≡ HoldsSpace sid)
end_has gone ps p status n sid d h = let a = go gone h in (a.0, orphan a.1)
  where
    os : List Proc
    os = orphaned_procs ps p.pid

    orphan : life_at os n ≡ HoldsSpace sid → life_at ps n ≡ HoldsSpace sid
    orphan k =
        let test : Proc → Bool = λ (q : Proc). not ((q.parent == p.pid) && is_ended q.life) in
        filtered_has test ps n sid d (same_has (λ (q : Proc). record q { parent = cond (q.parent == p.pid) 0 q.parent }) (λ q. refl) (λ q. refl) (filter test ps) n sid k)

    go : (b : Bool) → life_at (left_procs b os p status) n ≡ HoldsSpace sid → (n ≢ p.pid) × (life_at os n ≡ HoldsSpace sid)
    go true k = without_has os p.pid n sid k
    go false k =
        let z : Proc = record p { life = Ended status } in
        elim (with_has os z n sid (same_has (λ (q : Proc). record q { asleep = cond (q.pid == p.parent) false q.asleep }) (λ q. refl) (λ q. refl) (with_proc os z) n sid k)) [
          | inl g ↦ g
          | inr g ↦ absurd (let e : Ended status ≡ HoldsSpace sid = g.1 in cc)
        ]

-- Which spaces are there.

pub entry_has : (locked : List Page) (place : ℕ) (p : Placement) (e : Entry) (sid : ℕ) → HasSpace p sid → HasSpace (place_entry locked place p e) sid
entry_has locked place p e sid h n =
    h (absent_none space_number sid p.spaces (subst (IsAbsent sid) (entry_numbers locked place p e) (none_absent space_number sid (place_entry locked place p e).spaces n)))

unshaped : (o r : Option SpacePages) → shape_in r ≡ shape_in o → r ≡ None → o ≡ None
unshaped None r e n = refl
unshaped (Some x) None e n = absurd cc
unshaped (Some x) (Some y) e n = absurd cc

pub shaped_has : (p q : Placement) (sid : ℕ) → shape_in (numbered space_number sid q.spaces) ≡ shape_in (numbered space_number sid p.spaces)
    → HasSpace p sid → HasSpace q sid
shaped_has p q sid e h n = h (unshaped (numbered space_number sid p.spaces) (numbered space_number sid q.spaces) e n)

pub unless_has : (borrowed : Bool) (p : Placement) (sid n : ℕ) → (borrowed ≡ false → n ≢ sid) → HasSpace p n → HasSpace (give_up_unless borrowed p sid) n
unless_has borrowed p sid n d h = shaped_has p (give_up_unless borrowed p sid) n ((gone_unless borrowed p sid).other n d) h

mapped_none : (f : SpacePages → SpacePages) (o : Option SpacePages) → mapped f o ≡ None → o ≡ None
mapped_none f None e = refl
mapped_none f (Some s) e = absurd cc

pub resize_has : (p : Placement) (sid d s n : ℕ) → HasSpace p n → HasSpace (resize p sid d s) n
resize_has p sid d s n h e = elim (cases_eq n sid) [
  | inl i ↦ there (ap (λ (m : ℕ). numbered space_number m q.spaces) i ∙ mapped_none f (numbered space_number sid q.spaces)
      (sym (changed_same space_number sid f (λ x. refl) q.spaces) ∙ ap (λ (m : ℕ). numbered space_number m (changed space_number sid f q.spaces)) (sym i) ∙ e))
  | inr j ↦ there (sym (changed_other space_number sid n f (λ x. refl) j q.spaces) ∙ e)
]
  where
    q : Placement
    q = drop_all p (dropped_pages p sid d s)

    f : SpacePages → SpacePages
    f x = record x { data_pages = sized d x.data_pages; stack_pages = sized s x.stack_pages }

    there : HasSpace q n
    there = shaped_has p q n ((drop_all_shaped (dropped_pages p sid d s) p).spaces n) h

-- one more is
pub more_has : (ss : List SpacePages) (x : SpacePages) (n : ℕ) → numbered space_number n ss ≢ None → numbered space_number n (ss ++ x ∷ []) ≢ None
more_has ss x n h e = go (numbered space_number n ss) refl
  where
    go : (o : Option SpacePages) → numbered space_number n ss ≡ o → ⊥
    go None k = h k
    go (Some y) k = let z : Some y ≡ None = sym (pushed_found space_number n ss x y k) ∙ e in absurd cc

pub new_has : (ss : List SpacePages) (x : SpacePages) → numbered space_number (space_number x) ss ≡ None
    → numbered space_number (space_number x) (ss ++ x ∷ []) ≢ None
new_has ss x k e = let z : Some x ≡ None = sym (pushed_new space_number (space_number x) ss x k refl) ∙ e in absurd cc
