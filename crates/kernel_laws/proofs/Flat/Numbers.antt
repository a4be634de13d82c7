-- The numbers of processes and spaces stay different, and the next ones new, through the flat machine's changes.
use Rattle.std.proofs.Common.{◌≡◌, ◌≢◌, ◌⊎◌, inl, inr, ℕ, ◌+◌, ◌<◌, ◌==◌, Bool, true, false, cond, not, List, [], ◌∷◌, ◌++◌, map, filter, Option, Some, None, refl, sym, ap, ◌∙◌, subst, arith}
use Rattle.std.specs.Prelude.{if◌then◌else◌}
use Rattle.std.proofs.lemmas.Bool.{cases_eq, cases_Bool}
use Rattle.flat_state.proofs.SpaceLaws.{puts_sid}
use Rattle.vm_facts.specs.Answers.{ByteWrite}
use Rattle.flat_state.specs.Space.{Space, puts}
use Rattle.flat_state.specs.Flat.{Holding, Holds, Lends, Zombie, Process, FlatState, NamedImage, process_of, image_numbered, space_with, space_held}
use Rattle.vm_facts.specs.declared.regs.Regs.{Regs}
use Rattle.flat_state.specs.declared.change.Change.{Change}
use Rattle.flat_state.specs.declared.change.Change.TheVariants.{Keep, Resize, Fork, Lend, Exec, Reap, Sleep, End}
use Rattle.flat_state.specs.Change.{replaced, replaced_by, returned, returned_by, lends_to, child_of, with_process, without_process, resized, is_zombie_child, without_parent, orphaned, awake, left, ended, entered, forked, lent, changed, changed_by, changed_if, apply_change, apply_writes, wrote_by, wrote_if, NamesChild}
use Rattle.page_model.specs.Pages.{numbered}
use Rattle.flat_state.specs.Numbers.{IsAbsent, AllDistinct, AllBelow, AllLower, IsNumbered}
use Rattle.page_laws.proofs.Lists.Local.{none_some}
use Rattle.std.proofs.lemmas.Option.{same_Some}
use Rattle.kernel_laws.proofs.Flat.Numbered.{has_number, absent_none, none_absent, below_absent, distinct_append}
use Rattle.page_laws.proofs.Lists.Pages.{numbered_hit, numbered_miss}
use Rattle.kernel_laws.proofs.Flat.Lists.{pid_of, sid_of, held, found_is, held_now, Parts, parts_at, replaced_at, replaced_not, replaced_pids, held_at, held-append, held_parts, sids-append}
use Rattle.kernel_laws.proofs.Machine.Swaps.{applied, found_self}
use Rattle.kernel_laws.proofs.Machine.Ends.{orphans, left_flat, left_is, orphans_held, orphans_distinct, pids_map, end_held}
use Rattle.kernel_laws.proofs.Machine.Processes.{lower_at, holds_there, distinct_filter, held_filter}

-- Lists of numbers.

absent_both : (n : ℕ) (xs ys : List ℕ) → IsAbsent n xs → IsAbsent n ys → IsAbsent n (xs ++ ys)
absent_both n [] ys a b = b
absent_both n (x ∷ xs) ys a b = (a.0, absent_both n xs ys a.1 b)

absent_parts : (n : ℕ) (xs ys : List ℕ) → IsAbsent n (xs ++ ys) → IsAbsent n xs × IsAbsent n ys
absent_parts n [] ys a = (tt, a)
absent_parts n (x ∷ xs) ys a = let h = absent_parts n xs ys a.1 in ((a.0, h.0), h.1)

-- one more number, anywhere
pub distinct_insert : (xs : List ℕ) (n : ℕ) (ys : List ℕ) → AllDistinct (xs ++ ys) → IsAbsent n (xs ++ ys) → AllDistinct (xs ++ n ∷ ys)
distinct_insert [] n ys d a = (a, d)
distinct_insert (x ∷ xs) n ys d a = let h = absent_parts x xs ys d.0 in (absent_both x xs (n ∷ ys) h.0 ((λ e. a.0 (sym e)), h.1), distinct_insert xs n ys d.1 a.1)

-- one number less
pub distinct_remove : (xs : List ℕ) (n : ℕ) (ys : List ℕ) → AllDistinct (xs ++ n ∷ ys) → AllDistinct (xs ++ ys) × IsAbsent n (xs ++ ys)
distinct_remove [] n ys d = (d.1, d.0)
distinct_remove (x ∷ xs) n ys d =
    let h = absent_parts x xs (n ∷ ys) d.0 in
    let r = distinct_remove xs n ys d.1 in
    ((absent_both x xs ys h.0 h.1.1, r.0), ((λ e. h.1.0 (sym e)), r.1))

below_both : (n : ℕ) (xs ys : List ℕ) → AllBelow n xs → AllBelow n ys → AllBelow n (xs ++ ys)
below_both n [] ys a b = b
below_both n (x ∷ xs) ys a b = (a.0, below_both n xs ys a.1 b)

below_parts : (n : ℕ) (xs ys : List ℕ) → AllBelow n (xs ++ ys) → AllBelow n xs × AllBelow n ys
below_parts n [] ys a = (tt, a)
below_parts n (x ∷ xs) ys a = let h = below_parts n xs ys a.1 in ((a.0, h.0), h.1)

pub below_more : (n : ℕ) (xs : List ℕ) → AllBelow n xs → AllBelow (n + 1) xs
below_more n [] a = tt
below_more n (x ∷ xs) a = ((let h = a.0 in omega arith), below_more n xs a.1)

below_filter : {A : Type 0} (number : A → ℕ) (n : ℕ) (test : A → Bool) (xs : List A) → AllBelow n (map number xs) → AllBelow n (map number (filter test xs))
below_filter number n test [] a = tt
below_filter number n test (x ∷ xs) a = go (test x) (below_filter number n test xs a.1)
  where
    go : (b : Bool) → AllBelow n (map number (filter test xs)) → AllBelow n (map number (cond b (x ∷ filter test xs) (filter test xs)))
    go true ih = (a.0, ih)
    go false ih = ih

-- Facts of lists of processes and spaces, with the next numbers.

-- the same as of a flat state
pub record Tidy (ps : List Process) (next_pid next_sid : ℕ) : Type 0 where
  pub pids : AllDistinct (map pid_of ps)
  pub sids : AllDistinct (map sid_of (held ps))
  pub pids_below : AllBelow next_pid (map pid_of ps)
  pub sids_below : AllBelow next_sid (map sid_of (held ps))
  pub lower : AllLower ps

pub tidy_of : (flat : FlatState) → IsNumbered flat → Tidy flat.processes flat.next_pid flat.next_sid
tidy_of flat n = record { pids = n.pids; sids = n.sids; pids_below = n.pids_below; sids_below = n.sids_below; lower = n.parents }

pub of_tidy : (flat : FlatState) → Tidy flat.processes flat.next_pid flat.next_sid → IsNumbered flat
of_tidy flat t = record { pids = t.pids; sids = t.sids; pids_below = t.pids_below; sids_below = t.sids_below; parents = t.lower }

lower_replaced : (ps : List Process) (p : Process) → AllLower ps → p.parent < p.pid → AllLower (replaced ps p)
unfolding replaced
lower_replaced [] p l h = tt
lower_replaced (q ∷ ps) p l h = go (q.pid == p.pid) (lower_replaced ps p l.1 h)
  where
    go : (b : Bool) → AllLower (replaced ps p) → AllLower (replaced_by b p q ps (replaced ps p))
    go true ih = (h, l.1)
    go false ih = (l.0, ih)

lower_pushed : (ps : List Process) (p : Process) → AllLower ps → p.parent < p.pid → AllLower (ps ++ p ∷ [])
lower_pushed [] p l h = (h, tt)
lower_pushed (q ∷ ps) p l h = (l.0, lower_pushed ps p l.1 h)

lower_filter : (test : Process → Bool) (ps : List Process) → AllLower ps → AllLower (filter test ps)
lower_filter test [] l = tt
lower_filter test (p ∷ ps) l = go (test p) (lower_filter test ps l.1)
  where
    go : (b : Bool) → AllLower (filter test ps) → AllLower (cond b (p ∷ filter test ps) (filter test ps))
    go true ih = (l.0, ih)
    go false ih = ih

-- One process gives way to another of its number and parent, which holds these spaces.

-- what is asked of the spaces of the process
pub record Exchange (ps : List Process) (q p : Process) (ns ms : ℕ) : Type 0 where
  pub made : (front back : List ℕ) → map sid_of (held ps) ≡ front ++ (map sid_of (space_held q.holding) ++ back)
      → AllDistinct (front ++ (map sid_of (space_held q.holding) ++ back)) → AllBelow ns (front ++ (map sid_of (space_held q.holding) ++ back))
      → AllDistinct (front ++ (map sid_of (space_held p.holding) ++ back)) × AllBelow ms (front ++ (map sid_of (space_held p.holding) ++ back))

held_sids : (xs : List Process) (p : Process) (ys : List Process)
    → map sid_of (held (xs ++ p ∷ ys)) ≡ map sid_of (held xs) ++ (map sid_of (space_held p.holding) ++ map sid_of (held ys))
held_sids xs p ys =
    ap (map sid_of) (held_parts xs p ys) ∙ sids-append (held xs) (space_held p.holding ++ held ys) ∙ ap (λ (l : List ℕ). map sid_of (held xs) ++ l) (sids-append (space_held p.holding) (held ys))

pub exchange : (ps : List Process) (q p : Process) (next ns ms : ℕ) → Tidy ps next ns → numbered pid_of p.pid ps ≡ Some q → p.parent ≡ q.parent
    → Exchange ps q p ns ms → Tidy (replaced ps p) next ms
exchange ps q p next ns ms t e par x =
    let r : Parts ps q p = parts_at ps q p e in
    let old : map sid_of (held ps) ≡ map sid_of (held r.front) ++ (map sid_of (space_held q.holding) ++ map sid_of (held r.back)) =
    ap (λ (l : List Process). map sid_of (held l)) r.old ∙ held_sids r.front q r.back in
    let new : map sid_of (held (replaced ps p)) ≡ map sid_of (held r.front) ++ (map sid_of (space_held p.holding) ++ map sid_of (held r.back)) =
    ap (λ (l : List Process). map sid_of (held l)) r.new ∙ held_sids r.front p r.back in
    let h = x.made (map sid_of (held r.front)) (map sid_of (held r.back)) old (subst AllDistinct old t.sids) (subst (AllBelow ns) old t.sids_below) in
    record {
      pids = subst AllDistinct (sym (replaced_pids ps q p e)) t.pids;
      sids = subst AllDistinct (sym new) h.0;
      pids_below = subst (AllBelow next) (sym (replaced_pids ps q p e)) t.pids_below;
      sids_below = subst (AllBelow ms) (sym new) h.1;
      lower = lower_replaced ps p t.lower (subst (λ (n : ℕ). n < p.pid) (sym par) (subst (λ (n : ℕ). q.parent < n) (has_number pid_of p.pid ps q e) (lower_at ps p.pid q t.lower e)));
    }

-- the same numbers of spaces
same_exchange : (ps : List Process) (q p : Process) (ns : ℕ) → map sid_of (space_held p.holding) ≡ map sid_of (space_held q.holding) → Exchange ps q p ns ns
same_exchange ps q p ns e = record {
  made = λ front back o d b. (subst (λ (l : List ℕ). AllDistinct (front ++ (l ++ back))) (sym e) d, subst (λ (l : List ℕ). AllBelow ns (front ++ (l ++ back))) (sym e) b);
}

-- a space goes
loss : (ps : List Process) (q p : Process) (s : Space) (ns : ℕ) → q.holding ≡ Holds s → space_held p.holding ≡ [] → Exchange ps q p ns ns
loss ps q p s ns h z = record {
  made = λ front back o d b.
      let was : AllDistinct (front ++ s.sid ∷ back) = subst (λ (x : Holding). AllDistinct (front ++ (map sid_of (space_held x) ++ back))) h d in
      let below : AllBelow ns (front ++ s.sid ∷ back) = subst (λ (x : Holding). AllBelow ns (front ++ (map sid_of (space_held x) ++ back))) h b in
      let parts = below_parts ns front (s.sid ∷ back) below in (
        subst (λ (l : List Space). AllDistinct (front ++ (map sid_of l ++ back))) (sym z) (distinct_remove front s.sid back was).0,
        subst (λ (l : List Space). AllBelow ns (front ++ (map sid_of l ++ back))) (sym z) (below_both ns front back parts.0 parts.1.1),
      );
}

-- a new space comes for it
renewal : (ps : List Process) (q p : Process) (s z : Space) (ns : ℕ) → q.holding ≡ Holds s → p.holding ≡ Holds z → z.sid ≡ ns → Exchange ps q p ns (ns + 1)
renewal ps q p s z ns h k i = record {
  made = λ front back o d b.
      let was : AllDistinct (front ++ s.sid ∷ back) = subst (λ (x : Holding). AllDistinct (front ++ (map sid_of (space_held x) ++ back))) h d in
      let below : AllBelow ns (front ++ s.sid ∷ back) = subst (λ (x : Holding). AllBelow ns (front ++ (map sid_of (space_held x) ++ back))) h b in
      let parts = below_parts ns front (s.sid ∷ back) below in
      let left : AllDistinct (front ++ back) = (distinct_remove front s.sid back was).0 in
      let under : AllBelow ns (front ++ back) = below_both ns front back parts.0 parts.1.1 in (
        subst (λ (x : Holding). AllDistinct (front ++ (map sid_of (space_held x) ++ back))) (sym k)
            (subst (λ (n : ℕ). AllDistinct (front ++ n ∷ back)) (sym i) (distinct_insert front ns back left (below_absent ns (front ++ back) under))),
        subst (λ (x : Holding). AllBelow (ns + 1) (front ++ (map sid_of (space_held x) ++ back))) (sym k)
            (below_both (ns + 1) front (z.sid ∷ back) (below_more ns front parts.0) ((let y = i in omega arith), below_more ns back parts.1.1)),
      );
}

-- a space comes that nobody has
gain : (ps : List Process) (q p : Process) (s : Space) (ns : ℕ) → space_held q.holding ≡ [] → p.holding ≡ Holds s
    → IsAbsent s.sid (map sid_of (held ps)) → s.sid < ns → Exchange ps q p ns ns
gain ps q p s ns h k a l = record {
  made = λ front back o d b.
      let was : AllDistinct (front ++ back) = subst (λ (x : List Space). AllDistinct (front ++ (map sid_of x ++ back))) h d in
      let below : AllBelow ns (front ++ back) = subst (λ (x : List Space). AllBelow ns (front ++ (map sid_of x ++ back))) h b in
      let none : IsAbsent s.sid (front ++ back) = subst (λ (x : List Space). IsAbsent s.sid (front ++ (map sid_of x ++ back))) h (subst (IsAbsent s.sid) o a) in
      let parts = below_parts ns front back below in (
        subst (λ (x : Holding). AllDistinct (front ++ (map sid_of (space_held x) ++ back))) (sym k) (distinct_insert front s.sid back was none),
        subst (λ (x : Holding). AllBelow ns (front ++ (map sid_of (space_held x) ++ back))) (sym k) (below_both ns front (s.sid ∷ back) parts.0 (l, parts.1)),
      );
}

-- One more process.

append_none : {A : Type 0} (xs : List A) → xs ++ [] ≡ xs
append_none [] = refl
append_none (x ∷ xs) = ap (λ l. x ∷ l) (append_none xs)

pushed_distinct : (xs : List ℕ) (n : ℕ) → AllDistinct xs → IsAbsent n xs → AllDistinct (xs ++ n ∷ [])
pushed_distinct xs n d a = distinct_insert xs n [] (subst AllDistinct (sym (append_none xs)) d) (subst (IsAbsent n) (sym (append_none xs)) a)

map_pushed : {A : Type 0} (f : A → ℕ) (xs : List A) (x : A) → map f (xs ++ x ∷ []) ≡ map f xs ++ f x ∷ []
map_pushed f [] x = refl
map_pushed f (y ∷ xs) x = ap (λ l. f y ∷ l) (map_pushed f xs x)

-- with a space of this number, which is absent
pub one_more : (ps : List Process) (p : Process) (s : Space) (next ns ms : ℕ) → Tidy ps next ns → p.pid ≡ next → p.parent < p.pid
    → p.holding ≡ Holds s → IsAbsent s.sid (map sid_of (held ps))
    → s.sid < ms → AllBelow ms (map sid_of (held ps)) → Tidy (ps ++ p ∷ []) (next + 1) ms
one_more ps p s next ns ms t i l h a m b = record {
  pids = subst AllDistinct (sym (map_pushed pid_of ps p))
      (pushed_distinct (map pid_of ps) p.pid t.pids (subst (λ (n : ℕ). IsAbsent n (map pid_of ps)) (sym i) (below_absent next (map pid_of ps) t.pids_below)));
  sids = subst AllDistinct (sym list) (pushed_distinct (map sid_of (held ps)) s.sid t.sids a);
  pids_below =
      subst (AllBelow (next + 1)) (sym (map_pushed pid_of ps p)) (below_both (next + 1) (map pid_of ps) (p.pid ∷ []) (below_more next (map pid_of ps) t.pids_below) ((let y = i in omega arith), tt));
  sids_below = subst (AllBelow ms) (sym list) (below_both ms (map sid_of (held ps)) (s.sid ∷ []) b (m, tt));
  lower = lower_pushed ps p t.lower l;
}
  where
    list : map sid_of (held (ps ++ p ∷ [])) ≡ map sid_of (held ps) ++ s.sid ∷ []
    list = ap (map sid_of) (held-append ps (p ∷ []) ∙ ap (λ (x : Holding). held ps ++ (space_held x ++ [])) h) ∙ sids-append (held ps) (s ∷ [])

-- A space that goes back.

-- nobody lent, or the first lender has the space
returned_either : (ps : List Process) (pid : ℕ) (s : Space) → AllDistinct (map pid_of ps)
    → (returned pid s ps ≡ ps) ⊎ ((x : Process) × (numbered pid_of x.pid ps ≡ Some x) × (lends_to pid x.holding ≡ true)
    × (returned pid s ps ≡ replaced ps (record x { holding = Holds s })))
unfolding returned replaced
returned_either [] pid s d = inl refl
returned_either (q ∷ ps) pid s d = elim (cases_Bool (lends_to pid q.holding)) [
  | inl t ↦ inr (
    q,
    numbered_hit pid_of q.pid q ps refl,
    t,
    ap (λ (b : Bool). returned_by b s q ps (returned pid s ps)) t
        ∙ sym (ap (λ (b : Bool). replaced_by b (record q { holding = Holds s }) q ps (replaced ps (record q { holding = Holds s }))) (Rattle.vm_facts.proofs.Tests.eq_self q.pid)),
  )
  | inr t ↦ elim (returned_either ps pid s d.1) [
    | inl e ↦ inl (ap (λ (b : Bool). returned_by b s q ps (returned pid s ps)) t ∙ ap (λ (l : List Process). q ∷ l) e)
    | inr e ↦ (let n : q.pid ≢ e.0.pid = λ i. none_some e.0 (sym (absent_none pid_of e.0.pid ps (subst (λ (m : ℕ). IsAbsent m (map pid_of ps)) i d.0)) ∙ e.1) in
        inr (
          e.0,
          numbered_miss pid_of e.0.pid q ps n ∙ e.1,
          e.2,
          ap (λ (b : Bool). returned_by b s q ps (returned pid s ps)) t ∙ ap (λ (l : List Process). q ∷ l) e.3
              ∙ sym (ap (λ (b : Bool). replaced_by b (record e.0 { holding = Holds s }) q ps (replaced ps (record e.0 { holding = Holds s }))) (Rattle.std.proofs.lemmas.Bool.ne_eqb q.pid e.0.pid n)),
        ))
  ]
]

lender_holds : (pid : ℕ) (h : Holding) → lends_to pid h ≡ true → space_held h ≡ []
lender_holds pid (Lends sid child) e = refl
lender_holds pid _ e = absurd cc

pub returned_tidy : (ps : List Process) (pid : ℕ) (s : Space) (next ns : ℕ) → Tidy ps next ns → IsAbsent s.sid (map sid_of (held ps)) → s.sid < ns
    → Tidy (returned pid s ps) next ns
returned_tidy ps pid s next ns t a l = elim (returned_either ps pid s t.pids) [
  | inl e ↦ subst (λ (x : List Process). Tidy x next ns) (sym e) t
  | inr e ↦ subst (λ (x : List Process). Tidy x next ns) (sym e.3)
      (exchange ps e.0 (record e.0 { holding = Holds s }) next ns ns t e.1 refl (gain ps e.0 (record e.0 { holding = Holds s }) s ns (lender_holds pid e.0.holding e.2) refl a l))
]

-- who isn't a lender is as it was
pub returned_own : (ps : List Process) (pid : ℕ) (s : Space) (q : Process) → AllDistinct (map pid_of ps) → numbered pid_of q.pid ps ≡ Some q
    → lends_to pid q.holding ≡ false → numbered pid_of q.pid (returned pid s ps) ≡ Some q
returned_own ps pid s q d e h = elim (returned_either ps pid s d) [
  | inl i ↦ ap (numbered pid_of q.pid) i ∙ e
  | inr i ↦ ap (numbered pid_of q.pid) i.3 ∙ replaced_not ps (record i.0 { holding = Holds s }) q.pid
      (λ j.
      (let same : q ≡ i.0 = same_Some q i.0 (sym e ∙ ap (λ (n : ℕ). numbered pid_of n ps) j ∙ i.1) in let z : false ≡ true = sym h ∙ ap (λ (x : Process). lends_to pid x.holding) same ∙ i.2 in cc)) ∙ e
]

-- The end.

lower_map : (g : Process → Process) → ((x : Process) → x.parent < x.pid → (g x).parent < (g x).pid) → (ps : List Process) → AllLower ps → AllLower (map g ps)
lower_map g h [] l = tt
lower_map g h (p ∷ ps) l = (h p l.0, lower_map g h ps l.1)

orphans_tidy : (ps : List Process) (pid next ns : ℕ) → Tidy ps next ns → Tidy (orphans pid ps) next ns
orphans_tidy ps pid next ns t = record {
  pids = orphans_distinct ps pid t.pids;
  sids = subst (λ (l : List Space). AllDistinct (map sid_of l)) (sym (orphans_held ps pid t.pids)) t.sids;
  pids_below = subst (AllBelow next) (sym (pids_map (without_parent pid) (λ x. refl) (filter (λ (q : Process). not (is_zombie_child pid q)) ps)))
      (below_filter pid_of next (λ (q : Process). not (is_zombie_child pid q)) ps t.pids_below);
  sids_below = subst (λ (l : List Space). AllBelow ns (map sid_of l)) (sym (orphans_held ps pid t.pids)) t.sids_below;
  lower = lower_map (without_parent pid) (λ x l. go (x.parent == pid) x.parent x.pid l) (filter (λ (q : Process). not (is_zombie_child pid q)) ps)
      (lower_filter (λ (q : Process). not (is_zombie_child pid q)) ps t.lower);
}
  where
    go : (b : Bool) (m n : ℕ) → m < n → if◌then◌else◌ b 0 m < n
    go true m n l = omega arith
    go false m n l = l

left_tidy : (b : Bool) (ps : List Process) (q : Process) (pid parent next ns : ℕ) → Tidy ps next ns → numbered pid_of pid ps ≡ Some q
    → space_held q.holding ≡ [] → Tidy (left_flat b (orphans pid ps) pid parent) next ns
left_tidy true ps q pid parent next ns t e h = let o : Tidy (orphans pid ps) next ns = orphans_tidy ps pid next ns t in record {
  pids = distinct_filter pid_of (λ (x : Process). not (x.pid == pid)) (orphans pid ps) o.pids;
  sids = subst (λ (l : List Space). AllDistinct (map sid_of l)) (sym (end_held true ps q pid parent t.pids e h)) t.sids;
  pids_below = below_filter pid_of next (λ (x : Process). not (x.pid == pid)) (orphans pid ps) o.pids_below;
  sids_below = subst (λ (l : List Space). AllBelow ns (map sid_of l)) (sym (end_held true ps q pid parent t.pids e h)) t.sids_below;
  lower = lower_filter (λ (x : Process). not (x.pid == pid)) (orphans pid ps) o.lower;
}
left_tidy false ps q pid parent next ns t e h = let o : Tidy (orphans pid ps) next ns = orphans_tidy ps pid next ns t in record {
  pids = subst AllDistinct (sym (pids_map (awake parent) (λ x. refl) (orphans pid ps))) o.pids;
  sids = subst (λ (l : List Space). AllDistinct (map sid_of l)) (sym (end_held false ps q pid parent t.pids e h)) t.sids;
  pids_below = subst (AllBelow next) (sym (pids_map (awake parent) (λ x. refl) (orphans pid ps))) o.pids_below;
  sids_below = subst (λ (l : List Space). AllBelow ns (map sid_of l)) (sym (end_held false ps q pid parent t.pids e h)) t.sids_below;
  lower = lower_map (awake parent) (λ x l. l) (orphans pid ps) o.lower;
}

-- The changes.

-- the number of a space that a process holds
own_below : (flat : FlatState) (pid : ℕ) (q : Process) (s : Space) → IsNumbered flat → process_of flat pid ≡ Some q → q.holding ≡ Holds s
    → s.sid < flat.next_sid
own_below flat pid q s n e h = go (map sid_of (held flat.processes)) n.sids_below
    (λ a. holds_there flat.processes q.pid q s (found_self flat pid q e) h (absent_none sid_of s.sid (held flat.processes) a))
  where
    go : (xs : List ℕ) → AllBelow flat.next_sid xs → (IsAbsent s.sid xs → ⊥) → s.sid < flat.next_sid
    go [] b a = absurd (a tt)
    go (x ∷ xs) b a = elim (cases_eq x s.sid) [
      | inl i ↦ (let y = b.0 in omega arith)
      | inr d ↦ go xs b.1 (λ y. a (d, y))
    ]

-- a process that holds its space gives way to one that has none, and the space goes back where it was lent
pub back_tidy : (flat : FlatState) (pid : ℕ) (q fp : Process) (s : Space) → IsNumbered flat → process_of flat pid ≡ Some q → q.holding ≡ Holds s
    → numbered pid_of fp.pid flat.processes ≡ Some q
    → fp.parent ≡ q.parent → fp.pid ≡ q.pid → space_held fp.holding ≡ []
    → Tidy (returned q.pid s (replaced flat.processes fp)) flat.next_pid flat.next_sid
back_tidy flat pid q fp s n e h f par i z = returned_tidy (replaced flat.processes fp) q.pid s flat.next_pid flat.next_sid
    (exchange flat.processes q fp flat.next_pid flat.next_sid flat.next_sid (tidy_of flat n) f par (loss flat.processes q fp s flat.next_sid h z))
    (none_absent sid_of s.sid (held (replaced flat.processes fp)) (held_now flat.processes fp s (held_at flat.processes q fp s f h n.sids) ∙ ap (numbered sid_of s.sid) z))
    (own_below flat pid q s n e h)

pub writes_numbered : (flat : FlatState) (pid : ℕ) (ws : List ByteWrite) (q : Process) (s : Space) → process_of flat pid ≡ Some q
    → q.holding ≡ Holds s → IsNumbered flat → IsNumbered (apply_writes flat pid ws)
unfolding apply_writes
writes_numbered flat pid ws q s e h n = subst IsNumbered (sym (ap (wrote_if flat ws) e ∙ ap (wrote_by flat q ws) h))
    (of_tidy (with_process flat (record q { holding = Holds (puts s ws) }))
    (exchange flat.processes q (record q { holding = Holds (puts s ws) }) flat.next_pid flat.next_sid flat.next_sid (tidy_of flat n) (found_self flat pid q e) refl
    (same_exchange flat.processes q (record q { holding = Holds (puts s ws) }) flat.next_sid (ap (λ (m : ℕ). m ∷ []) (puts_sid ws s) ∙ sym (ap (λ (x : Holding). map sid_of (space_held x)) h)))))

-- a process with the same spaces
same_numbered : (flat : FlatState) (q p : Process) → numbered pid_of p.pid flat.processes ≡ Some q → p.parent ≡ q.parent
    → map sid_of (space_held p.holding) ≡ map sid_of (space_held q.holding)
    → IsNumbered flat → IsNumbered (with_process flat p)
same_numbered flat q p e par h n =
    of_tidy (with_process flat p) (exchange flat.processes q p flat.next_pid flat.next_sid flat.next_sid (tidy_of flat n) e par (same_exchange flat.processes q p flat.next_sid h))

-- a zombie goes
reaped : (flat : FlatState) (child status : ℕ) (z : Process) → process_of flat child ≡ Some z → z.holding ≡ Zombie status → IsNumbered flat
    → IsNumbered (without_process flat child)
reaped flat child status z e h n =
    let same : held (filter (λ (x : Process). not (x.pid == child)) flat.processes) ≡ held flat.processes = held_filter (λ (x : Process). not (x.pid == child)) flat.processes n.pids
    (λ x f t. let i : x.pid ≡ child = Rattle.std.proofs.lemmas.Bool.eqb-true x.pid child (off (x.pid == child) t) in
    ap (λ (y : Process). space_held y.holding) (same_Some x z (sym f ∙ ap (λ (m : ℕ). numbered pid_of m flat.processes) i ∙ sym (found_is flat.processes child) ∙ e)) ∙ ap space_held h) in
    of_tidy (without_process flat child) (record {
      pids = distinct_filter pid_of (λ (x : Process). not (x.pid == child)) flat.processes n.pids;
      sids = subst (λ (l : List Space). AllDistinct (map sid_of l)) (sym same) n.sids;
      pids_below = below_filter pid_of flat.next_pid (λ (x : Process). not (x.pid == child)) flat.processes n.pids_below;
      sids_below = subst (λ (l : List Space). AllBelow flat.next_sid (map sid_of l)) (sym same) n.sids_below;
      lower = lower_filter (λ (x : Process). not (x.pid == child)) flat.processes n.parents;
    })
  where
    off : (b : Bool) → not b ≡ false → b ≡ true
    off true e = refl
    off false e = absurd cc

pub changes_numbered : (images : List NamedImage) (flat : FlatState) (pid : ℕ) (regs : Regs) (change : Change) (q : Process) (s : Space)
    → process_of flat pid ≡ Some q → q.holding ≡ Holds s
    → NamesChild flat change → IsNumbered flat → IsNumbered (apply_change images flat pid regs change)
changes_numbered images flat pid regs change q s e h m n = subst IsNumbered (sym (applied images flat pid regs change q s e h)) (go change m)
  where
    found : numbered pid_of q.pid flat.processes ≡ Some q
    found = found_self flat pid q e

    tidy : Tidy flat.processes flat.next_pid flat.next_sid
    tidy = tidy_of flat n

    p : Process
    p = record q { regs = regs }

    below : q.pid < flat.next_pid
    below = own_pid flat.processes flat.next_pid n.pids_below found
      where
        own_pid : (ps : List Process) (next : ℕ) → AllBelow next (map pid_of ps) → numbered pid_of q.pid ps ≡ Some q → q.pid < next
        own_pid [] next b f = none_some q f
        own_pid (x ∷ ps) next b f = elim (cases_eq x.pid q.pid) [
          | inl i ↦ (let y = b.0 in omega arith)
          | inr d ↦ own_pid ps next b.1 (sym (numbered_miss pid_of q.pid x ps d) ∙ f)
        ]

    -- the spaces without that of the process
    gone_at : (fp : Process) → fp.pid ≡ q.pid → space_held fp.holding ≡ [] → IsAbsent s.sid (map sid_of (held (replaced flat.processes fp)))
    gone_at fp i z = let f : numbered pid_of fp.pid flat.processes ≡ Some q = ap (λ (x : ℕ). numbered pid_of x flat.processes) i ∙ found in
        none_absent sid_of s.sid (held (replaced flat.processes fp)) (held_now flat.processes fp s (held_at flat.processes q fp s f h n.sids) ∙ ap (numbered sid_of s.sid) z)

    renewed : (z : Space) → z.sid ≡ flat.next_sid
        → IsNumbered (record (Rattle.flat_state.specs.Change.given_back (with_process flat (record p { holding = Holds z })) q.pid s) { next_sid = flat.next_sid + 1 })
    renewed z i =
        let fp : Process = record p { holding = Holds z } in
        let t : Tidy (replaced flat.processes fp) flat.next_pid (flat.next_sid + 1) =
        exchange flat.processes q fp flat.next_pid flat.next_sid (flat.next_sid + 1) tidy found refl (renewal flat.processes q fp s z flat.next_sid h refl i) in
        let l : s.sid < flat.next_sid = own_below flat pid q s n e h in
        of_tidy (record (Rattle.flat_state.specs.Change.given_back (with_process flat fp) q.pid s) { next_sid = flat.next_sid + 1 })
        (returned_tidy (replaced flat.processes fp) q.pid s flat.next_pid (flat.next_sid + 1) t
        (none_absent sid_of s.sid (held (replaced flat.processes fp))
        (held_now flat.processes fp s (held_at flat.processes q fp s found h n.sids) ∙ numbered_miss sid_of s.sid z [] (λ j. absurd (let y = i in omega arith)))) (omega arith))

    go : (change : Change) → NamesChild flat change → IsNumbered (changed images flat p s change)
    go Keep m = same_numbered flat q p found refl refl n
    go Sleep m = same_numbered flat q (record p { asleep = true }) found refl refl n
    go (Resize d t) m = same_numbered flat q (record p { holding = Holds (resized s d t) }) found refl (sym (ap (λ (x : Holding). map sid_of (space_held x)) h)) n
    go (Fork child) m =
        let t : IsNumbered (with_process flat p) = same_numbered flat q p found refl refl n in
        let k : Tidy (replaced flat.processes p) flat.next_pid flat.next_sid = tidy_of (with_process flat p) t in
        subst (λ (x : ℕ). IsNumbered (forked flat p s x)) (sym m) (of_tidy (forked flat p s flat.next_pid)
        (one_more (replaced flat.processes p) (child_of p flat.next_pid (record s { sid = flat.next_sid })) (record s { sid = flat.next_sid }) flat.next_pid flat.next_sid
        (flat.next_sid + 1) k refl below refl
        (below_absent flat.next_sid (map sid_of (held (replaced flat.processes p))) k.sids_below) (omega arith)
        (below_more flat.next_sid (map sid_of (held (replaced flat.processes p))) k.sids_below)))
    go (Lend child) m =
        let fp : Process = record p { holding = Lends s.sid flat.next_pid } in
        let k : Tidy (replaced flat.processes fp) flat.next_pid flat.next_sid =
        exchange flat.processes q fp flat.next_pid flat.next_sid flat.next_sid tidy found refl (loss flat.processes q fp s flat.next_sid h refl) in
        subst (λ (x : ℕ). IsNumbered (lent flat p s x)) (sym m) (of_tidy (lent flat p s flat.next_pid)
        (one_more (replaced flat.processes fp) (child_of p flat.next_pid s) s flat.next_pid flat.next_sid flat.next_sid k refl below refl (gone_at fp refl refl)
        (own_below flat pid q s n e h) k.sids_below))
    go (Exec number top) m = by (image_numbered images number)
      where
        by : (o : Option NamedImage) → IsNumbered (entered flat p s number o top)
        by None = n
        by (Some named) = renewed (space_with flat.next_sid number named.image top) refl
    go (Reap child) m =
        same_numbered (without_process flat child) q p (Rattle.kernel_laws.proofs.Flat.Numbered.removed_not pid_of q.pid child flat.processes other ∙ found) refl refl
        (reaped flat child m.1 m.0 m.2 m.3 n)
      where
        other : q.pid ≢ child
        other i = let same : q ≡ m.0 = same_Some q m.0 (sym found ∙ ap (λ (x : ℕ). numbered pid_of x flat.processes) i ∙ sym (found_is flat.processes child) ∙ m.2) in
            let z : Holds s ≡ Zombie m.1 = sym h ∙ ap (λ (x : Process). x.holding) same ∙ m.3 in cc
    go (End status) m =
        let fp : Process = record p { holding = Zombie status } in
        let t : Tidy (replaced flat.processes fp) flat.next_pid flat.next_sid =
        exchange flat.processes q fp flat.next_pid flat.next_sid flat.next_sid tidy found refl (loss flat.processes q fp s flat.next_sid h refl) in
        let r : Tidy (returned q.pid s (replaced flat.processes fp)) flat.next_pid flat.next_sid =
        returned_tidy (replaced flat.processes fp) q.pid s flat.next_pid flat.next_sid t (gone_at fp refl refl) (own_below flat pid q s n e h) in
        subst IsNumbered (sym (left_is (q.parent == 0) (orphaned (Rattle.flat_state.specs.Change.given_back (with_process flat fp) q.pid s) q.pid) q.pid q.parent))
        (of_tidy (record flat { processes = left_flat (q.parent == 0) (orphans q.pid (returned q.pid s (replaced flat.processes fp))) q.pid q.parent })
        (left_tidy (q.parent == 0) (returned q.pid s (replaced flat.processes fp)) fp q.pid q.parent flat.next_pid flat.next_sid r
        (returned_own (replaced flat.processes fp) q.pid s fp t.pids (replaced_at flat.processes q fp found) refl) refl))
