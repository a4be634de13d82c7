-- What the records of the processes say of children is what the kernel's processes say.
use Rattle.std.proofs.Common.{◌≡◌, inl, inr, ℕ, zero, suc, ◌+◌, ◌-◌, ◌<◌, ◌≤◌, Bool, true, false, ◌&&◌, List, [], ◌∷◌, Option, Some, None, refl, sym, ap, ◌∙◌, subst, arith, eq-eqb}
use Rattle.std.specs.Prelude.{filter_map, find}
use Rattle.std.specs.List.{range_with_len}
use Rattle.std.proofs.lemmas.Bool.{cases_eq, ne_eqb}
use Rattle.std.proofs.lemmas.Option.{same_Some, none-some}
use Rattle.vm_facts.specs.declared.regs.Regs.{Regs}
use Rattle.flat_state.specs.declared.change.Change.TheVariants.{Reap}
use Rattle.flat_model.specs.declared.calls.Reply.{Reply}
use Rattle.flat_model.specs.declared.calls.Reply.TheVariants.{Does}
use Rattle.flat_model.specs.Calls.{replied_both}
use Rattle.proc_table.specs.declared.process.Proc.{Proc as Record}
use Rattle.proc_table.specs.declared.process.Life.{Life as RecordLife}
use Rattle.proc_table.specs.declared.process.Life.TheVariants as records
use Rattle.proc_table.specs.Records.{find as find_record}
use Rattle.kernel_model.specs.Kernel.{Kernel, Proc}
use Rattle.kernel_model.specs.ChangeStep.{is_ended}
use Rattle.kernel_model.specs.Sound.{has_life, lives_in, lives}
use Rattle.machine_state.specs.Alike.{AreRecords}
use Rattle.machine_state.specs.Machine.{life_shown, proc_shown, proc_of_record, processes_of}
use Rattle.machine_state.proofs.Records.{keeps_none, keeps_some, found_pid}
use Rattle.machine_state.proofs.Listed.{process_is}
use Rattle.proc_calls.specs.declared.children.Children.{Children}
use Rattle.proc_calls.specs.declared.children.Children.TheVariants as children
use Rattle.proc_calls.specs.Waiting.{is_child, is_ended_child, exit_status, wait_by_records, wait_among, wait_answer, reply_by, HasEnded, NoneEnded, NoChild, IsZombieChild, FoundAmong}

-- The first of those that numbers name.

find_no : {A : Type 0} (c : A → Bool) (x : A) (xs : List A) → c x ≡ false → find c (x ∷ xs) ≡ find c xs
find_no c x xs e = rw e refl

find_yes : {A : Type 0} (c : A → Bool) (x : A) (xs : List A) → c x ≡ true → find c (x ∷ xs) ≡ Some x
find_yes c x xs e = rw e refl

pub none_over : {A : Type 0} (c : A → Bool) (g : ℕ → Option A) (ns : List ℕ) → ((n : ℕ) (x : A) → g n ≡ Some x → c x ≡ false) → find c (filter_map g ns) ≡ None
none_over c g [] h = refl
none_over {A = A} c g (n ∷ ns) h = go (g n) refl (none_over c g ns h)
  where
    go : (o : Option A) → g n ≡ o → find c (filter_map g ns) ≡ None → find c (filter_map g (n ∷ ns)) ≡ None
    go None e more = ap (find c) (keeps_none g n ns e) ∙ more
    go (Some x) e more = ap (find c) (keeps_some g n ns x e) ∙ find_no c x (filter_map g ns) (h n x e) ∙ more

pub first_over : {A : Type 0} (c : A → Bool) (g : ℕ → Option A) (len a n : ℕ) (x : A) → a ≤ n → n < a + len → g n ≡ Some x → c x ≡ true
    → ((m : ℕ) (y : A) → m < n → g m ≡ Some y → c y ≡ false) → find c (filter_map g (range_with_len a len)) ≡ Some x
first_over c g zero a n x l u e t h = absurd (omega arith)
first_over {A = A} c g (suc len) a n x l u e t h = elim (cases_eq a n) [
  | inl i ↦ ap (find c) (keeps_some g a (range_with_len (a + 1) len) x (ap g i ∙ e)) ∙ find_yes c x (filter_map g (range_with_len (a + 1) len)) t
  | inr d ↦ go (omega arith) (g a) refl (first_over c g len (a + 1) n x (omega arith) (omega arith) e t h)
]
  where
    go : a < n → (o : Option A) → g a ≡ o → find c (filter_map g (range_with_len (a + 1) len)) ≡ Some x → find c (filter_map g (range_with_len a (suc len))) ≡ Some x
    go b None k more = ap (find c) (keeps_none g a (range_with_len (a + 1) len) k) ∙ more
    go b (Some y) k more =
        ap (find c) (keeps_some g a (range_with_len (a + 1) len) y k) ∙ find_no c y (filter_map g (range_with_len (a + 1) len)) (h a y b k) ∙ more

some_over : {A : Type 0} (c : A → Bool) (g : ℕ → Option A) (len a n : ℕ) (x : A) → a ≤ n → n < a + len → g n ≡ Some x → c x ≡ true
    → find c (filter_map g (range_with_len a len)) ≡ None → ⊥
some_over c g zero a n x l u e t none = omega arith
some_over {A = A} c g (suc len) a n x l u e t none = elim (cases_eq a n) [
  | inl i ↦
      none-some x (sym none ∙ ap (find c) (keeps_some g a (range_with_len (a + 1) len) x (ap g i ∙ e)) ∙ find_yes c x (filter_map g (range_with_len (a + 1) len)) t)
  | inr d ↦ go (g a) refl (some_over c g len (a + 1) n x (omega arith) (omega arith) e t)
]
  where
    by : (b : Bool) (y : A) → g a ≡ Some y → c y ≡ b → (find c (filter_map g (range_with_len (a + 1) len)) ≡ None → ⊥) → ⊥
    by true y k b more =
        none-some y (sym none ∙ ap (find c) (keeps_some g a (range_with_len (a + 1) len) y k) ∙ find_yes c y (filter_map g (range_with_len (a + 1) len)) b)
    by false y k b more =
        more (sym (find_no c y (filter_map g (range_with_len (a + 1) len)) b) ∙ sym (ap (find c) (keeps_some g a (range_with_len (a + 1) len) y k)) ∙ none)

    go : (o : Option A) → g a ≡ o → (find c (filter_map g (range_with_len (a + 1) len)) ≡ None → ⊥) → ⊥
    go None k more = more (sym (ap (find c) (keeps_none g a (range_with_len (a + 1) len) k)) ∙ none)
    go (Some y) k more = by (c y) y k refl more

-- Of the processes.

module _ (ps : List Record) (next parent : ℕ) (known : AreRecords ps next) where
  -- what is so of each record that there is, is so of what is shown
  each_shown : (c : Proc → Bool) (n : ℕ) (x : Proc) → ((p : Record) → find_record n ps ≡ Some p → c (proc_shown p) ≡ false) → proc_of_record (find_record n ps) ≡ Some x → c x ≡ false
  each_shown c n x h e = go (find_record n ps) refl e
    where
      go : (o : Option Record) → find_record n ps ≡ o → proc_of_record o ≡ Some x → c x ≡ false
      go None k e = absurd cc
      go (Some p) k e = sym (ap c (same_Some (proc_shown p) x e)) ∙ h p k

  ended_by : (p : Record) (l : RecordLife) → p.state ≡ l → ((status : ℕ) → p.state ≡ records.Zombie status → ⊥) → is_ended (life_shown l) ≡ false
  ended_by p records.New e h = refl
  ended_by p (records.Holds sid) e h = refl
  ended_by p (records.Lends sid child) e h = refl
  ended_by p (records.Zombie status) e h = absurd (h status e)

  not_ended : (p : Record) → ((status : ℕ) → p.parent ≡ parent → p.state ≡ records.Zombie status → ⊥) → is_ended_child parent (proc_shown p) ≡ false
  not_ended p h = elim (cases_eq p.parent parent) [
    | inl i ↦ ap (λ (b : Bool). b && is_ended (life_shown p.state)) (eq-eqb p.parent parent i) ∙ ended_by p p.state refl (λ status e. h status i e)
    | inr d ↦ ap (λ (b : Bool). b && is_ended (life_shown p.state)) (ne_eqb p.parent parent d)
  ]

  no_child : NoChild (λ n. 0 < n) ps parent → find (is_child parent) (processes_of ps next) ≡ None
  no_child h =
      none_over (is_child parent) (λ n. proc_of_record (find_record n ps)) (range_with_len 1 (next - 1))
      (λ n x e. each_shown (is_child parent) n x (λ p k. ne_eqb p.parent parent (h n p (known.known n p k).0 k)) e)

  none_ended : NoneEnded (λ n. 0 < n) ps parent → find (is_ended_child parent) (processes_of ps next) ≡ None
  none_ended h =
      none_over (is_ended_child parent) (λ n. proc_of_record (find_record n ps)) (range_with_len 1 (next - 1))
      (λ n x e. each_shown (is_ended_child parent) n x (λ p k. not_ended p (λ status i z. h n status p (known.known n p k).0 k i z)) e)

  some_child : (n : ℕ) (p : Record) → find_record n ps ≡ Some p → p.parent ≡ parent → find (is_child parent) (processes_of ps next) ≡ None → ⊥
  some_child n p f i =
      let b = known.known n p f in
      some_over (is_child parent) (λ m. proc_of_record (find_record m ps)) (next - 1) 1 n (proc_shown p) b.0 (omega (arith, b.0, b.1)) (ap proc_of_record f) (eq-eqb p.parent parent i)

  first_ended : (child status : ℕ) (z : IsZombieChild ps parent child status) → NoneEnded (λ n. (0 < n) × (n < child)) ps parent
      → find (is_ended_child parent) (processes_of ps next) ≡ Some (proc_shown z.there)
  first_ended child status z h =
      let b = known.known child z.there z.found in
      first_over (is_ended_child parent) (λ m. proc_of_record (find_record m ps)) (next - 1) 1 child (proc_shown z.there) b.0 (omega (arith, b.0, b.1)) (ap proc_of_record z.found)
      (ap (λ (t : Bool). t && is_ended (life_shown z.there.state)) (eq-eqb z.there.parent parent z.its) ∙ ap (λ (l : RecordLife). is_ended (life_shown l)) z.ended)
      (λ m y l e. each_shown (is_ended_child parent) m y (λ p k. not_ended p (λ s i x. h m s p ((known.known m p k).0, l) k i x)) e)

  with_child : (o w : Option Proc) (regs : Regs) (r : Reply) → (o ≡ None → ⊥) → ((q : Proc) → wait_by_records (Some q) w regs ≡ r) → wait_by_records o w regs ≡ r
  with_child None w regs r some h = absurd (some refl)
  with_child (Some q) w regs r some h = h q

  pub waits : (c : Children) → FoundAmong (λ n. 0 < n) ps parent c → (regs : Regs) → wait_among (processes_of ps next) parent regs ≡ reply_by c regs
  waits children.None h regs = ap (λ (o : Option Proc). wait_by_records o (find (is_ended_child parent) (processes_of ps next)) regs) (no_child h)
  waits children.Living h regs =
      ap (λ (o : Option Proc). wait_by_records (find (is_child parent) (processes_of ps next)) o regs) (none_ended h.1)
      ∙ with_child (find (is_child parent) (processes_of ps next)) None regs (reply_by children.Living regs)
      (some_child h.0.child h.0.is.there h.0.is.found h.0.is.its) (λ q. refl)
  waits (children.Zombie child status) h regs =
      ap (λ (o : Option Proc). wait_by_records (find (is_child parent) (processes_of ps next)) o regs) (first_ended child status h.0 h.1)
      ∙ with_child (find (is_child parent) (processes_of ps next)) (Some (proc_shown h.0.there)) regs (reply_by (children.Zombie child status) regs)
      (some_child child h.0.there h.0.found h.0.its) (λ q. is)
    where
      is : (let r : Reply = Does (replied_both regs h.0.there.pid (exit_status (life_shown h.0.there.state))) (Reap h.0.there.pid) in r) ≡ reply_by (children.Zombie child status) regs
      is =
          ap (λ (l : RecordLife). Does (replied_both regs h.0.there.pid (exit_status (life_shown l))) (Reap h.0.there.pid)) h.0.ended
          ∙ ap (λ (n : ℕ). Does (replied_both regs n status) (Reap n)) (found_pid child ps h.0.there h.0.found)

  pub ended : (c : Children) → FoundAmong (λ n. 0 < n) ps parent c → HasEnded (processes_of ps next) c
  ended children.None h = tt
  ended children.Living h = tt
  ended (children.Zombie child status) h =
      ap lives_in (process_is ps next child known) ∙ ap (λ (o : Option Record). lives_in (proc_of_record o)) h.0.found
      ∙ ap (λ (l : RecordLife). has_life (life_shown l)) h.0.ended

-- So it is of a kernel whose processes these are.

pub wait_is : (k : Kernel) (ps : List Record) (parent : ℕ) (c : Children) (regs : Regs) → k.processes ≡ processes_of ps k.next_pid → AreRecords ps k.next_pid
    → FoundAmong (λ n. 0 < n) ps parent c → wait_answer k parent regs ≡ reply_by c regs
wait_is k ps parent c regs e h found = ap (λ (qs : List Proc). wait_among qs parent regs) e ∙ waits ps k.next_pid parent h c found regs

pub zombie_ended : (k : Kernel) (ps : List Record) (parent child status : ℕ) (c : Children) → k.processes ≡ processes_of ps k.next_pid
    → AreRecords ps k.next_pid
    → FoundAmong (λ n. 0 < n) ps parent c → c ≡ children.Zombie child status → lives k.processes child ≡ false
zombie_ended k ps parent child status c e h found is =
    ap (λ (qs : List Proc). lives qs child) e ∙ subst (λ (x : Children). HasEnded (processes_of ps k.next_pid) x) is (ended ps k.next_pid parent h c found)
