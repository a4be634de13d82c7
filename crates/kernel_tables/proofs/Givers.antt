-- What the tables are left with where a process passes its space to another.
use Rattle.std.proofs.Common.{◌≡◌, ◌≢◌, ◌⊎◌, inl, inr, ℕ, ◌-◌, ◌==◌, Bool, true, false, cond, List, map, Option, Some, None, IsSome, refl, sym, ap, ◌∙◌, subst}
use Rattle.std.specs.List.{range_with_len, list_any}
use Rattle.std.proofs.lemmas.Bool.{cases_eq, ne_eqb}
use Rattle.std.proofs.lemmas.Option.{same_Some}
use Rattle.vm_facts.proofs.Tests.{eq_self}
use Rattle.proc_table.specs.declared.process.Proc.{Proc as Record}
use Rattle.proc_table.specs.declared.process.Life.{Life as RecordLife}
use Rattle.proc_table.specs.declared.process.Life.TheVariants as lives
use Rattle.proc_table.specs.Records.{find}
use Rattle.kernel_model.specs.Kernel.{Life, New, HoldsSpace, LendsSpace, Proc}
use Rattle.kernel_model.specs.ChangeStep.{pass_from, passed_life, life_of_proc, space_of_life}
use Rattle.kernel_model.specs.Sound.{lives_in, lives as are_alive}
use Rattle.kernel_tables.specs.declared.tables.Tables.{Tables}
use Rattle.kernel_tables.specs.Alike.{lends_to_by, lends_to, is_borrower_in, HoldsBorrowed, AreRecords}
use Rattle.kernel_tables.specs.Machine.{life_shown, proc_shown, proc_of_record, processes_of, residence_by, residence_shown, residents_of}
use Rattle.kernel_tables.specs.Applying.{MayPass}
use Rattle.kernel_tables.specs.Changing.{HasProcesses, processes_in, residents_in, life_at, passed_procs}
use Rattle.kernel_tables.specs.Families.{HasPassed}
use Rattle.kernel_tables.proofs.Records.{found_pid, any_found, found_any}
use Rattle.kernel_tables.proofs.Listed.{over_same, over_map, step_in, process_is}
use Rattle.kernel_tables.proofs.Lineage.{has_processes, life_shown_at}
use Rattle.kernel_tables.proofs.Kin.{true_false, Follows, follow_records}

-- A space passes.

module _ (t u : Tables) (from to sid : ℕ) (receiver : Life) (g b giver taker : Record) (gave : find from t.processes ≡ Some g) (took : find to t.processes ≡ Some b) (apart : from ≢ to)
    (passed : HasPassed t u from to giver taker) (gives : proc_shown giver ≡ record (proc_shown g) { life = pass_from sid to receiver })
    (takes : proc_shown taker ≡ record (proc_shown b) { life = HoldsSpace sid }) where
  abbrev passes : Proc → Proc
  passes q = record q { life = passed_life sid from to receiver q }

  abbrev passes_by : Bool → Bool → Proc → Proc
  passes_by x y q = record q { life = cond x (pass_from sid to receiver) (cond y (HoldsSpace sid) q.life) }

  other : (n : ℕ) (o : Option Record) → find n t.processes ≡ o → n ≢ from → n ≢ to → proc_of_record o ≡ step_in passes (proc_of_record o)
  other n None f d c = refl
  other n (Some q) f d c =
      let i = found_pid n t.processes q f in
      sym (ap (λ (x : Bool). Some (passes_by x (q.pid == to) (proc_shown q))) (ne_eqb q.pid from (λ k. d (sym i ∙ k)))
      ∙ ap (λ (y : Bool). Some (passes_by false y (proc_shown q))) (ne_eqb q.pid to (λ k. c (sym i ∙ k))))

  each : (n : ℕ) → proc_of_record (find n u.processes) ≡ step_in passes (proc_of_record (find n t.processes))
  each n = elim (cases_eq n from) [
    | inl i ↦
        ap (λ (m : ℕ). proc_of_record (find m u.processes)) i ∙ ap proc_of_record passed.gives ∙ ap (λ (p : Proc). Some p) gives
        ∙ sym (ap (λ (x : Bool). Some (passes_by x (g.pid == to) (proc_shown g))) (ap (λ (m : ℕ). m == from) (found_pid from t.processes g gave) ∙ eq_self from))
        ∙ sym (ap (λ (m : ℕ). step_in passes (proc_of_record (find m t.processes))) i ∙ ap (λ (o : Option Record). step_in passes (proc_of_record o)) gave)
    | inr d ↦ elim (cases_eq n to) [
      | inl i ↦
          let is = found_pid to t.processes b took in
          ap (λ (m : ℕ). proc_of_record (find m u.processes)) i ∙ ap proc_of_record passed.takes ∙ ap (λ (p : Proc). Some p) takes
          ∙ sym (ap (λ (x : Bool). Some (passes_by x (b.pid == to) (proc_shown b))) (ne_eqb b.pid from (λ k. apart (sym k ∙ is)))
          ∙ ap (λ (y : Bool). Some (passes_by false y (proc_shown b))) (ap (λ (m : ℕ). m == to) is ∙ eq_self to))
          ∙ sym (ap (λ (m : ℕ). step_in passes (proc_of_record (find m t.processes))) i ∙ ap (λ (o : Option Record). step_in passes (proc_of_record o)) took)
      | inr c ↦ ap proc_of_record (passed.others n d c) ∙ other n (find n t.processes) refl d c
    ]
  ]

  pub passed_processes : processes_of u.processes t.next_pid ≡ map (λ (q : Proc). record q { life = passed_life sid from to receiver q }) (processes_in t)
  passed_processes = over_map (λ n. proc_of_record (find n u.processes)) (λ n. proc_of_record (find n t.processes)) passes (range_with_len 1 (t.next_pid - 1)) each

  pub passed_residents : residence_by giver giver.state ≡ residence_by g g.state → residence_by taker taker.state ≡ residence_by b b.state
      → residents_of u.processes t.next_pid ≡ residents_in t
  passed_residents x y = over_same (λ n. residence_shown (find n u.processes)) (λ n. residence_shown (find n t.processes)) (range_with_len 1 (t.next_pid - 1)) (λ n. elim (cases_eq n from) [
    | inl i ↦ ap (λ (m : ℕ). residence_shown (find m u.processes)) i ∙ ap residence_shown passed.gives ∙ x ∙ sym (ap (λ (m : ℕ). residence_shown (find m t.processes)) i ∙ ap residence_shown gave)
    | inr d ↦ elim (cases_eq n to) [
      | inl i ↦ ap (λ (m : ℕ). residence_shown (find m u.processes)) i ∙ ap residence_shown passed.takes ∙ y ∙ sym (ap (λ (m : ℕ). residence_shown (find m t.processes)) i ∙ ap residence_shown took)
      | inr c ↦ ap residence_shown (passed.others n d c)
    ]
  ])

-- The records hold what they are to hold where one lends its space to a process that has none.

new_unborrowed : (p : Record) (l : RecordLife) → l ≡ lives.New → (p.borrowed ≡ true → HoldsBorrowed l) → p.borrowed ≡ false
new_unborrowed p l e h = go p.borrowed refl
  where
    go : (b : Bool) → p.borrowed ≡ b → b ≡ false
    go false k = refl
    go true k = absurd (subst HoldsBorrowed e (h k))

pub lent_records : (t u : Tables) (from to sid : ℕ) (g b : Record) → AreRecords t.processes t.next_pid → find from t.processes ≡ Some g
    → find to t.processes ≡ Some b → from ≢ to
    → g.state ≡ lives.Holds sid → b.state ≡ lives.New
    → HasPassed t u from to (record g { state = lives.Lends sid to }) (record b { state = lives.Holds sid; borrowed = true })
    → AreRecords u.processes t.next_pid
lent_records t u from to sid g b h gave took apart gs bs p =
    let old : List Record = t.processes in
    let new : List Record = u.processes in
    let next : ℕ = t.next_pid in
    let giver : Record = record g { state = lives.Lends sid to } in
    let taker : Record = record b { state = lives.Holds sid; borrowed = true } in
    let gf : Follows to from giver g = record { lends = λ n d. ne_eqb to n (λ i. d (sym i)) ∙ sym (ap (lends_to_by n) gs); borrowed = λ d. refl; holds = λ t. tt } in
    let tf : Follows to to taker b = record { lends = λ n d. sym (ap (lends_to_by n) bs); borrowed = λ d. absurd (d refl); holds = λ t. tt } in
    -- nobody lent to the one that had none
    let alone : list_any (lends_to to) old ≡ false = sym (h.marked to) ∙ ap is_borrower_in took ∙ new_unborrowed b b.state bs (h.holds to b took) in
    let marked : is_borrower_in (find to new) ≡ list_any (lends_to to) new = ap is_borrower_in p.takes ∙ sym (found_any (lends_to to) new from giver p.gives (eq_self to)) in
    let only : (x : ℕ) (q : Record) → find x new ≡ Some q → lends_to to q ≡ true → x ≡ from = λ x q e s. elim (cases_eq x from) [
      | inl i ↦ i
      | inr d ↦ elim (cases_eq x to) [
        | inl i ↦ true_false (lends_to to q) s (ap (lends_to to) (sym (same_Some taker q (sym p.takes ∙ ap (λ (l : ℕ). find l new) (sym i) ∙ e))))
        | inr c ↦ true_false (list_any (lends_to to) old) (found_any (lends_to to) old x q (sym (p.others x d c) ∙ e) s) alone
      ]
    ] in
    let one : (x y : ℕ) (q r : Record) → find x new ≡ Some q → find y new ≡ Some r → lends_to to q ≡ true → lends_to to r ≡ true → x ≡ y = λ x y q r e f s t.
    only x q e s ∙ sym (only y r f t) in
    follow_records old new next to from to g b giver taker h p.sound apart gave took p.gives p.takes p.others gf tf marked one

-- And where it goes back to who lent it.

pub returned_records : (t u : Tables) (from to sid lent : ℕ) (g b : Record) → AreRecords t.processes t.next_pid
    → find from t.processes ≡ Some g → find to t.processes ≡ Some b → from ≢ to
    → g.state ≡ lives.Holds sid → b.state ≡ lives.Lends lent from
    → HasPassed t u from to (record g { state = lives.New; borrowed = false }) (record b { state = lives.Holds sid })
    → AreRecords u.processes t.next_pid
returned_records t u from to sid lent g b h gave took apart gs bs p =
    let old : List Record = t.processes in
    let next : ℕ = t.next_pid in
    let gf : Follows from from giver g = record { lends = λ n d. sym (ap (lends_to_by n) gs); borrowed = λ d. absurd (d refl); holds = λ t. true_false false t refl } in
    let tf : Follows from to taker b = record { lends = λ n d. sym (ap (lends_to_by n) bs ∙ ne_eqb from n (λ i. d (sym i))); borrowed = λ d. refl; holds = λ t. tt } in
    let marked : is_borrower_in (find from new) ≡ list_any (lends_to from) new = ap is_borrower_in p.gives ∙ none_any (list_any (lends_to from) new) refl in
    follow_records old new next from from to g b giver taker h p.sound apart gave took p.gives p.takes p.others gf tf marked (λ x y q r e f s k. absurd (nobody x q e s))
  where
    new : List Record
    new = u.processes

    giver : Record
    giver = record g { state = lives.New; borrowed = false }

    taker : Record
    taker = record b { state = lives.Holds sid }

    lender : lends_to from b ≡ true
    lender = ap (lends_to_by from) bs ∙ eq_self from

    nobody : (x : ℕ) (q : Record) → find x new ≡ Some q → lends_to from q ≡ true → ⊥
    nobody x q e s = elim (cases_eq x from) [
      | inl i ↦ true_false (lends_to from q) s (ap (lends_to from) (sym (same_Some giver q (sym p.gives ∙ ap (λ (l : ℕ). find l new) (sym i) ∙ e))))
      | inr d ↦ elim (cases_eq x to) [
        | inl i ↦ true_false (lends_to from q) s (ap (lends_to from) (sym (same_Some taker q (sym p.takes ∙ ap (λ (l : ℕ). find l new) (sym i) ∙ e))))
        | inr c ↦ c (h.one from x to q b (sym (p.others x d c) ∙ e) took s lender)
      ]
    ]

    none_any : (v : Bool) → list_any (lends_to from) new ≡ v → false ≡ v
    none_any false k = refl
    none_any true k = absurd (let x = any_found (lends_to from) new p.sound.apart k in nobody x.0.pid x.0 x.1 x.2)

-- Who gives its space, and who takes it.

pub alive_there : (t : Tables) (pid : ℕ) → AreRecords t.processes t.next_pid → are_alive (processes_in t) pid ≡ true → IsSome (find pid t.processes)
alive_there t pid h a = go (find pid t.processes) (ap lives_in (sym (process_is t.processes t.next_pid pid h)) ∙ a)
  where
    go : (o : Option Record) → lives_in (proc_of_record o) ≡ true → IsSome o
    go None k = absurd cc
    go (Some p) k = refl

pub gives_there : (t : Tables) (pid from : ℕ) (taker : Life) → AreRecords t.processes t.next_pid → MayPass (life_at t pid) taker from
    → IsSome (find pid t.processes)
gives_there t pid from taker h m = go (find pid t.processes) (subst (λ (o : Option Proc). MayPass (life_of_proc o) taker from) (process_is t.processes t.next_pid pid h) m)
  where
    go : (o : Option Record) → MayPass (life_of_proc (proc_of_record o)) taker from → IsSome o
    go None k = absurd k
    go (Some p) k = refl

-- what their records have
pub may_lives : (t : Tables) (from to : ℕ) (g b : Record) → AreRecords t.processes t.next_pid → find from t.processes ≡ Some g
    → find to t.processes ≡ Some b → MayPass (life_at t from) (life_at t to) from
    → MayPass (life_shown g.state) (life_shown b.state) from
may_lives t from to g b h gave took m =
    subst (λ (l : Life). MayPass l (life_shown b.state) from) (life_shown_at t from g h gave) (subst (λ (l : Life). MayPass (life_at t from) l from) (life_shown_at t to b h took) m)

pub giver_holds : (l : RecordLife) (taker : Life) (from : ℕ) → ((x : ℕ) → l ≡ lives.Holds x → ⊥) → MayPass (life_shown l) taker from → ⊥
giver_holds (lives.Holds sid) taker from n m = n sid refl
giver_holds _ taker from n m = m

pub taker_has : (l r : RecordLife) (sid from : ℕ) → l ≡ lives.Holds sid → ((x : ℕ) × (r ≡ lives.Holds x)) ⊎ ((x : ℕ) × (r ≡ lives.Zombie x))
    → MayPass (life_shown l) (life_shown r) from → ⊥
taker_has l r sid from e (inl x) m = subst (λ (z : RecordLife). MayPass (HoldsSpace sid) (life_shown z) from) x.1 (subst (λ (z : RecordLife). MayPass (life_shown z) (life_shown r) from) e m)
taker_has l r sid from e (inr x) m = subst (λ (z : RecordLife). MayPass (HoldsSpace sid) (life_shown z) from) x.1 (subst (λ (z : RecordLife). MayPass (life_shown z) (life_shown r) from) e m)

pub lends_back : (l r : RecordLife) (sid lent child from : ℕ) → l ≡ lives.Holds sid → r ≡ lives.Lends lent child
    → MayPass (life_shown l) (life_shown r) from → child ≡ from
lends_back l r sid lent child from e f m = subst (λ (z : RecordLife). MayPass (HoldsSpace sid) (life_shown z) from) f (subst (λ (z : RecordLife). MayPass (life_shown z) (life_shown r) from) e m)

-- two of other lives are two
pub two_apart : (ps : List Record) (from to : ℕ) (g b : Record) → find from ps ≡ Some g → find to ps ≡ Some b → (g.state ≡ b.state → ⊥) → from ≢ to
two_apart ps from to g b gave took d i = d (ap (λ (x : Record). x.state) (same_Some g b (sym gave ∙ ap (λ (k : ℕ). find k ps) i ∙ took)))

pub pids_apart : (ps : List Record) (from to : ℕ) (g b : Record) → find from ps ≡ Some g → find to ps ≡ Some b → from ≢ to → g.pid ≢ b.pid
pids_apart ps from to g b gave took d i = d (sym (found_pid from ps g gave) ∙ i ∙ found_pid to ps b took)

passed_is : (t : Tables) (from to sid : ℕ) (receiver : Life) → life_at t from ≡ HoldsSpace sid → life_at t to ≡ receiver
    → map (λ (q : Proc). record q { life = passed_life sid from to receiver q }) (processes_in t) ≡ passed_procs (processes_in t) from to
passed_is t from to sid receiver g b = sym
    (ap (λ (l : Life). map (λ (q : Proc). let z : Proc = record q { life = passed_life (space_of_life l) from to (life_at t to) q } in z) (processes_in t)) g
    ∙ ap (λ (l : Life). map (λ (q : Proc). let z : Proc = record q { life = passed_life sid from to l q } in z) (processes_in t)) b)

pub has_lent : (t u : Tables) (from to sid : ℕ) (g b : Record) → AreRecords t.processes t.next_pid → find from t.processes ≡ Some g
    → find to t.processes ≡ Some b → from ≢ to
    → g.state ≡ lives.Holds sid → b.state ≡ lives.New
    → HasPassed t u g.pid b.pid (record g { state = lives.Lends sid b.pid }) (record b { state = lives.Holds sid; borrowed = true })
    → HasProcesses t u t.next_pid (passed_procs (processes_in t) from to) (residents_in t)
has_lent t u from to sid g b h gave took apart gs bs had =
    let giver : Record = record g { state = lives.Lends sid to } in
    let taker : Record = record b { state = lives.Holds sid; borrowed = true } in
    let p : HasPassed t u from to giver taker = subst (λ (n : ℕ). HasPassed t u n to giver taker) (found_pid from t.processes g gave)
    (subst (λ (n : ℕ). HasPassed t u g.pid n (record g { state = lives.Lends sid n }) taker) (found_pid to t.processes b took) had) in
    has_processes t u _ _ p.rest
    (passed_processes t u from to sid New g b giver taker gave took apart p refl refl
    ∙ passed_is t from to sid New (life_shown_at t from g h gave ∙ ap life_shown gs) (life_shown_at t to b h took ∙ ap life_shown bs))
    (passed_residents t u from to sid New g b giver taker gave took apart p refl refl (sym (ap (residence_by g) gs)) (sym (ap (residence_by b) bs)))
    (lent_records t u from to sid g b h gave took apart gs bs p)

pub has_returned : (t u : Tables) (from to sid lent child : ℕ) (g b : Record) → AreRecords t.processes t.next_pid
    → find from t.processes ≡ Some g → find to t.processes ≡ Some b → from ≢ to
    → g.state ≡ lives.Holds sid → b.state ≡ lives.Lends lent child → child ≡ from
    → HasPassed t u g.pid b.pid (record g { state = lives.New; borrowed = false }) (record b { state = lives.Holds sid })
    → HasProcesses t u t.next_pid (passed_procs (processes_in t) from to) (residents_in t)
has_returned t u from to sid lent child g b h gave took apart gs bs own had =
    let giver : Record = record g { state = lives.New; borrowed = false } in
    let taker : Record = record b { state = lives.Holds sid } in
    let p : HasPassed t u from to giver taker =
    subst (λ (n : ℕ). HasPassed t u n to giver taker) (found_pid from t.processes g gave) (subst (λ (n : ℕ). HasPassed t u g.pid n giver taker) (found_pid to t.processes b took) had) in
    has_processes t u _ _ p.rest
    (passed_processes t u from to sid (LendsSpace lent child) g b giver taker gave took apart p refl refl
    ∙ passed_is t from to sid (LendsSpace lent child) (life_shown_at t from g h gave ∙ ap life_shown gs) (life_shown_at t to b h took ∙ ap life_shown bs))
    (passed_residents t u from to sid (LendsSpace lent child) g b giver taker gave took apart p refl refl (sym (ap (residence_by g) gs)) (sym (ap (residence_by b) bs)))
    (returned_records t u from to sid lent g b h gave took apart gs (bs ∙ ap (λ (n : ℕ). lives.Lends lent n) own) p)
