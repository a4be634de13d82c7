-- Instructions that were carried out one after another within one loan, and counted at once, were counted one after another.
use Rattle.std.proofs.Common.{◌≡◌, ◌≢◌, ℕ, ℤ, zero, suc, ◌+◌, ◌/◌, ◌%◌, ◌==◌, Bool, true, false, cond, not, ◌&&◌, List, [], ◌∷◌, ◌++◌, map, Option, Some, None, Result, eq-eqb, refl, sym, ap, ◌∙◌, subst, arith}
use Rattle.std.specs.Prelude.{IfSome}
use Rattle.std.proofs.lemmas.Bool.{and_parts}
use Rattle.vm_facts.specs.Answers.{Answers, ByteWrite, written}
use Rattle.vm_facts.specs.declared.entry.Entry.{Entry}
use Rattle.vm_facts.specs.declared.entry.Entry.TheVariants.{Ran}
use Rattle.vm_facts.specs.declared.page.Page.{Page}
use Rattle.vm_facts.specs.declared.page.PageState.{PageState}
use Rattle.vm_facts.specs.declared.page.PageState.TheVariants.{Unfilled, Valid, Invalid, Coming, Going, OnSwap}
use Rattle.vm_facts.specs.declared.page.Page.TheVariants as pages
use Rattle.vm_facts.specs.declared.regs.Regs.{Regs}
use Rattle.user_vax.specs.Program.{run}
use Rattle.user_vax.specs.Effects.{Effect}
use Rattle.user_vax.specs.Instruction.{instruction, answer_of, registers_after, writes_of}
use Rattle.user_vax.specs.declared.refused.Refused.{Refused}
use Rattle.user_vax.specs.declared.stepped.Stepped.TheVariants as steps
use Rattle.flat_state.specs.Journal.{append}
use Rattle.flat_state.specs.declared.spot.Spot.{Spot}
use Rattle.flat_state.specs.declared.spot.Spot.TheVariants.{Text, Data, Stack, Below, Outside}
use Rattle.page_model.specs.Pages.{numbered}
use Rattle.page_model.specs.Placement.{Residence, state_of}
use Rattle.page_model.specs.Swapper.{residence_of, is_out}
use Rattle.kernel_model.specs.Kernel.{Kernel, Proc, with_regs, write_by_state}
use Rattle.kernel_model.specs.ChangeStep.{ran_by, life_of_proc, space_of_life}
use Rattle.kernel_model.specs.Unit.{proc_of}
use Rattle.kernel_laws.proofs.Flat.Numbered.{numbered_map, has_number}
use Rattle.kernel_laws.proofs.PageLawsListsPages.{mapped}
use Rattle.std.specs.Option.{is_some}
use Rattle.user_step.proofs.Trying.{missed}
use Rattle.kernel_laws.proofs.Machine.Swaps.{with_regs_pid}
use Rattle.machine_state.specs.Joined.{instructions_in, last_says}
use Rattle.machine_state.specs.Machine.{Standing}
use Rattle.machine_state.specs.UserMemory.{Wrote, kernel_answers, spot_in, write_spot, write_in, writes_in, AreWritten}
use Rattle.machine_state.specs.UserMemoryLaws.{writes_answer, writes_append}
use Rattle.machine_state.proofs.Further.{more_at_last, some_last}
use Rattle.machine_state.proofs.Joins.{last_is, runs_kind}
use Rattle.step_units.specs.Callers.{regs_of, regs_by}
use Rattle.step_units.specs.Growth.{space_of_pid}
use Rattle.proc_run.specs.Calls.{own_answers}
use Rattle.proc_run.specs.Choosing.{can_run, steps_by, may_run}
use Rattle.proc_run.specs.Stretch.{CarriesOn, Stretch, StretchOf, MissesByte, RanOne, RanOn}
use Rattle.proc_run.specs.declared.stretch.Missed.{Missed}
use Rattle.proc_run.proofs.Attempts.{no_room}
use Rattle.proc_run.proofs.Covering.{writes_none}
use Rattle.proc_run.proofs.Tried.{ran_advances, ran_goes_on}
use Rattle.proc_run.proofs.Written.{writes_same}

-- What an instruction writes may be written before or after it is counted.

module _ (k : Kernel) (pid : ℕ) (regs : Regs) (e : Entry) where
  byte_apart : (q : Page) (s : PageState) (at byte : ℕ) → write_by_state (ran_by k pid regs e) q s at byte ≡ ran_by (write_by_state k q s at byte) pid regs e
  byte_apart q (Valid f) at byte = refl
  byte_apart q Unfilled at byte = refl
  byte_apart q (Invalid f) at byte = refl
  byte_apart q (Coming f) at byte = refl
  byte_apart q (Going f) at byte = refl
  byte_apart q OnSwap at byte = refl

  spot_apart : (sid : ℕ) (spot : Spot) (byte : ℕ) → write_spot (ran_by k pid regs e) sid spot byte ≡ ran_by (write_spot k sid spot byte) pid regs e
  spot_apart sid (Text i) byte = refl
  spot_apart sid (Data i) byte = byte_apart (pages.Data sid (i / 1024)) (state_of k.place (pages.Data sid (i / 1024))) (i % 1024) byte
  spot_apart sid (Stack i) byte = byte_apart (pages.Stack sid (i / 1024)) (state_of k.place (pages.Stack sid (i / 1024))) (i % 1024) byte
  spot_apart sid Below byte = refl
  spot_apart sid Outside byte = refl

  one_apart : (sid : ℕ) (w : ByteWrite) → write_in (ran_by k pid regs e) sid w ≡ ran_by (write_in k sid w) pid regs e
  one_apart sid w = spot_apart sid (spot_in k.place sid w.address) w.byte

writes_apart : (k : Kernel) (pid : ℕ) (regs : Regs) (e : Entry) (sid : ℕ) (ws : List ByteWrite)
    → writes_in (ran_by k pid regs e) sid ws ≡ ran_by (writes_in k sid ws) pid regs e
writes_apart k pid regs e sid [] = refl
writes_apart k pid regs e sid (w ∷ ws) = ap (λ (l : Kernel). writes_in l sid ws) (one_apart k pid regs e sid w) ∙ writes_apart (write_in k sid w) pid regs e sid ws

written_apart : (k : Kernel) (pid : ℕ) (regs : Regs) (e : Entry) (sid : ℕ) (ws : List ByteWrite) → AreWritten k sid ws → AreWritten (ran_by k pid regs e) sid ws
written_apart k pid regs e sid [] h = tt
written_apart k pid regs e sid (w ∷ ws) h = (
  record { may = h.0.may; owner = h.0.owner; whole = h.0.whole },
  subst (λ (l : Kernel). AreWritten l sid ws) (sym (one_apart k pid regs e sid w)) (written_apart (write_in k sid w) pid regs e sid ws h.1),
)

written_split : (k : Kernel) (sid : ℕ) (xs ys : List ByteWrite) → AreWritten k sid (xs ++ ys) → AreWritten k sid xs × AreWritten (writes_in k sid xs) sid ys
written_split k sid [] ys h = (tt, h)
written_split k sid (x ∷ xs) ys h = let r = written_split (write_in k sid x) sid xs ys h.1 in ((h.0, r.0), r.1)

-- Registers that are put twice are those that were put last.

twice_one : (pid : ℕ) (r s : Regs) (p : Proc) (b : Bool) → (p.pid == pid) ≡ b
    → with_regs pid s (cond b (record p { regs = r }) p) ≡ cond b (record p { regs = s }) p
twice_one pid r s p true e = ap (λ (t : Bool). cond t (record p { regs = s }) (record p { regs = r })) e
twice_one pid r s p false e = ap (λ (t : Bool). cond t (record p { regs = s }) p) e

twice : (pid : ℕ) (r s : Regs) (ps : List Proc) → map (with_regs pid s) (map (with_regs pid r) ps) ≡ map (with_regs pid s) ps
twice pid r s [] = refl
twice pid r s (p ∷ ps) =
    ap (λ (q : Proc). q ∷ map (with_regs pid s) (map (with_regs pid r) ps)) (twice_one pid r s p (p.pid == pid) refl)
    ∙ ap (λ (qs : List Proc). with_regs pid s p ∷ qs) (twice pid r s ps)

-- so are instructions that are counted in the last entry
counted_twice : (k : Kernel) (pid : ℕ) (r s : Regs) (front : List Entry) (last n : ℕ) → k.journal ≡ front ++ Ran pid last ∷ []
    → ran_by (ran_by k pid r (Ran pid n)) pid s (Ran pid 1) ≡ ran_by k pid s (Ran pid (suc n))
counted_twice k pid r s front last n ends =
    let once : append k.journal (Ran pid n) ≡ front ++ Ran pid (last + n) ∷ [] = ap (λ (es : List Entry). append es (Ran pid n)) ends ∙ more_at_last front pid last n in
    let more : append k.journal (Ran pid (suc n)) ≡ front ++ Ran pid (last + suc n) ∷ [] = ap (λ (es : List Entry). append es (Ran pid (suc n))) ends ∙ more_at_last front pid last (suc n) in
    let sum : last + n + 1 ≡ last + suc n = omega arith in
    let journal : append (append k.journal (Ran pid n)) (Ran pid 1) ≡ append k.journal (Ran pid (suc n)) =
    ap (λ (es : List Entry). append es (Ran pid 1)) once ∙ more_at_last front pid (last + n) 1 ∙ ap (λ (m : ℕ). front ++ Ran pid m ∷ []) sum ∙ sym more in
    ap (λ (ps : List Proc). let x : Kernel = record k { processes = ps; journal = append (append k.journal (Ran pid n)) (Ran pid 1) } in x) (twice pid r s k.processes)
    ∙ ap (λ (es : List Entry). let x : Kernel = record k { processes = map (with_regs pid s) k.processes; journal = es } in x) journal

-- The process runs on.

-- what doesn't look at its registers sees no difference
still : {T : Type 0} (f : Proc → T) (pid : ℕ) (regs : Regs) → ((p : Proc) → f (record p { regs = regs }) ≡ f p) → (p : Proc) → f (with_regs pid regs p) ≡ f p
still f pid regs h p = go (p.pid == pid)
  where
    go : (b : Bool) → f (cond b (record p { regs = regs }) p) ≡ f p
    go true = h p
    go false = refl

steps_mapped : (pid : ℕ) (regs : Regs) (o : Option Proc) → steps_by (mapped (with_regs pid regs) o) ≡ steps_by o
steps_mapped pid regs None = refl
steps_mapped pid regs (Some p) = still can_run pid regs (λ q. refl) p

life_mapped : (pid : ℕ) (regs : Regs) (o : Option Proc) → life_of_proc (mapped (with_regs pid regs) o) ≡ life_of_proc o
life_mapped pid regs None = refl
life_mapped pid regs (Some p) = still (λ q. q.life) pid regs (λ q. refl) p

at_pid : List Proc → ℕ → Option Proc
at_pid ps pid = numbered (λ (p : Proc). p.pid) pid ps

put_at : (pid : ℕ) (regs : Regs) (ps : List Proc) → at_pid (map (with_regs pid regs) ps) pid ≡ mapped (with_regs pid regs) (at_pid ps pid)
unfolding at_pid
put_at pid regs ps = numbered_map (λ (p : Proc). p.pid) (with_regs pid regs) (with_regs_pid pid regs) pid ps

regs_put : (pid : ℕ) (regs : Regs) (ps : List Proc) → steps_by (at_pid ps pid) ≡ true → regs ≡ regs_by (mapped (with_regs pid regs) (at_pid ps pid))
unfolding at_pid
regs_put pid regs ps there = go (at_pid ps pid) refl there
  where
    one : (p : Proc) (b : Bool) → b ≡ true → regs ≡ (cond b (record p { regs = regs }) p).regs
    one p true e = refl
    one p false e = absurd cc

    go : (o : Option Proc) → at_pid ps pid ≡ o → steps_by o ≡ true → regs ≡ regs_by (mapped (with_regs pid regs) o)
    go None e t = absurd cc
    go (Some p) e t = one p (p.pid == pid) (eq-eqb p.pid pid (has_number (λ (q : Proc). q.pid) pid ps p e))

module _ (old : Standing) (pid : ℕ) (regs : Regs) (clear : old.kernel.place.due ≡ []) (can : may_run old.kernel pid ≡ true) (has : regs ≡ regs_of old.kernel pid)
    (front : List Entry) (last : ℕ) (ends : old.kernel.journal ≡ front ++ Ran pid last ∷ []) where
  abbrev sid : ℕ
  sid = space_of_pid old.kernel pid

  abbrev after_writes : List ByteWrite → Kernel
  after_writes ws = writes_in old.kernel sid ws

  -- the machine after so many instructions, which wrote these bytes and left these registers
  abbrev at : ℕ → List ByteWrite → Regs → Standing
  at zero ws after = record old { kernel = after_writes ws }
  at (suc n) ws after = record old { kernel = ran_by (after_writes ws) pid after (Ran pid (suc n)); room = None }

  -- the registers are the first ones, where there was no instruction
  abbrev IsAt : ℕ → Regs → Type 0
  IsAt zero mid = mid ≡ regs
  IsAt (suc n) mid = Unit {0}

  same : (ws : List ByteWrite) → Rattle.proc_run.proofs.Written.SameTables old.kernel (after_writes ws)
  same ws = writes_same ws old.kernel sid

  steps_old : steps_by (proc_of old.kernel pid) ≡ true
  steps_old = (and_parts (steps_by (proc_of old.kernel pid)) (not (is_out old.kernel.place pid)) can).0

  steps_written : (ws : List ByteWrite) → steps_by (proc_of (after_writes ws) pid) ≡ true
  steps_written ws = ap (λ (ps : List Proc). steps_by (numbered (λ (p : Proc). p.pid) pid ps)) (same ws).processes ∙ steps_old

  in_still : (ws : List ByteWrite) → not (is_out (after_writes ws).place pid) ≡ true
  in_still ws =
      ap (λ (rs : List Residence). not (residence_of rs pid).out) (same ws).residents
      ∙ (and_parts (steps_by (proc_of old.kernel pid)) (not (is_out old.kernel.place pid)) can).1

  both : (a b : Bool) → a ≡ true → b ≡ true → (a && b) ≡ true
  both true b e f = f
  both false b e f = absurd cc

  can_at : (n : ℕ) (ws : List ByteWrite) (mid : Regs) → may_run (at n ws mid).kernel pid ≡ true
  can_at zero ws mid = both (steps_by (proc_of (after_writes ws) pid)) (not (is_out (after_writes ws).place pid)) (steps_written ws) (in_still ws)
  can_at (suc n) ws mid =
      both (steps_by (proc_of (at (suc n) ws mid).kernel pid)) (not (is_out (after_writes ws).place pid))
      (ap steps_by (numbered_map (λ (p : Proc). p.pid) (with_regs pid mid) (with_regs_pid pid mid) pid (after_writes ws).processes)
      ∙ steps_mapped pid mid (proc_of (after_writes ws) pid) ∙ steps_written ws)
      (in_still ws)

  has_at : (n : ℕ) (ws : List ByteWrite) (mid : Regs) → IsAt n mid → mid ≡ regs_of (at n ws mid).kernel pid
  unfolding at_pid
  has_at zero ws mid e = e ∙ has ∙ sym (ap (λ (ps : List Proc). regs_by (numbered (λ (p : Proc). p.pid) pid ps)) (same ws).processes)
  has_at (suc n) ws mid e =
      regs_put pid mid (after_writes ws).processes (steps_written ws)
      ∙ sym (ap regs_by (numbered_map (λ (p : Proc). p.pid) (with_regs pid mid) (with_regs_pid pid mid) pid (after_writes ws).processes))

  space_still : (ws : List ByteWrite) → space_of_pid (after_writes ws) pid ≡ sid
  space_still ws = ap (λ (ps : List Proc). space_of_life (life_of_proc (numbered (λ (p : Proc). p.pid) pid ps))) (same ws).processes

  space_at : (n : ℕ) (ws : List ByteWrite) (mid : Regs) → space_of_pid (at n ws mid).kernel pid ≡ sid
  space_at zero ws mid = space_still ws
  space_at (suc n) ws mid =
      ap (λ (o : Option Proc). space_of_life (life_of_proc o)) (numbered_map (λ (p : Proc). p.pid) (with_regs pid mid) (with_regs_pid pid mid) pid (after_writes ws).processes)
      ∙ ap space_of_life (life_mapped pid mid (proc_of (after_writes ws) pid)) ∙ space_still ws

  answers_at : (n : ℕ) (ws : List ByteWrite) (mid : Regs) → AreWritten old.kernel sid ws
      → own_answers (at n ws mid) pid ≡ written (kernel_answers old.kernel sid) ws
  answers_at n ws mid each = ap (kernel_answers (at n ws mid).kernel) (space_at n ws mid) ∙ go n ∙ writes_answer old.kernel sid ws each
    where
      go : (n : ℕ) → kernel_answers (at n ws mid).kernel sid ≡ kernel_answers (after_writes ws) sid
      go zero = refl
      go (suc n) = refl

  written_at : (n : ℕ) (ws vs : List ByteWrite) (mid : Regs) → AreWritten (after_writes ws) sid vs → AreWritten (at n ws mid).kernel sid vs
  written_at zero ws vs mid h = h
  written_at (suc n) ws vs mid h = written_apart (after_writes ws) pid mid (Ran pid (suc n)) sid vs h

  -- one more is counted by its own unit
  step_at : (n : ℕ) (ws vs : List ByteWrite) (mid after : Regs)
      → (at (suc n) (ws ++ vs) after).kernel ≡ ran_by (writes_in (at n ws mid).kernel sid vs) pid after (Ran pid 1)
  step_at zero ws vs mid after = ap (λ (k : Kernel). ran_by k pid after (Ran pid 1)) (writes_append old.kernel sid ws vs)
  step_at (suc n) ws vs mid after =
      let k : Kernel = writes_in (after_writes ws) sid vs in
      let journal : k.journal ≡ front ++ Ran pid last ∷ [] = (writes_same vs (after_writes ws) sid).journal ∙ (same ws).journal ∙ ends in
      ap (λ (l : Kernel). ran_by l pid after (Ran pid (suc (suc n)))) (writes_append old.kernel sid ws vs)
      ∙ sym (counted_twice k pid mid after front last (suc n) journal)
      ∙ sym (ap (λ (l : Kernel). ran_by l pid after (Ran pid 1)) (writes_apart (after_writes ws) pid mid (Ran pid (suc n)) sid vs))

  rest_at : (n : ℕ) (ws vs : List ByteWrite) (mid after : Regs)
      → at (suc n) (ws ++ vs) after ≡ record (at n ws mid) { kernel = (at (suc n) (ws ++ vs) after).kernel; room = None }
  rest_at zero ws vs mid after = refl
  rest_at (suc n) ws vs mid after = refl

  -- the machine after an instruction more
  module _ (n : ℕ) (ws : List ByteWrite) (mid after : Regs) (is : IsAt n mid) (none_due : (at n ws mid).kernel.place.due ≡ []) (each : AreWritten old.kernel sid ws)
      (goes : CarriesOn (written (kernel_answers old.kernel sid) ws) mid after)
      (more : AreWritten (after_writes ws) sid (writes_of (run (written (kernel_answers old.kernel sid) ws) (instruction mid)))) where
    abbrev outcome : Result Effect Refused
    outcome = run (written (kernel_answers old.kernel sid) ws) (instruction mid)

    abbrev own : Result Effect Refused
    own = run (own_answers (at n ws mid) pid) (instruction mid)

    abbrev own_sid : ℕ
    own_sid = space_of_pid (at n ws mid).kernel pid

    own_is : own ≡ outcome
    own_is = ap (λ (m : Answers). run m (instruction mid)) (answers_at n ws mid each)

    abbrev wrote_own : Standing
    wrote_own = record (at n ws mid) { kernel = writes_in (at n ws mid).kernel own_sid (writes_of own) }

    own_written : AreWritten (at n ws mid).kernel own_sid (writes_of own)
    own_written =
        subst (λ (x : ℕ). AreWritten (at n ws mid).kernel x (writes_of own)) (sym (space_at n ws mid))
        (subst (λ (r : Result Effect Refused). AreWritten (at n ws mid).kernel sid (writes_of r)) (sym own_is) (written_at n ws (writes_of outcome) mid more))

    wrote : Wrote (at n ws mid) own_sid (writes_of own) wrote_own
    wrote = record { machine = refl; each = own_written }

    abbrev next : Standing
    next = at (suc n) (ws ++ writes_of outcome) after

    step : next.kernel ≡ ran_by wrote_own.kernel pid after (Ran pid 1)
    step =
        step_at n ws (writes_of outcome) mid after
        ∙ ap (λ (r : Result Effect Refused). ran_by (writes_in (at n ws mid).kernel sid (writes_of r)) pid after (Ran pid 1)) (sym own_is)
        ∙ ap (λ (x : ℕ). ran_by (writes_in (at n ws mid).kernel x (writes_of own)) pid after (Ran pid 1)) (sym (space_at n ws mid))

    done : answer_of own ≡ steps.Done
    done = ap answer_of own_is ∙ goes.done

    left : after ≡ registers_after mid own
    left = goes.left ∙ ap (registers_after mid) (sym own_is)

    one_more : RanOne (at n ws mid) pid next
    one_more = record {
      can = can_at n ws mid;
      advances = λ now holds i. ran_advances (at n ws mid) (at n ws mid) wrote_own pid mid (no_room (at n ws mid)) wrote none_due done next after left step now holds i (has_at n ws mid is);
      continues = ran_goes_on (at n ws mid) (at n ws mid) wrote_own pid mid (no_room (at n ws mid)) wrote none_due done next after left step (rest_at n ws (writes_of outcome) mid after);
    }

  -- what holds after so many
  record Reached (n : ℕ) (ws : List ByteWrite) (after : Regs) : Type 0 where
    still : (at n ws after).kernel.place.due ≡ []
    ran : RanOn old pid n (at n ws after)
    is : IsAt n after

  reached : (n : ℕ) (ws : List ByteWrite) (after : Regs) → Stretch (kernel_answers old.kernel sid) regs n ws after → AreWritten old.kernel sid ws → Reached n ws after
  reached zero ws after h each =
      let e : ws ≡ [] = h.0 in
      let back : at zero ws after ≡ old = ap (λ (vs : List ByteWrite). at zero vs after) e in
      record { still = subst (λ (m : Standing). m.kernel.place.due ≡ []) (sym back) clear; ran = back; is = h.1 }
  reached (suc n) ws after h each =
      let earlier : List ByteWrite = h.0 in
      let mid : Regs = h.1 in
      let vs : List ByteWrite = writes_of (run (written (kernel_answers old.kernel sid) earlier) (instruction mid)) in
      let split = written_split old.kernel sid earlier vs (subst (AreWritten old.kernel sid) h.4 each) in
      let before : Reached n earlier mid = reached n earlier mid h.2 split.0 in
      let one : RanOne (at n earlier mid) pid (at (suc n) (earlier ++ vs) after) = one_more n earlier mid after before.is before.still split.0 h.3 split.1 in
      subst (λ (us : List ByteWrite). Reached (suc n) us after) (sym h.4)
      (record {
        still = one.continues.clear;
        ran = (at n earlier mid, before.ran, one);
        is = tt;
      })

  -- so it is with the machine that counted them at once
  pub ran_all : (n : ℕ) (ws : List ByteWrite) (after : Regs) (new : Standing) → n ≢ 0 → Stretch (kernel_answers old.kernel sid) regs n ws after → AreWritten old.kernel sid ws
      → new ≡ (let m : Standing = record old { kernel = ran_by (after_writes ws) pid after (Ran pid n); room = None } in m) → RanOn old pid n new
  ran_all zero ws after new d h each e = absurd (d refl)
  ran_all (suc n) ws after new d h each e = subst (RanOn old pid (suc n)) (sym e) (reached (suc n) ws after h each).ran

  -- so it misses the byte that an instruction missed after the loan
  pub missed_on : (n : ℕ) (ws : List ByteWrite) (after : Regs) (mid new : Standing) → n ≢ 0 → AreWritten old.kernel sid ws
      → mid ≡ (let m : Standing = record old { kernel = after_writes ws } in m)
      → new ≡ (let m : Standing = record old { kernel = ran_by (after_writes ws) pid after (Ran pid n); room = None } in m)
      → (o : Option Missed) → IfSome o (MissesByte (kernel_answers mid.kernel sid) after)
      → IfSome o (MissesByte (own_answers new pid) (regs_of new.kernel pid))
  missed_on zero ws after mid new d each e f o h = absurd (d refl)
  missed_on (suc n) ws after mid new d each e f o h =
      let here : kernel_answers mid.kernel sid ≡ written (kernel_answers old.kernel sid) ws =
      ap (λ (m : Standing). kernel_answers m.kernel sid) e ∙ writes_answer old.kernel sid ws each in
      let there : own_answers new pid ≡ written (kernel_answers old.kernel sid) ws =
      ap (λ (m : Standing). own_answers m pid) f ∙ answers_at (suc n) ws after each in
      let left : after ≡ regs_of new.kernel pid = has_at (suc n) ws after tt ∙ sym (ap (λ (m : Standing). regs_of m.kernel pid) f) in
      subst (λ (rs : Regs). IfSome o (MissesByte (own_answers new pid) rs)) left
      (subst (λ (m : Answers). IfSome o (MissesByte m after)) (here ∙ sym there) h)

-- What a stretch leaves.

-- a byte that was missed is missed again
pub missed_still : (memory later : Answers) (before after : Regs) (address : ℕ) (write : Bool)
    → answer_of (run memory (instruction before)) ≡ steps.Miss address write → after ≡ before
    → later ≡ written memory (writes_of (run memory (instruction before)))
    → answer_of (run later (instruction after)) ≡ steps.Miss address write
missed_still memory later before after address write a same wrote =
    let none : writes_of (run memory (instruction before)) ≡ [] = ap writes_of (missed (run memory (instruction before)) address write a) in
    let as_before : later ≡ memory = wrote ∙ ap (written memory) none in
    ap (λ (m : Answers). answer_of (run m (instruction after))) as_before ∙ ap (λ (rs : Regs). answer_of (run memory (instruction rs))) same ∙ a

-- none leaves the machine as it was
pub none_ran : (old new : Standing) (sid : ℕ) (memory : Answers) (regs after : Regs) (n : ℕ) → n ≡ 0
    → StretchOf memory regs n after (λ (ws : List ByteWrite). Wrote old sid ws new) → new ≡ old
none_ran old new sid memory regs after zero e h = h.2.machine ∙ ap (λ (ws : List ByteWrite). let m : Standing = record old { kernel = writes_in old.kernel sid ws } in m) h.1.0
none_ran old new sid memory regs after (suc n) e h = absurd (omega (arith, e))

module _ (old new : Standing) (pid : ℕ) (ws : List ByteWrite) (w : Wrote old (space_of_pid old.kernel pid) ws new) where
  pub wrote_journal : new.kernel.journal ≡ old.kernel.journal
  wrote_journal = ap (λ (m : Standing). m.kernel.journal) w.machine ∙ (writes_same ws old.kernel (space_of_pid old.kernel pid)).journal

-- the last entry counts instructions of the process
pub ends_counted : (journal : List Entry) (pid : ℕ) → is_some (last_says (instructions_in pid) journal) ≡ true
    → (front : List Entry) × (last : ℕ) × (journal ≡ front ++ Ran pid last ∷ [])
ends_counted journal pid h =
    let s = some_last (last_says (instructions_in pid) journal) h in
    let l = last_is (instructions_in pid) (λ (n : ℕ). Ran pid n) (runs_kind pid) journal s.0 s.1 in
    (l.0, s.0, l.1)

-- the machine that counted them at once
pub at_once : (old mid new : Standing) (pid n : ℕ) (ws : List ByteWrite) (after : Regs)
    → Wrote old (space_of_pid old.kernel pid) ws mid → new.kernel ≡ ran_by mid.kernel pid after (Ran pid n)
    → new ≡ record mid { kernel = new.kernel; room = None }
    → new ≡ (let m : Standing = record old { kernel = ran_by (writes_in old.kernel (space_of_pid old.kernel pid) ws) pid after (Ran pid n); room = None } in m)
at_once old mid new pid n ws after w step rest =
    rest ∙ ap (λ (k : Kernel). let m : Standing = record mid { kernel = k; room = None } in m) step
    ∙ ap (λ (x : Standing). let m : Standing = record x { kernel = ran_by x.kernel pid after (Ran pid n); room = None } in m) w.machine

-- an instruction that makes a call writes nothing
pub call_unwritten : (memory : Answers) (before : Regs) (number : ℤ) → answer_of (run memory (instruction before)) ≡ steps.Call number
    → writes_of (run memory (instruction before)) ≡ []
call_unwritten memory before number a =
    writes_none memory before (run memory (instruction before)) refl (λ d. let z : steps.Call number ≡ steps.Done = sym a ∙ d in absurd cc)

-- where none was carried out the process has the registers that it had
pub none_left : (memory : Answers) (regs after : Regs) (n : ℕ) (Wrote : List ByteWrite → Type 0) → n ≡ 0 → StretchOf memory regs n after Wrote → after ≡ regs
none_left memory regs after zero Wrote e h = h.1.1
none_left memory regs after (suc n) Wrote e h = absurd (omega (arith, e))

-- and misses the same byte in the machine, which is as before
pub missed_first : (old mid : Standing) (pid : ℕ) (regs after : Regs) (o : Option Missed) → regs ≡ regs_of old.kernel pid → mid ≡ old → after ≡ regs
    → IfSome o (MissesByte (kernel_answers mid.kernel (space_of_pid old.kernel pid)) after) → IfSome o (MissesByte (own_answers mid pid) (regs_of mid.kernel pid))
missed_first old mid pid regs after o has same left h =
    subst (λ (m : Standing). IfSome o (MissesByte (own_answers m pid) (regs_of m.kernel pid))) (sym same)
    (subst (λ (rs : Regs). IfSome o (MissesByte (own_answers old pid) rs)) (left ∙ has)
    (subst (λ (m : Standing). IfSome o (MissesByte (kernel_answers m.kernel (space_of_pid old.kernel pid)) after)) same h))

-- an instruction that misses a byte writes nothing
pub missed_quiet : (memory : Answers) (before : Regs) (byte : Missed) → MissesByte memory before byte → writes_of (run memory (instruction before)) ≡ []
missed_quiet memory before byte h = ap writes_of (missed (run memory (instruction before)) byte.address byte.write h)
