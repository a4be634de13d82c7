-- The accesses of an instruction and of its call, where some pages alone are shown.
use Rattle.std.proofs.Common.{◌≡◌, ℕ, List, [], ◌++◌, filter_map, Option, Some, None, Result, Ok, Err, ℤ, refl, sym, ap, ◌∙◌, subst}
use Rattle.vm_facts.specs.Answers.{Answers, ByteWrite}
use Rattle.vm_facts.specs.declared.page.Page.{Page}
use Rattle.user_vax.specs.Program.{Program, run, ByteAccess, accesses}
use Rattle.user_vax.specs.Laws.{Covers}
use Rattle.user_vax.specs.Effects.{Effect}
use Rattle.user_vax.specs.Instruction.{instruction, writes_of}
use Rattle.user_vax.specs.declared.refused.Refused.{Refused}
use Rattle.user_vax.specs.declared.refused.Refused.TheVariants.{Miss, Below, Signal}
use Rattle.flat_state.specs.Space.{Space, answers_of, puts}
use Rattle.flat_state.specs.Flat.{Process, FlatState, NamedImage}
use Rattle.flat_state.specs.Change.{apply_writes}
use Rattle.kernel_model.specs.Kernel.{Kernel}
use Rattle.flat_model.specs.declared.calls.Reply.{Reply}
use Rattle.flat_model.specs.declared.calls.SystemCall.{SystemCall}
use Rattle.flat_model.specs.Calls.{call_of}
use Rattle.flat_model.specs.Instruction.{instruction_in}
use Rattle.flat_model.specs.Step.{reply_asked, written_process}
use Rattle.flat_model.specs.Touched.{page_of_access, step_accesses, accesses_after, accesses_behind, call_accesses}
use Rattle.run_model.specs.Wanted.{AllValid}
use Rattle.step_units.proofs.Touching.{AllHit, NotMissed, SameSpots}
use Rattle.step_units.proofs.Calling.{calls_write_none}
use Rattle.proc_run.specs.Shown.{shown_in}
use Rattle.proc_run.specs.Missed.{missed_byte, missed_by_call, missed_behind_by, missed_behind}
use Rattle.flat_state.proofs.PageLists.{AllAmong}
use Rattle.step_units.proofs.Instructing.{hit_both, append_none}
use Rattle.proc_run.proofs.Missing.{NextAt, hit_among, program_misses, Whole, program_whole}

-- what the first byte that misses says of accesses: it is of the first page that isn't shown; where none misses all are
abbrev pub NextOf : Kernel → Space → List Page → List ByteAccess → Option ℕ → Type 0
NextOf k x ps list None = AllAmong ps (filter_map (page_of_access x) list)
NextOf k x ps list (Some address) = NextAt k x ps list address

-- A process of a space whose spots the machine has too, and of which valid pages alone are shown.
module _ (images : List NamedImage) (F : FlatState) (p : Process) (x : Space) (k : Kernel) (ps : List Page) (e : SameSpots k x) (v : AllValid k.place ps)
    (c : Covers (shown_in k x.sid ps) (answers_of x)) where
  abbrev pub memory : Answers
  memory = shown_in k x.sid ps

  abbrev pub flat : Answers
  flat = answers_of x

  abbrev pub first : List ByteAccess
  first = accesses flat (instruction p.regs)

  stepped : step_accesses images F p x ≡ first ++ accesses_after images F p x (instruction_in x p.regs)
  unfolding step_accesses
  stepped = refl

  abbrev pub Next : List ByteAccess → Option ℕ → Type 0
  Next list o = NextOf k x ps list o

  -- no access after the instruction
  ends_here : (r : Result Effect Refused) → Whole memory flat (instruction p.regs) → run memory (instruction p.regs) ≡ r → accesses_after images F p x r ≡ [] → Next (step_accesses images F p x) None
  ends_here r w i none =
      let after : accesses_after images F p x (instruction_in x p.regs) ≡ [] = ap (accesses_after images F p x) (sym w.same ∙ i) ∙ none in
      subst (λ (list : List ByteAccess). Next list None) (sym (stepped ∙ ap (λ (list : List ByteAccess). first ++ list) after ∙ append_none first)) (hit_among k x e ps first w.hits)

  -- the reads of a call after it
  reads_behind : (q : Program Reply) → Whole memory flat (instruction p.regs) → accesses_after images F p x (instruction_in x p.regs) ≡ accesses flat q
      → Next (step_accesses images F p x) (missed_byte (run memory q))
  reads_behind q w after =
      subst (λ (list : List ByteAccess). Next list (missed_byte (run memory q))) (sym (stepped ∙ ap (λ (list : List ByteAccess). first ++ list) (after ∙ sym (append_none (accesses flat q)))))
      (go (run memory q) refl)
    where
      hits : NotMissed (run memory q) → Next (first ++ (accesses flat q ++ [])) None
      hits n =
          hit_among k x e ps (first ++ (accesses flat q ++ []))
          (hit_both memory first (accesses flat q ++ []) w.hits (subst (AllHit memory) (sym (append_none (accesses flat q))) (program_whole memory flat q c n).hits))

      go : (r : Result Reply Refused) → run memory q ≡ r → Next (first ++ (accesses flat q ++ [])) (missed_byte r)
      go (Ok reply) i = hits (subst NotMissed (sym i) tt)
      go (Err (Miss address write)) i = program_misses k x e ps q first [] address write v c w.hits i
      go (Err (Below address)) i = hits (subst NotMissed (sym i) tt)
      go (Err (Signal number)) i = hits (subst NotMissed (sym i) tt)

  -- an instruction that was carried out
  behind : (effect : Effect) → run memory (instruction p.regs) ≡ Ok effect
      → Next (step_accesses images F p x)
      (missed_behind_by images (apply_writes F p.pid effect.writes) (written_process p x effect.writes) (puts x effect.writes) memory effect.regs effect.call)
  behind effect i = by_number effect.call refl
    where
      w : Whole memory flat (instruction p.regs)
      w = program_whole memory flat (instruction p.regs) c (subst NotMissed (sym i) tt)

      by_call : (number : ℤ) → effect.call ≡ Some number → (o : Option SystemCall) → call_of number ≡ o
          → Next (step_accesses images F p x)
          (missed_by_call images (apply_writes F p.pid effect.writes) (written_process p x effect.writes) (puts x effect.writes) memory effect.regs o)
      by_call number n None none =
          ends_here (Ok effect) w i (ap (accesses_behind images F p x effect) n ∙ ap (call_accesses images F p x effect) none)
      by_call number n (Some call) names =
          reads_behind (reply_asked images F p x call effect) w
          (ap (accesses_after images F p x) (sym w.same ∙ i) ∙ ap (accesses_behind images F p x effect) n ∙ ap (call_accesses images F p x effect) names
          ∙ ap (λ (ws : List ByteWrite). accesses (answers_of (puts x ws)) (reply_asked images F p x call effect)) (calls_write_none memory p.regs effect number i n))

      by_number : (o : Option ℤ) → effect.call ≡ o
          → Next (step_accesses images F p x)
          (missed_behind_by images (apply_writes F p.pid effect.writes) (written_process p x effect.writes) (puts x effect.writes) memory effect.regs o)
      by_number None n = ends_here (Ok effect) w i (ap (accesses_behind images F p x effect) n)
      by_number (Some number) n = by_call number n (call_of number) refl

  -- the first byte that misses in what an instruction and its call read or test
  pub step_next : (r : Result Effect Refused) → run memory (instruction p.regs) ≡ r
      → Next (step_accesses images F p x)
      (missed_behind images (apply_writes F p.pid (writes_of r)) (written_process p x (writes_of r)) (puts x (writes_of r)) memory r)
  step_next (Ok effect) i = behind effect i
  step_next (Err (Miss address write)) i =
      subst (λ (list : List ByteAccess). Next list (Some address)) (sym stepped)
      (program_misses k x e ps (instruction p.regs) [] (accesses_after images F p x (instruction_in x p.regs)) address write v c tt i)
  step_next (Err (Below address)) i =
      ends_here (Err (Below address)) (program_whole memory flat (instruction p.regs) c (subst NotMissed (sym i) tt)) i refl
  step_next (Err (Signal number)) i =
      ends_here (Err (Signal number)) (program_whole memory flat (instruction p.regs) c (subst NotMissed (sym i) tt)) i refl
