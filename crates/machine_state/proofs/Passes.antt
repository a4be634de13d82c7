-- The machine once a space has passed from one process to another.
use Rattle.std.proofs.Common.{◌≡◌, ℕ, ◌≤◌, Bool, true, List, length, Option, Some, None, refl, sym, ap, ◌∙◌, subst}
use Rattle.vm_facts.specs.declared.entry.Entry.{Entry}
use Rattle.page_model.specs.Dues.{DueStand}
use Rattle.page_model.specs.Pages.{numbered}
use Rattle.page_model.specs.Placement.{Residence, image_of}
use Rattle.kernel_model.specs.Kernel.{Life, New, HoldsSpace, LendsSpace, Ended, Proc, Kernel}
use Rattle.kernel_model.specs.ChangeStep.{life_of_proc, pass_step}
use Rattle.kernel_model.specs.Numbers.{Numbered}
use Rattle.kernel_model.specs.Sound.{Sound, has_life, lives_in, lives as are_alive}
use Rattle.table_steps.proofs.KernelLawsSoundSteps.{pass_sound}
use Rattle.table_steps.proofs.NumbersApart.{pass_numbered}
use Rattle.table_steps.specs.Tables.{Tables}
use Rattle.table_steps.specs.Applying.{MayPass}
use Rattle.table_steps.specs.Sourced.{AreNames, AreSourced}
use Rattle.table_steps.specs.Tied.{Tied}
use Rattle.table_steps.specs.View.{Lists, placement_of}
use Rattle.table_steps.specs.Machine.{Stands, WereFound, lists_of, kernel_by, images_of, before_of}
use Rattle.table_steps.specs.Changing.{HasProcesses, processes_in, residents_in, life_at, passed_procs}

-- who gives and who takes lives
pub giver_lives : (o : Option Proc) (taker : Life) (from : ℕ) → MayPass (life_of_proc o) taker from → lives_in o ≡ true
giver_lives None taker from m = absurd m
giver_lives (Some p) taker from m = go p.life m
  where
    go : (l : Life) → MayPass l taker from → has_life l ≡ true
    go New m = absurd m
    go (HoldsSpace sid) m = refl
    go (LendsSpace sid child) m = absurd m
    go (Ended status) m = absurd m

module _ (t u : Tables) (from to : ℕ) (has : HasProcesses t u t.next_pid (passed_procs (processes_in t) from to) (residents_in t)) where
  lists_are : lists_of u ≡ lists_of t
  lists_are = ap lists_of has.rest ∙ ap (λ (rs : List Residence). let x : Lists = record (lists_of t) { residents = rs } in x) has.residents

  pub pass_kernel : (j : List Entry) (b : Bool) → kernel_by u j b ≡ pass_step (kernel_by t j b) from to
  pass_kernel j b =
      ap (λ (x : Tables). kernel_by x j b) has.rest
      ∙ ap (λ (rs : List Residence). let x : Kernel =
      record (kernel_by t j b) { place = placement_of (record (lists_of t) { residents = rs }); processes = processes_in u; next_pid = u.next_pid } in x) has.residents
      ∙ ap (λ (ps : List Proc). let x : Kernel = record (kernel_by t j b) { processes = ps; next_pid = u.next_pid } in x) has.processes
      ∙ ap (λ (n : ℕ). let x : Kernel = record (kernel_by t j b) { processes = passed_procs (processes_in t) from to; next_pid = n } in x) has.number

  pub pass_stands : (j : List Entry) (b : Bool) → MayPass (life_at t from) (life_at t to) from → are_alive (processes_in t) to ≡ true
      → Stands t j b → Stands u j b
  pass_stands j b may alive s =
      let k : Kernel = record (kernel_by t j b) { holdings = before_of t } in
      let giver : are_alive (processes_in t) from ≡ true = giver_lives (numbered (λ (p : Proc). p.pid) from (processes_in t)) (life_at t to) from may in
      let is : (let x : Kernel = record (kernel_by u j b) { holdings = before_of u } in x) ≡ pass_step k from to =
      ap (λ (x : Tables). let y : Kernel = record (kernel_by u j b) { holdings = before_of x } in y) has.rest
      ∙ ap (λ (x : Kernel). let y : Kernel = record x { holdings = before_of t } in y) (pass_kernel j b) in
      record {
        runs = record {
          sound = subst (Sound u.book.size) (sym is) (subst (λ (x : Tables). Sound x.book.size (pass_step k from to)) (sym has.rest) (pass_sound t.book.size k from to giver alive s.runs.sound));
          numbered = subst Numbered (sym is) (pass_numbered k from to giver alive s.runs.numbered);
          due = subst (λ (x : Lists). DueStand (placement_of x)) (sym lists_are) s.runs.due;
          tied = subst Tied (sym lists_are) s.runs.tied;
        };
        ring = subst (λ (x : Lists). AreSourced (images_of u) (λ sid. image_of (placement_of x) sid) (before_of u) u.book.size u.ring) (sym lists_are)
            (subst (λ (x : Tables). AreSourced (images_of x) (λ sid. image_of (placement_of (lists_of t)) sid) (before_of x) x.book.size x.ring) (sym has.rest) s.ring);
        within = subst (λ (x : Tables). length j ≤ x.params.journal) (sym has.rest) s.within;
        book = subst (λ (x : Tables). x.book.size ≡ x.params.swap_blocks) (sym has.rest) s.book;
        found = subst (λ (x : Tables). WereFound x.book.size (before_of x) x.book.holdings) (sym has.rest) s.found;
        records = has.records;
        named = subst (λ (x : Tables). AreNames (images_of x)) (sym has.rest) s.named;
        numbers = λ e. ap (λ (x : Tables). x.next_sid) has.rest ∙ s.numbers e ∙ sym has.number;
      }
