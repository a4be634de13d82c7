use Rattle.std.proofs.Common.{ℕ, ◌+◌, ◌/◌, ◌≤◌, false, List, map, refl, sym, ap, ◌∙◌, subst}
use Rattle.aout_image.specs.declared.Image.{Image}
use Rattle.swap_book.specs.Book.{Book}
use Rattle.kernel_model.specs.Kernel.{Kernel}
use Rattle.table_steps.specs.Named.{Named}
use Rattle.table_steps.specs.Tables.{Tables}
use Rattle.table_steps.specs.View.{Lists}
use Rattle.table_steps.specs.New.{fresh_kernel}
use Rattle.table_steps.specs.Machine.{KernelRuns, lists_of, kernel_by}
use Rattle.table_steps.proofs.Shows.{length_map}
use Rattle.machine_state.proofs.News.{NewTables, new_lists_are, new_kernel_is, new_runs, new_before, new_stands, new_standing}
use Rattle.machine_state.proofs.Standings.{runs_within}
use Rattle.machine_state.proofs.Stepping.{goes_on}
use Rattle.machine_state.proofs.machine.Machine.new.Goals as goal

abbrev tables : goal.After-new-8 → Tables
tables c = record {
  params = c.args.params;
  images = c.args.images;
  core = c.in-Ok.core;
  ring = c.in_ok-ring.ring;
  spaces = c.new-5.result;
  texts = c.new-6.result;
  processes = c.in_ok-processes.processes;
  book = c.in_ok-book.book;
  fills = c.new-7.result;
  front = 1 + c.args.params.frames / 4;
  back = 1;
  next_pid = 1;
  next_sid = 1;
  found = 0;
}

fresh : (c : goal.After-new-8) → NewTables (tables c) (map (λ (x : Named). x.facts) c.args.images.items) c.args.params.frames
fresh c = record {
  slots = c.in-Ok.ensures.slots;
  free = c.in-Ok.ensures.free;
  ring = c.in_ok-ring.ensures;
  spaces = c.new-5.ensures;
  texts = c.new-6.ensures;
  facts_are = refl;
  fills = c.new-7.ensures.items;
  holdings = ap (λ (b : Book). b.holdings) c.in_ok-book.ensures;
  front = refl;
  back = refl;
  next_pid = refl;
  next_sid = refl;
}

pub invariant_of-result : goal.invariant_of-result
invariant_of-result c =
    runs_within _ refl (λ _.
    let facts : List Image = map (λ (x : Named). x.facts) c.args.images.items in
    let t : Tables = tables c in
    let n = fresh c in
    let runs : KernelRuns (kernel_by t c.new-8.result.items false) (lists_of t) t.book.size =
    subst (λ (k : Kernel). KernelRuns k (lists_of t) t.book.size) (sym (new_kernel_is t facts c.args.params.frames c.new-8.result.items n c.new-8.ensures.items))
    (subst (λ (l : Lists). KernelRuns (fresh_kernel facts c.args.params.frames) l t.book.size) (sym (new_lists_are t facts c.args.params.frames n))
    (new_runs facts c.args.params.frames t.book.size c.requires.some c.requires.few
    (subst (λ (k : ℕ). k ≤ 16) (sym (length_map (λ (x : Named). x.facts) c.args.images.items)) c.requires.images) c.requires.sound)) in
    record {
      stands = new_stands t c.new-8.result.items n.holdings n.ring c.new-8.ensures.items (ap (λ (b : Book). b.size) c.in_ok-book.ensures) c.in_ok-processes.ensures c.requires.names refl refl runs;
      holders = record { spaces = λ pid sid e. absurd cc; once = λ pid qid sid e f. absurd cc };
      none_lost = refl;
      room = tt;
    })

pub returns : goal.returns
returns c =
    let n = fresh c in
    record {
      fresh = new_standing (tables c) c.args.params (fresh_kernel (map (λ (x : Named). x.facts) c.args.images.items) c.args.params.frames) n.holdings _
          (new_kernel_is (tables c) _ c.args.params.frames c.new-8.result.items n c.new-8.ensures.items);
      goes_on = goes_on _ (invariant_of-result c) refl (new_before (tables c) n.holdings ∙ sym n.holdings);
    }
