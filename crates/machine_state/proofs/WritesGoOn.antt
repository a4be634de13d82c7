-- A machine that can go on can go on after writes of a process.
use Rattle.std.proofs.Common.{ℕ, ◌/◌, ◌%◌, ◌≤◌, List, [], ◌∷◌, sym, ◌∙◌, subst}
use Rattle.vm_facts.specs.Answers.{ByteWrite}
use Rattle.vm_facts.specs.declared.page.Page.{Page}
use Rattle.vm_facts.specs.declared.page.Page.TheVariants as pages
use Rattle.vm_facts.specs.declared.page.PageState.{PageState}
use Rattle.vm_facts.specs.declared.page.PageState.TheVariants.{Valid}
use Rattle.flat_state.specs.declared.spot.Spot.{Spot}
use Rattle.flat_state.specs.declared.spot.Spot.TheVariants.{Data, Stack}
use Rattle.page_model.specs.Placement.{Placement, state_of}
use Rattle.page_model.specs.Moves.{touch}
use Rattle.kernel_laws.proofs.PageLawsDueChanges.{touch_due}
use Rattle.kernel_laws.proofs.Puts.{rest_by_puts, touch_kept}
use Rattle.kernel_model.specs.Kernel.{Kernel, write_step, write_by_state}
use Rattle.kernel_laws.proofs.Machine.Shapes.{touch_shaped, sizes_kept}
use Rattle.kernel_laws.proofs.Sound.NumbersApart.{write_numbered}
use Rattle.kernel_laws.proofs.Sound.Steps.{write_sound}
use Rattle.table_steps.specs.Machine.{Standing}
use Rattle.table_steps.specs.UserMemory.{spot_in, write_spot, write_in, writes_in, Wrote}
use Rattle.machine_state.specs.Going.{CanGoOn}
use Rattle.machine_state.proofs.HoldingSteps.{write_keeps}

module _ (P : Kernel → Type 0) (keeps : (k : Kernel) (q : Page) (f at byte : ℕ) → P k → P (write_step k q f at byte)) where
  byte_keeps : (k : Kernel) (q : Page) (s : PageState) (at byte : ℕ) → P k → P (write_by_state k q s at byte)
  byte_keeps k q (Valid f) at byte h = keeps k q f at byte h
  byte_keeps k q _ at byte h = h

  spot_keeps : (k : Kernel) (sid : ℕ) (x : Spot) (byte : ℕ) → P k → P (write_spot k sid x byte)
  spot_keeps k sid (Data i) byte h = byte_keeps k (pages.Data sid (i / 1024)) (state_of k.place (pages.Data sid (i / 1024))) (i % 1024) byte h
  spot_keeps k sid (Stack i) byte h = byte_keeps k (pages.Stack sid (i / 1024)) (state_of k.place (pages.Stack sid (i / 1024))) (i % 1024) byte h
  spot_keeps k sid _ byte h = h

  pub writes_keep : (k : Kernel) (sid : ℕ) (ws : List ByteWrite) → P k → P (writes_in k sid ws)
  writes_keep k sid [] h = h
  writes_keep k sid (w ∷ ws) h = writes_keep (write_in k sid w) sid ws (spot_keeps k sid (spot_in k.place sid w.address) w.byte h)

byte_goes : (m : Standing) (q : Page) (f at byte : ℕ) → CanGoOn m → CanGoOn (record m { kernel = write_step m.kernel q f at byte })
byte_goes m q f at byte g =
    let p : Placement = m.kernel.place in
    let r = g.running in
    record {
      running = record {
        runs = r.runs;
        sound = write_sound m.params.swap_blocks (record m.kernel { holdings = m.before }) q f at byte r.sound;
        numbered = write_numbered m.kernel q f at byte r.numbered;
        due = touch_due p q r.due;
        holders = write_keeps m.kernel q f at byte r.holders;
        within = r.within;
        frames = subst (λ (n : ℕ). n ≤ 4096) (sym (touch_kept rest_by_puts p q).count) r.frames;
        few_images = r.few_images;
        images = r.images;
        texts = λ image n e. sizes_kept p (touch p q) (touch_shaped p q) (pages.Text image 0) ∙ r.texts image n e;
      };
      whole = g.whole;
    }

pub writes_go : (old new : Standing) (sid : ℕ) (ws : List ByteWrite) → Wrote old sid ws new → CanGoOn old → CanGoOn new
writes_go old new sid ws w g =
    subst CanGoOn (sym w.machine) (writes_keep (λ (k : Kernel). CanGoOn (record old { kernel = k })) (λ k q f at byte. byte_goes (record old { kernel = k }) q f at byte) old.kernel sid ws g)
