-- Writes to a memory of which some pages alone are shown.
use Rattle.std.proofs.Common.{◌≡◌, List, [], ◌++◌, refl, sym, ap, ◌∙◌}
use Rattle.std.specs.Borrow.{MutBor}
use Rattle.vm_facts.specs.Answers.{Answers, ByteWrite, written}
use Rattle.vm_facts.specs.declared.page.Page.{Page}
use Rattle.user_vax.specs.ArrayMemory.{written-append}
use Rattle.machine_state.specs.declared.user_memory.Layout.{Layout}
use Rattle.machine_state.specs.Machine.{Standing}
use Rattle.machine_state.specs.UserMemoryLaws.{through_none, through_more}
use Rattle.proc_run.specs.Shown.{shown_in, WroteShown}

-- with no writes the memory is as it was
pub shown_none : (m : MutBor Standing) (l : Layout) (pages : List Page) → WroteShown m l pages [] m l pages
shown_none m l pages = record { through = through_none m l; kept = refl; answers = refl }

-- writes and then further ones are the writes of both in a row
pub shown_more : (a b c : MutBor Standing) (x y z : Layout) (ps qs rs : List Page) (xs ys : List ByteWrite) → WroteShown a x ps xs b y qs
    → WroteShown b y qs ys c z rs
    → WroteShown a x ps (xs ++ ys) c z rs
shown_more a b c x y z ps qs rs xs ys h k = record {
  through = through_more a b c x y z xs ys h.through k.through;
  kept = k.kept ∙ h.kept;
  answers =
      k.answers ∙ ap (λ (memory : Answers). written memory ys) h.answers
      ∙ sym (written-append (shown_in a.now.kernel x.sid ps) xs ys);
}

-- after writes it answers as a memory to which they were made
pub shown_after : (a b : MutBor Standing) (x y : Layout) (ps qs : List Page) (ws : List ByteWrite) → WroteShown a x ps ws b y qs
    → shown_in b.now.kernel y.sid qs ≡ written (shown_in a.now.kernel x.sid ps) ws
shown_after a b x y ps qs ws h = h.answers
