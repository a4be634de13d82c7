-- The invariant at the start of a run.
use Rattle.std.proofs.Common.{◌≡◌, ℕ, ◌+◌, ◌==◌, Bool, true, false, cond, List, [], ◌∷◌, ◌++◌, length, map, Option, Some, None, refl, sym, ap, ◌∙◌, subst, arith}
use Rattle.std.proofs.lemmas.List.{length-replicate}
use Rattle.aout_image.specs.declared.Image.{Image}
use Rattle.swap_book.specs.Holdings.{Holdings}
use Rattle.flat_state.specs.Flat.{Process, NamedImage, Inputs, start_if, start_process, start_processes, start_state}
use Rattle.flat_state.specs.Numbers.{AllDistinct, AllBelow, IsNumbered}
use Rattle.page_model.specs.Pages.{numbered}
use Rattle.page_model.specs.Placement.{Placement, Starting, space_number, start_placement}
use Rattle.kernel_model.specs.Kernel.{Kernel, Proc}
use Rattle.kernel_model.specs.Sound.{lives, lives_in}
use Rattle.kernel_model.specs.Asks.{is_started}
use Rattle.kernel_model.specs.Start.{kept_of, start_kernel, AreStarting}
use Rattle.kernel_model.specs.Invariant.{Invariant, CanStart, started}
use Rattle.page_laws.proofs.Starts.{start_hands}
use Rattle.page_laws.proofs.Due.Entries.{start_due}
use Rattle.kernel_laws.proofs.Pieces.Starts.{start_found}
use Rattle.kernel_laws.proofs.Sound.Steps.{alive_owner}
use Rattle.kernel_laws.proofs.Sound.Residing.{started_in}
use Rattle.kernel_laws.proofs.Sound.Allowed.{start_numbers}
use Rattle.kernel_laws.proofs.Machine.Starts.{start_coupled_all}
use Rattle.kernel_laws.proofs.Stands.Starts.{start_numbered, start_lent, start_beside}
use Rattle.kernel_laws.proofs.Kept.Changes.{no_pieces}
use Rattle.kernel_laws.proofs.Kept.Begins.{starting_count}

-- the first processes live, and no others
starts_live : (images : List NamedImage) (ns : List ℕ) (first : List Starting) (pid n : ℕ) → AreStarting images ns first
    → lives (map kept_of (start_processes images pid ns)) n ≡ is_started pid first n
starts_live images [] [] pid n a = refl
starts_live images [] (x ∷ first) pid n a = absurd a
starts_live images (m ∷ ns) [] pid n a = absurd a
starts_live images (m ∷ ns) (x ∷ first) pid n (named, e, i, f, more) =
    ap (λ (o : Option NamedImage). lives (map kept_of (start_if pid m o ++ start_processes images (pid + 1) ns)) n) e ∙ go (pid == n) (starts_live images ns first (pid + 1) n more)
  where
    go : (b : Bool) → lives (map kept_of (start_processes images (pid + 1) ns)) n ≡ is_started (pid + 1) first n
        → lives_in (cond b (Some (kept_of (start_process pid m named))) (numbered (λ (x : Proc). x.pid) n (map kept_of (start_processes images (pid + 1) ns))))
        ≡ cond b true (is_started (pid + 1) first n)
    go true ih = refl
    go false ih = ih

pub kept_pids : (ps : List Process) → map (λ (p : Proc). p.pid) (map kept_of ps) ≡ map (λ (p : Process). p.pid) ps
kept_pids [] = refl
kept_pids (p ∷ ps) = ap (λ (l : List ℕ). p.pid ∷ l) (kept_pids ps)

pub start_kept : (A : Inputs) (first : List Starting) (hs : Holdings) (frames : List (List ℕ)) (image : List ℕ) → CanStart A first hs frames image
    → Invariant A.swap_blocks A.images (started A first hs frames image)
start_kept A first hs frames image c =
    let facts : List Image = map (λ (named : NamedImage). named.image.facts) A.images in
    let p : Placement = start_placement facts first A.frames in
    let k : Kernel = start_kernel A first hs frames in
    let n : IsNumbered (start_state A) = start_numbered A in
    record {
      sound = record {
        owner = alive_owner A.swap_blocks (is_started 1 first) (lives k.processes) p hs (λ n. starts_live A.images A.first first 1 n c.starting)
            (start_found A.swap_blocks facts first A.frames hs c.pieces);
        tokens = c.tokens ∙ sym (length-replicate A.frames None);
        hands = start_hands facts first A.frames c.some;
        few_transfers = omega arith;
      };
      numbered = record {
        spaces_differ = (start_numbers facts first A.frames).0;
        spaces_below = subst (λ (m : ℕ). AllBelow m (map space_number p.spaces))
            (let e = starting_count A.images A.first first c.starting in let z : 1 + length first ≡ length A.first + 1 = omega arith in z) (start_numbers facts first A.frames).1;
        pids_differ = subst AllDistinct (sym (kept_pids (start_state A).processes)) n.pids;
        pids_below = subst (AllBelow (start_state A).next_pid) (sym (kept_pids (start_state A).processes)) n.pids_below;
        residents = λ m a. started_in 1 m first (sym (starts_live A.images A.first first 1 m c.starting) ∙ a);
      };
      coupled = start_coupled_all A first hs frames image c.starting c.images;
      stands = start_beside A first hs frames c.starting c.images;
      dues = start_due facts first A.frames;
      parts = tt;
      numbers = start_numbered A;
      lenders = start_lent A;
      room = c.room;
      found = no_pieces A.swap_blocks hs;
    }
