-- A sound machine is sound once a first process more began whose pieces were found.
use Rattle.std.proofs.Common.{◌≡◌, ◌≢◌, inl, inr, ℕ, ◌*◌, ◌==◌, Bool, true, false, cond, List, [], ◌∷◌, ◌++◌, length, drop, Ok, refl, sym, ap, ap₂, ◌∙◌, subst, arith}
use Rattle.std.proofs.lemmas.Bool.{cases_eq}
use Rattle.std.proofs.lemmas.Bool.Decides.{nat_tests}
use Rattle.std.proofs.lemmas.List.{append-nil}
use Rattle.aout_image.specs.declared.Image.{Image}
use Rattle.swap_book.specs.declared.Owner.{Owner}
use Rattle.swap_book.specs.declared.Owner.TheVariants as owners
use Rattle.swap_book.specs.Owners.{same_owner, u_pieces}
use Rattle.swap_book.specs.Holdings.{Holdings}
use Rattle.swap_book.specs.Placing.{wanted, place_all}
use Rattle.page_model.specs.Placement.{new_pages}
use Rattle.page_model.specs.Place.{enter_space}
use Rattle.page_model.specs.Conditions.{IsNew}
use Rattle.page_model.specs.Ownership.{OwnsFrames, OneOwner, u_blocks}
use Rattle.kernel_model.specs.Kernel.{Kernel, Proc}
use Rattle.kernel_model.specs.Sound.{Sound, lives, lives_in}
use Rattle.kernel_model.specs.Taken.{needed, wanted_lengths, AsksFor}
use Rattle.kernel_model.specs.Asks.{IsUnused, image_pieces, begin_asks}
use Rattle.kernel_model.specs.Numbers.{Numbered}
use Rattle.kernel_model.specs.Start.{begin_step}
use Rattle.page_laws.proofs.Ownership.Changes.{enter_space_owner}
use Rattle.page_laws.proofs.Blocks.Aside.{one_owner}
use Rattle.page_laws.proofs.Blocks.Changes.{add_aside}
use Rattle.page_laws.proofs.Ends.Hands.{hands_stand}
use Rattle.kernel_laws.proofs.Flat.Numbered.{absent_none, below_absent}
use Rattle.kernel_laws.proofs.Pieces.GivenBack.{Grows, owns_from, grows_fits, drop_past, u_some}
use Rattle.kernel_laws.proofs.Pieces.Sizes.{add_grows}
use Rattle.kernel_laws.proofs.Pieces.Found.{found_taken}
use Rattle.kernel_laws.proofs.Pieces.Wanted.{lengths_both, lengths_own, lengths_other, exec_asks, none_u, new_u, append_back, last_lives}
use Rattle.kernel_laws.proofs.Sound.Changes.{HasTaken, taken_fits, taken_u, append_alive}
use Rattle.kernel_laws.proofs.Sound.Allowed.{new_number}

pub differs : (a b : ℕ) → a ≢ b → (a == b) ≡ false
differs a b n = grind (arith, nat_tests)

-- what is wanted is what each owner needs then
begin_asked : (k : Kernel) (found : Holdings) (image : ℕ) (name : List ℕ) (facts : Image) → IsNew k.place k.next_pid → IsUnused k.processes k.next_pid
    → AsksFor k (begin_step k found image name facts) (begin_asks k.place k.next_pid image facts)
begin_asked k found image name facts new unused = by
  where
    pid : ℕ
    pid = k.next_pid

    l : Kernel
    l = begin_step k found image name facts

    -- the same spaces, and the processes from before
    spaces : Kernel
    spaces = record k { place = enter_space k.place pid image facts }

    own : AsksFor k spaces (image_pieces k.place pid image facts)
    own = exec_asks k spaces image pid 0 true facts new (λ z. absurd cc) refl (λ i. refl) (λ n a. a)

    both : (owner : Owner)
        → wanted_lengths owner (begin_asks k.place pid image facts) ≡ wanted_lengths owner (image_pieces k.place pid image facts) ++ wanted_lengths owner (wanted (owners.U pid) (u_pieces 2))
    both owner = lengths_both owner (image_pieces k.place pid image facts) (wanted (owners.U pid) (u_pieces 2))

    -- of another owner than the u page
    other : (owner : Owner) → same_owner (owners.U pid) owner ≡ false → wanted_lengths owner (begin_asks k.place pid image facts) ≡ drop (length (needed k owner)) (needed spaces owner)
    other owner d = both owner ∙ ap (λ (xs : List ℕ). wanted_lengths owner (image_pieces k.place pid image facts) ++ xs) (lengths_other (owners.U pid) owner (u_pieces 2) d)
        ∙ append-nil (wanted_lengths owner (image_pieces k.place pid image facts)) ∙ own owner

    none : (n : ℕ) → wanted_lengths (owners.U n) (image_pieces k.place pid image facts) ≡ []
    none n = own (owners.U n) ∙ drop_past (length (needed k (owners.U n))) (needed k (owners.U n)) (omega arith)

    dead : lives k.processes pid ≡ false
    dead = ap lives_in unused

    by : AsksFor k l (begin_asks k.place pid image facts)
    by (owners.Data n) = other (owners.Data n) refl
    by (owners.Stack n) = other (owners.Stack n) refl
    by (owners.Text i) = other (owners.Text i) refl
    by (owners.U n) = both (owners.U n) ∙ ap (λ (xs : List ℕ). xs ++ wanted_lengths (owners.U n) (wanted (owners.U pid) (u_pieces 2))) (none n) ∙ elim (cases_eq n pid) [
      | inl i ↦ subst (λ (y : ℕ). wanted_lengths (owners.U y) (wanted (owners.U pid) (u_pieces 2))
          ≡ drop (length (u_pieces (u_blocks (lives k.processes y)))) (u_pieces (u_blocks (lives l.processes y)))) (sym i)
          (lengths_own (owners.U pid) (u_pieces 2) ∙ new_u (lives k.processes pid) (lives l.processes pid) dead (last_lives k.processes (record {
            pid = pid;
            parent = 0;
            regs = Rattle.flat_state.specs.Flat.start_regs facts.entry (name ∷ []);
            life = Rattle.kernel_model.specs.Kernel.HoldsSpace pid;
            asleep = false;
          }) unused refl))
      | inr m ↦ lengths_other (owners.U pid) (owners.U n) (u_pieces 2) (differs pid n (λ i. m (sym i))) ∙ none_u (lives k.processes n) (lives l.processes n)
          (append_back k.processes (record {
            pid = pid;
            parent = 0;
            regs = Rattle.flat_state.specs.Flat.start_regs facts.entry (name ∷ []);
            life = Rattle.kernel_model.specs.Kernel.HoldsSpace pid;
            asleep = false;
          }) n m)
    ]

pub begin_sound : (size : ℕ) (k : Kernel) (found : Holdings) (image : ℕ) (name : List ℕ) (facts : Image) → Sound size k → Numbered k → k.next_sid ≡ k.next_pid
    → place_all size k.holdings (begin_asks k.place k.next_pid image facts) ≡ Ok found → Sound size (begin_step k found image name facts)
begin_sound size k found image name facts s n e pieces =
    let pid : ℕ = k.next_pid in
    let l : Kernel = begin_step k found image name facts in
    let with : Kernel = record k { holdings = found } in
    let o : OneOwner size (lives k.processes) k.place k.holdings = s.owner in
    let new : IsNew k.place pid = subst (IsNew k.place) e (new_number k n) in
    let unused : IsUnused k.processes pid =
    absent_none (λ (q : Proc). q.pid) pid k.processes (below_absent pid (Rattle.std.proofs.Common.map (λ (q : Proc). q.pid) k.processes) n.pids_below) in
    let taken : HasTaken size with l =
    found_taken size with l k.holdings (begin_asks k.place pid image facts) o.blocks (λ i. refl) pieces (begin_asked k found image name facts new unused) in
    let grows : Grows k.place l.place =
    let g = add_grows k.place (new_pages pid image facts) l.place.due in record { of_data = g.of_data; of_stack = g.of_stack; texts = g.texts; sharing = g.sharing } in
    record {
      owner = one_owner size (lives l.processes) l.place found
          (let f : OwnsFrames (enter_space k.place pid image facts) = enter_space_owner k.place pid image facts o.frames new in
          record {
            once = f.once;
            frames = f.frames;
            names = f.names;
            named = f.named;
            listed = λ g q a b. let i = f.listed g q a b in record { state = i.state; clean = i.clean };
            moves = f.moves;
            dirty = f.dirty;
          })
          (owns_from size (lives l.processes) l.place found (let b = taken.book in record { pieces = b.pieces; apart = b.apart })
          (grows_fits k.place l.place found grows (taken_fits size with l taken (λ i. refl)))
          (λ m. taken_u size with l m taken ∙ u_some (lives k.processes m) (lives l.processes m) (append_alive k.processes (record {
            pid = pid;
            parent = 0;
            regs = Rattle.flat_state.specs.Flat.start_regs facts.entry (name ∷ []);
            life = Rattle.kernel_model.specs.Kernel.HoldsSpace pid;
            asleep = false;
          } ∷ []) m)))
          (λ i v z. let a = add_aside k.place (new_pages pid image facts) l.place.due o.aside i v z in record { unsaved = a.unsaved; rests = a.rests });
      tokens = s.tokens;
      hands = hands_stand k.place l.place (record { front = refl; back = refl; frames = refl }) s.hands;
      few_transfers = s.few_transfers;
    }
