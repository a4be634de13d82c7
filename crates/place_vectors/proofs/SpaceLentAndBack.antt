-- A space that is lent by vfork, and comes back at the child's end.
use Rattle.std.proofs.Common.{◌≡◌, ℕ, false, List, [], ◌∷◌, map, replicate, refl}
use Rattle.vm_facts.specs.declared.regs.Regs.{Regs}
use Rattle.vm_facts.specs.declared.entry.Entry.TheVariants as entries
use Rattle.swap_book.specs.declared.Owner.TheVariants as owners
use Rattle.swap_book.specs.declared.Held.{Held}
use Rattle.swap_book.specs.Holdings.{kept}
use Rattle.flat_state.specs.declared.change.Change.TheVariants.{Lend, End}
use Rattle.kernel_model.specs.Kernel.{Life, HoldsSpace, LendsSpace, Ended, Proc, Kernel}
use Rattle.kernel_model.specs.ChangeStep.{change_step, pass_step}
use Rattle.place_vectors.proofs.OneProcessIn64Frames.{walked}
use Rattle.place_vectors.proofs.ChoiceAmongFive.{resident}

-- vfork: the space goes to the child and comes back at its end, and no page moves.

unfoldable pub quiet : Regs
quiet = record { r = replicate 16 0; n = false; z = false; v = false; c = false }

unfoldable pub u_piece : ℕ → ℕ → Held
u_piece pid start = record { owner = owners.U pid; start = start; length = 2 }

-- the child's u page was found already
unfoldable pub lender : Kernel
lender = record {
  place = record walked { residents = resident 1 false ∷ [] };
  holdings = u_piece 1 0 ∷ u_piece 2 2 ∷ [];
  processes = record { pid = 1; parent = 0; regs = quiet; life = HoldsSpace 1; asleep = false } ∷ [];
  next_pid = 2;
  next_sid = 2;
  starts = [];
  frames = [];
  journal = [];
  stopped = false;
}

lent : Kernel → Kernel
lent k = pass_step (change_step [] k 1 quiet (entries.Call 1 66 false 2 0) (Lend 2)) 1 2

given_back : Kernel → Kernel
given_back k = change_step [] (pass_step k 2 1) 2 quiet (entries.Ended 2 0) (End 0)

lives_in_order : Kernel → List Life
lives_in_order k = map (λ (p : Proc). p.life) k.processes

child_has_the_space : lives_in_order (lent lender) ≡ LendsSpace 1 2 ∷ HoldsSpace 1 ∷ []
unfolding lives_in_order lent lender quiet u_piece resident walked
child_has_the_space = refl

space_comes_back : lives_in_order (given_back (lent lender)) ≡ HoldsSpace 1 ∷ Ended 0 ∷ []
unfolding lives_in_order given_back lent lender quiet u_piece resident walked kept
space_comes_back = refl

spaces_stay : (given_back (lent lender)).place ≡ lender.place
unfolding given_back lent lender quiet u_piece resident walked kept
spaces_stay = refl

child_gives_its_u_page_back : (given_back (lent lender)).holdings ≡ u_piece 1 0 ∷ []
unfolding given_back lent lender quiet u_piece resident walked kept
child_gives_its_u_page_back = refl
