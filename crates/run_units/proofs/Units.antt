-- One unit that a machine made, and units in order, as units of a run.
use Rattle.std.proofs.Common.{◌≡◌, ℕ, List, [], ◌∷◌, ◌++◌, Option, Some, refl, sym, ap, ◌∙◌, subst}
use Rattle.std.proofs.lemmas.Option.{same_Some}
use Rattle.vm_facts.specs.SwapImages.{SwapImage}
use Rattle.vm_facts.specs.declared.entry.Entry.{Entry}
use Rattle.vm_facts.specs.declared.entry.Entry.TheVariants as entries
use Rattle.vm_facts.specs.declared.page.Page.{Page}
use Rattle.flat_state.specs.Flat.{Inputs}
use Rattle.kernel_model.specs.Kernel.{Kernel, hand_step, plain_step}
use Rattle.kernel_model.specs.Requests.{ImageFile, image_done}
use Rattle.fault_fill.specs.Sourced.{files_named}
use Rattle.run_model.specs.State.{State}
use Rattle.run_model.specs.Wanted.{locked}
use Rattle.run_model.specs.After.{after}
use Rattle.run_model.specs.Next.{next_unit}
use Rattle.economy_laws.specs.Machine.{unit_step, unit_swap, MakesSwap}
use Rattle.economy_laws.proofs.Machines.{swaps_keep, swaps_follow}
use Rattle.economy_laws.proofs.Execs.{execs_fit}
use Rattle.economy_laws.proofs.Running.{run_all}
use Rattle.fault_fill.specs.Made.{Ground, MadeBy, ImageBy}
use Rattle.run_units.specs.Leads.{HasImages, KeepsLocked, MadeAs, Leads}
use Rattle.run_units.specs.Serving.{At}

-- One unit.

pub one_made : (A : Inputs) (g : Ground) (s : State) (k l : Kernel) (image : SwapImage) (j : Option SwapImage) (u : Entry) → HasImages g A → KeepsLocked g A s u
    → MadeBy g u k (Some image) l → ImageBy (files_named g.from.images) u k (Some image) j → MadeAs A s k image u l j
one_made A g s k l image j (entries.Zero q) f p m i = record { read = []; given = tt; made = m; told = i }
one_made A g s k l image j (entries.Copy q) f p m i = record { read = []; given = tt; made = m; told = i }
one_made A g s k l image j (entries.Get q lo n) f p m i = record { read = []; given = tt; made = m; told = i }
one_made A g s k l image j (entries.Reclaim q) f p m i = record { read = []; given = tt; made = m; told = i }
one_made A g s k l image j (entries.Put q n) f p m i = record { read = []; given = tt; made = m; told = i }
one_made A g s k l image j (entries.Hands n) f p m i = record {
  read = [];
  given = tt;
  made = m.1 ∙ ap (λ (qs : List Page). hand_step k qs) p ∙ sym (ap (λ (x : ℕ). plain_step k (locked A s) (entries.Hands x)) m.0);
  told = i;
}
one_made A g s k l image j entries.Done f p m i = record {
  read = m.read;
  given = m.told A.images s.point.flat f.0;
  made = m.step;
  told = i ∙ ap (λ (files : List ImageFile). Some (image_done files k image)) f.1;
}
one_made A g s k l image j _ f p m i = absurd m

-- Units in order.

pub none_leads : (A : Inputs) (s : State) (k : Kernel) (image : SwapImage) → Leads A s k image [] s k (Some image)
none_leads A s k image = record { behind = image; told = refl; makes = (refl, refl, refl) }

pub first_leads : (A : Inputs) (s t : State) (k next l : Kernel) (image : SwapImage) (i j : Option SwapImage) (u : Entry) (us : List Entry)
    → next_unit A s ≡ Some u → (m : MadeAs A s k image u next i)
    → Leads A (after A s u) next (unit_swap A k image u) us t l j → Leads A s k image (u ∷ us) t l j
first_leads A s t k next l image i j u us n m r = record {
  behind = r.behind;
  told = r.told;
  makes = (n, (m.read, m.given, subst (λ (x : Kernel). MakesSwap A (after A s u) x (unit_swap A k image u) us t l r.behind) m.made r.makes));
}

makes_append : (A : Inputs) (s t r : State) (k l m : Kernel) (a b c : SwapImage) (us vs : List Entry) → MakesSwap A s k a us t l b → MakesSwap A t l b vs r m c
    → MakesSwap A s k a (us ++ vs) r m c
makes_append A s t r k l m a b c [] vs x y =
    subst (λ (z : State). MakesSwap A z k a vs r m c) (sym x.0)
    (subst (λ (z : Kernel). MakesSwap A t z a vs r m c) (sym x.1) (subst (λ (z : SwapImage). MakesSwap A t l z vs r m c) (sym x.2) y))
makes_append A s t r k l m a b c (u ∷ us) vs x y =
    (x.0, (x.1.0, x.1.1, makes_append A (after A s u) t r (unit_step A s k a.bytes x.1.0 u) l m (unit_swap A k a u) b c us vs x.1.2 y))

pub both_lead : (A : Inputs) (s t r : State) (k l m : Kernel) (image : SwapImage) (i j : Option SwapImage) (us vs : List Entry) → Leads A s k image us t l i
    → ((between : SwapImage) → i ≡ Some between → Leads A t l between vs r m j) → Leads A s k image (us ++ vs) r m j
both_lead A s t r k l m image i j us vs a f =
    let b = f a.behind a.told in
    record { behind = b.behind; told = b.told; makes = makes_append A s t r k l m image a.behind b.behind us vs a.makes b.makes }

pub leads_at : (A : Inputs) (s t : State) (k l : Kernel) (image behind : SwapImage) (us : List Entry) → At A s k image
    → Leads A s k image us t l (Some behind) → At A t l behind
leads_at A s t k l image behind us at a =
    let same : a.behind ≡ behind = same_Some a.behind behind (sym a.told) in
    record {
      fit = at.fit;
      run = run_all A us s t at.fit (execs_fit A) at.run (swaps_follow A us s t k l image a.behind a.makes);
      stands = subst (λ (x : SwapImage). Rattle.economy_laws.specs.Machine.StandsAt A t l x.bytes) same (swaps_keep A us s t k l image a.behind at.fit at.run at.stands a.makes);
    }
